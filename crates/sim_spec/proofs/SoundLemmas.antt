-- Pending events that are sound.
use Rattle.std.proofs.Common.{◌≡◌, ◌≢◌, ℕ, ◌+◌, ◌*◌, ◌^◌, ◌<◌, ◌≤◌, Bool, true, false, cond, List, [], ◌∷◌, length, sym, refl, subst, inl, inr, arith, eqb, eqb-true, eq-eqb, get_or-set_other, get_or-set_same}
use Rattle.std.specs.Prelude.{slice_set}
use Rattle.event_key.specs.Keys.{key_lt}
use Rattle.event_key.specs.Stamps.{time_part, next_stamp}
use Rattle.model_core.specs.declared.event.Event.{Event}
use Rattle.model_core.specs.declared.event.Send.{Send}
use Rattle.model_core.specs.Meaning.{Meaning, SendsInRange}
use Rattle.sim_spec.specs.Firing.{ObjectState, emissions}
use Rattle.key_order.specs.Pending.{enqueue, enqueue_all}
use Rattle.sim_spec.specs.State.{IsSound, AllSound, object_at, no_object}

pub AllSound-enqueue : (m : Meaning) (objects : List ObjectState) (e : Event) (xs : List Event) → IsSound m objects e → AllSound m objects xs → AllSound m objects (enqueue e xs)
unfolding AllSound enqueue
AllSound-enqueue m objects e [] one all = (one, tt)
AllSound-enqueue m objects e (x ∷ xs) one all =
    elim (key_lt e.key x.key) as (λ b. AllSound m objects (cond b (e ∷ x ∷ xs) (x ∷ enqueue e xs)))
    [ true ↦ (one, all) | false ↦ (all.0, AllSound-enqueue m objects e xs one all.1) ]

pub AllSound-enqueue_all : (m : Meaning) (objects : List ObjectState) (es xs : List Event) → AllSound m objects es → AllSound m objects xs → AllSound m objects (enqueue_all es xs)
unfolding AllSound enqueue_all
AllSound-enqueue_all m objects [] xs new all = all
AllSound-enqueue_all m objects (e ∷ es) xs new all = AllSound-enqueue_all m objects es (enqueue e xs) new.1 (AllSound-enqueue m objects e xs new.0 all)

pub time_later : (stamp delay : ℕ) → time_part stamp < 2 ^ 46 → delay ≤ 2 ^ 40 → time_part (next_stamp stamp delay) < 2 ^ 47
unfolding next_stamp
time_later stamp delay early short =
    elim (eqb delay 0) as (λ b. time_part (cond b (stamp + 1) ((time_part stamp + delay) * 65536)) < 2 ^ 47)
    [ true ↦ omega arith | false ↦ omega arith ]

pub emissions_sound : (m : Meaning) (objects : List ObjectState) (stamp object serial : ℕ) (ss : List Send) → object < m.objects → time_part stamp < 2 ^ 46
    → SendsInRange m.objects ss → serial + length ss ≤ (object_at objects object).sent → AllSound m objects (emissions stamp object serial ss)
unfolding emissions AllSound
emissions_sound m objects stamp object serial [] below early ranged room = tt
emissions_sound m objects stamp object serial (s ∷ ss) below early ranged room = (
  record { dest = ranged.0; time = time_later stamp s.delay early ranged.1; rank = ranged.2; source = inr (below, omega arith) },
  emissions_sound m objects stamp object (serial + 1) ss below early ranged.3 (omega arith),
)

-- events of before, with more that their sources have sent
pub AllSound-more : (m : Meaning) (old new : List ObjectState) (xs : List Event) → ((i : ℕ) → i < m.objects → (object_at old i).sent ≤ (object_at new i).sent) → AllSound m old xs → AllSound m new xs
unfolding AllSound
AllSound-more m old new [] grows all = tt
AllSound-more m old new (x ∷ xs) grows all = (
  record { dest = all.0.dest; time = all.0.time; rank = all.0.rank; source = elim all.0.source [ inl start ↦ inl start | inr sent ↦ inr (sent.0, let le = grows x.key.src sent.0 in let lt = sent.1 in omega arith) ] },
  AllSound-more m old new xs grows all.1,
)

-- one object at a time: this one, or another one
pub at_object : (P : ObjectState → Type 0) (objects : List ObjectState) (dest i : ℕ) (new : ObjectState) → dest < length objects
    → (i ≡ dest → P new) → P (object_at objects i) → P (object_at (slice_set objects dest new) i)
at_object P objects dest i new inside here there = by_case (eqb i dest) refl
  where
    by_case : (b : Bool) → eqb i dest ≡ b → P (object_at (slice_set objects dest new) i)
    by_case true h =
        let same : i ≡ dest = eqb-true i dest h in
        let at : object_at (slice_set objects dest new) i ≡ new = subst (λ j. object_at (slice_set objects dest new) j ≡ new) (sym same) (get_or-set_same objects dest new no_object inside) in
        subst P (sym at) (here same)
    by_case false h =
        let apart : i ≢ dest = λ same. let q = eq-eqb i dest same in cc in
        subst P (sym (get_or-set_other objects dest i new no_object apart)) there
