-- The serials of what an object has sent tell its events apart.
use Rattle.std.proofs.Common.{◌≡◌, ℕ, suc, ◌+◌, ◌<◌, ◌≤◌, List, [], ◌∷◌, length, refl, ap, subst, inl, inr, arith}
use Rattle.model_core.specs.declared.event.Event.{Event}
use Rattle.model_core.specs.declared.event.Send.{Send}
use Rattle.model_core.specs.Meaning.{Meaning}
use Rattle.sim_spec.specs.Firing.{ObjectState, emission, emissions}
use Rattle.key_order.specs.Pending.{enqueue, enqueue_all}
use Rattle.key_order.specs.Ascending.{IsAscending}
use Rattle.sim_spec.specs.State.{AllSound, object_at}
use Rattle.key_order.proofs.EnqueueLemmas.{IsAscending-enqueue, Each-enqueue}
use Rattle.key_order.specs.Serials.{SerialsBelow}
use Rattle.key_order.proofs.SerialLemmas.{SerialsBelow-le, new-serial}

-- what an object sends goes to its places
pub emissions_ascending : (stamp object serial : ℕ) (ss : List Send) (xs : List Event) → SerialsBelow object serial xs → IsAscending xs
    → IsAscending (enqueue_all (emissions stamp object serial ss) xs)
unfolding emissions enqueue_all
emissions_ascending stamp object serial [] xs below up = up
emissions_ascending stamp object serial (s ∷ ss) xs below up =
    let e : Event = emission stamp object serial s in
    emissions_ascending stamp object (serial + 1) ss (enqueue e xs)
    (Each-enqueue (λ (e : Event). e.key.src ≡ object → e.key.serial < (serial + 1)) e xs (λ _. omega arith) (SerialsBelow-le object serial (serial + 1) xs (omega arith) below))
    (IsAscending-enqueue e xs (new-serial e.key xs below) up)

pub serials_sound : (m : Meaning) (objects : List ObjectState) (object : ℕ) (xs : List Event) → m.objects ≤ 65536 → object < m.objects → AllSound m objects xs
    → SerialsBelow object (object_at objects object).sent xs
unfolding AllSound
serials_sound m objects object [] few below all = tt
serials_sound m objects object (x ∷ xs) few below all = (
  λ same. elim all.0.source [
    | inl start ↦ absurd (omega arith)
    | inr sent ↦ let P : ℕ → Type 0 = λ i. x.key.serial < (object_at objects i).sent in subst P same sent.1
  ],
  serials_sound m objects object xs few below all.1,
)

pub length-emissions : (stamp object serial : ℕ) (ss : List Send) → length (emissions stamp object serial ss) ≡ length ss
unfolding emissions
length-emissions stamp object serial [] = refl
length-emissions stamp object serial (s ∷ ss) = ap suc (length-emissions stamp object (serial + 1) ss)
