-- An advance, turn by turn.
use Rattle.std.proofs.Common.{◌≡◌, ◌≢◌, ℕ, suc, ◌+◌, ◌≤◌, min, Bool, true, false, List, [], ◌∷◌, ◌++◌, length, refl, sym, ap, ◌∙◌, subst, inl, inr, arith, append_assoc, eqb, eqb-true}
use Rattle.std.proofs.lemmas.Bool.{eqb-false}
use Rattle.std.proofs.lemmas.List.{append-nil}
use Rattle.event_key.specs.declared.key.Key.{Key}
use Rattle.event_key.specs.declared.stamp.TheConstants.{NO_STAMP}
use Rattle.event_key.specs.Stamps.{end_stamp}
use Rattle.model_core.specs.Meaning.{Meaning}
use Rattle.model_core.specs.declared.event.Event.{Event}
use Rattle.std.specs.List.{AllByRecursion}
use Rattle.world_spec.specs.Moves.{IsIdle}
use Rattle.world_spec.specs.Share.{IsHome}
use Rattle.horizon_word.specs.Views.{SeatView}
use Rattle.key_order.proofs.EachLemmas.{Each-append}
use Rattle.object_log.specs.Dones.{Done}
use Rattle.object_log.specs.Logs.{LogView}
use Rattle.node_core.specs.Homes.{HomesView, home_of}
use Rattle.node_core.specs.Nodes.{NodeView, base_at, log_at, home, data_of, IsAsBefore}
use Rattle.node_core.specs.Steps.{IsHeldLeast, HasProcessed, IsLeftIdle}
use Rattle.cycle_core.specs.Known.{IsKnown}
use Rattle.cycle_core.specs.Works.{IsSmall, WorksOn}
use Rattle.cycle_core.proofs.WorkLemmas.{as_before, works-none, works-more, works-then, slot-log}
use Rattle.node_team.specs.Advances.{HasOffered, HasTold, AreFrom, CanAdvance, HasTurned, IsAdvanced, IsIdleBelow}
use Rattle.node_team.proofs.FloorLemmas.{one-later, floor-waits, floor-held}
use Rattle.world_spec.proofs.IdleLemmas.{idle-on}

-- one more processed is one fewer that waits
pub one-fewer : {A : Type 0} (waits left : List A) (x : A) → waits ≡ x ∷ left → suc (length left) ≤ length waits
one-fewer waits left x is = let long = ap length is in omega arith

-- a node that is small stays so as it works
pub small-on : {M : Type 0} (meaning_of : M → Meaning) (first n : NodeView M) → WorksOn (meaning_of first.model) first n → IsSmall (meaning_of first.model) first → IsSmall (meaning_of n.model) n
small-on {M} meaning_of first n works small =
    let P : M → Type 0 = λ v. IsSmall (meaning_of v) n in
    subst P (sym works.same.model) (record {
      sent = λ object here.
          let H : HomesView → ℕ → Type 0 = λ homes k. IsHome (meaning_of first.model) (home_of homes) k object in
          let at_first : H first.homes first.number = subst (λ k. H first.homes k) works.same.number (subst (λ homes. H homes n.number) works.same.homes here) in
          let same : (base_at n.logs object).sent ≡ (base_at first.logs object).sent = ap (λ b. b.sent) (works.base object) in
          let low = small.sent object at_first in
          omega arith;
      few = (let done = works.processed in let left = works.waiting in let few = small.few in omega arith);
    })

-- a node on its way
pub record IsAdvancing {M : Type 0} (m : Meaning) (first : NodeView M) (seat : SeatView) (n : NodeView M) (now : SeatView) : Type 0 where
  pub works : WorksOn m first n
  pub held : ℕ
  pub held_is : IsHeldLeast m n held
  pub least : now.least ≡ min seat.least held
  pub taken : seat.taken + length n.processed ≤ now.taken + length first.processed
  pub word : now.word ≡ seat.word
  pub floor : now.floor ≡ seat.floor
  pub seen : now.seen ≤ seat.seen
  pub waits : AreFrom now.floor n.waiting

-- an event that goes offers nothing below the floor
pub did-floor : {M : Type 0} (m : Meaning) (bound floor : ℕ) (old new : NodeView M) (key : Key) (least : ℕ) → HasProcessed m bound old new key least → bound ≤ NO_STAMP → AreFrom floor old.waiting → floor ≤ least
did-floor m bound floor old new key least did far from =
    let P : List Event → Type 0 = AreFrom floor in
    let all : P (did.step.event ∷ new.waiting) = subst P did.step.waits from in
    let low = did.step.below in
    let later = one-later m _ _ did.step.event least did.log (omega arith) in
    let first = all.0 in
    omega arith

-- a node that was idle below a stamp is so after a step, below any stamp that isn't greater
pub idle-after : {M : Type 0} (m : Meaning) (bound : ℕ) (old new : NodeView M) (key : Key) (least : ℕ) → IsKnown m old → HasProcessed m bound old new key least → (g h : ℕ) → g ≤ h
    → IsIdle m (home old) old.number h (data_of old) → IsIdle m (home new) new.number g (data_of new)
idle-after m bound old new key least known did g h low idle =
    let on = idle-on m old.terms (home old) old.number bound _ _ (data_of old) (data_of new) known.stands.stands did.step g h low idle in
    let H : HomesView → ℕ → Type 0 = λ homes k. IsIdle m (home_of homes) k g (data_of new) in
    subst (λ k. H new.homes k) (sym did.same.number) (subst (λ homes. H homes old.number) (sym did.same.homes) on)

module _ {M : Type 0} (meaning_of : M → Meaning) (first : NodeView M) (seat : SeatView) where
  abbrev m : Meaning
  m = meaning_of first.model

  pub advancing-first : (held : ℕ) (now : SeatView) → CanAdvance m first seat → IsKnown m first → IsHeldLeast m first held → HasOffered seat held now → IsAdvancing m first seat first now
  advancing-first held now can known is offered = record {
    works = works-none m first first (as_before first);
    held = held;
    held_is = is;
    least = offered.least;
    taken = (let t = offered.taken in omega arith);
    word = offered.word;
    floor = offered.floor;
    seen = offered.seen;
    waits = let P : ℕ → Type 0 = λ f. AreFrom f first.waiting in subst P (sym offered.floor) (floor-waits m first seat.floor known.stands can.floor);
  }

  -- the least stamp that is held may be offered
  pub held-floor : (held : ℕ) → CanAdvance m first seat → IsKnown m first → IsHeldLeast m first held → held ≢ NO_STAMP → seat.floor ≤ held
  held-floor held can known is some = elim is.reached [
    | inl none ↦ absurd (some none)
    | inr h ↦ floor-held m first seat.floor known.stands can.floor held h
  ]

  module _ (n : NodeView M) (now : SeatView) (advancing : IsAdvancing m first seat n now) where
    pub model-is : n.model ≡ first.model
    model-is = advancing.works.same.model

    pub advancing-refused : (new : NodeView M) → IsAsBefore n new → WorksOn m first new
    advancing-refused new un = works-then m first n new advancing.works (works-none m n new un)

    module _ (bound answer : ℕ) (new : NodeView M) (later : SeatView) (gone : HasTurned (meaning_of n.model) bound n now answer new later) where
      did_here : HasProcessed m bound n new gone.key gone.least
      did_here = let P : M → Type 0 = λ v. HasProcessed (meaning_of v) bound n new gone.key gone.least in subst P model-is gone.did

      pub advancing-more : bound ≤ end_stamp first.terms.end → IsAdvancing m first seat new later
      advancing-more within =
          let did = did_here in
          let least = advancing.least in
          record {
            works = works-more m first n new bound gone.key gone.least advancing.works did within;
            held = min advancing.held gone.least;
            held_is = did.held advancing.held advancing.held_is;
            least = (let l = gone.offered.least in let e : later.least ≡ min seat.least (min advancing.held gone.least) = omega arith in e);
            taken = (let t = gone.offered.taken in let p = did.processed in let b = advancing.taken in omega arith);
            word = gone.offered.word ∙ advancing.word;
            floor = gone.offered.floor ∙ advancing.floor;
            seen = (let a = gone.offered.seen in let b = advancing.seen in omega arith);
            waits =
                (let P : List Event → Type 0 = AreFrom now.floor in
                let Q : ℕ → Type 0 = λ f. AreFrom f new.waiting in
                let all : P (did.step.event ∷ new.waiting) = subst P did.step.waits advancing.waits in
                subst Q (sym gone.offered.floor) all.1);
          }

      -- idle below what was seen, and below what is seen now
      pub idle-later : IsKnown (meaning_of n.model) n → IsIdle m (home n) n.number now.seen (data_of n) → IsIdle m (home new) new.number later.seen (data_of new)
      idle-later known idle =
          let K : M → Type 0 = λ v. IsKnown (meaning_of v) n in
          idle-after m bound n new gone.key gone.least (subst K model-is known) did_here later.seen now.seen gone.offered.seen idle

    -- nothing is done where it was idle below a bound
    module _ (bound : ℕ) (new : NodeView M) (later : SeatView) (left : IsLeftIdle (meaning_of n.model) bound n new) (same : later ≡ now) where
      pub advancing-left : IsAdvancing m first seat new later
      advancing-left =
          let P : SeatView → Type 0 = λ s. IsAdvancing m first seat new s in
          let Q : NodeView M → Type 0 = λ x. IsAdvancing m first seat x now in
          subst P (sym same) (subst Q (sym left.unchanged) advancing)

      left-below : (b : ℕ) → bound ≡ b → IsIdleBelow m b new
      left-below b is =
          let P : NodeView M → Type 0 = λ x. IsIdleBelow m b x in
          let Q : ℕ → Type 0 = λ k. IsIdleBelow m k n in
          let R : M → Type 0 = λ v. IsIdleBelow (meaning_of v) bound n in
          subst P (sym left.unchanged) (subst Q is (subst R model-is left.idle))

      pub idle-left : bound ≡ now.seen → IsIdleBelow m later.seen new
      idle-left is = left-below later.seen (is ∙ ap (λ s. s.seen) (sym same))

      -- it is deep enough where that is so below the end
      pub advanced-left : (ahead : ℕ) → IsIdleBelow m now.seen n → bound ≡ end_stamp first.terms.end → IsAdvanced m ahead first seat new later
      advanced-left ahead idle is =
          let P : NodeView M → Type 0 = λ x. IsIdleBelow m later.seen x in
          let Q : SeatView → Type 0 = λ s. IsIdleBelow m s.seen n in
          let on = advancing-left in
          let end_is : end_stamp first.terms.end ≡ end_stamp new.terms.end = ap (λ t. end_stamp t.end) (sym on.works.same.terms) in
          record {
            idle = subst P (sym left.unchanged) (subst Q (sym same) idle);
            offered = record { held = on.held; held_is = on.held_is; least = on.least };
            taken = on.taken;
            deep = inr (left-below (end_stamp new.terms.end) (is ∙ end_is));
          }

module _ {M : Type 0} (told : Key → Type 0) where
  -- a node that has processed nothing has nothing to tell
  pub told-none : (old new : NodeView M) → new.logs ≡ old.logs → HasTold told old new
  told-none old new same object = ([], ap (λ logs. (log_at logs object).done) same ∙ sym (append-nil (log_at old.logs object).done), tt)

  pub told-one : (meaning : Meaning) (bound : ℕ) (old new : NodeView M) (key : Key) (least : ℕ) → HasProcessed meaning bound old new key least → told key → HasTold told old new
  told-one meaning bound old new key least did it_was object = by_test (eqb object key.dest) refl
    where
      Tells : ℕ → Type 0
      Tells place = (more : List Done) × ((log_at new.logs place).done ≡ (log_at old.logs place).done ++ more) × AllByRecursion (λ (d : Done). told d.event.key) more

      here : told did.log.entry.event.key
      here = let key_is : did.log.entry.event.key ≡ key = ap (λ (e : Event). e.key) did.log.event_is ∙ did.key_is in subst told (sym key_is) it_was

      by_test : (b : Bool) → eqb object key.dest ≡ b → Tells object
      by_test true h = subst Tells (sym (eqb-true object key.dest h)) (did.log.entry ∷ [], did.log.done, (here, tt))
      by_test false h =
          let same = slot-log old new object (did.others object (eqb-false object key.dest h)) in
          ([], ap (λ (l : LogView). l.done) same ∙ sym (append-nil (log_at old.logs object).done), tt)

  pub told-then : (old mid new : NodeView M) → HasTold told old mid → HasTold told mid new → HasTold told old new
  told-then old mid new first then object =
      let a = first object in
      let b = then object in
      (a.0 ++ b.0, b.1 ∙ ap (λ xs. xs ++ b.0) a.1 ∙ append_assoc (log_at old.logs object).done a.0 b.0, Each-append (λ (d : Done). told d.event.key) a.0 b.0 a.2 b.2)

-- what the gate is told of a node on its way is told of it from the first on
pub told-on : {M : Type 0} (saw : ℕ → Key → Type 0) (first n new : NodeView M) → n.number ≡ first.number → HasTold (saw first.number) first n → HasTold (saw n.number) n new → HasTold (saw first.number) first new
told-on saw first n new same before now = let P : ℕ → Type 0 = λ k. HasTold (saw k) n new in told-then (saw first.number) first n new before (subst P same now)
