-- A node that is idle stays so along a step.
use Rattle.std.proofs.Common.{◌≡◌, ◌⊎◌, ℕ, ◌≤◌, Bool, true, false, ◌∷◌, List, refl, sym, ap, ◌∙◌, subst, inl, inr, arith, eqb, eqb-true}
use Rattle.std.proofs.lemmas.Bool.{eqb-false}
use Rattle.std.specs.Prelude.{Option, Some, None}
use Rattle.std.specs.List.{AllByRecursion as Each}
use Rattle.event_key.specs.declared.key.Key.{Key}
use Rattle.model_core.specs.Meaning.{Meaning}
use Rattle.model_core.specs.declared.event.Event.{Event}
use Rattle.key_order.proofs.EachLemmas.{Each-map}
use Rattle.sim_spec.specs.declared.terms.Terms.{Terms}
use Rattle.sim_spec.specs.Replay.{Replay}
use Rattle.world_spec.specs.Share.{NodeData, Share, StandsFor}
use Rattle.world_spec.specs.Moves.{IsStep, IsIdle, IsPastFaultOf}
use Rattle.world_spec.proofs.StepsLaw.{dest_home, no_fault_here}

module _ (m : Meaning) (t : Terms) (home : ℕ → ℕ) (node bound : ℕ) (share : Share) (ahead : ℕ → ℕ) (old new : NodeData)
    (stands : StandsFor m t home node share ahead old) (step : IsStep m home node bound old new) where
  abbrev dest : ℕ
  dest = step.event.key.dest

  -- an object that makes a step has not faulted
  pub none-faulted : (fault : Key × ℕ) → (old.log dest).fault ≡ Some fault → ⊥
  none-faulted fault is_fault =
      let log = ap (λ (r : Replay). r.fault) (stands.logs dest (dest_home m t home node bound share ahead old new stands step)) in
      let none = no_fault_here m t home node bound share ahead old new stands step in
      differ none (sym log ∙ is_fault)
    where
      differ : {f : Option (Key × ℕ)} → f ≡ None → f ≡ Some fault → ⊥
      differ none some = cc

  -- so an event that comes after a fault still does
  past_on : (key : Key) → IsPastFaultOf m home node old key → IsPastFaultOf m home node new key
  past_on key past = by_object (eqb past.0 dest) refl
    where
      by_object : (b : Bool) → eqb past.0 dest ≡ b → IsPastFaultOf m home node new key
      by_object true h = absurd (none-faulted past.2 (ap (λ o. (old.log o).fault) (sym (eqb-true past.0 dest h)) ∙ past.3))
      by_object false h = (past.0, past.1, past.2, ap (λ (r : Replay). r.fault) (step.others past.0 past.1 (eqb-false past.0 dest h)) ∙ past.3, past.4)

  -- below a bound that may be lower by then
  pub idle-on : (g h : ℕ) → g ≤ h → IsIdle m home node h old → IsIdle m home node g new
  idle-on g h le idle =
      let W : Event → Type 0 = λ e. (h ≤ e.key.stamp) ⊎ IsPastFaultOf m home node old e.key in
      let P : List Event → Type 0 = Each W in
      let all : P (step.event ∷ new.unprocessed) = subst P step.waits idle in
      Each-map W (λ (e : Event). (g ≤ e.key.stamp) ⊎ IsPastFaultOf m home node new e.key) new.unprocessed
      (λ e waits. elim waits [ inl late ↦ inl (omega arith) | inr past ↦ inr (past_on e.key past) ]) all.1
