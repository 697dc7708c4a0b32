-- A gate puts out the value of its pins, or will compute it.
use Rattle.std.proofs.Common.{◌≡◌, ◌≢◌, ◌⊎◌, ℕ, Bool, true, false, List, ◌∷◌, refl, sym, ap, ◌∙◌, subst, inl, inr, arith}
use Rattle.std.specs.Prelude.{◌==◌, Contains}
use Rattle.std.proofs.lemmas.Bool.Decides.{nat_tests}
use Rattle.std.proofs.lemmas.List.Elements.{Contains-append_right}
use Rattle.std.proofs.lemmas.List.Sorted.{Contains-permutation}
use Rattle.delta_exchange.specs.Changes.{CellData}
use Rattle.event_key.specs.declared.key.Key.{Key}
use Rattle.key_order.proofs.ArrivalLemmas.{enqueue_all-permutation}
use Rattle.key_order.proofs.MemberLemmas.{first-or-later}
use Rattle.model_core.specs.declared.event.Event.{Event}
use Rattle.model_core.specs.declared.note.Note.{Note}
use Rattle.sim_spec.specs.declared.terms.Terms.{Terms}
use Rattle.sim_spec.specs.State.{State}
use Rattle.circuit_model.specs.declared.gate.LogicGate.{LogicGate}
use Rattle.circuit_model.specs.Events.{levels_of, output_of, output_after}
use Rattle.circuit_model.specs.Gates.{gate_at, value_of}
use Rattle.subject_laws.specs.Settled.{cells_at, IsComputed, IsToCompute, WillCompute}
use Rattle.subject_laws.proofs.CircuitLemmas.CircuitSteps.{IsCircuitStep, pending_after, output_here, levels_here, cells_elsewhere}
use Rattle.subject_laws.proofs.CircuitLemmas.Leaves.{output_after-computed}

module _ (gates : List LogicGate) (t : Terms) (s : State) (told : Key × Note) (after : State) (n : IsCircuitStep gates t s told after) (number : ℕ) where
  -- an event that was pending behind this one still is
  stays_pending : (e : Event) → Contains n.step.rest e → Contains after.pending e
  stays_pending e is_in =
      subst (λ es. Contains es e) (sym (pending_after gates t s told after n))
      (Contains-permutation _ _ e (enqueue_all-permutation _ n.step.rest) (Contains-append_right _ n.step.rest e is_in))

  will_still : (IsToCompute number n.step.event → ⊥) → WillCompute number s.pending → WillCompute number after.pending
  will_still other will =
      let is_in : Contains (n.step.event ∷ n.step.rest) will.0 = subst (λ es. Contains es will.0) n.step.pending will.1 in
      elim (first-or-later will.0 n.step.event n.step.rest is_in) [
        | inl same ↦ absurd (other (subst (IsToCompute number) (sym same) will.2))
        | inr later ↦ (will.0, stays_pending will.0 later, will.2)
      ]

  -- at the gate of the event
  computed_here : n.step.event.key.dest ≡ number → (n.step.event.kind ≢ 6 → IsComputed gates s number) → IsComputed gates after number
  computed_here here computed =
      let i : ℕ = n.step.event.key.dest in
      let gate : LogicGate = gate_at gates i in
      let before : n.step.event.kind ≢ 6 → IsComputed gates s i = λ other. subst (IsComputed gates s) (sym here) (computed other) in
      subst (IsComputed gates after) here
      (output_here gates t s told after n
      ∙ output_after-computed gate (cells_at s i) n.step.event before
      ∙ ap (λ levels. value_of gate.kind levels (output_after gate (cells_at s i) n.step.event)) (sym (levels_here gates t s told after n))
      ∙ ap (value_of gate.kind (levels_of (cells_at after i))) (sym (output_here gates t s told after n)))

  -- at another gate
  computed_elsewhere : number ≢ n.step.event.key.dest → IsComputed gates s number → IsComputed gates after number
  computed_elsewhere apart computed =
      subst (λ (cells : CellData). output_of cells ≡ value_of (gate_at gates number).kind (levels_of cells) (output_of cells))
      (sym (cells_elsewhere gates t s told after n number apart)) computed

  pub values-kept : IsComputed gates s number ⊎ WillCompute number s.pending → IsComputed gates after number ⊎ WillCompute number after.pending
  values-kept before = by (n.step.event.key.dest == number) refl (n.step.event.kind == 6) refl before
    where
      by : (here : Bool) → (n.step.event.key.dest == number) ≡ here → (computes : Bool) → (n.step.event.kind == 6) ≡ computes
          → IsComputed gates s number ⊎ WillCompute number s.pending → IsComputed gates after number ⊎ WillCompute number after.pending
      by true here_is true is6 before = inl (computed_here (grind (arith, nat_tests)) (λ other. absurd (other (grind (arith, nat_tests)))))
      by true here_is false is6 (inl computed) = inl (computed_here (grind (arith, nat_tests)) (λ _. computed))
      by true here_is false is6 (inr will) =
          let other : n.step.event.kind ≢ 6 = grind (arith, nat_tests) in inr (will_still (λ to. other to.kind) will)
      by false here_is computes is6 (inl computed) = inl (computed_elsewhere (grind (arith, nat_tests)) computed)
      by false here_is computes is6 (inr will) =
          let apart : n.step.event.key.dest ≢ number = grind (arith, nat_tests) in inr (will_still (λ to. apart to.dest) will)
