use Rattle.std.proofs.Common.{◌≡◌, ◌∙◌, ap, sym, true, false, append-nil}
use Rattle.std.specs.Prelude.{not}
use Rattle.circuit_model.specs.declared.gate.LogicGate.{LogicGate}
use Rattle.circuit_model.specs.Gates.{gate_at, is_input}
use Rattle.circuit_model.specs.Starts.{computes_below, computes}
use Rattle.circuit_model.specs.StartLists.{computes_below-more}
use Rattle.circuit_model.proofs.starts.computes.Goals as goal
use Rattle.circuit_model.proofs.starts.computes.Goals.{then-not-is_input+in_ok-push, else-not-is_input}

pub loop-number-init : goal.loop-number-init
unfolding computes_below
loop-number-init c = c.new-starts.ensures.items

pub loop-number-preserved : goal.loop-number-preserved
loop-number-preserved c =
    let gates = c.args.gates.now in
    let number = c.loop-number.number in
    let kind : is_input (gate_at gates number).kind ≡ c.is_input.result =
    ap (λ (gate : LogicGate). is_input gate.kind) (sym c.gate_at-gate.ensures) ∙ sym c.is_input.ensures
    in
    elim c.if-not-is_input.branch [
      | then-not-is_input+in_ok-push w ↦
          let is : computes gates number ≡ true = ap not (kind ∙ w.if-not-is_input.true) in
          let more = computes_below-more gates number true is in
          cc (more, c.loop-number.invariant, w.starts-is, w.in_ok-push.ensures.items, w.compute_start.ensures)
      | else-not-is_input w ↦
          let is : computes gates number ≡ false = ap not (kind ∙ w.if-not-is_input.false) in
          let more = computes_below-more gates number false is ∙ append-nil (computes_below gates number) in
          cc (more, c.loop-number.invariant, w.starts-is)
    ]
