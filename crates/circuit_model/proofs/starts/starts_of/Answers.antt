use Rattle.std.proofs.Common.{◌≡◌, ◌∙◌, ◌++◌, List, ap, sym, length, append-nil, append_assoc, arith}
use Rattle.model_core.specs.declared.event.Start.{Start}
use Rattle.circuit_model.specs.Starts.{computes_below, flips_of, flips_below, starts_of}
use Rattle.circuit_model.specs.StartLists.{flips_below-more}
use Rattle.circuit_model.proofs.starts.starts_of.Goals as goal

pub loop-number-init : goal.loop-number-init
unfolding flips_below
loop-number-init c = c.in_ok-starts.ensures ∙ sym (append-nil (computes_below c.args.gates.now (length c.args.gates.now)))

pub loop-number-preserved : goal.loop-number-preserved
loop-number-preserved c =
    let gates = c.args.gates.now in
    let first = computes_below gates (length gates) in
    c.in_ok-add_flips.ensures
    ∙ ap (λ (starts : List Start). starts ++ flips_of gates c.loop-number.number) c.loop-number.invariant
    ∙ append_assoc first (flips_below gates c.loop-number.number) (flips_of gates c.loop-number.number)
    ∙ ap (λ (starts : List Start). first ++ starts) (sym (flips_below-more gates c.loop-number.number))

pub returns : goal.returns
unfolding starts_of
returns c =
    let all : c.loop-number.number ≡ length c.args.gates.now = omega arith in
    c.loop-number.invariant ∙ ap (λ n. computes_below c.args.gates.now (length c.args.gates.now) ++ flips_below c.args.gates.now n) all
