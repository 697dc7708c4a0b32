use Rattle.std.proofs.Common.{Ok, ap, sym, ◌∙◌}
use Rattle.std.proofs.lemmas.Result.{err_from_is_err_and}
use Rattle.text_fields.specs.Directories.{finder}
use Rattle.model_text.proofs.CircuitParts.{gates-linked, gates-make_circuit, links_stop, feeds_stop, circuit_made}
use Rattle.model_text.proofs.circuits.linked_circuit.Goals as goal

pub returns-in_err-gates : goal.returns-in_err-gates
returns-in_err-gates c =
    let refused = err_from_is_err_and c.from_residual.result c.from_residual.ensures.1 in
    rw (refused.1, refused.2) (links_stop c.args.named.items (finder c.args.directory.now) c.in_err-gates.field-0.0 c.requires.found c.in_err-gates.ensures)

pub fan_out-requires : goal.fan_out-requires
fan_out-requires c =
    rw c.deref.ensures.value (gates-linked c.args.named.items (finder c.args.directory.now) c.in_ok-gates.gates.items c.requires.few_gates c.requires.found c.requires.in_range c.in_ok-gates.ensures)

pub returns-in_err-fan_out : goal.returns-in_err-fan_out
returns-in_err-fan_out c =
    let refused = err_from_is_err_and c.from_residual-in_err-fan_out.result c.from_residual-in_err-fan_out.ensures.1 in
    rw (refused.1, refused.2)
    (feeds_stop c.args.named.items (finder c.args.directory.now) c.in_ok-gates.gates.items c.in_err-fan_out.field-0.0 c.requires.found c.in_ok-gates.ensures
    (rw c.deref.ensures.value at c.in_err-fan_out.ensures.read))

pub make-requires : goal.make-requires
make-requires c =
    gates-make_circuit c.args.named.items (finder c.args.directory.now) c.in_ok-gates.gates.items c.requires.few_gates c.requires.few_flips c.requires.found c.requires.in_range
    c.in_ok-gates.ensures (rw c.deref.ensures.value at c.in_ok-fan_out.ensures.few)

pub returns : goal.returns
returns c =
    circuit_made c.args.named.items (finder c.args.directory.now) c.in_ok-gates.gates.items c.requires.found c.in_ok-gates.ensures
    (rw c.deref.ensures.value at c.in_ok-fan_out.ensures.read)
    ∙ ap (λ m. Ok m) (sym c.in_ok-make.ensures)
