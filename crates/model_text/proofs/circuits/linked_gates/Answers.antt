use Rattle.std.proofs.Common.{◌≡◌, ◌+◌, ◌++◌, ◌∷◌, [], Ok, length, arith, sym, ap, ◌∙◌}
use Rattle.std.proofs.lemmas.List.{length_push}
use Rattle.std.proofs.lemmas.Iterator.Adapters.{YieldsList-from_vec}
use Rattle.std.proofs.lemmas.Iterator.Consumers.{YieldsList-turn}
use Rattle.model_text.specs.Circuits.{linked_gate}
use Rattle.text_fields.specs.Directories.{finder}
use Rattle.text_fields.proofs.Each.{list_goes_on}
use Rattle.model_text.proofs.circuits.linked_gates.Goals as goal

pub loop-gate-preserved : goal.loop-gate-preserved
loop-gate-preserved c =
    let gives = c.into_iter-gate-iterator.ensures.into_iter_gives in
    let all = c.args.gates.items in
    let before = c.loop-gate.linked.items in
    let turn = YieldsList-turn (YieldsList-from_vec {s = c.into_iter-gate-iterator.result} all gives.0 (gives.1 ∙ c.args.gates.ok.0)) c.loop-gate.yielded c.loop-gate.gate-iterator c.loop-gate.yielded_by c.next.result c.next.new.self c.in-Some.gate c.in-Some.is c.next.ensures.steps in
    let pushed : c.push.new.self.items ≡ before ++ c.in_ok-linked_gate.field-0 ∷ [] = c.in_ok-push.ensures.items in
    let longer : length (c.loop-gate.yielded ++ c.in-Some.gate ∷ []) ≡ length c.loop-gate.yielded + 1 = length_push c.loop-gate.yielded c.in-Some.gate in
    let item : c.len-in-loop-gate.result + 1 ≡ length c.loop-gate.yielded + 1 = omega arith in
    let read : linked_gate (finder c.args.directory.now) (length c.loop-gate.yielded + 1) c.in-Some.gate ≡ Ok c.in_ok-linked_gate.field-0 =
    ap (λ n. linked_gate (finder c.args.directory.now) n c.in-Some.gate) (sym item) ∙ c.in_ok-linked_gate.ensures in
    record {
      count = rw (pushed, longer) (omega (arith, length_push before c.in_ok-linked_gate.field-0));
      so_far = rw (pushed, longer)
          (list_goes_on (linked_gate (finder c.args.directory.now)) before (length c.loop-gate.yielded + 1) (length c.loop-gate.yielded) all c.in-Some.gate c.in_ok-linked_gate.field-0 _
          turn.0 turn.1 read c.loop-gate.invariant.so_far);
    }
