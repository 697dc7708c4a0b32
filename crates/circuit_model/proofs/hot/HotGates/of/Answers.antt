use Rattle.std.proofs.Common.{◌≡◌, ◌<◌, ◌≤◌, [], length, ap, ◌∙◌, arith}
use Rattle.std.proofs.lemmas.List.{get_or_default}
use Rattle.circuit_model.specs.Gates.{gate_at}
use Rattle.circuit_model.specs.Wiring.{fed_by}
use Rattle.circuit_model.proofs.HotLemmas.{HaveHot-more}
use Rattle.circuit_model.proofs.hot.HotGates.of.Goals as goal

pub loop-number-preserved : goal.loop-number-preserved
loop-number-preserved c =
    let gates = c.args.gates.now in
    let feeds = c.args.feeds.now in
    let number = c.loop-number.number in
    let within : number < length gates = omega arith in
    let gate : c.index-gates-number.result ≡ gate_at gates number = c.index-gates-number.is ∙ get_or_default gates number _ _ within in
    let read = c.as_slice.ensures ∙ c.index-feeds-number.is ∙ get_or_default feeds number _ [] (omega (arith, c.requires.lists.size)) in
    let pins : c.as_slice.result.now ≡ fed_by gates number = read ∙ c.requires.lists.each number within in
    let few : length c.as_slice.result.now ≤ 8 = omega (arith, ap length pins, c.requires.circuit.fan_out number within) in
    let more = HaveHot-more gates c.loop-number.hot.gates.items c.loop-number.hot.fed.items c.as_slice.result.now number c.loop-number.invariant few pins in
    rw (c.in_ok-push.ensures.gates, c.in_ok-push.ensures.fed, gate) more
