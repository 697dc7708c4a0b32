-- One node more is counted.
use Rattle.std.proofs.Common.{◌≡◌, ◌+◌, length, suc, refl, ap, arith}
use Rattle.std.proofs.lemmas.Option.{slice_get_read}
use Rattle.node_core.specs.declared.tallies.Tallies.{Tallies}
use Rattle.cycle_core.proofs.MovingSums.{processed-next, processed-none}
use Rattle.cycle_core.proofs.knowing.processed_at.Goals as goal

pub loop-node-preserved : goal.loop-node-preserved
loop-node-preserved g c =
    let i = c.loop-node.node-index in
    let at = slice_get_read c.args.nodes.now (length c.args.nodes.now) i c.node-item.result refl (omega arith) c.node-item.is in
    let next = processed-next c.args.nodes.now i c.node-item.result at in
    let step : i + 1 ≡ suc i = omega arith in
    let few = c.requires.few i c.node-item.result at in
    let left = ap (λ (t : Tallies). t.left) c.tallies.ensures.value in
    record {
      whole = rw step (omega (arith, c.loop-node.invariant.whole));
      few = omega (arith, c.loop-node.invariant.few);
    }

pub returns : goal.returns
returns g c =
    let none = processed-none c.args.nodes.now c.loop-node.node-index (omega arith) in
    omega (arith, c.loop-node.invariant.whole)
