use Rattle.std.proofs.Common.{length, arith, get_or, rules}
use Rattle.std.proofs.lemmas.Option.{slice_get-get_or}
use Rattle.cycle_core.specs.Busy.{IsQuiet}
use Rattle.cycle_core.proofs.BusyLemmas.{but-below}
use Rattle.cycle_core.proofs.busy.processed_by.Goals as goal

pub bounds-nodes-place : goal.bounds-nodes-place
bounds-nodes-place g c = but-below IsQuiet c.args.nodes.now c.args.busy.now c.loop-k.k (get_or c.args.busy.now c.loop-k.k 0) 0 (length c.args.nodes.now) c.requires (slice_get-get_or c.args.busy.now c.loop-k.k 0 (omega arith))

pub offset_bounds-nodes-place : goal.offset_bounds-nodes-place
offset_bounds-nodes-place g c =
    let within = but-below IsQuiet c.args.nodes.now c.args.busy.now c.loop-k.k (get_or c.args.busy.now c.loop-k.k 0) 0 (length c.args.nodes.now) c.requires (slice_get-get_or c.args.busy.now c.loop-k.k 0 (omega arith)) in
    search rules
