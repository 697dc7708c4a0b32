use Rattle.std.proofs.Common.{◌≡◌, All, map, length}
use Rattle.release_lanes.specs.Rings.{ring_out, outline, IsNewSender, IsNew}
use Rattle.release_lanes.specs.Woven.{Grows}
use Rattle.release_lanes.proofs.rings.rings_to.Given as goal

abbrev pub invariant-loop-to : goal.invariant-loop-to
invariant-loop-to l = record {
  count : length l.outs.items ≡ l.to;
  grows : Grows (map outline l.initial.ends) (map ring_out l.outs.items) (map outline l.ends);
  fresh : All IsNewSender l.outs.items;
  news : All IsNew l.ends;
}
