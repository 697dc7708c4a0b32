use Rattle.std.proofs.Common.{All, map}
use Rattle.release_lanes.specs.Rings.{outline, IsNew}
use Rattle.release_lanes.specs.Woven.{IsWoven}
use Rattle.release_lanes.proofs.rings.new_ends.Given as goal

abbrev pub invariant-loop-from : goal.invariant-loop-from
invariant-loop-from l = IsWoven l.nodes l.from (map outline l.ends.items) × All IsNew l.ends.items
