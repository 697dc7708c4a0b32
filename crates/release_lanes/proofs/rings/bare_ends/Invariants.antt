use Rattle.std.proofs.Common.{◌≡◌, All, map}
use Rattle.std.specs.List.{range_with_len}
use Rattle.release_lanes.specs.Rings.{outline, IsNew}
use Rattle.release_lanes.proofs.Weaving.{bare}
use Rattle.release_lanes.proofs.rings.bare_ends.Given as goal

abbrev pub invariant-loop-number : goal.invariant-loop-number
invariant-loop-number l = (map outline l.ends.items ≡ map bare (range_with_len 0 l.number)) × All IsNew l.ends.items
