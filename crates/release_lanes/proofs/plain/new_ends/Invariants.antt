use Rattle.std.proofs.Common.{◌≡◌, All, map}
use Rattle.std.specs.List.{range_with_len}
use Rattle.release_lanes.specs.Plain.{outline, AreEmpty}
use Rattle.release_lanes.proofs.plain.new_ends.Given as goal

abbrev pub invariant-loop-number : goal.invariant-loop-number
invariant-loop-number l = (map outline l.ends.items ≡ map (λ number. (number, l.nodes)) (range_with_len 0 l.number)) × All AreEmpty l.ends.items
