use Rattle.std.proofs.Common.{◌≡◌, ◌+◌, ◌-◌, length, map, vec_capacity}
use Rattle.model_core.specs.Records.{head_key, shifted}
use Rattle.model_core.specs.Sorted.{IsMerging}
use Rattle.model_core.proofs.merging.merge.Given as goal

abbrev pub invariant-loop-i : goal.invariant-loop-i
invariant-loop-i l = record {
  merging : IsMerging head_key l.left (map (shifted l.by) l.right) l.i l.j l.merged.items;
  count : length l.merged.items ≡ l.i + l.j;
  capacity : vec_capacity l.merged ≡ vec_capacity l.initial.merged;
}

abbrev pub decreases-loop-i : goal.decreases-loop-i
decreases-loop-i l = (length l.left - l.i) + (length l.right - l.j)
