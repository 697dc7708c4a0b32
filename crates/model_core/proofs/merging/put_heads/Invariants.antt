use Rattle.std.proofs.Common.{◌≡◌, ◌++◌, map, take, vec_capacity}
use Rattle.model_core.specs.Records.{shifted}
use Rattle.model_core.proofs.merging.put_heads.Given as goal

abbrev pub invariant-loop-head : goal.invariant-loop-head
invariant-loop-head l = record {
  items : l.into.items ≡ l.initial.into.items ++ map (shifted l.by) (take l.head-index l.heads);
  capacity : vec_capacity l.into ≡ vec_capacity l.initial.into;
}
