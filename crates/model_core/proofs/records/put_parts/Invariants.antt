use Rattle.std.proofs.Common.{◌≡◌, ◌++◌, take, vec_capacity}
use Rattle.model_core.proofs.records.put_parts.Given as goal

abbrev pub invariant-loop-part : goal.invariant-loop-part
invariant-loop-part l = record {
  items : l.into.items ≡ l.initial.into.items ++ take l.part-index l.parts;
  capacity : vec_capacity l.into ≡ vec_capacity l.initial.into;
}
