use Rattle.std.proofs.Common.{◌≡◌, ◌++◌, take, vec_capacity}
use Rattle.model_core.proofs.note.Note.put_into.Given as goal

abbrev pub invariant-loop-i : goal.invariant-loop-i
invariant-loop-i l = record {
  items : l.parts.items ≡ l.initial.parts.items ++ take l.i l.self;
  capacity : vec_capacity l.parts ≡ vec_capacity l.initial.parts;
}
