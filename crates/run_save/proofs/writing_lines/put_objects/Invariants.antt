use Rattle.std.proofs.Common.{◌≡◌, ◌++◌, ◌<◌, ℕ, take}
use Rattle.std.specs.List.{flat_map}
use Rattle.std.specs.Io.{StartsWith}
use Rattle.run_save.specs.StateTexts.{object_text}
use Rattle.sim_spec.specs.State.{object_at}
use Rattle.run_save.specs.SavedLaws.{FitsObject}
use Rattle.run_save.proofs.writing_lines.put_objects.Given as goal

abbrev pub invariant-loop-object : goal.invariant-loop-object
invariant-loop-object l = record {
  text : l.into.items ≡ l.initial.into.items ++ flat_map object_text (take l.object-index l.objects);
  prefix : StartsWith l.into.items l.fn.into.items;
  fits : (k : ℕ) → k < l.object-index → FitsObject (object_at l.objects k);
}
