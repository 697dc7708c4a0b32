use Rattle.std.proofs.Common.{◌≡◌, ℕ, ◌*◌, ◌<◌}
use Rattle.tick_queue.specs.Marks.{mark_of}
use Rattle.tick_queue.proofs.marks.first_marked.Given as goal

abbrev pub invariant-loop-level : goal.invariant-loop-level
invariant-loop-level l = (i : ℕ) → i < 64 * l.level → mark_of l.words i ≡ 0
