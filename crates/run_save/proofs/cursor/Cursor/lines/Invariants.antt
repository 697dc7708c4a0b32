use Rattle.std.proofs.Common.{◌≡◌, ◌+◌, ◌-◌, ◌≤◌, length, None, vec_len}
use Rattle.run_save.specs.Rests.{in_turn, counted}
use Rattle.run_save.specs.Views.{rest_of, lines_of}
use Rattle.run_save.proofs.InTurnLemmas.{last_of, with_front}
use Rattle.run_save.proofs.cursor.Cursor.lines.Given as goal

abbrev pub invariant-loop : goal.invariant-loop
invariant-loop l = record {
  read : with_front (lines_of l.lines.items) (in_turn (λ _. counted) (last_of (lines_of l.lines.items)) (l.count - l.counter) (rest_of l.self)) ≡ in_turn (λ _. counted) None l.count (rest_of l.fn.self);
  few : vec_len l.lines + length l.self.bytes.now ≤ length l.fn.self.bytes.now;
}
