use Rattle.std.proofs.Common.{◌≡◌, ◌+◌, ◌-◌, ◌≤◌, length, None, vec_len}
use Rattle.run_save.specs.Rests.{in_turn, any_field}
use Rattle.run_save.specs.Views.{rest_of}
use Rattle.run_save.proofs.InTurnLemmas.{last_of, with_front}
use Rattle.run_save.proofs.cursor.Cursor.numbers.Given as goal

abbrev pub invariant-loop : goal.invariant-loop
invariant-loop l = record {
  read : with_front l.numbers.items (in_turn (λ _. any_field) (last_of l.numbers.items) (l.count - l.counter) (rest_of l.self)) ≡ in_turn (λ _. any_field) None l.count (rest_of l.fn.self);
  few : vec_len l.numbers + length l.self.bytes.now ≤ length l.fn.self.bytes.now;
}
