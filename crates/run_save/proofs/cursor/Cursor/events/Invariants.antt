use Rattle.std.proofs.Common.{◌≡◌, ◌-◌, None}
use Rattle.run_save.specs.Lines.{event}
use Rattle.run_save.specs.Rests.{in_turn}
use Rattle.run_save.specs.Views.{rest_of}
use Rattle.run_save.proofs.InTurnLemmas.{last_of, with_front}
use Rattle.run_save.proofs.cursor.Cursor.events.Given as goal

abbrev pub invariant-loop : goal.invariant-loop
invariant-loop l = with_front l.events.items (in_turn event (last_of l.events.items) (l.count - l.counter) (rest_of l.self)) ≡ in_turn event None l.count (rest_of l.fn.self)
