use Rattle.std.proofs.Common.{◌≡◌, ◌-◌, None}
use Rattle.run_save.specs.Lines.{object}
use Rattle.run_save.specs.Rests.{in_turn}
use Rattle.run_save.specs.Views.{rest_of}
use Rattle.run_save.proofs.InTurnLemmas.{last_of, with_front}
use Rattle.run_save.proofs.cursor.Cursor.objects.Given as goal

abbrev pub invariant-loop : goal.invariant-loop
invariant-loop l = with_front l.objects.items (in_turn (λ _. object) (last_of l.objects.items) (l.count - l.counter) (rest_of l.self)) ≡ in_turn (λ _. object) None l.count (rest_of l.fn.self)
