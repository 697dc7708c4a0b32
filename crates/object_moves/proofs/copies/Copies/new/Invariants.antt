-- All are the same.
use Rattle.std.proofs.Common.{◌≡◌, length}
use Rattle.std.specs.Arc.{arc_value}
use Rattle.std.specs.List.{AllByRecursion}
use Rattle.object_moves.proofs.copies.Copies.new.Given as goal

abbrev pub invariant-loop : goal.invariant-loop
invariant-loop l = (length l.more.items ≡ l.counter) × AllByRecursion (λ a. arc_value a ≡ arc_value l.one) l.more.items
