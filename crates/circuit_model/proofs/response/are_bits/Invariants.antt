use Rattle.std.proofs.Common.{◌≡◌, ◌-◌, ◌≤◌, true, take, drop}
use Rattle.std.specs.List.{list_all}
use Rattle.circuit_model.specs.Events.{is_bit}
use Rattle.circuit_model.proofs.response.are_bits.Given as goal

abbrev pub invariant-loop-word : goal.invariant-loop-word
invariant-loop-word l = (1 ≤ l.word) × (list_all is_bit (take (l.word - 1) (drop 1 l.cells.contents.words)) ≡ true)
