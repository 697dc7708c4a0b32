use Rattle.std.proofs.Common.{◌≡◌, ℕ, [], length}
use Rattle.std.specs.Prelude.{slice_index_or}
use Rattle.circuit_model.proofs.wiring.blank.Given as goal

abbrev pub invariant-loop : goal.invariant-loop
invariant-loop l = (length l.feeds.items ≡ l.index) × ((k : ℕ) → slice_index_or l.feeds.items k [] ≡ [])
