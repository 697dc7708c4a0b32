-- How far objects have gone.
use Rattle.std.specs.Prelude.{ℕ, ◌≤◌, ◌%◌, List, slice_index_or}
use Rattle.std.specs.List.{AllByRecursion}
use Rattle.event_key.specs.declared.stamp.TheConstants.{NO_STAMP}
use Rattle.object_log.specs.Carrying.{Placed, placed_key}

-- objects whose numbers agree modulo a prime share a bound
abbrev pub bound_of : List ℕ → ℕ → ℕ
bound_of bounds object = slice_index_or bounds (object % 1021) NO_STAMP

-- no event has a later stamp than its object's bound
abbrev pub AreBounded : List ℕ → List Placed → Type 0
AreBounded bounds items = AllByRecursion (λ p. (placed_key p).stamp ≤ bound_of bounds (placed_key p).dest) items
