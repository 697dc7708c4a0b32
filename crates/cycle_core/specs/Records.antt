-- What is told of events, in the order of their keys.
use Rattle.std.specs.Prelude.{◌≡◌, ◌≢◌, ◌<◌, ℕ, List, [], ◌++◌, length, map, drop, slice_get, Some, IsPermutation}
use Rattle.std.specs.List.{AllByRecursion}
use Rattle.event_key.specs.declared.key.Key.{Key}
use Rattle.model_core.specs.declared.note.Note.{Note}
use Rattle.key_order.specs.Ascending.{Ascends}
use Rattle.key_order.specs.Keys.{Differ}
use Rattle.node_core.specs.declared.committed.Committed.{Committed}
use Rattle.cycle_core.specs.Ends.{told_by, sent_in}

abbrev pub record_key : Key × Note → Key
record_key x = x.0

abbrev pub AreInOrder : List (Key × Note) → Type 0
AreInOrder = Ascends record_key

-- no two records have one key
abbrev pub RecordsDiffer : List (Key × Note) → Type 0
RecordsDiffer = Differ record_key

-- the records of two commits are in the first one
pub record MergesInto (first second first' second' : Committed) : Type 0 where
  pub permutes : IsPermutation (first.done.items ++ second.done.items) first'.done.items
  pub ordered : AreInOrder first'.done.items
  pub emptied : second'.done.items ≡ []
  pub first_out : first'.out ≡ first.out
  pub second_out : second'.out ≡ second.out

-- a commit that tells of nothing
abbrev pub TellsNothing : Committed → Type 0
TellsNothing c = c.done.items ≡ []

-- beside the commit at this place, none tells of anything
pub record IsOnlyTold (committed : List Committed) (place : ℕ) : Type 0 where
  pub within : place < length committed
  pub others : (other : ℕ) (c : Committed) → other ≢ place → slice_get committed other ≡ Some c → TellsNothing c

-- the records of all commits are in the first one
pub record HaveMerged (old new : List Committed) : Type 0 where
  pub sent : map sent_in new ≡ map sent_in old
  pub first : (c : Committed) → slice_get new 0 ≡ Some c → IsPermutation (told_by old) c.done.items × AreInOrder c.done.items
  pub emptied : AllByRecursion TellsNothing (drop 1 new)

-- the records were taken out of these commits
pub record HaveGiven (old new : List Committed) : Type 0 where
  pub sent : map sent_in new ≡ map sent_in old
  pub emptied : AllByRecursion TellsNothing new
