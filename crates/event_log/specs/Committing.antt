-- What is due leaves: it is told of in the order of the keys, and its messages go to the chains of their homes.
use Rattle.std.specs.Prelude.{◌≡◌, ℕ, ◌<◌, ◌^◌, true, false, not, List, [], ◌∷◌, ◌++◌, length, filter, slice_index, IsPermutation, Option, None}
use Rattle.std.specs.List.{AllByRecursion}
use Rattle.event_key.specs.declared.key.Key.{Key}
use Rattle.event_key.specs.Keys.{key_lt}
use Rattle.key_order.specs.Ascending.{Ascends}
use Rattle.key_order.specs.Due.{is_due}
use Rattle.model_core.specs.declared.event.Event.{Event}
use Rattle.model_core.specs.declared.note.Note.{Note}
use Rattle.object_log.specs.Carrying.{placed_key}
use Rattle.object_log.specs.Flat.{goes_to}
use Rattle.object_log.specs.Logs.{fault_of, held_of}
use Rattle.object_log.specs.Parts.{due_of}
use Rattle.object_log.specs.Tellings.{told_all}
use Rattle.object_log.specs.Weave.{weave}
use Rattle.object_log.specs.Whole.{dones_in}
use Rattle.event_log.specs.Outboxes.{chain_at}
use Rattle.event_log.specs.Processing.{AreHomed, ProcessedView}

abbrev pub told_key : (Key × Note) → Key
told_key t = t.0

-- those of the records that come before a key are told, and the others are left
pub record TellsBefore (key : Key) (records left told told' : List (Key × Note)) : Type 0 where
  pub before : List (Key × Note)
  pub split : records ≡ before ++ left
  pub told_is : told' ≡ told ++ before
  pub all_before : AllByRecursion (λ t. key_lt (told_key t) key ≡ true) before
  pub none_left : AllByRecursion (λ t. key_lt (told_key t) key ≡ false) left

-- a record is told in its place among others: whatever comes later, the whole stays the same
abbrev pub TellsAmong : (Key × Note) → List (Key × Note) → List (Key × Note) → List (Key × Note) → List (Key × Note) → Type 0
TellsAmong t records left told told' = (later : List (Key × Note)) → Ascends told_key (t ∷ later) → told' ++ weave told_key left later ≡ told ++ weave told_key records (t ∷ later)

-- what is due can be committed: none of it failed, the homes of its messages are known, and the messages lie there
pub record CanCommit (homes : List ℕ) (horizon : ℕ) (cut : Option Key) (v : ProcessedView) : Type 0 where
  pub went : fault_of (due_of horizon cut (dones_in v.items)) ≡ None
  pub homed : AreHomed homes v.chained
  pub known : AllByRecursion (λ (e : Event). e.key.dest < length homes) (held_of (due_of horizon cut (dones_in v.items)))
  pub homes_in : AllByRecursion (λ home. home < v.nodes) homes
  pub few : length v.items < 2 ^ 60
  pub few_held : length (held_of (dones_in v.items)) < 2 ^ 60

-- all that was due is gone: what is told of it, and its messages in the chains of their homes, in whatever order
pub record HasCommittedDue (homes : List ℕ) (horizon : ℕ) (cut : Option Key) (old new : ProcessedView) (told : List (Key × Note)) (out : List (List Event)) : Type 0 where
  pub items : new.items ≡ filter (λ p. not (is_due horizon cut (placed_key p))) old.items
  pub told_is : told ≡ told_all (due_of horizon cut (dones_in old.items))
  pub parcels : (to : ℕ) → IsPermutation (filter (goes_to (slice_index homes) to) (held_of (due_of horizon cut (dones_in old.items)))) (chain_at out to)
  pub news : new.news ≡ []
  pub chained : new.chained ≡ []
