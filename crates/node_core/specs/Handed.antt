-- What a commit hands out.
use Rattle.std.specs.Prelude.{◌≡◌, ℕ, ◌*◌, ◌<◌, ◌≤◌, ◌^◌, true, false, List, [], ◌++◌, length, map, filter, slice_index_or, IsPermutation, Option, Some, None, IfSome}
use Rattle.std.specs.List.{AllByRecursion}
use Rattle.event_key.specs.declared.key.Key.{Key}
use Rattle.model_core.specs.declared.event.Event.{Event}
use Rattle.model_core.specs.declared.note.Note.{Note}
use Rattle.model_core.specs.Meaning.{Meaning}
use Rattle.sim_spec.specs.Cut.{emissions_of, events_of, records_of}
use Rattle.sim_spec.specs.Firing.{Firing}
use Rattle.sim_spec.specs.Replay.{done_at, replay_after}
use Rattle.object_log.specs.Dones.{Done}
use Rattle.object_log.specs.Logs.{LogView, events_of as log_events}
use Rattle.object_log.specs.Replays.{IsLogOf, replay_of}
use Rattle.object_log.specs.Tellings.{IsNoted}
use Rattle.key_order.specs.Due.{is_due}
use Rattle.world_spec.specs.Share.{is_at}
use Rattle.node_core.specs.Homes.{HomesView, home_of}
use Rattle.node_core.specs.Marks.{first_fault, first_mark}
use Rattle.node_core.specs.Nodes.{IsHere, log_at}
use Rattle.node_core.specs.Rows.{keys_of}
use Rattle.node_core.specs.Stores.{StoreView}

-- a fault, if there is one, is not due
abbrev pub IsFaultLate : ℕ → Option Key → Option (Key × ℕ) → Type 0
IsFaultLate horizon cut None = Unit {0}
IsFaultLate horizon cut (Some fault) = is_due horizon cut fault.0 ≡ false

-- what is due can be handed out: no fault is, and what is held is little, with destinations
pub record CanCommit (homes : HomesView) (horizon : ℕ) (cut : Option Key) (s : StoreView) : Type 0 where
  pub late : IsFaultLate horizon cut (first_fault s.marks)
  pub few_sends : (object : ℕ) → AllByRecursion (λ d. length d.sends ≤ 8) (log_at s.logs object).done
  pub homed : (object : ℕ) → AllByRecursion (λ d. AllByRecursion (λ e. e.key.dest < length homes.homes) d.sends) (log_at s.logs object).done
  pub few : 8 * length s.marks < 2 ^ 60

-- the first events of an object went, and were taken out of its log
pub record IsLogLess (old now : List (Option LogView)) (done : List (Event × Firing)) (object : ℕ) : Type 0 where
  pub gone : List Done
  pub front : (log_at old object).done ≡ gone ++ (log_at now object).done
  pub noted : AllByRecursion (λ d. IsNoted d.verdict) gone
  pub state : (log_at now object).state ≡ (log_at old object).state
  pub events : events_of (done_at object done) ≡ log_events gone
  pub told : replay_of (log_at old object).state (log_at old object).done ≡ replay_after (done_at object done) (replay_of (log_at now object).state (log_at now object).done)
  pub here : IsHere old object → IsHere now object
  pub back : IsHere now object → IsHere old object
  pub replay : (m : Meaning) → IsLogOf m (log_at old object) → IsLogOf m (log_at now object)

-- these events, which are due, were taken out in the order of their keys
pub record AreTaken (horizon : ℕ) (cut : Option Key) (old now : StoreView) (done : List (Event × Firing)) : Type 0 where
  pub logs : (object : ℕ) → IsLogLess old.logs now.logs done object
  pub due : AllByRecursion (λ d. is_due horizon cut d.0.key ≡ true) done
  pub here : AllByRecursion (λ d. IsHere old.logs d.0.key.dest) done
  pub keys : keys_of old.marks ≡ map (λ d. d.0.key) done ++ keys_of now.marks
  pub fault : first_fault now.marks ≡ first_fault old.marks
  pub few : length (emissions_of done) ≤ 8 * length done
  pub long : length now.logs ≡ length old.logs
  pub waiting : now.waiting ≡ old.waiting
  pub spare : now.spare ≡ old.spare

-- what is told of them, and what they sent, each message in the parcel of its home, in whatever order
pub record IsTellingOf (homes : HomesView) (done : List (Event × Firing)) (told : List (Key × Note)) (out : List (List Event)) : Type 0 where
  pub told_is : told ≡ records_of done
  pub long : length out ≡ homes.nodes
  pub parcels : (to : ℕ) → to < homes.nodes → IsPermutation (filter (is_at (home_of homes) to) (emissions_of done)) (slice_index_or out to [])

-- all that was due was taken out and is told
pub record HasHandedOut (homes : HomesView) (horizon : ℕ) (cut : Option Key) (old new : StoreView) (told : List (Key × Note)) (out : List (List Event)) : Type 0 where
  pub done : List (Event × Firing)
  pub taken : AreTaken horizon cut old new done
  pub tells : IsTellingOf homes done told out
  pub rest : IfSome (first_mark new.marks) (λ key. is_due horizon cut key ≡ false)
