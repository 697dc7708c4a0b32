-- A world of one node: the strict station and its sink, each as far ahead as is said.
use Rattle.std.specs.Prelude.{ℕ, List, [], ◌∷◌, ◌++◌, if◌then◌else◌, ◌==◌, filter, None}
use Rattle.event_key.specs.declared.key.Key.{Key}
use Rattle.event_key.specs.declared.key.TheConstants.{INITIAL}
use Rattle.event_key.specs.Keys.{key_lt}
use Rattle.event_key.specs.Stamps.{stamp_at, end_stamp}
use Rattle.model_core.specs.declared.event.Event.{Event}
use Rattle.model_core.specs.declared.note.Note.{Note}
use Rattle.sim_spec.specs.Firing.{Firing}
use Rattle.sim_spec.specs.State.{object_at, initial_state}
use Rattle.key_order.specs.Stamps.{least_stamp}
use Rattle.sim_spec.specs.Cut.{records_of, emissions_of}
use Rattle.key_order.specs.Due.{is_due}
use Rattle.world_spec.specs.Share.{Share, log_of}
use Rattle.world_spec.specs.Moves.{received, received_ahead, committed, committed_ahead}
use Rattle.worked_examples.specs.Notes.{take_part, wait_part, done_part, leave_part}
use Rattle.worked_examples.specs.StrictStation.{pairs}
use Rattle.worked_examples.specs.Summaries.{key_at, told_at}

abbrev pub start : Share
start = record { states = object_at (initial_state pairs).objects; pending = (initial_state pairs).pending }

-- how far ahead the station is, and the sink
abbrev pub both : ℕ → ℕ → ℕ → ℕ
both station sink object = if object == 0 then station else sink

-- the bound at which the node closes a cycle: the least stamp that it holds, or the end
abbrev pub bound_of : Share → (ℕ → ℕ) → ℕ
bound_of share ahead =
    least_stamp (least_stamp (end_stamp 30) (emissions_of (log_of pairs share 0 (ahead 0)).done)) (emissions_of (log_of pairs share 1 (ahead 1)).done)

-- what an object commits at that bound
abbrev pub due_at : Share → (ℕ → ℕ) → ℕ → List (Event × Firing)
due_at share ahead object = filter (λ d. is_due (bound_of share ahead) None d.0.key) (log_of pairs share object (ahead object)).done

-- a record at its place among others
unfoldable pub put : Key × Note → List (Key × Note) → List (Key × Note)
put x [] = x ∷ []
put x (y ∷ ys) = if key_lt x.0 y.0 then x ∷ y ∷ ys else y ∷ put x ys

unfoldable pub put_all : List (Key × Note) → List (Key × Note) → List (Key × Note)
put_all [] ys = ys
put_all (x ∷ xs) ys = put x (put_all xs ys)

-- what is told of a cycle, what is sent in it, and the share after it
abbrev pub told : Share → (ℕ → ℕ) → List (Key × Note)
told share ahead = put_all (records_of (due_at share ahead 0)) (records_of (due_at share ahead 1))

abbrev pub sent : Share → (ℕ → ℕ) → List Event
sent share ahead = emissions_of (due_at share ahead 0) ++ emissions_of (due_at share ahead 1)

abbrev pub share_after : Share → (ℕ → ℕ) → Share
share_after share ahead = received (sent share ahead) (committed pairs (bound_of share ahead) None share)

-- what is told cycle by cycle, each with the two objects so far ahead
unfoldable pub told_by : Share → List (ℕ × ℕ) → List (Key × Note)
told_by share [] = []
told_by share (a ∷ as_far) = told share (both a.0 a.1) ++ told_by (share_after share (both a.0 a.1)) as_far

-- how far ahead the station is once its first job is committed, and once it has received what that sends
abbrev pub ahead_left : ℕ
ahead_left = committed_ahead (stamp_at 9 0) None start (both 3 0) 0

abbrev pub ahead_kept : ℕ
ahead_kept = received_ahead (sent start (both 3 0)) (committed pairs (stamp_at 9 0) None start) (committed_ahead (stamp_at 9 0) None start (both 3 0)) 0

-- three jobs through the station
unfoldable pub three_jobs : List (Key × Note)
three_jobs =
    told_at (key_at 5 0 0 INITIAL 0) (take_part 1 0)
    ∷ told_at (key_at 9 0 0 0 0) (done_part 1 0)
    ∷ told_at (key_at 9 1 1 0 1) (leave_part 1 4)
    ∷ told_at (key_at 10 0 0 INITIAL 1) (take_part 2 0)
    ∷ told_at (key_at 11 0 0 INITIAL 2) (wait_part 3 1)
    ∷ told_at (key_at 14 0 0 0 2) (done_part 2 0)
    ∷ told_at (key_at 14 1 1 0 3) (leave_part 2 4)
    ∷ told_at (key_at 18 0 0 0 4) (done_part 3 0)
    ∷ told_at (key_at 18 1 1 0 5) (leave_part 3 7)
    ∷ []
