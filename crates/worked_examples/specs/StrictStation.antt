-- A strict station with one server and one place in its line, and a sink.
use Rattle.std.specs.Prelude.{ℕ, true, false, List, [], ◌∷◌, Option, Some, None, codes}
use Rattle.std.proofs.Common.{lit<, lit≤}
use Rattle.event_key.specs.declared.key.Key.{Key}
use Rattle.event_key.specs.declared.key.TheConstants.{INITIAL}
use Rattle.event_key.specs.Stamps.{stamp_at}
use Rattle.model_core.specs.declared.entry.Entry.{Entry}
use Rattle.model_core.specs.declared.note.Note.{Note}
use Rattle.model_core.specs.Meaning.{Meaning}
use Rattle.random_streams.specs.declared.law.Law.TheVariants.{Fixed}
use Rattle.queue_models.specs.declared.kind.KindOver.TheVariants.{Station, Sink}
use Rattle.queue_models.specs.Objects.{network_of}
use Rattle.queue_models.specs.Meaning.{network_meaning}
use Rattle.sim_spec.specs.declared.bucket.Bucket.{Bucket}
use Rattle.sim_spec.specs.declared.terms.Terms.{Terms}
use Rattle.worked_examples.specs.Notes.{take_part, wait_part, done_part, leave_part}
use Rattle.worked_examples.specs.Summaries.{key_at, told_at, whole_bucket, entry_at, item_of}

-- it serves each job for so many ticks, and these jobs arrive
unfoldable pub strict_station : ℕ → List Entry → Meaning
strict_station service jobs =
    network_meaning (network_of 0 (
    item_of (codes "station") (Station (record { servers = 1; service = Fixed service; line = 1; strict = true; next = 1 }))
    ∷ item_of (codes "sink") (Sink (record { due = None }))
    ∷ []) jobs)

unfoldable pub to_thirty : Terms
to_thirty = record { end = 30; limit = 10000000; end_in_range = lit< tt; some_event = lit≤ tt; limit_in_range = lit≤ tt }

unfoldable pub to_two_events : Terms
to_two_events = record { end = 30; limit = 2; end_in_range = lit< tt; some_event = lit≤ tt; limit_in_range = lit≤ tt }

-- one job is served, the next one waits, and the third one finds the line full
unfoldable pub crowd : Meaning
crowd = strict_station 100 (entry_at 5 0 ∷ entry_at 6 0 ∷ entry_at 7 0 ∷ [])

unfoldable pub two_are_done : List (Key × Note)
two_are_done = told_at (key_at 5 0 0 INITIAL 0) (take_part 1 0) ∷ told_at (key_at 6 0 0 INITIAL 1) (wait_part 2 1) ∷ []

unfoldable pub faulted_bucket : Bucket
faulted_bucket = record { done = two_are_done; horizon = 0; fault = Some (key_at 7 0 0 INITIAL 2, 2); limited = false }

unfoldable pub limited_bucket : Bucket
limited_bucket = record { done = two_are_done; horizon = 0; fault = None; limited = true }

-- the first job is done before the third one comes
unfoldable pub pairs : Meaning
pairs = strict_station 4 (entry_at 5 0 ∷ entry_at 10 0 ∷ entry_at 11 0 ∷ [])

unfoldable pub first_of_pairs : Bucket
first_of_pairs = whole_bucket (stamp_at 9 0) (told_at (key_at 5 0 0 INITIAL 0) (take_part 1 0) ∷ [])

unfoldable pub buckets_of_pairs : List Bucket
buckets_of_pairs =
    first_of_pairs
    ∷ whole_bucket (stamp_at 9 1) (told_at (key_at 9 0 0 0 0) (done_part 1 0) ∷ [])
    ∷ whole_bucket (stamp_at 14 0) (told_at (key_at 9 1 1 0 1) (leave_part 1 4) ∷ told_at (key_at 10 0 0 INITIAL 1) (take_part 2 0) ∷ told_at (key_at 11 0 0 INITIAL 2) (wait_part 3 1) ∷ [])
    ∷ whole_bucket (stamp_at 14 1) (told_at (key_at 14 0 0 0 2) (done_part 2 0) ∷ [])
    ∷ whole_bucket (stamp_at 18 1) (told_at (key_at 14 1 1 0 3) (leave_part 2 4) ∷ told_at (key_at 18 0 0 0 4) (done_part 3 0) ∷ [])
    ∷ whole_bucket (stamp_at 31 0) (told_at (key_at 18 1 1 0 5) (leave_part 3 7) ∷ [])
    ∷ []

-- early the station does not know that it will have served the first job when the third one comes
unfoldable pub early_of_pairs : List (Key × Note) × Option (Key × ℕ)
early_of_pairs = (
  told_at (key_at 5 0 0 INITIAL 0) (take_part 1 0) ∷ told_at (key_at 10 0 0 INITIAL 1) (wait_part 2 1) ∷ [],
  Some (key_at 11 0 0 INITIAL 2, 2),
)
