-- A shop: a source makes three jobs, one every two ticks from tick 1 on, a station serves each for three ticks, and a
-- sink takes them.
use Rattle.std.specs.Prelude.{true, false, List, [], ◌∷◌, ◌++◌, None, codes}
use Rattle.std.proofs.Common.{lit<, lit≤}
use Rattle.event_key.specs.declared.key.TheConstants.{INITIAL}
use Rattle.event_key.specs.Stamps.{stamp_at}
use Rattle.model_core.specs.Meaning.{Meaning}
use Rattle.random_streams.specs.declared.law.Law.TheVariants.{Fixed}
use Rattle.queue_models.specs.declared.kind.KindOver.TheVariants.{Source, Station, Sink}
use Rattle.queue_models.specs.Objects.{network_of}
use Rattle.queue_models.specs.Meaning.{network_meaning}
use Rattle.sim_spec.specs.declared.bucket.Bucket.{Bucket}
use Rattle.sim_spec.specs.declared.terms.Terms.{Terms}
use Rattle.worked_examples.specs.Notes.{make_part, take_part, wait_part, done_part, leave_part}
use Rattle.worked_examples.specs.Summaries.{key_at, told_at, whole_bucket, item_of}

unfoldable pub shop : Meaning
shop =
    network_meaning (network_of 0 (
    item_of (codes "source") (Source (record { first = 1; every = Fixed 2; count = 3; next = 1 }))
    ∷ item_of (codes "station") (Station (record { servers = 1; service = Fixed 3; line = 10; strict = false; next = 2 }))
    ∷ item_of (codes "sink") (Sink (record { due = None }))
    ∷ []) [])

unfoldable pub to_twenty : Terms
to_twenty = record { end = 20; limit = 10000000; end_in_range = lit< tt; some_event = lit≤ tt; limit_in_range = lit≤ tt }

unfoldable pub to_twelve_events : Terms
to_twelve_events = record { end = 20; limit = 12; end_in_range = lit< tt; some_event = lit≤ tt; limit_in_range = lit≤ tt }

unfoldable pub to_eleven_events : Terms
to_eleven_events = record { end = 20; limit = 11; end_in_range = lit< tt; some_event = lit≤ tt; limit_in_range = lit≤ tt }

unfoldable pub to_ten_events : Terms
to_ten_events = record { end = 20; limit = 10; end_in_range = lit< tt; some_event = lit≤ tt; limit_in_range = lit≤ tt }

unfoldable pub first_five_buckets : List Bucket
first_five_buckets =
    whole_bucket (stamp_at 1 1) (told_at (key_at 1 0 0 INITIAL 0) (make_part 1 2) ∷ [])
    ∷ whole_bucket (stamp_at 3 1) (told_at (key_at 1 1 1 0 0) (take_part 1 0) ∷ told_at (key_at 3 0 0 0 1) (make_part 2 1) ∷ [])
    ∷ whole_bucket (stamp_at 4 1) (told_at (key_at 3 1 1 0 2) (wait_part 2 1) ∷ told_at (key_at 4 0 1 1 0) (done_part 1 0) ∷ [])
    ∷ whole_bucket (stamp_at 5 1) (told_at (key_at 4 1 2 1 1) (leave_part 1 3) ∷ told_at (key_at 5 0 0 0 3) (make_part 3 0) ∷ [])
    ∷ whole_bucket (stamp_at 7 1) (told_at (key_at 5 1 1 0 4) (wait_part 3 1) ∷ told_at (key_at 7 0 1 1 2) (done_part 2 0) ∷ [])
    ∷ []

unfoldable pub first_six_buckets : List Bucket
first_six_buckets =
    first_five_buckets
    ++ whole_bucket (stamp_at 10 1) (told_at (key_at 7 1 2 1 3) (leave_part 2 4) ∷ told_at (key_at 10 0 1 1 4) (done_part 3 0) ∷ [])
    ∷ []

-- nothing is sent in the last one, so that its horizon is the end bound
unfoldable pub all_buckets : List Bucket
all_buckets = first_six_buckets ++ whole_bucket (stamp_at 21 0) (told_at (key_at 10 1 2 1 5) (leave_part 3 5) ∷ []) ∷ []

-- a bucket in which the limit is met has no horizon
unfoldable pub cut_buckets : List Bucket
cut_buckets =
    first_five_buckets
    ++ record { done = told_at (key_at 7 1 2 1 3) (leave_part 2 4) ∷ []; horizon = 0; fault = None; limited = true }
    ∷ []
