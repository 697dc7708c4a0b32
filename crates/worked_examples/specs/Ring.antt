-- PHOLD (Fujimoto 1990) with a fixed delay: three objects in a ring, whose events take five ticks from each to the next.
use Rattle.std.specs.Prelude.{false, List, [], ◌∷◌}
use Rattle.std.proofs.Common.{lit<, lit≤}
use Rattle.event_key.specs.declared.key.TheConstants.{INITIAL}
use Rattle.event_key.specs.Stamps.{stamp_at}
use Rattle.model_core.specs.Meaning.{Meaning}
use Rattle.random_streams.specs.declared.law.Law.TheVariants.{Fixed}
use Rattle.phold_model.specs.Parts.{phold_parts}
use Rattle.phold_model.specs.Meaning.{phold_meaning}
use Rattle.sim_spec.specs.declared.bucket.Bucket.{Bucket}
use Rattle.sim_spec.specs.declared.terms.Terms.{Terms}
use Rattle.worked_examples.specs.Notes.{hop_part}
use Rattle.worked_examples.specs.Summaries.{key_at, told_at, whole_bucket, entry_at}

-- one event is at the second object at time 0, another at the first one at time 5
unfoldable pub ring : Meaning
ring = phold_meaning (phold_parts 0 3 (Fixed 5) false 0 (entry_at 0 1 ∷ entry_at 5 0 ∷ []) 0)

unfoldable pub to_nine : Terms
to_nine = record { end = 9; limit = 10000000; end_in_range = lit< tt; some_event = lit≤ tt; limit_in_range = lit≤ tt }

unfoldable pub ring_buckets : List Bucket
ring_buckets =
    whole_bucket (stamp_at 5 0) (told_at (key_at 0 0 1 INITIAL 0) (hop_part 5 2) ∷ [])
    ∷ whole_bucket (stamp_at 10 0) (told_at (key_at 5 0 0 INITIAL 1) (hop_part 5 1) ∷ told_at (key_at 5 0 2 1 0) (hop_part 5 0) ∷ [])
    ∷ []
