-- A ring of three objects, computed: one event at each at time 0, and a further one.
use Rattle.std.proofs.Common.{lit<, lit≤, ◌≡◌, ℕ, false, refl, [], ◌∷◌, length, map}
use Rattle.event_key.specs.Stamps.{time_part}
use Rattle.random_streams.specs.declared.law.Law.TheVariants.{Fixed}
use Rattle.sim_spec.specs.declared.terms.Terms.{Terms}
use Rattle.sim_spec.specs.State.{State}
use Rattle.phold_model.specs.Meaning.{phold_meaning}
use Rattle.phold_model.specs.Parts.{PholdParts}
use Rattle.run_laws.specs.Reached.{after_events, Reaches}
use Rattle.subject_laws.specs.PholdLaws.{population}
use Rattle.subject_laws.proofs.Computing.{phold_run}

ring : PholdParts
ring = record { seed = 7; objects = 3; delay = Fixed 5; uniform = false; each = 1; start = record { time = 2; at = 1; rank = 0 } ∷ []; rank = 0 }

to_twenty : Terms
to_twenty = record { end = 20; limit = 100; end_in_range = lit< tt; some_event = lit≤ tt; limit_in_range = lit≤ tt }

-- after four events all of the start are done, and four others are pending
four_done : State
four_done = after_events 4 (phold_meaning ring) to_twenty

four_done_reached : Reaches (phold_meaning ring) to_twenty four_done
unfolding four_done
four_done_reached = (4, refl)

what_is_pending : map {B = ℕ × ℕ × ℕ} (λ e. (time_part e.key.stamp, e.key.dest, e.key.src)) four_done.pending ≡ (5, 0, 2) ∷ (5, 1, 0) ∷ (5, 2, 1) ∷ (7, 2, 1) ∷ []
unfolding four_done ring to_twenty phold_run
what_is_pending = refl

as_many : length four_done.pending ≡ population ring
unfolding four_done ring to_twenty phold_run
as_many = refl
