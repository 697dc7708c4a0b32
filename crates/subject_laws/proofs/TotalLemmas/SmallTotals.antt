-- Totals, computed: those of the counter of the small shop after eleven events, in which four jobs came, of which two were
-- served, one is in service and one waits.
use Rattle.std.proofs.Common.{lit<, lit≤, ◌≡◌, ℕ, refl, List, [], ◌∷◌, length, map}
use Rattle.std.specs.Prelude.{count_by}
use Rattle.event_key.specs.Stamps.{stamp_at}
use Rattle.model_core.specs.declared.event.Event.{Event}
use Rattle.sim_spec.specs.declared.terms.Terms.{Terms}
use Rattle.sim_stats.specs.declared.sums.Sums.{Sums}
use Rattle.queue_models.specs.Meaning.{plain_meaning, network_meaning}
use Rattle.run_laws.specs.Reached.{after_events, first_records}
use Rattle.run_laws.specs.Sent.{all_sent}
use Rattle.subject_laws.specs.FlowLaws.{comes_to, listed_at, ArrivalsAddUp}
use Rattle.subject_laws.proofs.QueueLemmas.SmallShop.{counter, shop, to_fifty}
use Rattle.subject_laws.specs.TotalLaws.{totals_at, IsAccountedFor}
use Rattle.subject_laws.proofs.Computing.{network_run}

-- a job is taken at 1, and others wait from 3, 5 and 7 on; two are done, at 6 and at 11
totals_seen : ◌≡◌ {A = Sums} (totals_at shop to_fifty 1 11) (record {
  arrivals = 4;
  served = 2;
  lost = 0;
  busy_ticks = 10;
  waiting_ticks = 13;
  occupancy = record { busy = 1; waiting = 1 };
  last = 11;
})
unfolding shop to_fifty network_run
totals_seen = refl

accounted_for : IsAccountedFor (totals_at shop to_fifty 1 11) (after_events 11 (network_meaning shop) to_fifty) 1 counter
unfolding shop to_fifty network_run
accounted_for = record { jobs = refl; busy = refl; waiting = refl; busy_ticks = lit≤ tt }

-- after three events one job has come to the counter, and one is on its way; none is of the list, and two were sent
flow_seen : ◌≡◌ {A = ℕ × ℕ × ℕ × ℕ} (
  (totals_at shop to_fifty 1 3).arrivals,
  count_by (comes_to shop 1) (after_events 3 (network_meaning shop) to_fifty).pending,
  listed_at shop 1,
  count_by (comes_to shop 1) (all_sent 3 (plain_meaning shop) to_fifty),
)
    (1, 1, 0, 2)
unfolding shop to_fifty network_run
flow_seen = refl

arrivals_add_up : ArrivalsAddUp shop to_fifty 1 3 (totals_at shop to_fifty 1 3) (after_events 3 (network_meaning shop) to_fifty)
unfolding shop to_fifty network_run
arrivals_add_up = refl

-- to tick 7 alone: the fourth job comes at the last tick, and the service that is to end at 11 never does
to_seven : Terms
to_seven = record { end = 7; limit = 100; end_in_range = lit< tt; some_event = lit≤ tt; limit_in_range = lit≤ tt }

end_seen : ◌≡◌ {A = ℕ × ℕ × List ℕ} (
  length (first_records 12 (network_meaning shop) to_seven),
  (totals_at shop to_seven 1 12).last,
  map (λ (e : Event). e.key.stamp) (after_events 12 (network_meaning shop) to_seven).pending,
)
    (10, 7, stamp_at 11 0 ∷ [])
unfolding to_seven shop network_run
end_seen = refl
