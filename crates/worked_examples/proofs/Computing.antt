-- What the examples compute with, so that each proof names it by one word on its `unfolding` line.
use Rattle.event_key.specs.Keys.{key_lt, key_cmp}
use Rattle.event_key.specs.Stamps.{next_stamp, has_no_step}
use Rattle.delta_exchange.specs.Changes.{cells_after_all, inverses_of}
use Rattle.random_streams.specs.Laws.{draw, drawn_value, words_read}
use Rattle.key_order.specs.Due.{is_due}
use Rattle.key_order.specs.Pending.{enqueue, enqueue_all}
use Rattle.key_order.specs.Stamps.{least_stamp}
use Rattle.model_core.specs.Places.{place_changes}
use Rattle.phold_model.specs.Meaning.{phold_meaning, starts_of, hop_effect, hop_delay, hop_dest, hop_next}
use Rattle.queue_models.specs.Meaning.{start_of, network_meaning}
use Rattle.queue_models.specs.Objects.{sources_below}
use Rattle.queue_models.specs.Sinks.{sink_effect}
use Rattle.queue_models.specs.Sources.{last_effect, make_effect, source_effect}
use Rattle.queue_models.specs.Stations.{take_effect, wait_effect, arrival_outcome, serve_effect, free_effect, done_effect, station_effect}
use Rattle.sim_spec.specs.Cut.{emissions_of, objects_after, state_with_done, is_limited, committed_events, after, cut}
use Rattle.sim_spec.specs.Cycles.{cycles_behind, cycles_on, cycles_for, cycles}
use Rattle.sim_spec.specs.Firing.{has_endless_chain, emissions, fired_by, fire}
use Rattle.sim_spec.specs.Horizon.{bucket_fired, bucket_below, horizon_bucket}
use Rattle.sim_spec.specs.Replay.{replay_fired, replay, events_at}
use Rattle.sim_spec.specs.Run.{next, next_of, next_fired}
use Rattle.sim_spec.specs.State.{initial_state}
use Rattle.world_spec.specs.Moves.{due_count}
use Rattle.world_spec.specs.Share.{log_of}

-- bucket by bucket, and what a node does ahead of them
unfoldable pub buckets : Unit {0}
unfolding key_lt key_cmp next_stamp has_no_step cells_after_all inverses_of draw drawn_value words_read place_changes is_due enqueue enqueue_all least_stamp
    has_endless_chain emissions fired_by fire initial_state next next_of next_fired bucket_fired bucket_below horizon_bucket
    emissions_of objects_after state_with_done is_limited committed_events after cut cycles_behind cycles_on cycles_for cycles
    replay_fired replay events_at log_of due_count
buckets = tt

unfoldable pub phold_buckets : Unit {0}
unfolding buckets phold_meaning starts_of hop_effect hop_delay hop_dest hop_next
phold_buckets = tt

unfoldable pub network_buckets : Unit {0}
unfolding buckets network_meaning start_of sources_below source_effect last_effect make_effect
    station_effect arrival_outcome take_effect wait_effect done_effect serve_effect free_effect sink_effect
network_buckets = tt
