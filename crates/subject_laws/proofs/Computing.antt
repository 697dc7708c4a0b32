-- What a small run computes with, so that a proof about one can name all of it by one word on its `unfolding` line.
use Rattle.event_key.specs.Keys.{key_lt, key_cmp, same_key}
use Rattle.event_key.specs.Stamps.{next_stamp, has_no_step}
use Rattle.delta_exchange.specs.Changes.{cells_after_all, inverses_of}
use Rattle.rand_core.specs.Steps.{u32_at}
use Rattle.rand_chacha.specs.Block.{quarter_round, column_round, diagonal_round, double_rounds, block_word}
use Rattle.random_streams.specs.Laws.{draw, drawn_value, words_read, chosen_place}
use Rattle.random_streams.specs.Words.{word_of}
use Rattle.key_order.specs.Pending.{enqueue, enqueue_all}
use Rattle.model_core.specs.Places.{place_changes}
use Rattle.sim_spec.specs.Firing.{has_endless_chain, emissions, fired_by, fire}
use Rattle.sim_spec.specs.State.{initial_state}
use Rattle.sim_spec.specs.Run.{next, next_of, next_fired, run, run_for, run_on}
use Rattle.circuit_model.specs.Events.{output_on, output_after, gate_effect}
use Rattle.circuit_model.specs.Gates.{value_of}
use Rattle.circuit_model.specs.Meaning.{circuit_meaning}
use Rattle.circuit_model.specs.Starts.{computes_below, flips_below, starts_of as circuit_starts}
use Rattle.circuit_model.specs.Wiring.{pins_below, fed_among}
use Rattle.phold_model.specs.Meaning.{phold_meaning, starts_of, hop_effect, hop_delay, hop_dest, hop_next}
use Rattle.queue_models.specs.Delays.{delay_effect}
use Rattle.queue_models.specs.Meaning.{plain_meaning, network_meaning, start_of}
use Rattle.queue_models.specs.Objects.{sources_below}
use Rattle.queue_models.specs.Rings.{ring_station, ring_delay}
use Rattle.queue_models.specs.Routers.{router_effect}
use Rattle.queue_models.specs.Sinks.{sink_effect}
use Rattle.queue_models.specs.Sources.{idle_effect, last_effect, make_effect, source_effect}
use Rattle.queue_models.specs.Stations.{take_effect, wait_effect, lose_effect, arrival_outcome, serve_effect, free_effect, done_effect, station_effect}
use Rattle.run_laws.specs.Reached.{left_by, after_events, gathered}
use Rattle.run_laws.specs.Sent.{sent_next}
use Rattle.sim_stats.specs.Occupancies.{after_words, intervals, intervals_from}
use Rattle.sim_stats.specs.Sums.{last_told, sums_of}
use Rattle.sim_stats.specs.Words.{words_told}
use Rattle.subject_laws.specs.Jobs.{whereabouts, in_the_system}

-- random words, and what is drawn by them
unfoldable pub random_draw : Unit {0}
unfolding word_of u32_at quarter_round column_round diagonal_round double_rounds block_word draw drawn_value words_read chosen_place
random_draw = tt

-- the run of any model
unfoldable pub any_run : Unit {0}
unfolding random_draw key_lt key_cmp same_key next_stamp has_no_step cells_after_all inverses_of enqueue enqueue_all place_changes
    has_endless_chain emissions fired_by fire initial_state next next_of next_fired run run_for run_on left_by after_events gathered sent_next
any_run = tt

unfoldable pub phold_run : Unit {0}
unfolding any_run phold_meaning starts_of hop_effect hop_delay hop_dest hop_next
phold_run = tt

unfoldable pub circuit_run : Unit {0}
unfolding any_run circuit_meaning circuit_starts computes_below flips_below pins_below fed_among gate_effect output_after output_on value_of
circuit_run = tt

-- the run of a network, what is told of it, and where its jobs are
unfoldable pub network_run : Unit {0}
unfolding any_run plain_meaning network_meaning start_of sources_below
    source_effect idle_effect last_effect make_effect station_effect arrival_outcome take_effect wait_effect lose_effect done_effect serve_effect free_effect
    delay_effect router_effect sink_effect ring_station ring_delay
    sums_of words_told last_told after_words intervals intervals_from whereabouts in_the_system
network_run = tt
