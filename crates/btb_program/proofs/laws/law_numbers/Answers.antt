use Rattle.std.proofs.Common.{refl}
use Rattle.btb_program.proofs.laws.law_numbers.Goals as goal

pub returns : goal.returns
returns c = record {
  most_rank = refl;
  initial = refl;
  no_stamp = refl;
  steps = refl;
  last_tick = refl;
  most_value = refl;
  most_trials = refl;
  most_weights = refl;
  most_weight = refl;
  most_objects = refl;
  most_entries = refl;
  most_text_bytes = refl;
  most_nodes = refl;
  most_ahead = refl;
  most_demo_stations = refl;
  most_events = refl;
  hop_word = refl;
  made_word = refl;
  taken_word = refl;
  waiting_word = refl;
  lost_word = refl;
  done_word = refl;
  held_word = refl;
  routed_word = refl;
  left_word = refl;
  load_word = refl;
  level_word = refl;
  endless_chain = refl;
  line_full = refl;
  late = refl;
  most_jobs = refl;
  most_servers = refl;
  most_waiting = refl;
  most_delay = refl;
  most_flips = refl;
  most_fed = refl;
  most_pins = refl;
  enough_bytes = refl;
  default_nodes = refl;
  default_ahead = refl;
  most_saved_cycles = refl;
  most_state_bytes = refl;
  slots = refl;
  end = refl;
  event_fault = refl;
  words = refl;
  model = refl;
  read_fault = refl;
  write_fault = refl;
  out_of_memory = refl;
  event_limit = refl;
  state = refl;
}
