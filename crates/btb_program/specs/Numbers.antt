-- The numbers that definitions cite by their names.
use Rattle.std.specs.Prelude.{◌≡◌}
use Rattle.event_key.specs.declared.key.TheConstants.{MOST_RANK, INITIAL}
use Rattle.event_key.specs.declared.stamp.TheConstants.{NO_STAMP, STEPS, LAST_TICK}
use Rattle.random_streams.specs.declared.law.TheConstants.{MOST_VALUE, MOST_TRIALS}
use Rattle.random_streams.specs.declared.weights.TheConstants.{MOST_WEIGHTS, MOST_WEIGHT}
use Rattle.model_core.specs.declared.limits.TheConstants.{MOST_OBJECTS, MOST_ENTRIES, MOST_TEXT_BYTES, MOST_NODES, MOST_AHEAD, MOST_DEMO_STATIONS, MOST_EVENTS}
use Rattle.model_core.specs.declared.words.TheConstants.{HOP_WORD, MADE_WORD, TAKEN_WORD, WAITING_WORD, LOST_WORD, DONE_WORD, HELD_WORD, ROUTED_WORD, LEFT_WORD, LOAD_WORD, LEVEL_WORD, ENDLESS_CHAIN, LINE_FULL, LATE}
use Rattle.speedes_queue.specs.declared.slots.TheConstants.{SLOTS}
use Rattle.queue_models.specs.declared.source.TheConstants.{MOST_JOBS}
use Rattle.queue_models.specs.declared.station.TheConstants.{MOST_SERVERS, MOST_WAITING}
use Rattle.circuit_model.specs.declared.limits.TheConstants.{MOST_DELAY, MOST_FLIPS, MOST_FED, MOST_PINS}
use Rattle.sim_io.specs.declared.streams.reading.TheConstants.{ENOUGH_BYTES}
use Rattle.sim_io.specs.declared.words.TheConstants.{DEFAULT_NODES, DEFAULT_AHEAD, MOST_SAVED_CYCLES}
use Rattle.run_save.specs.declared.reading.TheConstants.{MOST_STATE_BYTES}
use Rattle.program_answers.specs.declared.status.TheConstants.{END, EVENT_FAULT, WORDS, MODEL, READ_FAULT, WRITE_FAULT, OUT_OF_MEMORY, EVENT_LIMIT, STATE}

pub record Numbers : Type 0 where
  -- ranks and stamps
  pub most_rank : MOST_RANK ≡ 255
  pub initial : INITIAL ≡ 4294967295
  pub no_stamp : NO_STAMP ≡ 18446744073709551615
  pub steps : STEPS ≡ 65536
  pub last_tick : LAST_TICK ≡ 70368744177663
  -- what is drawn
  pub most_value : MOST_VALUE ≡ 1099511627776
  pub most_trials : MOST_TRIALS ≡ 65536
  pub most_weights : MOST_WEIGHTS ≡ 64
  pub most_weight : MOST_WEIGHT ≡ 65535
  -- models, and what the words say of nodes and demos
  pub most_objects : MOST_OBJECTS ≡ 65536
  pub most_entries : MOST_ENTRIES ≡ 65536
  pub most_text_bytes : MOST_TEXT_BYTES ≡ 1048576
  pub most_nodes : MOST_NODES ≡ 64
  pub most_ahead : MOST_AHEAD ≡ 1024
  pub most_demo_stations : MOST_DEMO_STATIONS ≡ 256
  pub most_events : MOST_EVENTS ≡ 1000000000
  -- the words of notes, and the codes of faults
  pub hop_word : HOP_WORD ≡ 1
  pub made_word : MADE_WORD ≡ 2
  pub taken_word : TAKEN_WORD ≡ 3
  pub waiting_word : WAITING_WORD ≡ 4
  pub lost_word : LOST_WORD ≡ 5
  pub done_word : DONE_WORD ≡ 6
  pub held_word : HELD_WORD ≡ 7
  pub routed_word : ROUTED_WORD ≡ 8
  pub left_word : LEFT_WORD ≡ 9
  pub load_word : LOAD_WORD ≡ 10
  pub level_word : LEVEL_WORD ≡ 11
  pub endless_chain : ENDLESS_CHAIN ≡ 1
  pub line_full : LINE_FULL ≡ 2
  pub late : LATE ≡ 3
  -- networks
  pub most_jobs : MOST_JOBS ≡ 1000000
  pub most_servers : MOST_SERVERS ≡ 1024
  pub most_waiting : MOST_WAITING ≡ 65536
  -- circuits
  pub most_delay : MOST_DELAY ≡ 1099511627776
  pub most_flips : MOST_FLIPS ≡ 300000
  pub most_fed : MOST_FED ≡ 8
  pub most_pins : MOST_PINS ≡ 8
  -- what is read at most, and what the words set where they say nothing
  pub enough_bytes : ENOUGH_BYTES ≡ 1048577
  pub default_nodes : DEFAULT_NODES ≡ 4
  pub default_ahead : DEFAULT_AHEAD ≡ 8
  pub most_saved_cycles : MOST_SAVED_CYCLES ≡ 9999999
  pub most_state_bytes : MOST_STATE_BYTES ≡ 67108864
  -- the slots of a queue of events
  pub slots : SLOTS ≡ 57
  -- exit statuses
  pub end : END ≡ 0
  pub event_fault : EVENT_FAULT ≡ 1
  pub words : WORDS ≡ 2
  pub model : MODEL ≡ 3
  pub read_fault : READ_FAULT ≡ 4
  pub write_fault : WRITE_FAULT ≡ 5
  pub out_of_memory : OUT_OF_MEMORY ≡ 6
  pub event_limit : EVENT_LIMIT ≡ 7
  pub state : STATE ≡ 8
