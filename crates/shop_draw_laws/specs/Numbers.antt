-- The numbers of shops that definitions cite by their names, as `law_numbers` of `btb_program` has those of `btb`.
use Rattle.std.specs.Prelude.{◌≡◌}
use Rattle.model_core.specs.declared.words.TheConstants.{DELAYED_WORD, WENT_WORD, DROPPED_WORD, OVERDUE_WORD, CALLED_WORD, FREED_WORD, RENEGED_WORD, OPENED_WORD, DOWN_WORD, UP_WORD}
use Rattle.random_streams.specs.declared.delay_law.TheConstants.{MOST_UNIT}
use Rattle.random_streams.specs.declared.shares.TheConstants.{MOST_SHARES}
use Rattle.shop_model.specs.declared.class.TheConstants.{MADE, INSIDE, MOST_COUNT, MOST_DUE, MOST_PRIORITY, MOST_STEPS, MOST_TIMES}
use Rattle.shop_model.specs.declared.done.TheConstants.{LONGEST}
use Rattle.shop_model.specs.declared.job.TheConstants.{JOBS_A_CLASS}
use Rattle.shop_model.specs.declared.kinds.TheConstants.{MAKE, COME, DONE, CALL, TIRE, SHIFT, BREAK, MEND, COME_RANK}
use Rattle.shop_model.specs.declared.levels.TheConstants.{EMPTY, NEVER}
use Rattle.shop_model.specs.declared.station.TheConstants.{OPEN, HELD, WAITING, DOWN, LAG, GONE, FREE_SERVERS, MOST_OPEN, MOST_LINE, MOST_SHIFTS}

pub record Numbers : Type 0 where
  -- what is drawn
  pub most_shares : MOST_SHARES ≡ 1024
  pub most_unit : MOST_UNIT ≡ 16777216
  -- stations
  pub most_open : MOST_OPEN ≡ 1024
  pub most_line : MOST_LINE ≡ 65536
  pub most_shifts : MOST_SHIFTS ≡ 1024
  -- classes and their routes
  pub most_times : MOST_TIMES ≡ 250000
  pub most_count : MOST_COUNT ≡ 9999999
  pub most_priority : MOST_PRIORITY ≡ 7
  pub most_due : MOST_DUE ≡ 70368744177663
  pub most_steps : MOST_STEPS ≡ 1024
  pub jobs_a_class : JOBS_A_CLASS ≡ 10000000
  -- the words and the first line of a station
  pub open_word : OPEN ≡ 1
  pub held_word : HELD ≡ 2
  pub waiting_word : WAITING ≡ 3
  pub down_word : DOWN ≡ 4
  pub lag_word : LAG ≡ 5
  pub gone_words : GONE ≡ 6
  pub free_servers : FREE_SERVERS ≡ 0
  -- an entry of a line: from here on it is an empty place, and this is when a wait without patience ends
  pub empty : EMPTY ≡ 9223372036854775808
  pub never : NEVER ≡ 18446744073709551615
  -- the words of a class
  pub made_word : MADE ≡ 1
  pub inside_word : INSIDE ≡ 2
  -- the kinds of events, the rank of a job that comes, and for how long a service is put off at once
  pub make : MAKE ≡ 1
  pub come : COME ≡ 2
  pub done : DONE ≡ 3
  pub call : CALL ≡ 4
  pub tire : TIRE ≡ 5
  pub shift : SHIFT ≡ 6
  pub break : BREAK ≡ 7
  pub mend : MEND ≡ 8
  pub come_rank : COME_RANK ≡ 8
  pub longest : LONGEST ≡ 1099511627776
  -- the words of notes
  pub told_delayed : DELAYED_WORD ≡ 12
  pub told_went : WENT_WORD ≡ 13
  pub told_dropped : DROPPED_WORD ≡ 14
  pub told_overdue : OVERDUE_WORD ≡ 15
  pub told_called : CALLED_WORD ≡ 16
  pub told_freed : FREED_WORD ≡ 17
  pub told_reneged : RENEGED_WORD ≡ 18
  pub told_opened : OPENED_WORD ≡ 19
  pub told_down : DOWN_WORD ≡ 20
  pub told_up : UP_WORD ≡ 21
