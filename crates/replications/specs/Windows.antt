-- What is summed up of one object within a window of time.
use Rattle.std.specs.Prelude.{ℕ, ◌+◌, ◌-◌, ◌*◌, ◌^◌, ◌≤◌, ◌==◌, max, nat_le, nat_lt, if◌then◌else◌, Bool, List, [], ◌∷◌, count_by, map}
use Rattle.std.specs.Int.{from_bool}
use Rattle.std.specs.List.{filter, sum_by}
use Rattle.model_core.specs.declared.note.Part.{Part}
use Rattle.model_core.specs.declared.words.TheConstants.{LEFT_WORD}
use Rattle.sim_stats.specs.declared.occupancy.Occupancy.{Occupancy}
use Rattle.sim_stats.specs.Words.{is_arrival, is_service, is_loss}
use Rattle.replications.specs.declared.left.Left.{Left}
use Rattle.replications.specs.declared.window.Columns.{Columns}
use Rattle.replications.specs.declared.window.Window.{Window}
use Rattle.replications.specs.Parts.{TimedPart, from_tick, age_told}
use Rattle.replications.specs.Stays.{left_at_first, lefts, last_left, spent}

abbrev pub busy_servers : Occupancy → ℕ
busy_servers now = now.busy

abbrev pub waiting_jobs : Occupancy → ℕ
waiting_jobs now = now.waiting

abbrev pub count_parts : (ℕ → Bool) → List TimedPart → ℕ
count_parts is_one told = count_by (λ (one : TimedPart). is_one one.part.word) told

-- the jobs that wait as a tick begins: as the last part before it leaves them
unfoldable pub line_before : ℕ → List Left → ℕ
line_before first_tick left = (last_left left_at_first (filter (λ (one : Left). nat_lt one.since first_tick) left)).occupancy.waiting

-- the greatest of some numbers, or 0
unfoldable pub greatest : List ℕ → ℕ
greatest [] = 0
greatest (n ∷ rest) = max n (greatest rest)

-- the most jobs that a part from this tick on leaves waiting
unfoldable pub longest_from : ℕ → List Left → ℕ
longest_from first_tick left = greatest (map (λ (one : Left). one.occupancy.waiting) (filter (λ (one : Left). nat_le first_tick one.since) left))

-- the sums from this tick to the last one
unfoldable pub sums_from : ℕ → ℕ → List TimedPart → Columns
sums_from first_tick last told = record {
  arrivals = count_parts is_arrival (from_tick first_tick told);
  served = count_parts is_service (from_tick first_tick told);
  lost = count_parts is_loss (from_tick first_tick told);
  busy = spent busy_servers first_tick last (lefts told);
  waiting = spent waiting_jobs first_tick last (lefts told);
  age = sum_by age_told (from_tick first_tick told);
  longest = max (line_before first_tick (lefts told)) (longest_from first_tick (lefts told));
}

abbrev pub no_sums : Columns
no_sums = record { arrivals = 0; served = 0; lost = 0; busy = 0; waiting = 0; age = 0; longest = 0 }

-- the sums of the ticks from the first to the last: all are 0 where the first comes after the last
unfoldable pub window_sums : ℕ → ℕ → List TimedPart → Columns
window_sums first_tick last told = if nat_lt last first_tick then no_sums else sums_from first_tick last told

-- what is known of an object once these parts are told: the sums up to the last of them, and what that one left
unfoldable pub window_of : ℕ → List TimedPart → Window
window_of first_tick told = record {
  sums = record {
    arrivals = count_parts is_arrival (from_tick first_tick told);
    served = count_parts is_service (from_tick first_tick told);
    lost = count_parts is_loss (from_tick first_tick told);
    busy = spent busy_servers first_tick (last_left left_at_first (lefts told)).since (lefts told);
    waiting = spent waiting_jobs first_tick (last_left left_at_first (lefts told)).since (lefts told);
    age = sum_by age_told (from_tick first_tick told);
    longest = longest_from first_tick (lefts told);
  };
  begins = line_before first_tick (lefts told);
  left = last_left left_at_first (lefts told);
}

-- time goes on to a tick: who is there stays until then
abbrev pub passed : ℕ → ℕ → Window → Window
passed first_tick time w =
    let ticks = time - max w.left.since first_tick in
    record w {
      sums = record w.sums {
        busy = w.sums.busy + ticks * w.left.occupancy.busy;
        waiting = w.sums.waiting + ticks * w.left.occupancy.waiting;
      };
    }

-- a part within the window counts, where what it leaves is already set
abbrev pub counted : Part → Window → Window
counted part w = record w {
  sums = record w.sums {
    arrivals = w.sums.arrivals + from_bool (is_arrival part.word);
    served = w.sums.served + from_bool (is_service part.word);
    lost = w.sums.lost + from_bool (is_loss part.word);
    age = w.sums.age + (if part.word == LEFT_WORD then part.b else 0);
    longest = max w.sums.longest w.left.occupancy.waiting;
  };
}

-- sums over at most so many parts, each told before tick 2^48
pub record IsWithin (parts : ℕ) (window : Window) : Type 0 where
  pub arrivals : window.sums.arrivals ≤ parts
  pub served : window.sums.served ≤ parts
  pub lost : window.sums.lost ≤ parts
  pub busy_now : window.left.occupancy.busy ≤ parts
  pub waiting_now : window.left.occupancy.waiting ≤ parts
  pub busy : window.sums.busy ≤ parts * 2 ^ 82
  pub waiting : window.sums.waiting ≤ parts * 2 ^ 82
  pub age : window.sums.age ≤ parts * 2 ^ 64
