-- The sums of one object over what is told of it.
use Rattle.std.specs.Prelude.{ℕ, ◌*◌, ◌≤◌, Bool, List, [], ◌∷◌, ◌++◌, count_by, codes, decimal}
use Rattle.std.specs.List.{sum_by}
use Rattle.sim_stats.specs.declared.sums.Sums.{Sums}
use Rattle.sim_stats.specs.Occupancies.{nobody, after_words, Interval, intervals}
use Rattle.sim_stats.specs.Words.{is_arrival, is_service, is_loss, TimedWord}

abbrev pub count_told : (ℕ → Bool) → List TimedWord → ℕ
count_told is_one told = count_by (λ (one : TimedWord). is_one one.word) told

-- servers times the ticks for which they are busy: up to the last word, and not to the end of the simulation
abbrev pub busy_ticks : List TimedWord → ℕ
busy_ticks told = sum_by (λ (i : Interval). i.ticks * i.occupancy.busy) (intervals told)

-- jobs times the ticks for which they wait
abbrev pub waiting_ticks : List TimedWord → ℕ
waiting_ticks told = sum_by (λ (i : Interval). i.ticks * i.occupancy.waiting) (intervals told)

-- when the last word is told, and this time where there is none
unfoldable pub last_told : ℕ → List TimedWord → ℕ
last_told time [] = time
last_told time (told ∷ rest) = last_told told.time rest

unfoldable pub sums_of : List TimedWord → Sums
sums_of told = record {
  arrivals = count_told is_arrival told;
  served = count_told is_service told;
  lost = count_told is_loss told;
  busy_ticks = busy_ticks told;
  waiting_ticks = waiting_ticks told;
  occupancy = after_words nobody told;
  last = last_told 0 told;
}

-- sums over at most so many words
pub record IsWithin (words : ℕ) (sums : Sums) : Type 0 where
  pub arrivals : sums.arrivals ≤ words
  pub served : sums.served ≤ words
  pub lost : sums.lost ≤ words
  pub busy : sums.occupancy.busy ≤ words
  pub waiting : sums.occupancy.waiting ≤ words
  pub busy_ticks : sums.busy_ticks ≤ words * sums.last
  pub waiting_ticks : sums.waiting_ticks ≤ words * sums.last

-- what is printed of them
unfoldable pub sums_text : Sums → List ℕ
sums_text sums =
    codes " arrivals " ++ (decimal sums.arrivals ++ (codes " served " ++ (decimal sums.served ++ (codes " lost " ++ (decimal sums.lost
    ++ (codes " busy " ++ (decimal sums.busy_ticks ++ (codes " waiting " ++ (decimal sums.waiting_ticks ++ codes "\n")))))))))
