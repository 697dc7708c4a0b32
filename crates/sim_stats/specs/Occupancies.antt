-- Who is at an object: busy servers and waiting jobs, as words that are told leave them.
use Rattle.std.specs.Prelude.{ℕ, ◌+◌, ◌-◌, ◌==◌, nat_lt, if◌then◌else◌, List, [], ◌∷◌}
use Rattle.model_core.specs.declared.words.TheConstants.{TAKEN_WORD, WAITING_WORD, DONE_WORD}
use Rattle.sim_stats.specs.declared.occupancy.Occupancy.{Occupancy}
use Rattle.sim_stats.specs.Words.{TimedWord}

abbrev pub nobody : Occupancy
nobody = record { busy = 0; waiting = 0 }

-- one job less waits where one does, and else one server less is busy where one is
abbrev pub after_done : Occupancy → Occupancy
after_done now =
    if nat_lt 0 now.waiting then record { busy = now.busy; waiting = now.waiting - 1 }
    else record { busy = now.busy - 1; waiting = now.waiting }

-- a `take` adds one busy server, a `wait` one waiting job, and other words but `done` change neither
abbrev pub after_word : Occupancy → ℕ → Occupancy
after_word now word =
    if word == TAKEN_WORD then record { busy = now.busy + 1; waiting = now.waiting }
    else if word == WAITING_WORD then record { busy = now.busy; waiting = now.waiting + 1 }
    else if word == DONE_WORD then after_done now
    else now

-- one word after another
unfoldable pub after_words : Occupancy → List TimedWord → Occupancy
after_words now [] = now
after_words now (told ∷ rest) = after_words (after_word now told.word) rest

-- an occupancy that lasts for so many ticks
pub record Interval : Type 0 where
  pub occupancy : Occupancy
  pub ticks : ℕ

-- the intervals up to each of these words, from a time on
unfoldable pub intervals_from : Occupancy → ℕ → List TimedWord → List Interval
intervals_from now time [] = []
intervals_from now time (told ∷ rest) =
    record { occupancy = now; ticks = told.time - time } ∷ intervals_from (after_word now told.word) told.time rest

-- between each word and the next: what the earlier one leaves lasts until the later one
unfoldable pub intervals : List TimedWord → List Interval
intervals [] = []
intervals (first ∷ rest) = intervals_from (after_word nobody first.word) first.time rest
