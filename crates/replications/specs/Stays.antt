-- Who is at an object as each part that is told leaves it, and for how long.
use Rattle.std.specs.Prelude.{ℕ, ◌-◌, ◌*◌, max, List, [], ◌∷◌}
use Rattle.std.specs.List.{sum_by}
use Rattle.sim_stats.specs.declared.occupancy.Occupancy.{Occupancy}
use Rattle.sim_stats.specs.Occupancies.{nobody, after_word}
use Rattle.replications.specs.declared.left.Left.{Left}
use Rattle.replications.specs.Parts.{TimedPart}

-- nobody is there before anything is told
abbrev pub left_at_first : Left
left_at_first = record { since = 0; occupancy = nobody }

-- what a part leaves
abbrev pub left_by : Occupancy → TimedPart → Left
left_by now one = record { since = one.time; occupancy = after_word now one.part.word }

-- what each part leaves, after those before it
unfoldable pub lefts_after : Occupancy → List TimedPart → List Left
lefts_after now [] = []
lefts_after now (one ∷ rest) = left_by now one ∷ lefts_after (after_word now one.part.word) rest

abbrev pub lefts : List TimedPart → List Left
lefts told = lefts_after nobody told

-- the last of these, and this one where there is none
unfoldable pub last_left : Left → List Left → Left
last_left before [] = before
last_left before (left ∷ rest) = last_left left rest

-- what a part leaves, until a tick
pub record Stay : Type 0 where
  pub left : Left
  pub until : ℕ

abbrev pub next_since : ℕ → List Left → ℕ
next_since last [] = last
next_since last (left ∷ rest) = left.since

-- what each part leaves lasts until the next one, and what the last part leaves until the last tick
unfoldable pub stays : ℕ → List Left → List Stay
stays last [] = []
stays last (left ∷ rest) = record { left = left; until = next_since last rest } ∷ stays last rest

-- for how many ticks from the first one on: no stay goes on past the last tick
abbrev pub ticks_within : ℕ → Stay → ℕ
ticks_within first_tick stay = stay.until - max stay.left.since first_tick

-- the sum over all stays of how many there are of something, times the ticks between the first and the last for which they are there
unfoldable pub spent : (Occupancy → ℕ) → ℕ → ℕ → List Left → ℕ
spent of first_tick last left = sum_by (λ (stay : Stay). ticks_within first_tick stay * of stay.left.occupancy) (stays last left)
