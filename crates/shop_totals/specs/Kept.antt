-- A number that changes with what is told, and its sum over the ticks.
use Rattle.std.specs.Prelude.{ℕ, ◌-◌, max, List, [], ◌∷◌, sum_by}
use Rattle.std.specs.List.{range_with_len}
use Rattle.model_core.specs.declared.note.Part.{Part}
use Rattle.shop_totals.specs.declared.kept.Kept.{Kept}
use Rattle.shop_totals.specs.Told.{TimedPart, told_by}

-- the number after what is told, one part after another
unfoldable pub number_after : (ℕ → Part → ℕ) → ℕ → List TimedPart → ℕ
number_after after now [] = now
number_after after now (one ∷ rest) = number_after after (after now one.part) rest

-- the sum of the number over the ticks from the first one on and before the clock, as what is told up to a tick leaves it there
unfoldable pub ticks_of : (ℕ → Part → ℕ) → ℕ → ℕ → List TimedPart → ℕ → ℕ
ticks_of after now first told clock = sum_by (λ tick. number_after after now (told_by tick told)) (range_with_len first (clock - first))

abbrev pub kept_of : (ℕ → Part → ℕ) → ℕ → ℕ → List TimedPart → ℕ → Kept
kept_of after now first told clock = record { number = number_after after now told; ticks = ticks_of after now first told clock }

-- how many ticks from a first one on lie between two times
abbrev pub ticks_between : ℕ → ℕ → ℕ → ℕ
ticks_between first earlier later = max later first - max earlier first
