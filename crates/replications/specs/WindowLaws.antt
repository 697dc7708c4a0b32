-- Laws of windows.
use Rattle.std.specs.Prelude.{◌≡◌, ℕ, ◌+◌, ◌-◌, ◌*◌, ◌<◌, ◌≤◌, nat_lt, List, [], ◌∷◌, map}
use Rattle.std.specs.List.{filter}
use Rattle.sim_stats.specs.Sums.{sums_of}
use Rattle.sim_stats.specs.Words.{TimedWord}
use Rattle.replications.specs.declared.window.Columns.{Columns}
use Rattle.replications.specs.Parts.{TimedPart}
use Rattle.replications.specs.Windows.{window_sums}

-- the words of parts, each at its time
unfoldable pub words_of : List TimedPart → List TimedWord
words_of told = map (λ (one : TimedPart). record { time = one.time; word = one.part.word }) told

-- the sums from tick 0 on are the totals, and go on from the last part to the last tick
pub record GoesOnFromTotals (last : ℕ) (told : List TimedPart) : Type 0 where
  pub arrivals : (window_sums 0 last told).arrivals ≡ (sums_of (words_of told)).arrivals
  pub served : (window_sums 0 last told).served ≡ (sums_of (words_of told)).served
  pub lost : (window_sums 0 last told).lost ≡ (sums_of (words_of told)).lost
  pub busy : (window_sums 0 last told).busy
      ≡ (sums_of (words_of told)).busy_ticks + (last - (sums_of (words_of told)).last) * (sums_of (words_of told)).occupancy.busy
  pub waiting : (window_sums 0 last told).waiting
      ≡ (sums_of (words_of told)).waiting_ticks + (last - (sums_of (words_of told)).last) * (sums_of (words_of told)).occupancy.waiting

abbrev pub WindowLaw : Type 0
WindowLaw = (last : ℕ) (told : List TimedPart) → GoesOnFromTotals last told

-- the parts told before a tick
unfoldable pub before_tick : ℕ → List TimedPart → List TimedPart
before_tick tick told = filter (λ (one : TimedPart). nat_lt one.time tick) told

-- none is told before one that stands before it
unfoldable pub InOrder : List TimedPart → Type 0
InOrder [] = Unit {0}
InOrder (one ∷ []) = Unit {0}
InOrder (one ∷ next ∷ rest) = (one.time ≤ next.time) × InOrder (next ∷ rest)

-- a column of a window is what it is up to a tick within it, over what is told before that tick, and what it is from there on
abbrev pub AddsUpAt : ℕ → ℕ → ℕ → List TimedPart → (Columns → ℕ) → Type 0
AddsUpAt first_tick middle last told column =
    column (window_sums first_tick last told)
    ≡ column (window_sums first_tick middle (before_tick middle told)) + column (window_sums middle last told)

-- so it is with all of them but the longest line
pub record IsCutAt (first_tick middle last : ℕ) (told : List TimedPart) : Type 0 where
  pub arrivals : AddsUpAt first_tick middle last told (λ sums. sums.arrivals)
  pub served : AddsUpAt first_tick middle last told (λ sums. sums.served)
  pub lost : AddsUpAt first_tick middle last told (λ sums. sums.lost)
  pub busy : AddsUpAt first_tick middle last told (λ sums. sums.busy)
  pub waiting : AddsUpAt first_tick middle last told (λ sums. sums.waiting)
  pub age : AddsUpAt first_tick middle last told (λ sums. sums.age)

abbrev pub WindowsAdd : Type 0
WindowsAdd =
    (first_tick middle last : ℕ) (told : List TimedPart) → first_tick < middle → middle ≤ last → InOrder told → IsCutAt first_tick middle last told
