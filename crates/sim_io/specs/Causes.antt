-- Counts of failures, and what a failure shows in them.
use Rattle.std.specs.Prelude.{◌≡◌, ◌==◌, if◌then◌else◌, ℕ, ◌+◌, ◌-◌, ◌^◌, ◌<◌, ◌≤◌, min, List, length, Result, IfOk, OnErr, MatchResult}

-- one more, up to the last value that a count can have
abbrev pub next_count : ℕ → ℕ
next_count count = min (count + 1) (2 ^ 64 - 1)

-- the count has risen, or stands at its last value
abbrev pub Rose : ℕ → ℕ → Type 0
Rose before now = next_count before ≤ now

-- the count never falls, and a failure comes only where it rose
pub record HasCause {T E : Type 0} (before now : ℕ) (result : Result T E) : Type 0 where
  pub later : before ≤ now
  pub failed : OnErr result (Rose before now)

-- a write that takes nothing of some bytes counts as one that failed
abbrev pub CountsIdle : {E : Type 0} → ℕ → ℕ → List ℕ → Result ℕ E → Type 0
CountsIdle before now bytes result = IfOk result (λ n. n ≡ 0 → 0 < length bytes → Rose before now)

-- the count rises at a call that fails, and at no other
abbrev pub CountsFailures : {T E : Type 0} → ℕ → ℕ → Result T E → Type 0
CountsFailures before now result = MatchResult result (λ _. now ≡ before) (λ _. now ≡ next_count before)

-- the count rises at a write that fails or takes nothing, and at no other
abbrev pub CountsWrites : {E : Type 0} → ℕ → ℕ → Result ℕ E → Type 0
CountsWrites before now result = MatchResult result (λ n. now ≡ (if n == 0 then next_count before else before)) (λ _. now ≡ next_count before)
