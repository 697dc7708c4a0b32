-- Sums over the jobs that wait at a station.
use Rattle.std.specs.Prelude.{ℕ, ◌+◌, List, [], ◌∷◌, nat_lt, if◌then◌else◌, sum_by}
use Rattle.std.specs.List.{range_with_len}
use Rattle.shop_model.specs.declared.levels.TheConstants.{EMPTY}
use Rattle.shop_model.specs.Stations.{jobs_line, births_line, since_line}

-- the sum of what each job of a level weighs, by its numbers, its birth and since when it waits; an empty place weighs nothing
unfoldable pub sum_waiting : (ℕ → ℕ → ℕ → ℕ) → List ℕ → List ℕ → List ℕ → ℕ
sum_waiting weight [] births since = 0
sum_waiting weight (a ∷ jobs) [] since = 0
sum_waiting weight (a ∷ jobs) (birth ∷ births) [] = 0
sum_waiting weight (a ∷ jobs) (birth ∷ births) (time ∷ since) =
    (if nat_lt a EMPTY then weight a birth time else 0) + sum_waiting weight jobs births since

-- that of all levels, by the lines of the station
abbrev pub sum_in_line : (ℕ → ℕ → ℕ → ℕ) → (ℕ → List ℕ) → ℕ → ℕ
sum_in_line weight line levels =
    sum_by (λ level. sum_waiting weight (line (jobs_line level)) (line (births_line level)) (line (since_line level))) (range_with_len 0 levels)
