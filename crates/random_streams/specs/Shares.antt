-- The weights of a table, and the place that a word chooses by them.
use Rattle.std.specs.Prelude.{ℕ, ◌%◌, Bool, ◌&&◌, List, sum, length, nat_le}
use Rattle.std.specs.List.{list_all}
use Rattle.random_streams.specs.declared.weights.TheConstants.{MOST_WEIGHT}
use Rattle.random_streams.specs.declared.shares.TheConstants.{MOST_SHARES}
use Rattle.random_streams.specs.Laws.{chosen_place}

-- 1 to 1024 weights, each at most 65535, with a sum of at least 1
unfoldable pub are_shares : List ℕ → Bool
are_shares weights =
    nat_le 1 (length weights) && nat_le (length weights) MOST_SHARES
    && list_all (λ weight. nat_le weight MOST_WEIGHT) weights && nat_le 1 (sum weights)

-- the place that a word chooses, each in proportion to its weight
unfoldable pub place_by : List ℕ → ℕ → ℕ
place_by weights word = chosen_place weights (word % sum weights)
