-- Laws: where one can be drawn, its value, and how many words it reads.
use Rattle.std.specs.Prelude.{ℕ, ◌+◌, ◌-◌, ◌%◌, ◌^◌, min, Bool, false, ◌&&◌, List, sum, length, take, nat_lt, nat_le}
use Rattle.std.specs.List.{list_all, position_or_len, range_with_len}
use Rattle.random_streams.specs.declared.weights.TheConstants.{MOST_WEIGHT, MOST_WEIGHTS}
use Rattle.random_streams.specs.Words.{words_from}
use Rattle.random_streams.specs.declared.law.Law.{Law}
use Rattle.random_streams.specs.declared.law.TheConstants.{MOST_TRIALS, MOST_VALUE}
use Rattle.random_streams.specs.declared.law.Law.TheVariants.{Fixed, Uniform, Geometric, Choice}

-- 1 to 64 weights, each at most 65535, with a sum of at least 1
unfoldable pub is_choice : List ℕ → Bool
is_choice weights =
    nat_le 1 (length weights) && nat_le (length weights) MOST_WEIGHTS
    && list_all (λ weight. nat_le weight MOST_WEIGHT) weights && nat_le 1 (sum weights)

-- the numbers of the law lie within its bounds
unfoldable pub is_drawable : Law → Bool
is_drawable (Fixed value) = nat_le value MOST_VALUE
is_drawable (Uniform low high) = nat_le low high && nat_le high MOST_VALUE && nat_lt (high - low) (2 ^ 32)
is_drawable (Geometric p cap) = nat_le 1 p && nat_le 1 cap && nat_le cap MOST_TRIALS
is_drawable (Choice weights) = is_choice weights

-- a law of delays: one that can be drawn, and is no choice
unfoldable pub is_delay : Law → Bool
is_delay (Fixed value) = is_drawable (Fixed value)
is_delay (Uniform low high) = is_drawable (Uniform low high)
is_delay (Geometric p cap) = is_drawable (Geometric p cap)
is_delay (Choice weights) = false

-- the first trial, counted from 1, whose word is below p; cap where none of the trials before it is one
unfoldable pub first_trial : ℕ → ℕ → (ℕ → ℕ) → ℕ
first_trial p cap words = position_or_len (λ i. nat_lt (words i) p) (range_with_len 0 (cap - 1)) + 1

-- the first place i, counted from 0, such that the share is below the sum of the weights 0 to i
unfoldable pub chosen_place : List ℕ → ℕ → ℕ
chosen_place weights share =
    position_or_len (λ i. nat_lt share (sum (take (i + 1) weights))) (range_with_len 0 (length weights))

-- the value of a law from these words
unfoldable pub drawn_value : Law → (ℕ → ℕ) → ℕ
drawn_value (Fixed value) words = value
drawn_value (Uniform low high) words = low + words 0 % (high - low + 1)
drawn_value (Geometric p cap) words = first_trial p cap words
drawn_value (Choice weights) words = chosen_place weights (words 0 % sum weights)

-- how many of them the law reads
unfoldable pub words_read : Law → (ℕ → ℕ) → ℕ
words_read (Fixed value) words = 0
words_read (Uniform low high) words = 1
words_read (Geometric p cap) words = min (first_trial p cap words) (cap - 1)
words_read (Choice weights) words = 1

-- how many numbers a uniform law has, by which its word is divided; 1 where a law has no such number
unfoldable pub span_of : Law → ℕ
span_of (Fixed value) = 1
span_of (Uniform low high) = high - low + 1
span_of (Geometric p cap) = 1
span_of (Choice weights) = 1

-- the greatest value that a law gives
unfoldable pub greatest_value : Law → ℕ
greatest_value (Fixed value) = value
greatest_value (Uniform low high) = high
greatest_value (Geometric p cap) = cap
greatest_value (Choice weights) = length weights - 1

-- the value of a law at a place of an object's words, and the place after those that it reads
unfoldable pub draw : ℕ → ℕ → ℕ → Law → ℕ × ℕ
draw seed object place law =
    let words = words_from seed object place in
    (drawn_value law words, (place + words_read law words) % 2 ^ 64)
