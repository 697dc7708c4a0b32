-- Laws of delays, and of other amounts up to 2 ^ 40: where one can be drawn, its value, and how many words it reads.
use Rattle.std.specs.Prelude.{ℕ, ◌+◌, ◌-◌, ◌*◌, ◌%◌, ◌^◌, Bool, true, ◌&&◌, ◌==◌, List, [], ◌∷◌, length, slice_index, nat_lt, nat_le}
use Rattle.std.specs.List.{list_all}
use Rattle.random_streams.specs.declared.law.TheConstants.{MOST_VALUE, MOST_TRIALS}
use Rattle.random_streams.specs.declared.law.Law.TheVariants.{Geometric}
use Rattle.random_streams.specs.declared.delay_law.DelayLaw.{DelayLaw}
use Rattle.random_streams.specs.declared.delay_law.DelayLaw.TheVariants.{Plain, Spread, Table, Steps}
use Rattle.random_streams.specs.declared.delay_law.TheConstants.{MOST_UNIT}
use Rattle.random_streams.specs.Words.{words_from}
use Rattle.random_streams.specs.Laws.{is_delay, first_trial, drawn_value, words_read}
use Rattle.random_streams.specs.Shares.{are_shares, place_by}

-- no value is above 2 ^ 40
unfoldable pub are_values : List ℕ → Bool
are_values values = list_all (λ value. nat_le value MOST_VALUE) values

-- each bound is above the one before, by at most 2 ^ 32
unfoldable pub do_rise : List ℕ → Bool
do_rise [] = true
do_rise (bound ∷ []) = true
do_rise (bound ∷ next ∷ rest) = nat_lt bound next && nat_le (next - bound) (2 ^ 32) && do_rise (next ∷ rest)

-- the numbers of the law lie within its bounds
unfoldable pub is_delay_law : DelayLaw → Bool
is_delay_law (Plain law) = is_delay law
is_delay_law (Spread p cap unit) = nat_le 1 p && nat_le 1 cap && nat_le cap MOST_TRIALS && nat_le 1 unit && nat_le unit MOST_UNIT
is_delay_law (Table values weights) = are_shares weights && are_values values && (length values == length weights)
is_delay_law (Steps bounds weights) =
    are_shares weights && are_values bounds && (length bounds == length weights + 1) && do_rise bounds

-- the value of a law from these words
unfoldable pub delay_drawn : DelayLaw → (ℕ → ℕ) → ℕ
delay_drawn (Plain law) words = drawn_value law words
delay_drawn (Spread p cap unit) words =
    unit * (first_trial p cap words - 1) + 1 + words (words_read (Geometric p cap) words) % unit
delay_drawn (Table values weights) words = slice_index values (place_by weights (words 0))
delay_drawn (Steps bounds weights) words =
    let place = place_by weights (words 0) in
    slice_index bounds place + words 1 % (slice_index bounds (place + 1) - slice_index bounds place)

-- how many of them the law reads
unfoldable pub delay_words : DelayLaw → (ℕ → ℕ) → ℕ
delay_words (Plain law) words = words_read law words
delay_words (Spread p cap unit) words = words_read (Geometric p cap) words + 1
delay_words (Table values weights) words = 1
delay_words (Steps bounds weights) words = 2

-- the value of a law at a place of an object's words, and the place after those that it reads
unfoldable pub draw_delay : ℕ → ℕ → ℕ → DelayLaw → ℕ × ℕ
draw_delay seed object place law =
    let words = words_from seed object place in
    (delay_drawn law words, (place + delay_words law words) % 2 ^ 64)
