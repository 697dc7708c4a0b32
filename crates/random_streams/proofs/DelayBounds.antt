-- What a law of delays draws is at most 2 ^ 40.
use Rattle.std.proofs.Common.{◌≡◌, ℕ, zero, suc, ◌+◌, ◌-◌, ◌*◌, ◌%◌, ◌^◌, ◌<◌, ◌≤◌, List, [], ◌∷◌, length, get_or, sum, IsTrue, arith, mul-le-mul_right}
use Rattle.std.proofs.lemmas.Bool.Decides.{nat_tests}
use Rattle.random_streams.specs.declared.delay_law.DelayLaw.{DelayLaw}
use Rattle.random_streams.specs.declared.delay_law.DelayLaw.TheVariants.{Plain, Spread, Table, Steps}
use Rattle.random_streams.specs.declared.law.Law.TheVariants.{Geometric}
use Rattle.random_streams.specs.Words.{words_from}
use Rattle.random_streams.specs.Laws.{first_trial, words_read}
use Rattle.random_streams.specs.Shares.{are_shares, place_by}
use Rattle.random_streams.specs.Delays.{are_values, is_delay_law, delay_drawn, draw_delay}
use Rattle.random_streams.proofs.Bounds.{chosen_place_lt, first_trial_le, drawn_value-le, greatest_value-le, is_drawable-delay}
use Rattle.random_streams.proofs.Rising.{rise_at}

pub first_trial_ge : (p cap : ℕ) (words : ℕ → ℕ) → 1 ≤ first_trial p cap words
unfolding first_trial
first_trial_ge p cap words = omega arith

pub place_by_lt : (weights : List ℕ) (word : ℕ) → IsTrue (are_shares weights) → place_by weights word < length weights
unfolding are_shares place_by
place_by_lt weights word fine =
    let some : 1 ≤ sum weights = grind (arith, nat_tests) in
    chosen_place_lt weights (word % sum weights) (omega arith)

-- a value at any place
pub value_le : (values : List ℕ) (k : ℕ) → IsTrue (are_values values) → get_or values k 0 ≤ 2 ^ 40
unfolding are_values
value_le [] k fine = omega arith
value_le (x ∷ rest) zero fine = grind (arith, nat_tests)
value_le (x ∷ rest) (suc k) fine = value_le rest k (grind (arith, nat_tests))

-- t units, of which the last is not whole
pub units_le : (unit t left : ℕ) → 1 ≤ t → t ≤ 65536 → 1 ≤ unit → unit ≤ 16777216 → left < unit → unit * (t - 1) + 1 + left ≤ 2 ^ 40
units_le unit t left some few any small part =
    let whole : unit * (t - 1) ≤ 16777216 * (t - 1) = mul-le-mul_right (t - 1) small in
    omega (arith, whole)

pub delay_drawn-le : (law : DelayLaw) (words : ℕ → ℕ) → IsTrue (is_delay_law law) → delay_drawn law words ≤ 2 ^ 40
unfolding is_delay_law delay_drawn
delay_drawn-le (Plain law) words fine =
    let drawable = is_drawable-delay law fine in
    omega (arith, drawn_value-le law words drawable, greatest_value-le law drawable)
delay_drawn-le (Spread p cap unit) words fine =
    let some : 1 ≤ unit = grind (arith, nat_tests) in
    let small : unit ≤ 16777216 = grind (arith, nat_tests) in
    let least : 1 ≤ cap = grind (arith, nat_tests) in
    let most : cap ≤ 65536 = grind (arith, nat_tests) in
    let word = words (words_read (Geometric p cap) words) in
    units_le unit (first_trial p cap words) (word % unit) (first_trial_ge p cap words)
    (omega (arith, first_trial_le p cap words least)) some small (omega arith)
delay_drawn-le (Table values weights) words fine =
    let values_fine : IsTrue (are_values values) = grind (arith, nat_tests) in
    value_le values (place_by weights (words 0)) values_fine
delay_drawn-le (Steps bounds weights) words fine =
    let place = place_by weights (words 0) in
    let shares : IsTrue (are_shares weights) = grind (arith, nat_tests) in
    let values : IsTrue (are_values bounds) = grind (arith, nat_tests) in
    let long : length bounds ≡ length weights + 1 = grind (arith, nat_tests) in
    let pair = rise_at bounds place (grind (arith, nat_tests)) (omega (arith, place_by_lt weights (words 0) shares)) in
    omega (arith, value_le bounds (place + 1) values, pair.0)

-- what models ask of a draw
pub draw_delay-le : (seed object place : ℕ) (law : DelayLaw) → IsTrue (is_delay_law law) → (draw_delay seed object place law).0 ≤ 2 ^ 40
unfolding draw_delay
draw_delay-le seed object place law fine = delay_drawn-le law (words_from seed object place) fine
