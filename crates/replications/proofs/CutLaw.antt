-- The sums of a window that is cut at a tick.
use Rattle.std.proofs.Common.{◌≡◌, ℕ, ◌+◌, ◌-◌, ◌*◌, ◌<◌, ◌≤◌, Bool, true, false, List, [], ◌∷◌, max, cond, refl, sym, ap, ◌∙◌, subst, arith}
use Rattle.std.specs.Prelude.{nat_le, nat_lt}
use Rattle.std.specs.List.{filter, sum_by}
use Rattle.std.proofs.lemmas.Bool.{le-leb, lt-leb, lt-ltb, le-ltb, leb-true, leb-false, ltb-true, ltb-false}
use Rattle.std.proofs.lemmas.List.Sums.{sum_by-cons}
use Rattle.sim_stats.specs.declared.occupancy.Occupancy.{Occupancy}
use Rattle.sim_stats.specs.Occupancies.{nobody, after_word}
use Rattle.sim_stats.specs.Words.{is_arrival, is_service, is_loss}
use Rattle.replications.specs.declared.left.Left.{Left}
use Rattle.replications.specs.declared.window.Columns.{Columns}
use Rattle.replications.specs.Parts.{TimedPart, from_tick, age_told}
use Rattle.replications.specs.Stays.{left_by, lefts, lefts_after, next_since, spent}
use Rattle.replications.specs.Windows.{busy_servers, waiting_jobs, count_parts, no_sums, sums_from, window_sums}
use Rattle.replications.specs.WindowLaws.{before_tick, InOrder, WindowsAdd}
use Rattle.replications.proofs.StayLemmas.{spent-cons, spent-none}

tail : (one : TimedPart) (rest : List TimedPart) → InOrder (one ∷ rest) → InOrder rest
unfolding InOrder
tail one [] order = tt
tail one (next ∷ rest) order = order.1

-- behind a part at a tick or later there is none before it
none_before : (middle : ℕ) (told : List TimedPart) (one : TimedPart) → InOrder (one ∷ told) → middle ≤ one.time → before_tick middle told ≡ []
unfolding before_tick InOrder
none_before middle [] one order late = refl
none_before middle (next ∷ rest) one order late =
    let early : TimedPart → Bool = λ one. nat_lt one.time middle in
    ap (λ b. cond b (next ∷ filter early rest) (filter early rest)) (le-ltb next.time middle (omega (arith, order.0)))
    ∙ none_before middle rest next order.1 (omega (arith, order.0))

before-late : (middle : ℕ) (one : TimedPart) (rest : List TimedPart) → middle ≤ one.time → before_tick middle (one ∷ rest) ≡ before_tick middle rest
unfolding before_tick
before-late middle one rest late =
    let early : TimedPart → Bool = λ one. nat_lt one.time middle in
    ap (λ b. cond b (one ∷ filter early rest) (filter early rest)) (le-ltb one.time middle late)

before-early : (middle : ℕ) (one : TimedPart) (rest : List TimedPart) → one.time < middle → before_tick middle (one ∷ rest) ≡ one ∷ before_tick middle rest
unfolding before_tick
before-early middle one rest soon =
    let early : TimedPart → Bool = λ one. nat_lt one.time middle in
    ap (λ b. cond b (one ∷ filter early rest) (filter early rest)) (lt-ltb one.time middle soon)

from-late : (first_tick : ℕ) (one : TimedPart) (rest : List TimedPart) → first_tick ≤ one.time → from_tick first_tick (one ∷ rest) ≡ one ∷ from_tick first_tick rest
unfolding from_tick
from-late first_tick one rest late =
    let within : TimedPart → Bool = λ one. nat_le first_tick one.time in
    ap (λ b. cond b (one ∷ filter within rest) (filter within rest)) (le-leb first_tick one.time late)

from-early : (first_tick : ℕ) (one : TimedPart) (rest : List TimedPart) → one.time < first_tick → from_tick first_tick (one ∷ rest) ≡ from_tick first_tick rest
unfolding from_tick
from-early first_tick one rest soon =
    let within : TimedPart → Bool = λ one. nat_le first_tick one.time in
    ap (λ b. cond b (one ∷ filter within rest) (filter within rest)) (lt-leb first_tick one.time soon)

module _ (first_tick middle : ℕ) (before : first_tick < middle) where
  sum-none : (f : TimedPart → ℕ) → sum_by f (from_tick first_tick []) ≡ sum_by f (from_tick first_tick (before_tick middle [])) + sum_by f (from_tick middle [])
  unfolding from_tick before_tick
  sum-none f = refl

  sum-step : (f : TimedPart → ℕ) (one : TimedPart) (rest : List TimedPart)
      → sum_by f (from_tick first_tick rest) ≡ sum_by f (from_tick first_tick (before_tick middle rest)) + sum_by f (from_tick middle rest)
      → sum_by f (from_tick first_tick (one ∷ rest)) ≡ sum_by f (from_tick first_tick (before_tick middle (one ∷ rest))) + sum_by f (from_tick middle (one ∷ rest))
  sum-step f one rest again = by (nat_lt one.time middle) (nat_le first_tick one.time) refl refl
    where
      by : (early within : Bool) → nat_lt one.time middle ≡ early → nat_le first_tick one.time ≡ within
          → sum_by f (from_tick first_tick (one ∷ rest)) ≡ sum_by f (from_tick first_tick (before_tick middle (one ∷ rest))) + sum_by f (from_tick middle (one ∷ rest))
      by true true early within =
          let soon : one.time < middle = ltb-true _ _ early in
          let late : first_tick ≤ one.time = leb-true _ _ within in
          let whole = ap (sum_by f) (from-late first_tick one rest late) ∙ sum_by-cons f one (from_tick first_tick rest) in
          let front = ap (λ (told : List TimedPart). sum_by f (from_tick first_tick told)) (before-early middle one rest soon)
          ∙ ap (sum_by f) (from-late first_tick one (before_tick middle rest) late) ∙ sum_by-cons f one (from_tick first_tick (before_tick middle rest)) in
          let back = ap (sum_by f) (from-early middle one rest soon) in
          omega (arith, whole, front, back, again)
      by true false early within =
          let soon : one.time < middle = ltb-true _ _ early in
          let out : one.time < first_tick = leb-false _ _ within in
          let whole = ap (sum_by f) (from-early first_tick one rest out) in
          let front = ap (λ (told : List TimedPart). sum_by f (from_tick first_tick told)) (before-early middle one rest soon)
          ∙ ap (sum_by f) (from-early first_tick one (before_tick middle rest) out) in
          let back = ap (sum_by f) (from-early middle one rest soon) in
          omega (arith, whole, front, back, again)
      by false within early in_it =
          let late : middle ≤ one.time = ltb-false _ _ early in
          let whole = ap (sum_by f) (from-late first_tick one rest (omega (arith, before, late))) ∙ sum_by-cons f one (from_tick first_tick rest) in
          let front = ap (λ (told : List TimedPart). sum_by f (from_tick first_tick told)) (before-late middle one rest late) in
          let back = ap (sum_by f) (from-late middle one rest late) ∙ sum_by-cons f one (from_tick middle rest) in
          omega (arith, whole, front, back, again)

  -- a sum over the parts of a window, wherever it is cut
  sum-cut : (f : TimedPart → ℕ) (told : List TimedPart)
      → sum_by f (from_tick first_tick told) ≡ sum_by f (from_tick first_tick (before_tick middle told)) + sum_by f (from_tick middle told)
  sum-cut f [] = sum-none f
  sum-cut f (one ∷ rest) = sum-step f one rest (sum-cut f rest)

  module _ (of : Occupancy → ℕ) (last : ℕ) (behind : middle ≤ last) where
    -- what begins at a tick or later lasts as long in a window that begins before it as in one that begins there
    spent-late : (now : Occupancy) (one : TimedPart) (rest : List TimedPart) → InOrder (one ∷ rest) → middle ≤ one.time
        → spent of first_tick last (lefts_after now (one ∷ rest)) ≡ spent of middle last (lefts_after now (one ∷ rest))
    unfolding lefts_after InOrder
    spent-late now one [] order late =
        let a : Left = left_by now one in
        let wide = spent-cons of first_tick last a [] in
        let narrow = spent-cons of middle last a [] in
        let same : max a.since first_tick ≡ max a.since middle = omega (arith, before, late) in
        let ticks = ap (λ n. (last - n) * of a.occupancy) same in
        let none = spent-none of first_tick last in
        let none_there = spent-none of middle last in
        omega (arith, wide, narrow, ticks, none, none_there)
    spent-late now one (next ∷ more) order late =
        let a : Left = left_by now one in
        let rest : List Left = lefts_after a.occupancy (next ∷ more) in
        let wide = spent-cons of first_tick last a rest in
        let narrow = spent-cons of middle last a rest in
        let same : max a.since first_tick ≡ max a.since middle = omega (arith, before, late) in
        let ticks = ap (λ n. (next_since last rest - n) * of a.occupancy) same in
        let others = spent-late a.occupancy next more order.1 (omega (arith, order.0, late)) in
        omega (arith, wide, narrow, ticks, others)

    -- the ticks of what an early part leaves, before the cut and behind it, where these parts come next before the cut
    IsCut : Left → ℕ → List TimedPart → Type 0
    IsCut a until front = until - max a.since first_tick ≡ next_since middle (lefts_after a.occupancy front) - max a.since first_tick + (until - max a.since middle)

    ticks-none : (a : Left) (until : ℕ) → a.since < middle → middle ≤ until → IsCut a until []
    unfolding IsCut lefts_after
    ticks-none a until soon late = omega (arith, before, soon, late)

    ticks-next : (a : Left) (next : TimedPart) (more : List TimedPart) → a.since < middle → next.time < middle → IsCut a next.time (next ∷ more)
    unfolding IsCut lefts_after
    ticks-next a next more soon early = omega (arith, soon, early)

    nothing_before : before_tick middle [] ≡ []
    unfolding before_tick
    nothing_before = refl

    ticks-last : (a : Left) → a.since < middle → IsCut a last (before_tick middle [])
    ticks-last a soon = subst (IsCut a last) (sym nothing_before) (ticks-none a last soon behind)

    ticks-before : (a : Left) (next : TimedPart) (more : List TimedPart) → a.since < middle → InOrder (next ∷ more) → IsCut a next.time (before_tick middle (next ∷ more))
    ticks-before a next more soon order = by (nat_lt next.time middle) refl
      where
        by : (early : Bool) → nat_lt next.time middle ≡ early → IsCut a next.time (before_tick middle (next ∷ more))
        by true is =
            subst (IsCut a next.time) (sym (before-early middle next more (ltb-true _ _ is))) (ticks-next a next (before_tick middle more) soon (ltb-true _ _ is))
        by false is =
            let late : middle ≤ next.time = ltb-false _ _ is in
            subst (IsCut a next.time) (sym (before-late middle next more late ∙ none_before middle more next order late)) (ticks-none a next.time soon late)

    ticks-cut : (a : Left) (rest : List TimedPart) → a.since < middle → InOrder rest → IsCut a (next_since last (lefts_after a.occupancy rest)) (before_tick middle rest)
    unfolding lefts_after
    ticks-cut a [] soon order = ticks-last a soon
    ticks-cut a (next ∷ more) soon order = ticks-before a next more soon order

    Spent : Occupancy → List TimedPart → List TimedPart → Type 0
    Spent now told front = spent of first_tick last (lefts_after now told) ≡ spent of first_tick middle (lefts_after now front) + spent of middle last (lefts_after now told)

    spent-nothing : (now : Occupancy) → Spent now [] []
    unfolding Spent lefts_after
    spent-nothing now = omega (arith, spent-none of first_tick last, spent-none of first_tick middle, spent-none of middle last)

    spent-behind : (now : Occupancy) (one : TimedPart) (rest : List TimedPart) → InOrder (one ∷ rest) → middle ≤ one.time → Spent now (one ∷ rest) []
    unfolding Spent lefts_after
    spent-behind now one rest order late = omega (arith, spent-late now one rest order late, spent-none of first_tick middle)

    spent-before : (now : Occupancy) (one : TimedPart) (rest : List TimedPart) → InOrder rest → one.time < middle → Spent (after_word now one.part.word) rest (before_tick middle rest)
        → Spent now (one ∷ rest) (one ∷ before_tick middle rest)
    unfolding Spent IsCut lefts_after
    spent-before now one rest order soon again =
        let a : Left = left_by now one in
        let all : List Left = lefts_after a.occupancy rest in
        let front : List Left = lefts_after a.occupancy (before_tick middle rest) in
        let wide = spent-cons of first_tick last a all in
        let here = spent-cons of first_tick middle a front in
        let there = spent-cons of middle last a all in
        let ticks = ap (λ n. n * of a.occupancy) (ticks-cut a rest soon order) in
        omega (arith, wide, here, there, again, ticks)

    spent-step : (now : Occupancy) (one : TimedPart) (rest : List TimedPart) → InOrder (one ∷ rest) → Spent (after_word now one.part.word) rest (before_tick middle rest)
        → Spent now (one ∷ rest) (before_tick middle (one ∷ rest))
    spent-step now one rest order again = by (nat_lt one.time middle) refl
      where
        by : (soon : Bool) → nat_lt one.time middle ≡ soon → Spent now (one ∷ rest) (before_tick middle (one ∷ rest))
        by true is =
            subst (Spent now (one ∷ rest)) (sym (before-early middle one rest (ltb-true _ _ is))) (spent-before now one rest (tail one rest order) (ltb-true _ _ is) again)
        by false is =
            let here : middle ≤ one.time = ltb-false _ _ is in
            subst (Spent now (one ∷ rest)) (sym (before-late middle one rest here ∙ none_before middle rest one order here)) (spent-behind now one rest order here)

    all-spent : (now : Occupancy) (told : List TimedPart) → InOrder told → Spent now told (before_tick middle told)
    all-spent now [] order = subst (Spent now []) (sym nothing_before) (spent-nothing now)
    all-spent now (one ∷ rest) order = spent-step now one rest order (all-spent (after_word now one.part.word) rest (tail one rest order))

    -- the times of a window, wherever it is cut
    spent-cut : (told : List TimedPart) → InOrder told → spent of first_tick last (lefts told) ≡ spent of first_tick middle (lefts (before_tick middle told)) + spent of middle last (lefts told)
    unfolding Spent
    spent-cut told order = all-spent nobody told order

sums-open : (first_tick last : ℕ) (told : List TimedPart) → first_tick ≤ last → window_sums first_tick last told ≡ sums_from first_tick last told
unfolding window_sums
sums-open first_tick last told some = ap (λ b. cond b no_sums (sums_from first_tick last told)) (le-ltb last first_tick some)

module _ (first_tick middle last : ℕ) (told : List TimedPart) (before : first_tick < middle) (behind : middle ≤ last) where
  -- a column of the three windows
  column-cut : (column : Columns → ℕ)
      → column (sums_from first_tick last told) ≡ column (sums_from first_tick middle (before_tick middle told)) + column (sums_from middle last told)
      → column (window_sums first_tick last told) ≡ column (window_sums first_tick middle (before_tick middle told)) + column (window_sums middle last told)
  column-cut column cut =
      let whole = ap column (sums-open first_tick last told (omega (arith, before, behind))) in
      let front = ap column (sums-open first_tick middle (before_tick middle told) (omega (arith, before))) in
      let back = ap column (sums-open middle last told behind) in
      omega (arith, whole, front, back, cut)

  count-cut : (is_one : ℕ → Bool) → count_parts is_one (from_tick first_tick told) ≡ count_parts is_one (from_tick first_tick (before_tick middle told)) + count_parts is_one (from_tick middle told)
  count-cut is_one = sum-cut first_tick middle before (λ (one : TimedPart). cond (is_one one.part.word) 1 0) told

pub windows_add : WindowsAdd
unfolding sums_from
windows_add first_tick middle last told before behind order = record {
  arrivals = column-cut first_tick middle last told before behind (λ sums. sums.arrivals) (count-cut first_tick middle last told before behind is_arrival);
  served = column-cut first_tick middle last told before behind (λ sums. sums.served) (count-cut first_tick middle last told before behind is_service);
  lost = column-cut first_tick middle last told before behind (λ sums. sums.lost) (count-cut first_tick middle last told before behind is_loss);
  busy = column-cut first_tick middle last told before behind (λ sums. sums.busy) (spent-cut first_tick middle before busy_servers last behind told order);
  waiting = column-cut first_tick middle last told before behind (λ sums. sums.waiting) (spent-cut first_tick middle before waiting_jobs last behind told order);
  age = column-cut first_tick middle last told before behind (λ sums. sums.age) (sum-cut first_tick middle before age_told told);
}
