-- The sums of a window with one part more.
use Rattle.std.proofs.Common.{◌≡◌, ℕ, ◌+◌, ◌-◌, ◌*◌, ◌<◌, ◌≤◌, Bool, true, false, List, [], ◌∷◌, ◌++◌, max, map, cond, refl, sym, ap, ◌∙◌, arith}
use Rattle.std.specs.Prelude.{nat_le, nat_lt}
use Rattle.std.specs.Int.{from_bool}
use Rattle.std.specs.List.{filter, sum_by}
use Rattle.std.proofs.lemmas.Bool.{le-leb, lt-leb, lt-ltb, le-ltb}
use Rattle.std.proofs.lemmas.List.{append-nil, map-append}
use Rattle.std.proofs.lemmas.List.Elements.{filter-append}
use Rattle.std.proofs.lemmas.List.Sums.{sum_by-append}
use Rattle.sim_stats.specs.declared.occupancy.Occupancy.{Occupancy}
use Rattle.sim_stats.specs.Occupancies.{nobody, after_word}
use Rattle.sim_stats.specs.Words.{is_arrival, is_service, is_loss}
use Rattle.replications.specs.declared.left.Left.{Left}
use Rattle.replications.specs.declared.window.Columns.{Columns}
use Rattle.replications.specs.declared.window.Window.{Window}
use Rattle.replications.specs.Parts.{TimedPart, from_tick, age_told}
use Rattle.replications.specs.Stays.{left_at_first, left_by, lefts, last_left, spent}
use Rattle.replications.specs.Windows.{busy_servers, waiting_jobs, count_parts, line_before, greatest, longest_from, no_sums, sums_from, window_sums, window_of, passed, counted, IsWithin}
use Rattle.replications.proofs.StayLemmas.{lefts-more, last_left-more, spent-more, spent-to}

from_tick-more : (first_tick : ℕ) (told : List TimedPart) (one : TimedPart) → from_tick first_tick (told ++ one ∷ []) ≡ from_tick first_tick told ++ cond (nat_le first_tick one.time) (one ∷ []) []
unfolding from_tick
from_tick-more first_tick told one = filter-append (λ (one : TimedPart). nat_le first_tick one.time) told (one ∷ [])

greatest-more : (ns : List ℕ) (n : ℕ) → greatest (ns ++ n ∷ []) ≡ max (greatest ns) n
unfolding greatest
greatest-more [] n = omega arith
greatest-more (m ∷ ns) n = ap (max m) (greatest-more ns n) ∙ omega arith

module _ (first_tick : ℕ) (told : List TimedPart) (one : TimedPart) where
  -- a sum over the parts within a window, with one more where that is within it
  sum-more : (f : TimedPart → ℕ) → sum_by f (from_tick first_tick (told ++ one ∷ [])) ≡ sum_by f (from_tick first_tick told) + cond (nat_le first_tick one.time) (f one) 0
  sum-more f =
      ap (sum_by f) (from_tick-more first_tick told one)
      ∙ sum_by-append f (from_tick first_tick told) (cond (nat_le first_tick one.time) (one ∷ []) [])
      ∙ ap (λ n. sum_by f (from_tick first_tick told) + n) (by (nat_le first_tick one.time))
    where
      by : (within : Bool) → sum_by f (cond within (one ∷ []) []) ≡ cond within (f one) 0
      by true = omega arith
      by false = refl

  count-more : (is_one : ℕ → Bool) → count_parts is_one (from_tick first_tick (told ++ one ∷ [])) ≡ count_parts is_one (from_tick first_tick told) + cond (nat_le first_tick one.time) (from_bool (is_one one.part.word)) 0
  count-more is_one =
      sum-more (λ (one : TimedPart). cond (is_one one.part.word) 1 0)
      ∙ ap (λ n. count_parts is_one (from_tick first_tick told) + cond (nat_le first_tick one.time) n 0) (by (is_one one.part.word))
    where
      by : (b : Bool) → cond b 1 0 ≡ from_bool b
      by true = refl
      by false = refl

module _ (first_tick : ℕ) (left : List Left) (one : Left) where
  line_before-more : line_before first_tick (left ++ one ∷ []) ≡ cond (nat_lt one.since first_tick) one.occupancy.waiting (line_before first_tick left)
  unfolding line_before
  line_before-more =
      let early : Left → Bool = λ one. nat_lt one.since first_tick in
      ap (λ (left : List Left). (last_left left_at_first left).occupancy.waiting) (filter-append early left (one ∷ [])) ∙ by (filter early left) (nat_lt one.since first_tick)
    where
      by : (left : List Left) (b : Bool) → (last_left left_at_first (left ++ cond b (one ∷ []) [])).occupancy.waiting ≡ cond b one.occupancy.waiting (last_left left_at_first left).occupancy.waiting
      by left true = ap (λ (left : Left). left.occupancy.waiting) (last_left-more left_at_first left one)
      by left false = ap (λ (left : List Left). (last_left left_at_first left).occupancy.waiting) (append-nil left)

  longest_from-more : longest_from first_tick (left ++ one ∷ []) ≡ cond (nat_le first_tick one.since) (max (longest_from first_tick left) one.occupancy.waiting) (longest_from first_tick left)
  unfolding longest_from
  longest_from-more =
      let late : Left → Bool = λ one. nat_le first_tick one.since in
      ap (λ (left : List Left). greatest (map (λ (one : Left). one.occupancy.waiting) left)) (filter-append late left (one ∷ [])) ∙ by (filter late left) (nat_le first_tick one.since)
    where
      by : (left : List Left) (b : Bool)
          → greatest (map (λ (one : Left). one.occupancy.waiting) (left ++ cond b (one ∷ []) []))
          ≡ cond b (max (greatest (map (λ (one : Left). one.occupancy.waiting) left)) one.occupancy.waiting) (greatest (map (λ (one : Left). one.occupancy.waiting) left))
      by left true = ap greatest (map-append (λ (one : Left). one.occupancy.waiting) left (one ∷ [])) ∙ greatest-more (map (λ (one : Left). one.occupancy.waiting) left) one.occupancy.waiting
      by left false = ap (λ (left : List Left). greatest (map (λ (one : Left). one.occupancy.waiting) left)) (append-nil left)

-- what is known with a part more, from what was known before it
abbrev pub with_part : ℕ → Window → TimedPart → Window
with_part first_tick w one =
    let within = nat_le first_tick one.time in
    let ticks = one.time - max w.left.since first_tick in
    let now = after_word w.left.occupancy one.part.word in
    record {
      sums = record {
        arrivals = w.sums.arrivals + cond within (from_bool (is_arrival one.part.word)) 0;
        served = w.sums.served + cond within (from_bool (is_service one.part.word)) 0;
        lost = w.sums.lost + cond within (from_bool (is_loss one.part.word)) 0;
        busy = w.sums.busy + ticks * w.left.occupancy.busy;
        waiting = w.sums.waiting + ticks * w.left.occupancy.waiting;
        age = w.sums.age + cond within (age_told one) 0;
        longest = cond within (max w.sums.longest now.waiting) w.sums.longest;
      };
      begins = cond (nat_lt one.time first_tick) now.waiting w.begins;
      left = record { since = one.time; occupancy = now };
    }

module _ (of : Occupancy → ℕ) (none : of nobody ≡ 0) (first_tick : ℕ) (told : List TimedPart) (one : TimedPart) where
  spent-part : spent of first_tick (last_left left_at_first (lefts (told ++ one ∷ []))).since (lefts (told ++ one ∷ []))
      ≡ spent of first_tick (last_left left_at_first (lefts told)).since (lefts told)
      + (one.time - max (last_left left_at_first (lefts told)).since first_tick) * of (last_left left_at_first (lefts told)).occupancy
  spent-part =
      let new : Left = left_by (last_left left_at_first (lefts told)).occupancy one in
      ap (λ (left : List Left). spent of first_tick (last_left left_at_first left).since left) (lefts-more told one)
      ∙ ap (λ (last : Left). spent of first_tick last.since (lefts told ++ new ∷ [])) (last_left-more left_at_first (lefts told) new)
      ∙ spent-more of none first_tick (lefts told) new

-- sums are the same column by column, and windows part by part
same_columns : (a a' b b' c c' d d' e e' f f' g g' : ℕ) → a ≡ a' → b ≡ b' → c ≡ c' → d ≡ d' → e ≡ e' → f ≡ f' → g ≡ g'
    → ◌≡◌ {A = Columns} (record { arrivals = a; served = b; lost = c; busy = d; waiting = e; age = f; longest = g })
    (record { arrivals = a'; served = b'; lost = c'; busy = d'; waiting = e'; age = f'; longest = g' })
same_columns a a' b b' c c' d d' e e' f f' g g' ae be ce de ee fe ge = cc

same_window : (sums sums' : Columns) (begins begins' : ℕ) (left left' : Left) → sums ≡ sums' → begins ≡ begins' → left ≡ left'
    → ◌≡◌ {A = Window} (record { sums = sums; begins = begins; left = left }) (record { sums = sums'; begins = begins'; left = left' })
same_window sums sums' begins begins' left left' same_sums same_begins same_left = cc

pub window_of-more : (first_tick : ℕ) (told : List TimedPart) (one : TimedPart)
    → window_of first_tick (told ++ one ∷ []) ≡ with_part first_tick (window_of first_tick told) one
unfolding window_of
window_of-more first_tick told one =
    let new : Left = left_by (last_left left_at_first (lefts told)).occupancy one in
    same_window _ _ _ _ _ _
    (same_columns _ _ _ _ _ _ _ _ _ _ _ _ _ _
    (count-more first_tick told one is_arrival)
    (count-more first_tick told one is_service)
    (count-more first_tick told one is_loss)
    (spent-part busy_servers refl first_tick told one)
    (spent-part waiting_jobs refl first_tick told one)
    (sum-more first_tick told one age_told)
    (ap (longest_from first_tick) (lefts-more told one) ∙ longest_from-more first_tick (lefts told) new))
    (ap (line_before first_tick) (lefts-more told one) ∙ line_before-more first_tick (lefts told) new)
    (ap (last_left left_at_first) (lefts-more told one) ∙ last_left-more left_at_first (lefts told) new)

-- a part before the window
pub adds_before : (first_tick : ℕ) (told : List TimedPart) (one : TimedPart) (old new : Window) → one.time < first_tick → old ≡ window_of first_tick told
    → new ≡ record (passed first_tick one.time old) { begins = (after_word old.left.occupancy one.part.word).waiting; left = left_by old.left.occupancy one }
    → new ≡ window_of first_tick (told ++ one ∷ [])
adds_before first_tick told one old new early summed is =
    let none : (n : ℕ) → n ≡ n + 0 = λ n. omega arith in
    let same_sums = same_columns _ _ _ _ _ _ _ _ _ _ _ _ _ _ (none old.sums.arrivals) (none old.sums.served) (none old.sums.lost) refl refl (none old.sums.age) refl in
    let step : new ≡ with_part first_tick old one =
    is ∙ rw (lt-leb first_tick one.time early, lt-ltb one.time first_tick early) (same_window _ _ _ _ _ _ same_sums refl refl) in
    step ∙ ap (λ (w : Window). with_part first_tick w one) summed ∙ sym (window_of-more first_tick told one)

-- a part within the window
pub adds_within : (first_tick : ℕ) (told : List TimedPart) (one : TimedPart) (old new : Window) → first_tick ≤ one.time → old ≡ window_of first_tick told
    → new ≡ counted one.part (record (passed first_tick one.time old) { left = left_by old.left.occupancy one })
    → new ≡ window_of first_tick (told ++ one ∷ [])
adds_within first_tick told one old new late summed is =
    let step : new ≡ with_part first_tick old one = is ∙ rw (le-leb first_tick one.time late, le-ltb one.time first_tick late) refl in
    step ∙ ap (λ (w : Window). with_part first_tick w one) summed ∙ sym (window_of-more first_tick told one)

module _ (first_tick : ℕ) (told : List TimedPart) (one : TimedPart) (old mid : Window) (now : Occupancy) (summed : old ≡ window_of first_tick told)
    (is_passed : mid ≡ passed first_tick one.time old) (leaves : now ≡ after_word mid.left.occupancy one.part.word) where
  leaves_so : now ≡ after_word old.left.occupancy one.part.word
  leaves_so = leaves ∙ ap (λ (w : Window). after_word w.left.occupancy one.part.word) is_passed

  pub comes_before : one.time < first_tick
      → record mid { begins = now.waiting; left = record { since = one.time; occupancy = now } } ≡ window_of first_tick (told ++ one ∷ [])
  comes_before early =
      let step : Window → Occupancy → Window = λ w now. record w { begins = now.waiting; left = record { since = one.time; occupancy = now } } in
      adds_before first_tick told one old (step mid now) early summed
      (ap (λ (w : Window). step w now) is_passed ∙ ap (step (passed first_tick one.time old)) leaves_so)

  pub comes_within : (new : Window) → first_tick ≤ one.time → new ≡ counted one.part (record mid { left = record { since = one.time; occupancy = now } })
      → new ≡ window_of first_tick (told ++ one ∷ [])
  comes_within new late is_counted =
      let step : Window → Occupancy → Window = λ w now. counted one.part (record w { left = record { since = one.time; occupancy = now } }) in
      adds_within first_tick told one old new late summed
      (is_counted ∙ ap (λ (w : Window). step w now) is_passed ∙ ap (step (passed first_tick one.time old)) leaves_so)

-- the longest line of a window is also that with which it begins
columns_of : Window → Columns
columns_of w = record w.sums { longest = max w.begins w.sums.longest }

window-ends : (first_tick last : ℕ) (told : List TimedPart) (w : Window) → w ≡ window_of first_tick told
    → columns_of (passed first_tick last w) ≡ sums_from first_tick last told
unfolding columns_of sums_from window_of
window-ends first_tick last told w summed =
    ap (λ (w : Window). columns_of (passed first_tick last w)) summed
    ∙ same_columns _ _ _ _ _ _ _ _ _ _ _ _ _ _ refl refl refl
    (sym (spent-to busy_servers refl first_tick last (lefts told)))
    (sym (spent-to waiting_jobs refl first_tick last (lefts told)))
    refl refl

-- a window that ends at a tick
pub closes : (first_tick last : ℕ) (told : List TimedPart) (old mid : Window) (longest : ℕ) → first_tick ≤ last → old ≡ window_of first_tick told
    → mid ≡ passed first_tick last old → longest ≡ max mid.begins mid.sums.longest
    → record mid.sums { longest = longest } ≡ window_sums first_tick last told
unfolding columns_of window_sums
closes first_tick last told old mid longest some summed is_passed is_longest =
    let mine : record mid.sums { longest = longest } ≡ columns_of mid = ap (λ n. record mid.sums { longest = n }) is_longest in
    mine ∙ ap columns_of is_passed ∙ window-ends first_tick last told old summed
    ∙ ap (λ b. cond b no_sums (sums_from first_tick last told)) (sym (le-ltb last first_tick some))

pub has_no_tick : (first_tick last : ℕ) (told : List TimedPart) (sums : Columns) → last < first_tick → sums ≡ no_sums → sums ≡ window_sums first_tick last told
unfolding window_sums
has_no_tick first_tick last told sums none are = are ∙ ap (λ b. cond b no_sums (sums_from first_tick last told)) (sym (lt-ltb last first_tick none))

pub IsWithin-more : (parts more : ℕ) (window : Window) → parts ≤ more → IsWithin parts window → IsWithin more window
IsWithin-more parts more window le within = record {
  arrivals = omega (arith, within.arrivals);
  served = omega (arith, within.served);
  lost = omega (arith, within.lost);
  busy_now = omega (arith, within.busy_now);
  waiting_now = omega (arith, within.waiting_now);
  busy = omega (arith, within.busy);
  waiting = omega (arith, within.waiting);
  age = omega (arith, within.age);
}
