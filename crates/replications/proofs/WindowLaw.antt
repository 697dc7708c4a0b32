-- A window from tick 0 counts what totals count.
use Rattle.std.proofs.Common.{◌≡◌, ℕ, ◌+◌, ◌-◌, ◌*◌, Bool, List, [], ◌∷◌, max, cond, refl, sym, ap, ◌∙◌, arith}
use Rattle.std.specs.Prelude.{nat_le}
use Rattle.std.specs.List.{filter, sum_by}
use Rattle.std.proofs.lemmas.Bool.{le-leb, le-ltb}
use Rattle.std.proofs.lemmas.List.Sums.{sum_by-cons}
use Rattle.sim_stats.specs.declared.occupancy.Occupancy.{Occupancy}
use Rattle.sim_stats.specs.Occupancies.{nobody, after_word, after_words, Interval, intervals, intervals_from}
use Rattle.sim_stats.specs.Sums.{count_told, last_told, sums_of}
use Rattle.sim_stats.specs.Words.{TimedWord, is_arrival, is_service, is_loss}
use Rattle.replications.specs.declared.left.Left.{Left}
use Rattle.replications.specs.declared.window.Columns.{Columns}
use Rattle.replications.specs.Parts.{TimedPart, from_tick}
use Rattle.replications.specs.Stays.{left_at_first, left_by, lefts, lefts_after, last_left, spent}
use Rattle.replications.specs.Windows.{busy_servers, waiting_jobs, count_parts, no_sums, sums_from, window_sums}
use Rattle.replications.specs.WindowLaws.{words_of, WindowLaw}
use Rattle.replications.proofs.StayLemmas.{spent-cons, spent-none, spent-to}

from_tick-all : (told : List TimedPart) → from_tick 0 told ≡ told
unfolding from_tick
from_tick-all [] = refl
from_tick-all (one ∷ rest) =
    let late : TimedPart → Bool = λ one. nat_le 0 one.time in
    ap (λ b. cond b (one ∷ filter late rest) (filter late rest)) (le-leb 0 one.time (omega arith)) ∙ ap (λ (rest : List TimedPart). one ∷ rest) (from_tick-all rest)

counts-same : (is_one : ℕ → Bool) (told : List TimedPart) → count_parts is_one told ≡ count_told is_one (words_of told)
unfolding words_of
counts-same is_one [] = refl
counts-same is_one (one ∷ rest) =
    sum_by-cons (λ (one : TimedPart). cond (is_one one.part.word) 1 0) one rest
    ∙ ap (λ n. cond (is_one one.part.word) 1 0 + n) (counts-same is_one rest)
    ∙ sym (sum_by-cons (λ (word : TimedWord). cond (is_one word.word) 1 0) (record { time = one.time; word = one.part.word }) (words_of rest))

count-from : (is_one : ℕ → Bool) (told : List TimedPart) → count_parts is_one (from_tick 0 told) ≡ count_told is_one (words_of told)
count-from is_one told = ap (count_parts is_one) (from_tick-all told) ∙ counts-same is_one told

last-after : (since : ℕ) (now : Occupancy) (told : List TimedPart)
    → last_left (record { since = since; occupancy = now }) (lefts_after now told) ≡ record { since = last_told since (words_of told); occupancy = after_words now (words_of told) }
unfolding lefts_after last_left last_told after_words words_of
last-after since now [] = refl
last-after since now (one ∷ rest) = last-after one.time (after_word now one.part.word) rest

module _ (of : Occupancy → ℕ) where
  of_interval : Interval → ℕ
  of_interval i = i.ticks * of i.occupancy

  ticks-from : (a : Left) (rest : List TimedPart)
      → spent of 0 (last_left a (lefts_after a.occupancy rest)).since (a ∷ lefts_after a.occupancy rest) ≡ sum_by of_interval (intervals_from a.occupancy a.since (words_of rest))
  unfolding lefts_after last_left intervals_from words_of of_interval
  ticks-from a [] =
      let whole = spent-cons of 0 a.since a [] in
      let empty = spent-none of 0 a.since in
      let none : a.since - max a.since 0 ≡ 0 = omega arith in
      let nothing = ap (λ n. n * of a.occupancy) none in
      omega (arith, whole, empty, nothing)
  ticks-from a (one ∷ rest) =
      let b : Left = left_by a.occupancy one in
      let last : ℕ = (last_left b (lefts_after b.occupancy rest)).since in
      let lasts : max a.since 0 ≡ a.since = omega arith in
      spent-cons of 0 last a (b ∷ lefts_after b.occupancy rest)
      ∙ ap (λ n. (one.time - n) * of a.occupancy + spent of 0 last (b ∷ lefts_after b.occupancy rest)) lasts
      ∙ ap (λ n. (one.time - a.since) * of a.occupancy + n) (ticks-from b rest)
      ∙ sym (sum_by-cons of_interval (record { occupancy = a.occupancy; ticks = one.time - a.since }) (intervals_from b.occupancy b.since (words_of rest)))

  ticks-same : (told : List TimedPart) → spent of 0 (last_left left_at_first (lefts told)).since (lefts told) ≡ sum_by of_interval (intervals (words_of told))
  unfolding lefts_after last_left intervals words_of
  ticks-same [] = spent-none of 0 0
  ticks-same (one ∷ rest) = ticks-from (left_by nobody one) rest

  goes_on : of nobody ≡ 0 → (last : ℕ) (told : List TimedPart)
      → spent of 0 last (lefts told) ≡ sum_by of_interval (intervals (words_of told)) + (last - last_told 0 (words_of told)) * of (after_words nobody (words_of told))
  goes_on none last told =
      let to = spent-to of none 0 last (lefts told) in
      let rest : Left → ℕ = λ left. (last - max left.since 0) * of left.occupancy in
      let none_more : max (last_told 0 (words_of told)) 0 ≡ last_told 0 (words_of told) = omega arith in
      to ∙ ap (λ n. n + rest (last_left left_at_first (lefts told))) (ticks-same told)
      ∙ ap (λ (left : Left). sum_by of_interval (intervals (words_of told)) + rest left) (last-after 0 nobody told)
      ∙ ap (λ n. sum_by of_interval (intervals (words_of told)) + (last - n) * of (after_words nobody (words_of told))) none_more

sums-open : (last : ℕ) (told : List TimedPart) → window_sums 0 last told ≡ sums_from 0 last told
unfolding window_sums
sums-open last told = ap (λ b. cond b no_sums (sums_from 0 last told)) (le-ltb last 0 (omega arith))

pub window_law : WindowLaw
unfolding sums_of sums_from of_interval
window_law last told = record {
  arrivals = ap (λ (sums : Columns). sums.arrivals) (sums-open last told) ∙ count-from is_arrival told;
  served = ap (λ (sums : Columns). sums.served) (sums-open last told) ∙ count-from is_service told;
  lost = ap (λ (sums : Columns). sums.lost) (sums-open last told) ∙ count-from is_loss told;
  busy = ap (λ (sums : Columns). sums.busy) (sums-open last told) ∙ goes_on busy_servers refl last told;
  waiting = ap (λ (sums : Columns). sums.waiting) (sums-open last told) ∙ goes_on waiting_jobs refl last told;
}
