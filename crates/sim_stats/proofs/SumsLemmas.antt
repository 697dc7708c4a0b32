-- The sums with one word more.
use Rattle.std.proofs.Common.{◌≡◌, ℕ, ◌+◌, ◌-◌, ◌*◌, ◌≤◌, Bool, true, false, List, [], ◌∷◌, ◌++◌, refl, sym, ap, ◌∙◌, arith, cond, mul-le-mul_right}
use Rattle.std.specs.Int.{from_bool}
use Rattle.std.specs.List.{sum_by}
use Rattle.std.proofs.lemmas.List.Sums.{sum_by-append}
use Rattle.sim_stats.specs.declared.occupancy.Occupancy.{Occupancy}
use Rattle.sim_stats.specs.declared.sums.Sums.{Sums}
use Rattle.sim_stats.specs.Occupancies.{nobody, after_word, after_words, Interval, intervals_from, intervals}
use Rattle.sim_stats.specs.Sums.{count_told, last_told, sums_of, IsWithin}
use Rattle.sim_stats.specs.Words.{is_arrival, is_service, is_loss, TimedWord}

after_words-more : (now : Occupancy) (told : List TimedWord) (one : TimedWord)
    → after_words now (told ++ one ∷ []) ≡ after_word (after_words now told) one.word
unfolding after_words
after_words-more now [] one = refl
after_words-more now (first ∷ rest) one = after_words-more (after_word now first.word) rest one

last_told-more : (time : ℕ) (told : List TimedWord) (one : TimedWord) → last_told time (told ++ one ∷ []) ≡ one.time
unfolding last_told
last_told-more time [] one = refl
last_told-more time (first ∷ rest) one = last_told-more first.time rest one

intervals_from-more : (now : Occupancy) (time : ℕ) (told : List TimedWord) (one : TimedWord)
    → intervals_from now time (told ++ one ∷ []) ≡ intervals_from now time told ++ record { occupancy = after_words now told; ticks = one.time - last_told time told } ∷ []
unfolding intervals_from after_words last_told
intervals_from-more now time [] one = refl
intervals_from-more now time (first ∷ rest) one =
    ap (λ (more : List Interval). record { occupancy = now; ticks = first.time - time } ∷ more)
    (intervals_from-more (after_word now first.word) first.time rest one)

-- a sum over intervals of something of which there is none where nobody is
ticks-more : (f : Occupancy → ℕ) → f nobody ≡ 0 → (told : List TimedWord) (one : TimedWord)
    → sum_by (λ (i : Interval). i.ticks * f i.occupancy) (intervals (told ++ one ∷ []))
    ≡ sum_by (λ (i : Interval). i.ticks * f i.occupancy) (intervals told) + (one.time - last_told 0 told) * f (after_words nobody told)
unfolding intervals intervals_from after_words last_told
ticks-more f none [] one = omega (arith, ap (λ n. (one.time - 0) * n) none)
ticks-more f none (first ∷ rest) one =
    let g : Interval → ℕ = λ i. i.ticks * f i.occupancy in
    let now : Occupancy = after_word nobody first.word in
    let last : Interval = record { occupancy = after_words now rest; ticks = one.time - last_told first.time rest } in
    ap (λ (is : List Interval). sum_by g is) (intervals_from-more now first.time rest one)
    ∙ sum_by-append g (intervals_from now first.time rest) (last ∷ [])
    ∙ omega arith

-- the sums with a word more, from those before it
abbrev pub with_word : Sums → TimedWord → Sums
with_word sums one = record {
  arrivals = sums.arrivals + from_bool (is_arrival one.word);
  served = sums.served + from_bool (is_service one.word);
  lost = sums.lost + from_bool (is_loss one.word);
  busy_ticks = sums.busy_ticks + (one.time - sums.last) * sums.occupancy.busy;
  waiting_ticks = sums.waiting_ticks + (one.time - sums.last) * sums.occupancy.waiting;
  occupancy = after_word sums.occupancy one.word;
  last = one.time;
}

count-more : (is_one : ℕ → Bool) (told : List TimedWord) (one : TimedWord)
    → count_told is_one (told ++ one ∷ []) ≡ count_told is_one told + from_bool (is_one one.word)
count-more is_one told one = sum_by-append (λ (one : TimedWord). cond (is_one one.word) 1 0) told (one ∷ []) ∙ by (is_one one.word)
  where
    by : (b : Bool) → count_told is_one told + (0 + cond b 1 0) ≡ count_told is_one told + from_bool b
    by true = omega arith
    by false = omega arith

pub sums_of-more : (told : List TimedWord) (one : TimedWord) → sums_of (told ++ one ∷ []) ≡ with_word (sums_of told) one
unfolding sums_of
sums_of-more told one =
    simp (count-more, ticks-more (λ (o : Occupancy). o.busy) refl, ticks-more (λ (o : Occupancy). o.waiting) refl, after_words-more, last_told-more)

-- the sums of more words are these, part by part
pub adds_word : (old : Sums) (told : List TimedWord) (one : TimedWord) (arrivals served lost busy waiting : ℕ) (after : Occupancy)
    → arrivals ≡ old.arrivals + from_bool (is_arrival one.word) → served ≡ old.served + from_bool (is_service one.word)
    → lost ≡ old.lost + from_bool (is_loss one.word)
    → busy ≡ old.busy_ticks + (one.time - old.last) * old.occupancy.busy → waiting ≡ old.waiting_ticks + (one.time - old.last) * old.occupancy.waiting
    → after ≡ after_word old.occupancy one.word → old ≡ sums_of told
    → ◌≡◌ {A = Sums} (record { arrivals = arrivals; served = served; lost = lost; busy_ticks = busy; waiting_ticks = waiting; occupancy = after; last = one.time }) (sums_of (told ++ one ∷ []))
adds_word old told one arrivals served lost busy waiting after arrivals_are served_are lost_are busy_are waiting_are after_is summed =
    let same : ◌≡◌ {A = Sums} (record { arrivals = arrivals; served = served; lost = lost; busy_ticks = busy; waiting_ticks = waiting; occupancy = after; last = one.time }) (with_word old one) = cc in
    same ∙ ap (λ (sums : Sums). with_word sums one) summed ∙ sym (sums_of-more told one)

pub IsWithin-more : (words more : ℕ) (sums : Sums) → words ≤ more → IsWithin words sums → IsWithin more sums
IsWithin-more words more sums le within = record {
  arrivals = omega (arith, within.arrivals);
  served = omega (arith, within.served);
  lost = omega (arith, within.lost);
  busy = omega (arith, within.busy);
  waiting = omega (arith, within.waiting);
  busy_ticks = omega (arith, within.busy_ticks, mul-le-mul_right sums.last le);
  waiting_ticks = omega (arith, within.waiting_ticks, mul-le-mul_right sums.last le);
}
