-- What is spent over stays, with one more of them and up to a later tick.
use Rattle.std.proofs.Common.{◌≡◌, ℕ, ◌+◌, ◌-◌, ◌*◌, List, [], ◌∷◌, ◌++◌, max, refl, sym, ap, ◌∙◌, arith}
use Rattle.std.proofs.lemmas.List.Sums.{sum_by-cons}
use Rattle.sim_stats.specs.declared.occupancy.Occupancy.{Occupancy}
use Rattle.sim_stats.specs.Occupancies.{nobody, after_word}
use Rattle.replications.specs.declared.left.Left.{Left}
use Rattle.replications.specs.Parts.{TimedPart}
use Rattle.replications.specs.Stays.{left_at_first, left_by, lefts_after, lefts, last_left, Stay, next_since, stays, ticks_within, spent}

lefts_after-more : (since : ℕ) (now : Occupancy) (told : List TimedPart) (one : TimedPart)
    → lefts_after now (told ++ one ∷ []) ≡ lefts_after now told ++ left_by (last_left (record { since = since; occupancy = now }) (lefts_after now told)).occupancy one ∷ []
unfolding lefts_after last_left
lefts_after-more since now [] one = refl
lefts_after-more since now (next ∷ rest) one =
    ap (λ (more : List Left). left_by now next ∷ more) (lefts_after-more next.time (after_word now next.part.word) rest one)

-- a part more leaves what comes of what the last one before it left
pub lefts-more : (told : List TimedPart) (one : TimedPart) → lefts (told ++ one ∷ []) ≡ lefts told ++ left_by (last_left left_at_first (lefts told)).occupancy one ∷ []
lefts-more told one = lefts_after-more 0 nobody told one

pub last_left-more : (before : Left) (left : List Left) (one : Left) → last_left before (left ++ one ∷ []) ≡ one
unfolding last_left
last_left-more before [] one = refl
last_left-more before (next ∷ rest) one = last_left-more next rest one

-- the first stay, and those behind it
pub spent-cons : (of : Occupancy → ℕ) (first_tick last : ℕ) (a : Left) (rest : List Left)
    → spent of first_tick last (a ∷ rest) ≡ (next_since last rest - max a.since first_tick) * of a.occupancy + spent of first_tick last rest
unfolding spent stays
spent-cons of first_tick last a rest =
    sum_by-cons (λ (stay : Stay). ticks_within first_tick stay * of stay.left.occupancy) (record { left = a; until = next_since last rest }) (stays last rest)

no_ticks : (tick first_tick : ℕ) → tick - max tick first_tick ≡ 0
no_ticks tick first_tick = omega arith

pub spent-none : (of : Occupancy → ℕ) (first_tick last : ℕ) → spent of first_tick last [] ≡ 0
unfolding spent stays
spent-none of first_tick last = refl

-- one that begins at the last tick lasts for none
spent-append : (of : Occupancy → ℕ) (first_tick : ℕ) (left : List Left) (one : Left) → spent of first_tick one.since (left ++ one ∷ []) ≡ spent of first_tick one.since left
spent-append of first_tick [] one =
    spent-cons of first_tick one.since one [] ∙ ap (λ n. n * of one.occupancy + spent of first_tick one.since []) (no_ticks one.since first_tick) ∙ omega arith
spent-append of first_tick (a ∷ []) one =
    spent-cons of first_tick one.since a (one ∷ [])
    ∙ ap (λ n. (one.since - max a.since first_tick) * of a.occupancy + n) (spent-append of first_tick [] one)
    ∙ sym (spent-cons of first_tick one.since a [])
spent-append of first_tick (a ∷ b ∷ rest) one =
    spent-cons of first_tick one.since a (b ∷ rest ++ one ∷ [])
    ∙ ap (λ n. (b.since - max a.since first_tick) * of a.occupancy + n) (spent-append of first_tick (b ∷ rest) one)
    ∙ sym (spent-cons of first_tick one.since a (b ∷ rest))

spent-later : (of : Occupancy → ℕ) (first_tick last : ℕ) (a : Left) (rest : List Left)
    → spent of first_tick last (a ∷ rest)
    ≡ spent of first_tick (last_left a rest).since (a ∷ rest) + (last - max (last_left a rest).since first_tick) * of (last_left a rest).occupancy
unfolding last_left
spent-later of first_tick last a [] =
    let now = spent-cons of first_tick last a [] in
    let then = spent-cons of first_tick a.since a [] in
    let none = ap (λ n. n * of a.occupancy) (no_ticks a.since first_tick) in
    let empty = spent-none of first_tick last in
    let empty_then = spent-none of first_tick a.since in
    omega (arith, now, then, none, empty, empty_then)
spent-later of first_tick last a (b ∷ rest) =
    let now = spent-cons of first_tick last a (b ∷ rest) in
    let then = spent-cons of first_tick (last_left b rest).since a (b ∷ rest) in
    let more = spent-later of first_tick last b rest in
    omega (arith, now, then, more)

-- up to a later tick, the last one lasts until then
pub spent-to : (of : Occupancy → ℕ) → of nobody ≡ 0 → (first_tick last : ℕ) (left : List Left)
    → spent of first_tick last left
    ≡ spent of first_tick (last_left left_at_first left).since left + (last - max (last_left left_at_first left).since first_tick) * of (last_left left_at_first left).occupancy
unfolding last_left
spent-to of none first_tick last [] =
    let empty = spent-none of first_tick last in
    let empty_then = spent-none of first_tick 0 in
    let nothing = ap (λ n. (last - max 0 first_tick) * n) none in
    omega (arith, empty, empty_then, nothing)
spent-to of none first_tick last (a ∷ rest) = spent-later of first_tick last a rest

-- with one more, up to when it begins
pub spent-more : (of : Occupancy → ℕ) → of nobody ≡ 0 → (first_tick : ℕ) (left : List Left) (one : Left)
    → spent of first_tick one.since (left ++ one ∷ [])
    ≡ spent of first_tick (last_left left_at_first left).since left + (one.since - max (last_left left_at_first left).since first_tick) * of (last_left left_at_first left).occupancy
spent-more of none first_tick left one = spent-append of first_tick left one ∙ spent-to of none first_tick one.since left
