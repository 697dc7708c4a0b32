-- A number and its sum over the ticks, as time goes on and as a part more is told.
use Rattle.std.proofs.Common.{◌≡◌, ℕ, ◌+◌, ◌-◌, ◌*◌, ◌^◌, ◌<◌, ◌≤◌, zero, suc, cond, List, [], ◌∷◌, ◌++◌, refl, ap, sym, ◌∙◌, append-nil, mul-le-mul_right, arith}
use Rattle.std.specs.Prelude.{nat_le, sum_by}
use Rattle.std.specs.List.{range_with_len}
use Rattle.std.proofs.lemmas.Bool.{le-leb, lt-leb}
use Rattle.std.proofs.lemmas.List.Elements.{All-head, All-tail, filter-append}
use Rattle.std.proofs.lemmas.List.Sums.{sum_by-cons}
use Rattle.model_core.specs.declared.note.Part.{Part}
use Rattle.shop_model.specs.LevelSums.{sums_same}
use Rattle.shop_totals.specs.declared.kept.Kept.{Kept}
use Rattle.shop_totals.specs.Kept.{number_after, ticks_of, kept_of, ticks_between}
use Rattle.shop_totals.specs.Told.{TimedPart, told_by, AreBy}

pub sums_split : (f : ℕ → ℕ) (a n m : ℕ) → sum_by f (range_with_len a (n + m)) ≡ sum_by f (range_with_len a n) + sum_by f (range_with_len (a + n) m)
sums_split f a zero m =
    let whole : zero + m ≡ m = omega arith in
    let from : a + zero ≡ a = omega arith in
    let rest : sum_by f (range_with_len (a + zero) m) ≡ sum_by f (range_with_len a m) = ap (λ k. sum_by f (range_with_len k m)) from in
    omega (arith, ap (λ k. sum_by f (range_with_len a k)) whole, rest)
sums_split f a (suc n) m =
    let more : suc n + m ≡ suc (n + m) = omega arith in
    let next : a + suc n ≡ a + 1 + n = omega arith in
    let whole : sum_by f (range_with_len a (suc n + m)) ≡ f a + sum_by f (range_with_len (a + 1) (n + m)) =
    ap (λ k. sum_by f (range_with_len a k)) more ∙ sum_by-cons f a (range_with_len (a + 1) (n + m)) in
    let first : sum_by f (range_with_len a (suc n)) ≡ f a + sum_by f (range_with_len (a + 1) n) = sum_by-cons f a (range_with_len (a + 1) n) in
    let rest : sum_by f (range_with_len (a + 1) (n + m)) ≡ sum_by f (range_with_len (a + 1) n) + sum_by f (range_with_len (a + 1 + n) m) =
    sums_split f (a + 1) n m in
    let last : sum_by f (range_with_len (a + suc n) m) ≡ sum_by f (range_with_len (a + 1 + n) m) = ap (λ k. sum_by f (range_with_len k m)) next in
    omega (arith, whole, first, rest, last)

sums_constant : (f : ℕ → ℕ) (value a m : ℕ) → ((k : ℕ) → a ≤ k → f k ≡ value) → sum_by f (range_with_len a m) ≡ value * m
sums_constant f value a zero same = omega arith
sums_constant f value a (suc m) same =
    let whole : sum_by f (range_with_len a (suc m)) ≡ f a + sum_by f (range_with_len (a + 1) m) = sum_by-cons f a (range_with_len (a + 1) m) in
    let rest : sum_by f (range_with_len (a + 1) m) ≡ value * m = sums_constant f value (a + 1) m (λ k from. same k (omega arith)) in
    let one : suc m ≡ m + 1 = omega arith in
    let more : value * suc m ≡ value * m + value = ap (λ k. value * k) one ∙ omega arith in
    omega (arith, whole, rest, more, same a (omega arith))

-- all are told by then
told_by-all : (time tick : ℕ) (told : List TimedPart) → time ≤ tick → AreBy time told → told_by tick told ≡ told
told_by-all time tick [] le are = refl
told_by-all time tick (one ∷ rest) le are =
    let here : one.time ≤ time = All-head (λ (one : TimedPart). one.time ≤ time) one rest are in
    ap (λ b. cond b (one ∷ told_by tick rest) (told_by tick rest)) (le-leb one.time tick (omega arith))
    ∙ ap (λ more. one ∷ more) (told_by-all time tick rest le (All-tail (λ (one : TimedPart). one.time ≤ time) one rest are))

-- what is told later isn't told by then
told_by-later : (tick : ℕ) (told : List TimedPart) (one : TimedPart) → tick < one.time → told_by tick (told ++ one ∷ []) ≡ told_by tick told
told_by-later tick told one later =
    filter-append (λ (one : TimedPart). nat_le one.time tick) told (one ∷ [])
    ∙ ap (λ b. told_by tick told ++ cond b (one ∷ []) []) (lt-leb one.time tick later)
    ∙ append-nil (told_by tick told)

number_after-more : (after : ℕ → Part → ℕ) (now : ℕ) (told : List TimedPart) (one : TimedPart)
    → number_after after now (told ++ one ∷ []) ≡ after (number_after after now told) one.part
unfolding number_after
number_after-more after now [] one = refl
number_after-more after now (first ∷ rest) one = number_after-more after (after now first.part) rest one

ticks_pass : (after : ℕ → Part → ℕ) (now first : ℕ) (told : List TimedPart) (earlier later : ℕ) → AreBy earlier told → earlier ≤ later
    → ticks_of after now first told later ≡ ticks_of after now first told earlier + number_after after now told * ticks_between first earlier later
unfolding ticks_of
ticks_pass after now first told earlier later are le =
    let f = λ (tick : ℕ). number_after after now (told_by tick told) in
    let before = earlier - first in
    let between = ticks_between first earlier later in
    let all : later - first ≡ before + between = omega arith in
    ap (λ k. sum_by f (range_with_len first k)) all
    ∙ sums_split f first before between
    ∙ ap (λ rest. sum_by f (range_with_len first before) + rest)
    (sums_constant f (number_after after now told) (first + before) between
    (λ k from. ap (λ told. number_after after now told) (told_by-all earlier k told (omega arith) are)))

ticks_more : (after : ℕ → Part → ℕ) (now first : ℕ) (told : List TimedPart) (one : TimedPart)
    → ticks_of after now first (told ++ one ∷ []) one.time ≡ ticks_of after now first told one.time
unfolding ticks_of
ticks_more after now first told one =
    sums_same (λ tick. number_after after now (told_by tick told)) (λ tick. number_after after now (told_by tick (told ++ one ∷ []))) first
    (one.time - first)
    (λ tick from to. ap (λ told. number_after after now told) (told_by-later tick told one (omega arith)))

-- before anything is told
pub kept_none : (after : ℕ → Part → ℕ) (now first : ℕ) (kept : Kept) → kept ≡ record { number = now; ticks = 0 } → kept ≡ kept_of after now first [] 0
unfolding number_after ticks_of
kept_none after now first kept is =
    let none : 0 - first ≡ 0 = omega arith in
    is
    ∙ ap (λ n. let more : Kept = record { number = now; ticks = sum_by (λ tick. number_after after now (told_by tick [])) (range_with_len first n) } in more) (sym none)

-- the time goes on
pub kept_pass : (after : ℕ → Part → ℕ) (now first : ℕ) (told : List TimedPart) (earlier later ticks : ℕ) (kept passed : Kept) → AreBy earlier told
    → earlier ≤ later
    → kept ≡ kept_of after now first told earlier → ticks ≡ ticks_between first earlier later
    → passed ≡ record kept { ticks = kept.ticks + kept.number * ticks } → passed ≡ kept_of after now first told later
kept_pass after now first told earlier later ticks kept passed are le is between passes =
    passes
    ∙ ap (λ n. let more : Kept = record kept { ticks = kept.ticks + kept.number * n } in more) between
    ∙ ap (λ (k : Kept). let more : Kept = record k { ticks = k.ticks + k.number * ticks_between first earlier later } in more) is
    ∙ ap (λ ticks. let more : Kept = record { number = number_after after now told; ticks = ticks } in more)
    (sym (ticks_pass after now first told earlier later are le))

-- a part more is told
pub kept_more : (after : ℕ → Part → ℕ) (now first : ℕ) (told : List TimedPart) (one : TimedPart) (kept : Kept) (number : ℕ)
    → kept ≡ kept_of after now first told one.time → number ≡ after kept.number one.part
    → record kept { number = number } ≡ kept_of after now first (told ++ one ∷ []) one.time
kept_more after now first told one kept number is same =
    let was : after kept.number one.part ≡ number_after after now (told ++ one ∷ []) =
    ap (λ (k : Kept). after k.number one.part) is ∙ sym (number_after-more after now told one) in
    ap (λ n. let more : Kept = record kept { number = n } in more) (same ∙ was)
    ∙ ap (λ (k : Kept). let more : Kept = record k { number = number_after after now (told ++ one ∷ []) } in more) is
    ∙ ap (λ ticks. let more : Kept = record { number = number_after after now (told ++ one ∷ []); ticks = ticks } in more)
    (sym (ticks_more after now first told one))

-- a number below 2 ^ 64, summed up over the ticks of the time that goes by
pub ticks_within : (first earlier later ticks : ℕ) (kept passed : Kept) → kept.number < 2 ^ 64 → kept.ticks ≤ 2 ^ 64 * earlier → earlier ≤ later
    → ticks ≡ ticks_between first earlier later → passed ≡ record kept { ticks = kept.ticks + kept.number * ticks } → passed.ticks ≤ 2 ^ 64 * later
ticks_within first earlier later ticks kept passed small within le between passes =
    let most : kept.number * ticks ≤ 2 ^ 64 * ticks = mul-le-mul_right ticks (omega arith) in
    let sum : passed.ticks ≡ kept.ticks + kept.number * ticks = ap (λ (k : Kept). k.ticks) passes in
    omega (arith, most, sum)
