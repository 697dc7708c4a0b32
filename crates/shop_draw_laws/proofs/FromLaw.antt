-- What is told before a tick and what is told from it on are all that is told.
use Rattle.std.proofs.Common.{◌≡◌, ℕ, ◌+◌, ◌-◌, ◌<◌, ◌≤◌, Bool, true, false, cond, List, [], ◌∷◌, refl, ap, ◌∙◌, arith}
use Rattle.std.specs.Prelude.{nat_lt, nat_le, sum_by}
use Rattle.std.specs.List.{range_with_len}
use Rattle.std.proofs.lemmas.Bool.{ltb-true, ltb-false, leb-true, leb-false}
use Rattle.std.proofs.lemmas.List.Sums.{sum_by-cons}
use Rattle.shop_totals.specs.Flows.{is_coming, is_beginning, is_end, is_loss, is_reneging, count_told, flow_of}
use Rattle.shop_totals.specs.Kept.{number_after, ticks_of}
use Rattle.shop_totals.specs.Told.{TimedPart, told_by, told_from}
use Rattle.shop_laws.specs.FlowLaws.{told_of}
use Rattle.shop_draw_laws.specs.FromLaws.{told_before, TotalsFrom}
use Rattle.shop_totals.proofs.KeptLemmas.{sums_split}

-- words are told before a tick, or from it on
split : (c : ℕ → Bool) (first : ℕ) (told : List TimedPart) → count_told c told ≡ count_told c (told_before first told) + count_told c (told_from first told)
split c first [] = omega arith
split c first (one ∷ rest) = by (nat_lt one.time first) (nat_le first one.time) refl refl (split c first rest)
  where
    f : TimedPart → ℕ
    f one = cond (c one.part.word) 1 0

    by : (before after : Bool) → nat_lt one.time first ≡ before → nat_le first one.time ≡ after
        → count_told c rest ≡ count_told c (told_before first rest) + count_told c (told_from first rest)
        → count_told c (one ∷ rest)
        ≡ count_told c (cond before (one ∷ told_before first rest) (told_before first rest)) + count_told c (cond after (one ∷ told_from first rest) (told_from first rest))
    by true true before after more = absurd (let lt : one.time < first = ltb-true _ _ before in let le : first ≤ one.time = leb-true _ _ after in omega arith)
    by true false before after more =
        omega (arith, more, sum_by-cons (λ (one : TimedPart). cond (c one.part.word) 1 0) one rest, sum_by-cons (λ (one : TimedPart). cond (c one.part.word) 1 0) one (told_before first rest))
    by false true before after more =
        omega (arith, more, sum_by-cons (λ (one : TimedPart). cond (c one.part.word) 1 0) one rest, sum_by-cons (λ (one : TimedPart). cond (c one.part.word) 1 0) one (told_from first rest))
    by false false before after more = absurd (let ge : first ≤ one.time = ltb-false _ _ before in let gt : one.time < first = leb-false _ _ after in omega arith)

pub totals_from : TotalsFrom
unfolding flow_of ticks_of
totals_from p t n i first clock le =
    let told : List TimedPart = told_of p t n i in
    record {
      came = split is_coming first told;
      begun = split is_beginning first told;
      done = split is_end first told;
      lost = split is_loss first told;
      reneged = split is_reneging first told;
      ticks = λ after now.
          let f : ℕ → ℕ = λ tick. number_after after now (told_by tick told) in
          let all : clock - 0 ≡ first + (clock - first) = omega (arith, le) in
          let from : 0 + first ≡ first = omega arith in
          let early : first ≡ first - 0 = omega arith in
          ap (λ k. sum_by f (range_with_len 0 k)) all
          ∙ sums_split f 0 first (clock - first)
          ∙ ap (λ k. sum_by f (range_with_len 0 first) + sum_by f (range_with_len k (clock - first))) from
          ∙ ap (λ k. sum_by f (range_with_len 0 k) + sum_by f (range_with_len first (clock - first))) early;
    }
