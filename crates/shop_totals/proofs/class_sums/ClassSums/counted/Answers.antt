use Rattle.std.proofs.Common.{ℕ, Bool, List, ◌==◌, ap, sym, ◌∙◌, arith}
use Rattle.std.specs.Prelude.{sum_by}
use Rattle.std.proofs.lemmas.List.Sums.{sum_by_push}
use Rattle.model_core.specs.declared.words.TheConstants.{MADE_WORD, LEFT_WORD, DROPPED_WORD, OVERDUE_WORD}
use Rattle.shop_totals.specs.declared.class_sums.ClassSums.{ClassSums}
use Rattle.shop_totals.specs.Flows.{count_told}
use Rattle.shop_totals.specs.Sums.{age_told, class_sums_of}
use Rattle.shop_totals.specs.Told.{TimedPart, told_from}
use Rattle.shop_totals.proofs.FlowLemmas.{count_more, told_from-counts, told_from-passes}
use Rattle.shop_totals.proofs.class_sums.ClassSums.counted.Goals as goal

pub returns-then-self-clause-sums : goal.returns-then-self-clause-sums
unfolding class_sums_of
returns-then-self-clause-sums c told is =
    let sums = c.args.self in
    let one : TimedPart = record { time = sums.clock; part = c.args.part } in
    let same = told_from-passes sums.first told one (omega arith) in
    let with_told = λ (counted : List TimedPart). let all : ClassSums = record (class_sums_of sums.first told sums.clock) {
      made = count_told (λ word. word == MADE_WORD) counted;
      left = count_told (λ word. word == LEFT_WORD) counted;
      dropped = count_told (λ word. word == DROPPED_WORD) counted;
      late = count_told (λ word. word == OVERDUE_WORD) counted;
      ages = sum_by (λ (one : TimedPart). age_told one.part) counted;
      inside = sums.inside;
    } in all in
    ap (λ (s : ClassSums). let all : ClassSums = record s { first = sums.first; clock = sums.clock; inside = sums.inside } in all) is
    ∙ ap with_told (sym same)

pub returns-clause-sums : goal.returns-clause-sums
unfolding class_sums_of
returns-clause-sums c told is =
    let sums = c.args.self in
    let one : TimedPart = record { time = sums.clock; part = c.args.part } in
    let more = told_from-counts sums.first told one (omega arith) in
    let seen = told_from sums.first told in
    let count = λ (test : ℕ → Bool). ap (λ (counted : List TimedPart). count_told test counted) more ∙ count_more test seen one in
    let made = count (λ word. word == MADE_WORD) in
    let left = count (λ word. word == LEFT_WORD) in
    let dropped = count (λ word. word == DROPPED_WORD) in
    let late = count (λ word. word == OVERDUE_WORD) in
    let ages =
    ap (λ (counted : List TimedPart). sum_by (λ (one : TimedPart). age_told one.part) counted) more
    ∙ sum_by_push (λ (one : TimedPart). age_told one.part) seen one in
    let was_made = ap (λ (s : ClassSums). s.made) is in
    let was_left = ap (λ (s : ClassSums). s.left) is in
    let was_dropped = ap (λ (s : ClassSums). s.dropped) is in
    let was_late = ap (λ (s : ClassSums). s.late) is in
    let was_ages = ap (λ (s : ClassSums). s.ages) is in
    cc (made, left, dropped, late, ages, was_made, was_left, was_dropped, was_late, was_ages)
