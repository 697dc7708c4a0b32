use Rattle.std.proofs.Common.{ap, arith}
use Rattle.shop_totals.specs.declared.class_sums.ClassSums.{ClassSums}
use Rattle.shop_totals.specs.Sums.{after_inside, class_sums_of}
use Rattle.shop_totals.specs.Told.{TimedPart}
use Rattle.shop_totals.proofs.KeptLemmas.{kept_more}
use Rattle.shop_totals.proofs.class_sums.ClassSums.and.Goals as goal

pub returns-clause-sums : goal.returns-clause-sums
unfolding class_sums_of
returns-clause-sums c told are is =
    let sums = c.args.self in
    let one : TimedPart = record { time = sums.clock; part = c.args.part } in
    let counted = c.counted.ensures.sums told is in
    let first = ap (λ (s : ClassSums). s.first) counted in
    let clock = ap (λ (s : ClassSums). s.clock) counted in
    let made = ap (λ (s : ClassSums). s.made) counted in
    let left = ap (λ (s : ClassSums). s.left) counted in
    let dropped = ap (λ (s : ClassSums). s.dropped) counted in
    let late = ap (λ (s : ClassSums). s.late) counted in
    let ages = ap (λ (s : ClassSums). s.ages) counted in
    let inside =
    kept_more after_inside 0 sums.first told one sums.inside c.after_inside.result
    (ap (λ (s : ClassSums). s.inside) is) c.after_inside.ensures.number in
    cc (first, clock, made, left, dropped, late, ages, inside)

pub returns-clause-within : goal.returns-clause-within
returns-clause-within c parts within =
    let counted = c.counted.ensures.within parts within in
    record {
      made = counted.made;
      left = counted.left;
      dropped = counted.dropped;
      late = counted.late;
      ages = counted.ages;
      inside = omega (arith, within.inside, c.after_inside.ensures.few);
      inside_ticks = omega (arith, within.inside_ticks, c.counted.ensures.clock);
    }
