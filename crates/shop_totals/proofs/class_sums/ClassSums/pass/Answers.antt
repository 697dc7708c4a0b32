use Rattle.std.proofs.Common.{ap, arith}
use Rattle.shop_totals.specs.declared.kept.Kept.{Kept}
use Rattle.shop_totals.specs.declared.class_sums.ClassSums.{ClassSums}
use Rattle.shop_totals.specs.Sums.{after_inside, class_sums_of}
use Rattle.shop_totals.proofs.KeptLemmas.{kept_pass, ticks_within}
use Rattle.shop_totals.proofs.class_sums.ClassSums.pass.Goals as goal

pub returns-clause-sums : goal.returns-clause-sums
unfolding class_sums_of
returns-clause-sums c told are is =
    let sums = c.args.self in
    let made = ap (λ (s : ClassSums). s.made) is in
    let left = ap (λ (s : ClassSums). s.left) is in
    let dropped = ap (λ (s : ClassSums). s.dropped) is in
    let late = ap (λ (s : ClassSums). s.late) is in
    let ages = ap (λ (s : ClassSums). s.ages) is in
    let inside =
    kept_pass after_inside 0 sums.first told sums.clock c.args.time c.ticks_between-ticks.result sums.inside c.pass.result are c.requires.time
    (ap (λ (s : ClassSums). s.inside) is) c.ticks_between-ticks.ensures c.pass.ensures in
    cc (made, left, dropped, late, ages, inside)

pub returns-clause-within : goal.returns-clause-within
returns-clause-within c parts within =
    let sums = c.args.self in
    record {
      made = within.made;
      left = within.left;
      dropped = within.dropped;
      late = within.late;
      ages = within.ages;
      inside = omega (arith, within.inside, ap (λ (k : Kept). k.number) c.pass.ensures);
      inside_ticks = ticks_within sums.first sums.clock c.args.time c.ticks_between-ticks.result sums.inside c.pass.result (omega arith) within.inside_ticks c.requires.time c.ticks_between-ticks.ensures c.pass.ensures;
    }
