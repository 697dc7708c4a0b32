use Rattle.std.proofs.Common.{◌≡◌, ◌+◌, ◌-◌, false, get_or, drop, sym, ap, ◌∙◌, arith}
use Rattle.std.proofs.lemmas.Bool.Decides.{nat_tests}
use Rattle.random_streams.proofs.Rising.{is_next, goes_on, stops, all_rise}
use Rattle.random_streams.specs.Delays.{do_rise}
use Rattle.random_streams.proofs.delay_law.do_rise.Goals as goal
use Rattle.random_streams.proofs.delay_law.do_rise.Goals.{then-before-bound-via-then-before-bound, then-before-bound-via-else-before-bound+then-bound-before}

pub returns-then-before-bound : goal.returns-then-before-bound
returns-then-before-bound c =
    let bounds = c.args.bounds.now in
    let at = c.loop-at.at in
    let not_next : is_next (get_or bounds (at - 1) 0) (get_or bounds at 0) ≡ false =
    elim c.then-before-bound.branch [
      | then-before-bound-via-then-before-bound w ↦ grind (arith, nat_tests)
      | then-before-bound-via-else-before-bound+then-bound-before w ↦ grind (arith, nat_tests)
    ] in
    sym (stops bounds at c.loop-at.invariant.some (omega arith) not_next) ∙ c.loop-at.invariant.rest

pub loop-at-preserved : goal.loop-at-preserved
loop-at-preserved c =
    let bounds = c.args.bounds.now in
    let at = c.loop-at.at in
    let same : at + 1 - 1 ≡ at = omega arith in
    record {
      some = omega arith;
      rest = ap (λ k. do_rise (drop k bounds)) same
          ∙ goes_on bounds at c.loop-at.invariant.some (omega arith) (omega arith) (omega arith)
          ∙ c.loop-at.invariant.rest;
    }

pub returns : goal.returns
returns c =
    sym (all_rise c.args.bounds.now c.loop-at.at c.loop-at.invariant.some (omega arith)) ∙ c.loop-at.invariant.rest
