use Rattle.std.proofs.Common.{◌≡◌, ℕ, ◌+◌, ◌<◌, length, sum, take, sym, arith}
use Rattle.std.proofs.lemmas.List.Sums.{sum_by_more}
use Rattle.random_streams.proofs.Firsts.{chosen_place_is}
use Rattle.random_streams.proofs.weights.chosen.Goals as goal

pub returns-then-left-from : goal.returns-then-left-from
returns-then-left-from c =
    let more = sum_by_more (λ (x : ℕ). x) c.args.weights.now c.loop-place.place 0 c.loop-place-test.true in
    let here : c.args.share < sum (take (c.loop-place.place + 1) c.args.weights.now) = omega arith in
    sym (chosen_place_is c.args.weights.now c.args.share c.loop-place.place (omega arith) c.loop-place.invariant.passed (λ _. here))

pub returns : goal.returns
returns c =
    let whole : c.loop-place.place ≡ length c.args.weights.now = omega arith in
    sym (chosen_place_is c.args.weights.now c.args.share (length c.args.weights.now) (omega arith)
    (λ k h. c.loop-place.invariant.passed k (omega arith)) (λ h. absurd (omega arith)))
