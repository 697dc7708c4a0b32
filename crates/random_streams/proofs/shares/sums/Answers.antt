use Rattle.std.proofs.Common.{◌≡◌, ◌+◌, ℕ, length, length-append, sum, take, ap, arith}
use Rattle.std.proofs.lemmas.Grind.{common_steps}
use Rattle.random_streams.proofs.shares.sums.Goals as goal

pub loop-weight-preserved : goal.loop-weight-preserved
loop-weight-preserved c =
    let next : c.loop-weight.sum + c.from-sum.result ≡ sum (take (c.loop-weight.weight-index + 1) c.args.weights.now) = grind (arith, common_steps) in
    let items = c.in_ok-push.ensures.items in
    record {
      so_far = next;
      small = omega arith;
      long = omega (arith, ap length items, length-append {A = ℕ});
      each = grind (arith, common_steps);
    }
