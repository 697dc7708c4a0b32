use Rattle.std.proofs.Common.{arith}
use Rattle.random_streams.proofs.Bounds.{is_drawable-delay}
use Rattle.own_text.proofs.reader.ring_of.Goals as goal

pub invariant_of-ring : goal.invariant_of-ring
invariant_of-ring c = record {
  in_range = record {
    some = c.in_ok-stations.ensures.least;
    few = omega (arith, c.in_ok-stations.ensures.most, c.from.ensures);
    drawable = is_drawable-delay _ c.in_ok-hold.ensures.delay;
  };
}
