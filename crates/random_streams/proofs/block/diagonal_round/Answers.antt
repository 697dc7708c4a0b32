use Rattle.std.proofs.Common.{refl, arith}
use Rattle.rand_chacha.specs.Block.{diagonal_round}
use Rattle.random_streams.proofs.block.diagonal_round.Goals as goal

pub returns : goal.returns
unfolding diagonal_round
returns c =
    let q = c.quarter_round.ensures in
    let q0 = rw (c.left_by_one.ensures, c.left_by_two.ensures, c.left_by_three.ensures) at (q 1 (omega arith)) in
    let q1 = rw (c.left_by_one.ensures, c.left_by_two.ensures, c.left_by_three.ensures) at (q 2 (omega arith)) in
    let q2 = rw (c.left_by_one.ensures, c.left_by_two.ensures, c.left_by_three.ensures) at (q 3 (omega arith)) in
    let q3 = rw (c.left_by_one.ensures, c.left_by_two.ensures, c.left_by_three.ensures) at (q 0 (omega arith)) in
    rw (c.left_by_one-2.ensures, c.left_by_two-2.ensures, c.left_by_three-2.ensures, ← q0, ← q1, ← q2, ← q3) refl
