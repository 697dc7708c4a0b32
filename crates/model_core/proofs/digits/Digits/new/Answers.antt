-- One chunk more in each table.
use Rattle.std.proofs.Common.{arith}
use Rattle.std.proofs.lemmas.List.{length_push}
use Rattle.model_core.specs.DigitTables.{HoldsDigits, HoldsThree}
use Rattle.model_core.proofs.DigitLemmas.{chunks_more}
use Rattle.model_core.proofs.digits.Digits.new.Goals as goal

pub loop-number-preserved : goal.loop-number-preserved
loop-number-preserved c =
    let so_far = c.loop-number.invariant in
    record {
      short_room = omega (arith, c.push_reserved.ensures.capacity, so_far.short_room);
      three_room = omega (arith, c.push_reserved-in-loop-number.ensures.capacity, so_far.three_room);
      short_size = rw c.push_reserved.ensures.items (omega (arith, length_push c.loop-number.short.items c.short_chunk.result, so_far.short_size));
      three_size = rw c.push_reserved-in-loop-number.ensures.items (omega (arith, length_push c.loop-number.three.items c.three_chunk.result, so_far.three_size));
      shorts = λ k lt. rw c.push_reserved.ensures.items (chunks_more HoldsDigits _ _ _ so_far.short_size so_far.shorts c.short_chunk.ensures k lt);
      threes = λ k lt. rw c.push_reserved-in-loop-number.ensures.items (chunks_more HoldsThree _ _ _ so_far.three_size so_far.threes c.three_chunk.ensures k lt);
    }

pub push_reserved-requires : goal.push_reserved-requires
push_reserved-requires c =
    let so_far = c.loop-number.invariant in
    omega (arith, so_far.short_size, so_far.short_room, c.loop-number.short.ok.0)

pub push_reserved-requires-in-loop-number : goal.push_reserved-requires-in-loop-number
push_reserved-requires-in-loop-number c =
    let so_far = c.loop-number.invariant in
    omega (arith, so_far.three_size, so_far.three_room, c.loop-number.three.ok.0)
