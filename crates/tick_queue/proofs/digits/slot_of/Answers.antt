use Rattle.std.proofs.Common.{◌/◌, arith, refl}
use Rattle.std.specs.Prelude.{bit_xor}
use Rattle.std.proofs.lemmas.Nat.{le_or_r}
use Rattle.tick_queue.proofs.DigitLemmas.{level_is, level_small, slot_is}
use Rattle.tick_queue.proofs.digits.slot_of.Goals as goal

pub ilog2-level-requires : goal.ilog2-level-requires
ilog2-level-requires c = let some = le_or_r (bit_xor c.args.tick c.args.now) 1 in omega (arith, some)

pub returns-clause-slot : goal.returns-clause-slot
returns-clause-slot c =
    let small = level_small c.args.now c.args.tick c.ilog2-level.result (omega (arith, c.requires.from, c.requires.tick)) c.requires.tick c.ilog2-level.ensures.power_le in
    omega (arith, small, c.from.ensures)

pub returns-clause-at : goal.returns-clause-at
returns-clause-at c =
    slot_is c.args.now c.args.tick (c.ilog2-level.result / 6) _ (omega (arith, c.from.ensures))
    (level_is c.args.now c.args.tick c.ilog2-level.result (c.ilog2-level.result / 6) c.requires.from c.ilog2-level.ensures.power_le c.ilog2-level.ensures.next_power_gt refl)
