use Rattle.std.proofs.Common.{◌∙◌}
use Rattle.delta_exchange.proofs.Room.{room_for_more, either, none_fell_twice, more_spare_is_enough}
use Rattle.delta_exchange.specs.declared.change.Change.TheVariants.{Set}
use Rattle.delta_exchange.proofs.cells.Cells.room.Goals as goal

pub loop-change-preserved : goal.loop-change-preserved
loop-change-preserved c =
    let so_far = c.loop-change.invariant in
    let made = c.in_ok-room_at.ensures in
    record {
      same = made.same ∙ so_far.same;
      fell = none_fell_twice _ _ _ so_far.fell made.none_fell;
      room = λ line some.
          either _ _ _ _ _ (rw (room_for_more c.args.changes.now c.loop-change.change-index (Set 0 0) line c.loop-change-test.true) at some) (so_far.room line) (made.none_fell.no_less line) (made.ok line);
    }

pub returns-in_err-room_at-clause-kept : goal.returns-in_err-room_at-clause-kept
returns-in_err-room_at-clause-kept c = λ others finds.
    more_spare_is_enough others _ _ (none_fell_twice _ _ _ c.loop-change.invariant.fell c.room_at.ensures.none_fell) finds

pub returns-clause-kept : goal.returns-clause-kept
returns-clause-kept c = λ others finds. more_spare_is_enough others _ _ c.loop-change.invariant.fell finds
