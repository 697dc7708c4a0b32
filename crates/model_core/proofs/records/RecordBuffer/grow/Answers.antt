use Rattle.std.proofs.Common.{arith}
use Rattle.model_core.proofs.records.RecordBuffer.grow.Goals as goal

-- a list whose capacity is below 2^63 has no room for a number that is too large
pub returns-clause-room : goal.returns-clause-room
returns-clause-room c =
    c.room_of-self-inside.ensures.most c.args.records c.in_ok-reserve.ensures.ok
    (omega (arith, c.in_ok-reserve-2.ensures.ok, c.saturating_mul.ensures, c.reserve-2.new.self.small))
