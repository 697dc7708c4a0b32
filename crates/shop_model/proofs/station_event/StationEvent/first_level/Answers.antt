use Rattle.std.proofs.Common.{◌-◌, sym, arith}
use Rattle.shop_model.proofs.LevelLemmas.{first_level_is}
use Rattle.shop_model.proofs.station_event.StationEvent.first_level.Goals as goal

pub returns-then-line_len-gt0-clause-level : goal.returns-then-line_len-gt0-clause-level
returns-then-line_len-gt0-clause-level c =
    let read = rw c.at.ensures.jobs at c.line_len.ensures in
    sym (first_level_is c.args.self.now.station.now c.args.self.now.cells.now.contents c.loop-level.level (omega arith) c.loop-level.invariant
    (λ h. omega (arith, read)))

pub returns-clause-level : goal.returns-clause-level
returns-clause-level c =
    sym (first_level_is c.args.self.now.station.now c.args.self.now.cells.now.contents (c.args.self.now.station.now.levels - 1) (omega arith)
    (λ k h. c.loop-level.invariant k (omega arith)) (λ h. absurd (omega arith)))
