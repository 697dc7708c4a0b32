use Rattle.std.proofs.Common.{◌≡◌, false, sym, arith}
use Rattle.shop_model.specs.Lawful.{below_list_all, not_all_below}
use Rattle.shop_model.specs.Stations.{is_level}
use Rattle.shop_model.proofs.station.Station.has_levels.Goals as goal

pub returns-then-not-is_level : goal.returns-then-not-is_level
returns-then-not-is_level c =
    let fails : is_level c.args.object c.args.routes.now c.args.cells.now.contents c.loop-level.level ≡ false = cc in
    sym (not_all_below (λ level. is_level c.args.object c.args.routes.now c.args.cells.now.contents level) c.args.self.now.levels c.loop-level.level
    (omega arith) fails)

pub returns : goal.returns
returns c =
    sym (below_list_all (λ level. is_level c.args.object c.args.routes.now c.args.cells.now.contents level) c.args.self.now.levels
    (λ k h. c.loop-level.invariant k (omega arith)))
