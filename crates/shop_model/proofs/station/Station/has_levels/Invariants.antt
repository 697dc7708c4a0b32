use Rattle.std.proofs.Common.{◌≡◌, ℕ, ◌<◌, true}
use Rattle.shop_model.specs.Stations.{is_level}
use Rattle.shop_model.proofs.station.Station.has_levels.Given as goal

abbrev pub invariant-loop-level : goal.invariant-loop-level
invariant-loop-level l = (k : ℕ) → k < l.level → is_level l.object l.routes l.cells.contents k ≡ true
