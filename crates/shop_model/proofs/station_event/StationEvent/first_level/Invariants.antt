use Rattle.std.proofs.Common.{◌≡◌, ℕ, ◌<◌, length}
use Rattle.delta_exchange.specs.Changes.{line_of}
use Rattle.shop_model.specs.Stations.{jobs_line}
use Rattle.shop_model.proofs.station_event.StationEvent.first_level.Given as goal

abbrev pub invariant-loop-level : goal.invariant-loop-level
invariant-loop-level l = (k : ℕ) → k < l.level → length (line_of l.self.cells.now.contents (jobs_line k)) ≡ 0
