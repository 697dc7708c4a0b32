-- The entries of a station's line.
use Rattle.std.specs.Prelude.{◌<◌, length}
use Rattle.delta_exchange.specs.Changes.{CellData, line_of}
use Rattle.shop_model.specs.declared.levels.Entry.{Entry}
use Rattle.shop_model.specs.declared.station.Station.{Station}
use Rattle.shop_model.specs.Stations.{jobs_line}

-- a level of the station's line has an entry at this place
pub record HasEntry (station : Station) (cells : CellData) (entry : Entry) : Type 0 where
  pub level : entry.level < station.levels
  pub place : entry.place < length (line_of cells (jobs_line entry.level))
