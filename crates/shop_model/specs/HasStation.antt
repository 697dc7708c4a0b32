-- What the handlers of a station read of its cells.
use Rattle.std.specs.Prelude.{◌≡◌, ℕ, ◌+◌, ◌*◌, ◌^◌, ◌<◌, ◌≤◌, IsTrue, length, All}
use Rattle.std.specs.Option.{ForSome}
use Rattle.delta_exchange.specs.Changes.{CellData, line_of}
use Rattle.random_streams.specs.Delays.{is_delay_law}
use Rattle.shop_model.specs.declared.counts.Counts.{Counts}
use Rattle.shop_model.specs.declared.station.Shift.{Shift}
use Rattle.shop_model.specs.declared.station.Breakdowns.{Breakdowns}
use Rattle.shop_model.specs.declared.station.Station.{Station}
use Rattle.shop_model.specs.declared.station.TheConstants.{MOST_OPEN, MOST_LINE, MOST_SHIFTS, FREE_SERVERS}
use Rattle.shop_model.specs.declared.routes.Routes.{Routes}
use Rattle.shop_model.specs.Routes.{class_at}
use Rattle.shop_model.specs.Stations.{counts_of, jobs_line, births_line, since_line, until_line, level_of}

-- no more servers are held than there are that serve nobody, nor of these than there are
pub record AreCounts (most : ℕ) (counts : Counts) : Type 0 where
  pub free : counts.free ≤ most
  pub held : counts.held ≤ counts.free

-- the lines of a level are as long as one another, and births are below 2 ^ 48
pub record HasLevel (cells : CellData) (level : ℕ) : Type 0 where
  pub births : length (line_of cells (births_line level)) ≡ length (line_of cells (jobs_line level))
  pub since : length (line_of cells (since_line level)) ≡ length (line_of cells (jobs_line level))
  pub until : length (line_of cells (until_line level)) ≡ length (line_of cells (jobs_line level))
  pub early : All (λ birth. birth < 2 ^ 48) (line_of cells (births_line level))

pub record HasStation (station : Station) (cells : CellData) : Type 0 where
  pub words : length cells.words ≡ 6 + station.levels + station.most
  pub lines : length cells.lines ≡ 1 + 4 * station.levels
  pub counts : AreCounts station.most (counts_of cells)
  pub opened : (counts_of cells).opened ≤ station.most
  pub waiting : (counts_of cells).waiting ≤ station.line + station.most
  pub servers : All (λ server. server < station.most) (line_of cells FREE_SERVERS)
  pub levels : (level : ℕ) → level < station.levels → HasLevel cells level

pub record IsShift (station : Station) (shift : Shift) : Type 0 where
  pub at : shift.at ≤ 2 ^ 40
  pub servers : shift.servers ≤ station.most

pub record AreBreakdowns (breakdowns : Breakdowns) : Type 0 where
  pub up : IsTrue (is_delay_law breakdowns.up)
  pub down : IsTrue (is_delay_law breakdowns.down)

-- each class has a level at the station
abbrev pub HasLevels : Routes → Station → Type 0
HasLevels routes station =
    (class : ℕ) → class < length routes.classes → level_of station.order (class_at routes class).priority < station.levels

-- the numbers of a station lie within their bounds
pub record IsStation (station : Station) : Type 0 where
  pub most : station.most ≤ MOST_OPEN
  pub line : station.line ≤ MOST_LINE
  pub some_levels : 1 ≤ station.levels
  pub few_levels : station.levels ≤ 8
  pub few_shifts : length station.shifts ≤ MOST_SHIFTS
  pub shifts : All (IsShift station) station.shifts
  pub period : ForSome station.period (λ period. period ≤ 2 ^ 40)
  pub breakdowns : ForSome station.breakdowns AreBreakdowns
