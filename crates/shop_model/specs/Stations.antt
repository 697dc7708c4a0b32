-- The cells of a station, and what they count.
use Rattle.std.specs.Prelude.{ℕ, ◌+◌, ◌-◌, ◌*◌, ◌^◌, Bool, ◌&&◌, ◌==◌, if◌then◌else◌, List, [], ◌∷◌, length, min, reverse, replicate, nat_lt, nat_le}
use Rattle.std.specs.Prelude.{slice_index, is_some, sum_by, count_by}
use Rattle.std.specs.List.{list_all, range_with_len}
use Rattle.delta_exchange.specs.Changes.{CellData, line_of}
use Rattle.model_core.specs.declared.event.Send.{Send}
use Rattle.shop_model.specs.declared.counts.Counts.{Counts}
use Rattle.shop_model.specs.declared.kinds.TheConstants.{CALL}
use Rattle.shop_model.specs.declared.levels.TheConstants.{EMPTY}
use Rattle.shop_model.specs.declared.routes.Routes.{Routes}
use Rattle.shop_model.specs.declared.site.Site.{Site}
use Rattle.shop_model.specs.declared.station.Order.{Order}
use Rattle.shop_model.specs.declared.station.Order.TheVariants.{First, Last, Priority}
use Rattle.shop_model.specs.declared.station.Station.{Station}
use Rattle.shop_model.specs.declared.station.TheConstants.{OPEN, HELD, WAITING, DOWN, GONE, FREE_SERVERS}
use Rattle.shop_model.specs.Routes.{visit_at}
use Rattle.shop_model.specs.Sites.{to_self}

-- the words of the levels and servers, after those of the whole station
abbrev pub gone_word : ℕ → ℕ
gone_word level = GONE + level

abbrev pub mark_word : Station → ℕ → ℕ
mark_word station server = GONE + station.levels + server

-- the lines of a level: its jobs, when each was made, since when it waits and until when at most
abbrev pub jobs_line : ℕ → ℕ
jobs_line level = 1 + 4 * level

abbrev pub births_line : ℕ → ℕ
births_line level = 2 + 4 * level

abbrev pub since_line : ℕ → ℕ
since_line level = 3 + 4 * level

abbrev pub until_line : ℕ → ℕ
until_line level = 4 + 4 * level

abbrev pub level_of : Order → ℕ → ℕ
level_of Priority priority = priority
level_of First priority = 0
level_of Last priority = 0

abbrev pub counts_of : CellData → Counts
counts_of cells = record {
  opened = slice_index cells.words OPEN;
  held = slice_index cells.words HELD;
  free = length (line_of cells FREE_SERVERS);
  waiting = slice_index cells.words WAITING;
  down = slice_index cells.words DOWN;
}

-- how many of so many servers serve a job or are held by one
abbrev pub busy_of : ℕ → Counts → ℕ
busy_of most counts = most - counts.free + counts.held

-- how many of them could begin a job now
unfoldable pub spare_of : ℕ → Counts → ℕ
spare_of most counts = if counts.down == 0 then counts.opened - busy_of most counts else 0

-- a server calls, where one could and a job waits
unfoldable pub call_sent : ℕ → Site → Counts → List Send
call_sent most site counts =
    if nat_lt 0 counts.waiting && nat_lt 0 (spare_of most counts) then to_self site 0 CALL 0 0 ∷ [] else []

-- an entry is a job that waits at this station, or such a job with each bit turned
unfoldable pub is_entry : ℕ → Routes → ℕ → Bool
is_entry object routes a = is_some (visit_at routes object (min a (2 ^ 64 - 1 - a)))

-- the four lines of a level are as long as one another
unfoldable pub is_level : ℕ → Routes → CellData → ℕ → Bool
is_level object routes cells level =
    let entries = length (line_of cells (jobs_line level)) in
    length (line_of cells (births_line level)) == entries
    && length (line_of cells (since_line level)) == entries
    && length (line_of cells (until_line level)) == entries
    && list_all (λ a. is_entry object routes a) (line_of cells (jobs_line level))
    && list_all (λ birth. nat_lt birth (2 ^ 48)) (line_of cells (births_line level))

-- how many jobs wait at a level; an entry that is at least 2 ^ 63 is an empty place
unfoldable pub waiting_at : CellData → ℕ → ℕ
waiting_at cells level = count_by (λ a. nat_lt a EMPTY) (line_of cells (jobs_line level))

unfoldable pub has_servers : Station → CellData → Bool
has_servers station cells =
    let counts = counts_of cells in
    nat_le counts.opened station.most && nat_le counts.held counts.free && nat_le counts.free station.most
    && list_all (λ server. nat_lt server station.most) (line_of cells FREE_SERVERS)

unfoldable pub is_station_cells : ℕ → Routes → Station → CellData → Bool
is_station_cells object routes station cells =
    let levels = range_with_len 0 station.levels in
    let waiting = sum_by (λ level. waiting_at cells level) levels in
    length cells.words == GONE + station.levels + station.most && length cells.lines == 1 + 4 * station.levels
    && list_all (λ level. is_level object routes cells level) levels
    && has_servers station cells
    && nat_le (counts_of cells).down 1
    && (counts_of cells).waiting == waiting
    && nat_le waiting (station.line + station.most)

-- all servers are free, the greatest first, so many are open, and nobody waits
unfoldable pub first_station_cells : Station → CellData
first_station_cells station = record {
  words = 0 ∷ station.servers ∷ replicate (4 + station.levels + station.most) 0;
  lines = reverse (range_with_len 0 station.most) ∷ replicate (4 * station.levels) [];
}
