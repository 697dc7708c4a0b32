-- The load of a station through changes of its cells.
use Rattle.std.specs.Prelude.{ℕ, ◌+◌, ◌-◌, ◌<◌, ◌≤◌, ◌==◌, if◌then◌else◌, List, [], ◌∷◌, length}
use Rattle.delta_exchange.specs.declared.change.Change.{Change}
use Rattle.delta_exchange.specs.declared.change.Change.TheVariants.{Set, Push, Pop, Unpush, Unpop, Flip}
use Rattle.delta_exchange.specs.Changes.{CellData, AllFit}
use Rattle.queue_models.specs.declared.station.TheConstants.{MOST_WAITING}
use Rattle.queue_models.specs.Stations.{waiting_jobs}

-- how many servers are busy after a change, where so many were before it
abbrev pub busy_after : Change → ℕ → ℕ
busy_after (Set word value) busy = if word == 1 then value else busy
busy_after (Push line value) busy = busy
busy_after (Pop line) busy = busy
busy_after (Unpush line) busy = busy
busy_after (Unpop line value) busy = busy
busy_after (Flip line place) busy = busy

-- how many jobs wait after a change, where so many waited before it
abbrev pub waiting_after : Change → ℕ → ℕ
waiting_after (Set word value) waiting = waiting
waiting_after (Push line value) waiting = if line == 0 then waiting + 1 else waiting
waiting_after (Pop line) waiting = if line == 0 then waiting - 1 else waiting
waiting_after (Unpush line) waiting = if line == 0 then waiting - 1 else waiting
waiting_after (Unpop line value) waiting = if line == 0 then waiting + 1 else waiting
waiting_after (Flip line place) waiting = waiting

-- both after a list of changes
unfoldable pub load_after_all : List Change → ℕ → ℕ → ℕ × ℕ
load_after_all [] busy waiting = (busy, waiting)
load_after_all (change ∷ rest) busy waiting = load_after_all rest (busy_after change busy) (waiting_after change waiting)

-- the cells of a station, before a few changes that fit them
pub record HasLoad (cells : CellData) (changes : List Change) : Type 0 where
  pub words : 1 < length cells.words
  pub lines : 0 < length cells.lines
  pub short : waiting_jobs cells ≤ MOST_WAITING
  pub few : length changes ≤ 16
  pub fits : AllFit changes cells
