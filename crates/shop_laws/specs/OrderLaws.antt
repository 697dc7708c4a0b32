-- Who is called first.
use Rattle.std.specs.Prelude.{◌≡◌, ℕ, ◌<◌, ◌≤◌, [], length, slice_index}
use Rattle.std.specs.List.{AllPairs}
use Rattle.delta_exchange.specs.Changes.{CellData, line_of}
use Rattle.event_key.specs.declared.key.Key.{Key}
use Rattle.model_core.specs.declared.note.Note.{Note}
use Rattle.model_core.specs.declared.words.TheConstants.{TAKEN_WORD, CALLED_WORD}
use Rattle.run_laws.specs.Reached.{Reaches}
use Rattle.shop_model.specs.declared.station.Station.{Station}
use Rattle.shop_model.specs.Jobs.{id_of}
use Rattle.shop_model.specs.Meaning.{shop_meaning}
use Rattle.shop_model.specs.ShopParts.{ShopParts, IsShop, station_at}
use Rattle.shop_model.specs.StationEffects.{called_place}
use Rattle.shop_model.specs.Stations.{counts_of, jobs_line, since_line}
use Rattle.sim_spec.specs.declared.terms.Terms.{Terms}
use Rattle.sim_spec.specs.Run.{does, next}
use Rattle.sim_spec.specs.State.{State}
use Rattle.shop_laws.specs.Told.{word_told, first_told, cells_at}

-- a job of this id stands at a level before which no level has an entry, as the first entry of it, or with `last` as the last
pub record IsFirstInLine (station : Station) (cells : CellData) (id : ℕ) : Type 0 where
  pub level : ℕ
  pub urgent : (k : ℕ) → k < level → line_of cells (jobs_line k) ≡ []
  pub some : 0 < length (line_of cells (jobs_line level))
  pub first : id ≡ id_of (slice_index (line_of cells (jobs_line level)) (called_place station.order (length (line_of cells (jobs_line level)))))

-- who is called is the first in line
abbrev pub CallsInOrder : Type 0
CallsInOrder =
    (p : ShopParts) (t : Terms) (s : State) (told : Key × Note) (after : State) → IsShop p → Reaches (shop_meaning p) t s
    → next (shop_meaning p) t s ≡ does told after → told.0.dest < length p.stations → word_told told.1 ≡ CALLED_WORD
    → IsFirstInLine (station_at p.stations told.0.dest) (cells_at s told.0.dest) (first_told told.1)

-- nobody waits where a job is taken
abbrev pub TakesInOrder : Type 0
TakesInOrder =
    (p : ShopParts) (t : Terms) (s : State) (told : Key × Note) (after : State) → IsShop p → Reaches (shop_meaning p) t s
    → next (shop_meaning p) t s ≡ does told after → told.0.dest < length p.stations → word_told told.1 ≡ TAKEN_WORD
    → (counts_of (cells_at s told.0.dest)).waiting ≡ 0

-- the entries of a level stand in the order in which they joined
abbrev pub JoinedInOrder : Type 0
JoinedInOrder =
    (p : ShopParts) (t : Terms) (s : State) (i level : ℕ) → IsShop p → Reaches (shop_meaning p) t s → i < length p.stations
    → level < (station_at p.stations i).levels → AllPairs (λ (a b : ℕ). a ≤ b) (line_of (cells_at s i) (since_line level))
