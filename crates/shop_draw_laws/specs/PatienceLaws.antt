-- Who loses patience has waited for as long as was drawn as it joined.
use Rattle.std.specs.Prelude.{◌≡◌, ℕ, ◌+◌, ◌<◌, ◌≤◌, List, length, slice_index, Contains, Some}
use Rattle.event_key.specs.declared.key.Key.{Key}
use Rattle.event_key.specs.Stamps.{time_part}
use Rattle.delta_exchange.specs.Changes.{CellData, line_of}
use Rattle.model_core.specs.declared.note.Note.{Note}
use Rattle.model_core.specs.declared.words.TheConstants.{CALLED_WORD, RENEGED_WORD}
use Rattle.random_streams.specs.declared.delay_law.DelayLaw.{DelayLaw}
use Rattle.run_laws.specs.Reached.{after_events}
use Rattle.shop_model.specs.declared.levels.TheConstants.{EMPTY}
use Rattle.shop_model.specs.declared.station.Station.{Station}
use Rattle.shop_model.specs.Jobs.{id_of}
use Rattle.shop_model.specs.Meaning.{shop_meaning}
use Rattle.shop_model.specs.ShopParts.{ShopParts, IsShop, routes_of, station_at}
use Rattle.shop_model.specs.Stations.{jobs_line, since_line}
use Rattle.sim_spec.specs.declared.terms.Terms.{Terms}
use Rattle.sim_spec.specs.Run.{does, next}
use Rattle.sim_spec.specs.State.{State}
use Rattle.shop_laws.specs.Told.{word_told, first_told, second_told, cells_at}
use Rattle.shop_draw_laws.specs.Draws.{patience_at, step_named}
use Rattle.shop_draw_laws.specs.Patience.{Waiter, joined}

-- a job of this id waits in line since then, at a place that isn't empty
pub record WaitsSince (station : Station) (cells : CellData) (id since : ℕ) : Type 0 where
  pub level : ℕ
  pub place : ℕ
  pub below : level < station.levels
  pub within : place < length (line_of cells (jobs_line level))
  pub waits : slice_index (line_of cells (jobs_line level)) place < EMPTY
  pub its : id_of (slice_index (line_of cells (jobs_line level)) place) ≡ id
  pub joined : slice_index (line_of cells (since_line level)) place ≡ since

-- a job loses its patience at a tick, after so many ticks: it waited until then, and as it joined just this patience was drawn
pub record LosesPatience (station : Station) (cells : CellData) (waiters : List Waiter) (id now waited : ℕ) : Type 0 where
  pub since : ℕ
  pub waits : WaitsSince station cells id since
  pub drawn : Contains waiters (record { id = id; since = since; patience = waited })
  pub ends : now ≡ since + waited

abbrev pub PatienceIsDrawn : Type 0
PatienceIsDrawn =
    (p : ShopParts) (t : Terms) (n : ℕ) (told : Key × Note) (after : State) → IsShop p → next (shop_meaning p) t (after_events n (shop_meaning p) t) ≡ does told after
    → told.0.dest < length p.stations → word_told told.1 ≡ RENEGED_WORD
    → LosesPatience (station_at p.stations told.0.dest) (cells_at (after_events n (shop_meaning p) t) told.0.dest) (joined p t told.0.dest n)
    (first_told told.1) (time_part told.0.stamp) (second_told told.1)

-- a job of this id waits since then with a patience that was drawn as it joined: by now it hasn't waited for longer, and where a server
-- calls now for fewer ticks, if its patience is above 0
pub record HasPatience (waiters : List Waiter) (id since now word : ℕ) : Type 0 where
  pub patience : ℕ
  pub drawn : Contains waiters (record { id = id; since = since; patience = patience })
  pub in_time : now ≤ since + patience
  pub called : word ≡ CALLED_WORD → 0 < patience → now < since + patience

-- as the next event happens, whoever stands in line at a visit with a patience
abbrev pub NobodyOutwaits : Type 0
NobodyOutwaits =
    (p : ShopParts) (t : Terms) (n : ℕ) (told : Key × Note) (after : State) (i level place : ℕ) (law : DelayLaw) → IsShop p
    → next (shop_meaning p) t (after_events n (shop_meaning p) t) ≡ does told after → i < length p.stations → level < (station_at p.stations i).levels
    → (let line : ℕ → List ℕ = λ k. line_of (cells_at (after_events n (shop_meaning p) t) i) k in
    let a : ℕ = slice_index (line (jobs_line level)) place in
    place < length (line (jobs_line level)) → a < EMPTY → patience_at (step_named (routes_of p) a) ≡ Some law
    → HasPatience (joined p t i n) (id_of a) (slice_index (line (since_line level)) place) (time_part told.0.stamp) (word_told told.1))
