-- For how many ticks jobs wait and servers are busy, exactly.
use Rattle.std.specs.Prelude.{◌≡◌, ℕ, ◌+◌, ◌-◌, ◌*◌, ◌<◌, ◌≤◌, if◌then◌else◌, List, All, length, sum_by}
use Rattle.delta_exchange.specs.Changes.{CellData, line_of}
use Rattle.event_key.specs.declared.key.Key.{Key}
use Rattle.event_key.specs.Stamps.{time_part}
use Rattle.model_core.specs.declared.note.Note.{Note}
use Rattle.run_laws.specs.Reached.{after_events, first_records}
use Rattle.shop_model.specs.declared.station.Station.{Station}
use Rattle.shop_model.specs.Meaning.{shop_meaning}
use Rattle.shop_model.specs.ShopParts.{ShopParts, IsShop, station_at}
use Rattle.shop_model.specs.Stations.{counts_of, busy_of}
use Rattle.shop_totals.specs.Flows.{is_beginning, is_end}
use Rattle.shop_totals.specs.Kept.{ticks_of}
use Rattle.shop_totals.specs.Sums.{after_busy, after_waiting, ticks_waited}
use Rattle.shop_totals.specs.Told.{TimedPart}
use Rattle.sim_spec.specs.declared.terms.Terms.{Terms}
use Rattle.shop_laws.specs.FlowLaws.{told_of}
use Rattle.shop_laws.specs.Told.{cells_at}
use Rattle.shop_laws.specs.Waiting.{sum_in_line}

-- for how long those who wait at a station have waited, all together, by this time
abbrev pub waits_so_far : Station → CellData → ℕ → ℕ
waits_so_far station cells clock = sum_in_line (λ a birth since. clock - since) (λ k. line_of cells k) station.levels

-- the ticks that `call` and `renege` tell
abbrev pub waits_told : List TimedPart → ℕ
waits_told told = sum_by (λ (one : TimedPart). ticks_waited one.part) told

-- the ticks at which jobs began, by `take` and `call`, and those at which they were done, by `done` and `free`
abbrev pub begin_ticks : List TimedPart → ℕ
begin_ticks told = sum_by (λ (one : TimedPart). if is_beginning one.part.word then one.time else 0) told

abbrev pub end_ticks : List TimedPart → ℕ
end_ticks told = sum_by (λ (one : TimedPart). if is_end one.part.word then one.time else 0) told

-- waiting jobs times ticks are what those have waited who were called or reneged, and what those have waited so far who wait (Little 1961)
abbrev pub WaitsAddUp : Station → List TimedPart → CellData → ℕ → Type 0
WaitsAddUp station told cells clock = ticks_of after_waiting 0 0 told clock ≡ waits_told told + waits_so_far station cells clock

-- busy servers times ticks are the ticks at which jobs were done, and the clock for each that is busy, less the ticks at which jobs began
pub record WorkAddsUp (station : Station) (told : List TimedPart) (cells : CellData) (clock : ℕ) : Type 0 where
  pub ticks : ticks_of after_busy 0 0 told clock + begin_ticks told ≡ end_ticks told + busy_of station.most (counts_of cells) * clock
  pub most : ticks_of after_busy 0 0 told clock ≤ station.most * clock

-- by any clock that isn't before the last event
abbrev pub IsClock : ShopParts → Terms → ℕ → ℕ → Type 0
IsClock p t n clock = All (λ (told : Key × Note). time_part told.0.stamp ≤ clock) (first_records n (shop_meaning p) t)

abbrev pub LittleLaw : Type 0
LittleLaw =
    (p : ShopParts) (t : Terms) (n i clock : ℕ) → IsShop p → i < length p.stations → IsClock p t n clock
    → WaitsAddUp (station_at p.stations i) (told_of p t n i) (cells_at (after_events n (shop_meaning p) t) i) clock

abbrev pub UtilisationLaw : Type 0
UtilisationLaw =
    (p : ShopParts) (t : Terms) (n i clock : ℕ) → IsShop p → i < length p.stations → IsClock p t n clock
    → WorkAddsUp (station_at p.stations i) (told_of p t n i) (cells_at (after_events n (shop_meaning p) t) i) clock
