-- A service takes the ticks that were drawn, and those for which the station stands still in between.
use Rattle.std.specs.Prelude.{◌≡◌, ℕ, ◌+◌, ◌-◌, ◌<◌, ◌≤◌, List, length, Contains}
use Rattle.event_key.specs.declared.key.Key.{Key}
use Rattle.event_key.specs.Stamps.{time_part}
use Rattle.model_core.specs.declared.note.Note.{Note}
use Rattle.model_core.specs.declared.words.TheConstants.{DONE_WORD}
use Rattle.run_laws.specs.Reached.{after_events}
use Rattle.shop_model.specs.Meaning.{shop_meaning}
use Rattle.shop_model.specs.ShopParts.{ShopParts, IsShop}
use Rattle.sim_spec.specs.declared.terms.Terms.{Terms}
use Rattle.sim_spec.specs.Run.{does, next}
use Rattle.sim_spec.specs.State.{State}
use Rattle.shop_laws.specs.FlowLaws.{told_of, standstills}
use Rattle.shop_laws.specs.Told.{word_told, first_told}
use Rattle.shop_draw_laws.specs.Services.{Service, lag_at, services}

-- a service of the job of this id is over now
pub record IsOver (begun : List Service) (id now lag : ℕ) : Type 0 where
  pub service : Service
  pub among : Contains begun service
  pub its : service.id ≡ id
  pub still : service.lag ≤ lag
  pub over : now ≡ service.began + service.ticks + (lag - service.lag)

-- `done` tells the end of a service after the ticks that were drawn, and those for which the station has stood still since it began
abbrev pub ServicesStandStill : Type 0
ServicesStandStill =
    (p : ShopParts) (t : Terms) (n : ℕ) (told : Key × Note) (after : State) → IsShop p → next (shop_meaning p) t (after_events n (shop_meaning p) t) ≡ does told after
    → told.0.dest < length p.stations → word_told told.1 ≡ DONE_WORD
    → IsOver (services p t told.0.dest n) (first_told told.1) (time_part told.0.stamp) (lag_at (after_events n (shop_meaning p) t) told.0.dest)

-- the lag is the sum of the standstills that were told
abbrev pub LagIsTold : Type 0
LagIsTold = (p : ShopParts) (t : Terms) (n i : ℕ) → IsShop p → i < length p.stations → lag_at (after_events n (shop_meaning p) t) i ≡ standstills (told_of p t n i)
