-- The services that begin at a station.
use Rattle.std.specs.Prelude.{ℕ, if◌then◌else◌, List, [], map, slice_index}
use Rattle.event_key.specs.Stamps.{time_part}
use Rattle.random_streams.specs.declared.delay_law.DelayLaw.{DelayLaw}
use Rattle.run_laws.specs.Reached.{gathered}
use Rattle.sim_spec.specs.declared.terms.Terms.{Terms}
use Rattle.sim_spec.specs.Run.{Next, stops, does}
use Rattle.sim_spec.specs.State.{State}
use Rattle.shop_model.specs.declared.station.TheConstants.{LAG}
use Rattle.shop_model.specs.Meaning.{shop_meaning}
use Rattle.shop_model.specs.ShopParts.{ShopParts}
use Rattle.shop_model.specs.Sites.{place_of}
use Rattle.shop_totals.specs.Flows.{is_beginning}
use Rattle.shop_laws.specs.Told.{word_told, first_told, cells_at}
use Rattle.shop_draw_laws.specs.DrawLaws.{value_at}
use Rattle.shop_draw_laws.specs.Draws.{laws_next}

-- a service of the job of this id begins at a tick, and is drawn to take so many; by then the station has stood still for some
pub record Service : Type 0 where
  pub id : ℕ
  pub began : ℕ
  pub ticks : ℕ
  pub lag : ℕ

-- for how many ticks a station has stood still, a standstill under way counted whole
abbrev pub lag_at : State → ℕ → ℕ
lag_at s i = slice_index (cells_at s i).words LAG

-- the service that begins next at an object, where one is drawn: a job that takes a server along draws none
abbrev pub services_next : ShopParts → ℕ → State → Next → List Service
services_next p i s (stops stop) = []
services_next p i s (does told after) =
    if is_beginning (word_told told.1)
    then map
    (λ (law : DelayLaw). record { id = first_told told.1; began = time_part told.0.stamp; ticks = value_at p i (place_of (cells_at s i)) law; lag = lag_at s i })
    (laws_next p i s (does told after))
    else []

-- those that begin within the first n events
abbrev pub services : ShopParts → Terms → ℕ → ℕ → List Service
services p t i n = gathered (services_next p i) n (shop_meaning p) t
