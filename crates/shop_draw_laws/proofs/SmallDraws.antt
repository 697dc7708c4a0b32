-- Draws, patience, services and counts, computed, with fixed laws, whose values can be seen: the desk, the saw, and a till of which a
-- shift closes one of two servers in use.
use Rattle.std.proofs.Common.{◌≡◌, ℕ, refl, List, [], ◌∷◌, map}
use Rattle.std.specs.Prelude.{None, Some}
use Rattle.event_key.specs.declared.key.Key.{Key}
use Rattle.event_key.specs.Stamps.{stamp_at, time_part}
use Rattle.delta_exchange.specs.Changes.{line_of}
use Rattle.model_core.specs.declared.event.Event.{Event}
use Rattle.model_core.specs.declared.note.Note.{Note}
use Rattle.random_streams.specs.declared.delay_law.DelayLaw.{DelayLaw}
use Rattle.random_streams.specs.declared.delay_law.DelayLaw.TheVariants.{Plain}
use Rattle.random_streams.specs.declared.law.Law.TheVariants.{Fixed}
use Rattle.run_laws.specs.Reached.{after_events}
use Rattle.run_laws.specs.Sent.{first_of}
use Rattle.sim_spec.specs.Run.{does, next}
use Rattle.sim_spec.specs.State.{State}
use Rattle.shop_model.specs.declared.class.Class.{Class}
use Rattle.shop_model.specs.declared.station.Order.TheVariants.{First}
use Rattle.shop_model.specs.declared.station.Station.{Station}
use Rattle.shop_model.specs.declared.step.Step.TheVariants.{Visit}
use Rattle.shop_model.specs.Meaning.{shop_meaning}
use Rattle.shop_model.specs.ShopParts.{ShopParts}
use Rattle.shop_model.specs.Stations.{counts_of, until_line}
use Rattle.shop_totals.specs.Flows.{flow_of}
use Rattle.shop_totals.specs.Records.{of_class}
use Rattle.shop_totals.specs.Told.{told_from}
use Rattle.shop_laws.specs.FlowLaws.{told_of}
use Rattle.shop_laws.specs.ServerLaws.{busy_at}
use Rattle.shop_laws.specs.Told.{cells_at}
use Rattle.shop_laws.proofs.SmallDesk.{shop, desk, callers, to_fifty, desk_run}
use Rattle.shop_laws.proofs.SmallSaw.{yard, saw, logs}
use Rattle.shop_draw_laws.specs.ClassLaws.{waiting_of}
use Rattle.shop_draw_laws.specs.Draws.{delay_law, laws_drawn, laws_by}
use Rattle.shop_draw_laws.specs.FromLaws.{told_before}
use Rattle.shop_draw_laws.specs.Patience.{Waiter, joined}
use Rattle.shop_draw_laws.specs.Services.{Service, lag_at, services}

-- in ten events the desk draws a service, and the patience of two who wait
laws_seen : ◌≡◌ {A = List DelayLaw} (laws_by shop to_fifty 0 10) (Plain (Fixed 4) ∷ Plain (Fixed 3) ∷ Plain (Fixed 3) ∷ [])
unfolding shop desk callers to_fifty desk_run delay_law laws_drawn
laws_seen = refl

-- they joined at ticks 1 and 2
joined_seen : ◌≡◌ {A = List Waiter} (joined shop to_fifty 0 7) (record { id = 2; since = 1; patience = 3 } ∷ record { id = 3; since = 2; patience = 3 } ∷ [])
unfolding shop desk callers to_fifty desk_run
joined_seen = refl

-- after six events, at tick 4, both are in line, until ticks 4 and 5 at most
six : State
six = after_events 6 (shop_meaning shop) to_fifty

until_seen : ◌≡◌ {A = List ℕ × List ℕ} (line_of (cells_at six 0) (until_line 0), map (λ (e : Event). time_part e.key.stamp) (first_of six.pending)) (4 ∷ 5 ∷ [], 4 ∷ [])
unfolding six shop desk callers to_fifty desk_run
until_seen = refl

-- of their class three came by then, one began, and two wait
class_seen : ◌≡◌ {A = ℕ × ℕ × ℕ} (
  (flow_of (of_class 0 (told_of shop to_fifty 6 0))).came,
  (flow_of (of_class 0 (told_of shop to_fifty 6 0))).begun,
  waiting_of desk (cells_at six 0) 0,
)
    (3, 1, 2)
unfolding six shop desk callers to_fifty desk_run
class_seen = refl

-- two of them came before tick 2, and one from then on
from_seen : ◌≡◌ {A = ℕ × ℕ} ((flow_of (told_before 2 (told_of shop to_fifty 10 0))).came, (flow_of (told_from 2 (told_of shop to_fifty 10 0))).came) (2, 1)
unfolding shop desk callers to_fifty desk_run
from_seen = refl

-- the eighth event tells that the first of them has waited for three ticks, at tick 4
eighth : Key × Note
eighth = (record { stamp = stamp_at 4 0; rank = 3; dest = 0; src = 0; serial = 1 }, record { word = 18; a = 2; b = 3 } ∷ [])

reneges_seen : next (shop_meaning shop) to_fifty (after_events 7 (shop_meaning shop) to_fifty) ≡ does eighth (after_events 8 (shop_meaning shop) to_fifty)
unfolding eighth shop desk callers to_fifty desk_run
reneges_seen = refl

-- ten events of the yard are done: two services began at the saw, and it stood still for three ticks since the second did
ten : State
ten = after_events 10 (shop_meaning yard) to_fifty

services_seen : ◌≡◌ {A = List Service × ℕ} (services yard to_fifty 0 10, lag_at ten 0)
    (record { id = 1; began = 0; ticks = 4; lag = 0 } ∷ record { id = 2; began = 4; ticks = 4; lag = 0 } ∷ [], 3)
unfolding ten yard saw logs to_fifty desk_run delay_law laws_drawn
services_seen = refl

-- the eleventh event tells the end of the second, at tick 4 + 4 + 3
eleventh : Key × Note
eleventh = (record { stamp = stamp_at 11 0; rank = 0; dest = 0; src = 0; serial = 5 }, record { word = 6; a = 2; b = 0 } ∷ [])

done_seen : next (shop_meaning yard) to_fifty (after_events 10 (shop_meaning yard) to_fifty) ≡ does eleventh (after_events 11 (shop_meaning yard) to_fifty)
unfolding eleventh yard saw logs to_fifty desk_run
done_seen = refl

unfoldable till : Station
till = record { name = 116 ∷ []; servers = 2; most = 2; line = 10; order = First; levels = 1; shifts = record { at = 3; servers = 1 } ∷ []; period = None; breakdowns = None }

unfoldable buyers : Class
buyers = record {
  name = 98 ∷ [];
  every = None;
  first = 0;
  until = 0;
  times = 0 ∷ 0 ∷ [];
  batch = None;
  count = 9;
  priority = 0;
  due = None;
  route = Visit (record { station = 0; service = Some (Plain (Fixed 6)); patience = None; away = 2; full = 2 }) ∷ [];
}

unfoldable market : ShopParts
unfolding till buyers
market = record { seed = 7; stations = till ∷ []; classes = buyers ∷ [] }

-- five events are done: two are served, and one server is open
five : State
five = after_events 5 (shop_meaning market) to_fifty

busy_seen : ◌≡◌ {A = ℕ × ℕ} (busy_at five 0 till, (counts_of (cells_at five 0)).opened) (2, 1)
unfolding five market till buyers to_fifty desk_run
busy_seen = refl
