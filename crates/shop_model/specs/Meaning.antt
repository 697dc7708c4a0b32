-- What a shop means.
use Rattle.std.specs.Prelude.{ℕ, ◌+◌, ◌-◌, Bool, false, ◌==◌, if◌then◌else◌, List, length, nat_lt, slice_index_or, is_some, Option, None, Some}
use Rattle.std.specs.Option.{option_and_then}
use Rattle.delta_exchange.specs.Changes.{CellData}
use Rattle.event_key.specs.Stamps.{time_part}
use Rattle.model_core.specs.declared.effect.Effect.{Effect}
use Rattle.model_core.specs.declared.effect.Outcome.TheVariants.{Goes}
use Rattle.model_core.specs.declared.event.Event.{Event}
use Rattle.model_core.specs.Effects.{blank}
use Rattle.model_core.specs.Meaning.{Meaning}
use Rattle.model_core.specs.Words.{record_word}
use Rattle.shop_model.specs.declared.class.Class.{Class}
use Rattle.shop_model.specs.declared.job.Job.{Job}
use Rattle.shop_model.specs.declared.kinds.TheConstants.{MAKE, COME, DONE, CALL, TIRE, SHIFT, BREAK, MEND}
use Rattle.shop_model.specs.declared.routes.Routes.{Routes}
use Rattle.shop_model.specs.declared.site.Site.{Site}
use Rattle.shop_model.specs.declared.station.Station.{Station}
use Rattle.shop_model.specs.declared.step.Step.{Step}
use Rattle.shop_model.specs.declared.step.Step.TheVariants.{Visit, Free, Delay, Go}
use Rattle.shop_model.specs.Classes.{is_class_cells, first_class_cells, make_effect, come_home}
use Rattle.shop_model.specs.Routes.{class_at, step_at, job_of, object_at}
use Rattle.shop_model.specs.ShopParts.{ShopParts, routes_of, station_at}
use Rattle.shop_model.specs.Starts.{start_at, starts_of}
use Rattle.shop_model.specs.StationEffects.{come_effect, call_effect, done_effect, tire_effect, shift_effect, break_effect, mend_effect}
use Rattle.shop_model.specs.Stations.{is_station_cells, first_station_cells}

-- the job that an event names, where it stands at this object
unfoldable pub job_here : Routes → ℕ → ℕ → Option Job
job_here routes object a =
    option_and_then (λ job. if object_at routes job.class job.step == object then Some job else None) (job_of routes a)

-- at the step a server serves the job
abbrev pub is_served : Option Step → Bool
is_served (Some (Visit visit)) = is_some visit.service
is_served (Some (Free station)) = false
is_served (Some (Delay law)) = false
is_served (Some (Go branch)) = false
is_served None = false

abbrev pub come_by : Site → Routes → Station → CellData → Event → Option Job → Effect
come_by site routes station cells event None = blank
come_by site routes station cells event (Some job) =
    come_effect site routes station (step_at routes job.class job.step) job cells event

abbrev pub done_by : Site → Routes → Station → CellData → Event → Option Job → Effect
done_by site routes station cells event None = blank
done_by site routes station cells event (Some job) =
    if is_served (step_at routes job.class job.step) then done_effect site routes station job cells event else blank

abbrev pub home_by : Site → Routes → Class → CellData → Event → Option Job → Effect
home_by site routes class cells event None = blank
home_by site routes class cells event (Some job) =
    come_home site routes class (step_at routes job.class job.step) job cells event

-- what an event does at a station
unfoldable pub station_effect : Site → Routes → Station → CellData → Event → Effect
station_effect site routes station cells event =
    if event.kind == COME then come_by site routes station cells event (job_here routes site.object event.a)
    else if event.kind == DONE then done_by site routes station cells event (job_here routes site.object event.a)
    else if event.kind == CALL then call_effect site routes station cells
    else if event.kind == TIRE then tire_effect site routes station cells event
    else if event.kind == SHIFT then shift_effect site station cells event
    else if event.kind == BREAK then break_effect site station cells station.breakdowns
    else if event.kind == MEND then mend_effect site station cells station.breakdowns
    else blank

-- what an event does at a class
unfoldable pub class_effect : Site → Routes → Class → CellData → Event → Effect
class_effect site routes class cells event =
    if event.kind == MAKE then make_effect site routes class cells event
    else if event.kind == COME then home_by site routes class cells event (job_here routes site.object event.a)
    else blank

-- where and when an event happens
abbrev pub site_of : ShopParts → ℕ → Event → Site
site_of p object event = record { seed = p.seed; object = object; tick = time_part event.key.stamp }

-- the class of an object, where it isn't a station
abbrev pub class_of_object : ShopParts → ℕ → Class
class_of_object p object = class_at (routes_of p) (object - length p.stations)

unfoldable pub lawful_at : ShopParts → ℕ → CellData → Bool
lawful_at p object cells =
    if nat_lt object (length p.stations) then is_station_cells object (routes_of p) (station_at p.stations object) cells
    else is_class_cells (class_of_object p object).count cells

unfoldable pub effect_at : ShopParts → ℕ → CellData → Event → Effect
effect_at p object cells event =
    if nat_lt object (length p.stations)
    then station_effect (site_of p object event) (routes_of p) (station_at p.stations object) cells event
    else class_effect (site_of p object event) (routes_of p) (class_of_object p object) cells event

unfoldable pub first_at : ShopParts → ℕ → CellData
first_at p object = if nat_lt object (length p.stations) then first_station_cells (station_at p.stations object) else first_class_cells

unfoldable pub name_at : ShopParts → ℕ → List ℕ
name_at p object = if nat_lt object (length p.stations) then (station_at p.stations object).name else (class_of_object p object).name

-- the stations are numbered before the classes
unfoldable pub shop_meaning : ShopParts → Meaning
shop_meaning p = record {
  objects = length p.stations + length p.classes;
  lawful = λ object cells. lawful_at p object cells;
  effect = λ object cells event. Goes (effect_at p object cells event);
  first = λ object. first_at p object;
  starts = length (starts_of p.stations p.classes);
  start_at = λ i. slice_index_or (starts_of p.stations p.classes) i (start_at 0 0 0 0);
  label = λ object. name_at p object;
  word = record_word;
  fault = λ code. None;
}
