-- By which laws an event of a shop draws.
use Rattle.std.specs.Prelude.{ℕ, ◌%◌, ◌==◌, ◌&&◌, if◌then◌else◌, List, [], ◌∷◌, ◌++◌, length, nat_lt, nat_le, Option, None, Some}
use Rattle.std.specs.List.{flat_map}
use Rattle.std.specs.Option.{option_and_then}
use Rattle.delta_exchange.specs.Changes.{CellData}
use Rattle.model_core.specs.declared.event.Event.{Event}
use Rattle.model_core.specs.declared.event.Send.{Send}
use Rattle.random_streams.specs.declared.delay_law.DelayLaw.{DelayLaw}
use Rattle.random_streams.specs.declared.delay_law.DelayLaw.TheVariants.{Plain}
use Rattle.random_streams.specs.declared.law.Law.TheVariants.{Choice}
use Rattle.random_streams.specs.Delays.{draw_delay}
use Rattle.run_laws.specs.Reached.{gathered}
use Rattle.run_laws.specs.Sent.{first_of}
use Rattle.sim_spec.specs.declared.terms.Terms.{Terms}
use Rattle.sim_spec.specs.Run.{Next, stops, does}
use Rattle.sim_spec.specs.State.{State}
use Rattle.shop_model.specs.declared.class.Class.{Class}
use Rattle.shop_model.specs.declared.kinds.TheConstants.{MAKE, COME, DONE, TIRE, BREAK, MEND}
use Rattle.shop_model.specs.declared.routes.Routes.{Routes}
use Rattle.shop_model.specs.declared.station.Breakdowns.{Breakdowns}
use Rattle.shop_model.specs.declared.step.Step.{Step}
use Rattle.shop_model.specs.declared.step.Step.TheVariants.{Visit, Free, Delay, Go}
use Rattle.shop_model.specs.Classes.{made_jobs}
use Rattle.shop_model.specs.Meaning.{class_of_object, effect_at, shop_meaning}
use Rattle.shop_model.specs.Routes.{step_at, job_of}
use Rattle.shop_model.specs.ShopParts.{ShopParts, routes_of, station_at}
use Rattle.shop_laws.specs.Told.{cells_at}

-- a law that may be absent
abbrev pub laws_of : Option DelayLaw → List DelayLaw
laws_of None = []
laws_of (Some law) = law ∷ []

-- by which law a server serves a job at a step, a job waits there at most, or stays with its class
abbrev pub service_at : Option Step → Option DelayLaw
service_at (Some (Visit visit)) = visit.service
service_at (Some (Free station)) = None
service_at (Some (Delay law)) = None
service_at (Some (Go branch)) = None
service_at None = None

abbrev pub patience_at : Option Step → Option DelayLaw
patience_at (Some (Visit visit)) = visit.patience
patience_at (Some (Free station)) = None
patience_at (Some (Delay law)) = None
patience_at (Some (Go branch)) = None
patience_at None = None

abbrev pub stay_at : Option Step → Option DelayLaw
stay_at (Some (Delay law)) = Some law
stay_at (Some (Visit visit)) = None
stay_at (Some (Free station)) = None
stay_at (Some (Go branch)) = None
stay_at None = None

-- the choice of a way at a step
abbrev pub way_at : Option Step → Option DelayLaw
way_at (Some (Go branch)) = Some (Plain (Choice branch.weights))
way_at (Some (Visit visit)) = None
way_at (Some (Free station)) = None
way_at (Some (Delay law)) = None
way_at None = None

-- for how long a station stands still, and works
abbrev pub down_by : Option Breakdowns → Option DelayLaw
down_by None = None
down_by (Some breakdowns) = Some breakdowns.down

abbrev pub up_by : Option Breakdowns → Option DelayLaw
up_by None = None
up_by (Some breakdowns) = Some breakdowns.up

-- the step of the job that a number names, and the one to which an event comes
abbrev pub step_named : Routes → ℕ → Option Step
step_named routes a = option_and_then (λ job. step_at routes job.class job.step) (job_of routes a)

abbrev pub step_come : Routes → Event → Option Step
step_come routes e = if e.kind == COME then step_named routes e.a else None

-- by which law it is drawn after how many ticks an event comes that another one sends: a service ends that begins now, a patience, a
-- standstill, a time of work or a stay
unfoldable pub delay_law : ShopParts → Event → Send → Option DelayLaw
delay_law p e s =
    if s.kind == DONE then (if e.kind == DONE then None else service_at (step_named (routes_of p) s.a))
    else if s.kind == TIRE then patience_at (step_come (routes_of p) e)
    else if s.kind == MEND then down_by (station_at p.stations e.key.dest).breakdowns
    else if s.kind == BREAK then up_by (station_at p.stations e.key.dest).breakdowns
    else if s.kind == COME then stay_at (step_come (routes_of p) e)
    else None

-- a new arrival, while its class makes jobs, draws how many jobs it brings, and then, if others follow, when the next one comes
abbrev pub arrival_laws : Class → CellData → Event → List DelayLaw
arrival_laws class cells e =
    if e.a == 0 && nat_lt (made_jobs cells) class.count then laws_of class.batch ++ (if e.b % 2 == 1 then laws_of class.every else []) else []

-- the laws by which an event draws at its object, one after another
unfoldable pub laws_drawn : ShopParts → CellData → Event → List Send → List DelayLaw
laws_drawn p cells e sends =
    if e.kind == MAKE && nat_le (length p.stations) e.key.dest then arrival_laws (class_of_object p e.key.dest) cells e
    else flat_map (λ (s : Send). laws_of (delay_law p e s)) sends ++ laws_of (way_at (step_come (routes_of p) e))

-- those by which an object draws within the first n events
abbrev pub laws_next : ShopParts → ℕ → State → Next → List DelayLaw
laws_next p i s (stops stop) = []
laws_next p i s (does told after) =
    if told.0.dest == i then flat_map (λ (e : Event). laws_drawn p (cells_at s i) e (effect_at p i (cells_at s i) e).sends) (first_of s.pending) else []

abbrev pub laws_by : ShopParts → Terms → ℕ → ℕ → List DelayLaw
laws_by p t i n = gathered (laws_next p i) n (shop_meaning p) t

-- the place behind the words that laws read, one law after another
unfoldable pub place_behind : ℕ → ℕ → ℕ → List DelayLaw → ℕ
place_behind seed object place [] = place
place_behind seed object place (law ∷ laws) = place_behind seed object (draw_delay seed object place law).1 laws
