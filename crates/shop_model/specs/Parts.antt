-- The numbers of stations, classes and steps lie within their bounds, and name what there is.
use Rattle.std.specs.Prelude.{◌≡◌, ℕ, ◌+◌, ◌<◌, ◌≤◌, IsTrue, length, All}
use Rattle.std.specs.Option.{ForSome}
use Rattle.model_core.specs.declared.limits.TheConstants.{MOST_OBJECTS}
use Rattle.random_streams.specs.Laws.{is_choice}
use Rattle.random_streams.specs.Delays.{is_delay_law}
use Rattle.shop_model.specs.declared.class.Class.{Class}
use Rattle.shop_model.specs.declared.class.TheConstants.{MOST_COUNT, MOST_PRIORITY, MOST_DUE, MOST_STEPS}
use Rattle.shop_model.specs.declared.routes.Routes.{Routes}
use Rattle.shop_model.specs.declared.step.Branch.{Branch}
use Rattle.shop_model.specs.declared.step.Step.{Step}
use Rattle.shop_model.specs.declared.step.Step.TheVariants.{Visit, Free, Delay, Go}
use Rattle.shop_model.specs.declared.step.Visit.{Visit as AVisit}

-- a visit of one of so many stations, in a route of so many steps
pub record IsVisit (stations steps : ℕ) (visit : AVisit) : Type 0 where
  pub exists : visit.station < stations
  pub service : ForSome visit.service (λ law. IsTrue (is_delay_law law))
  pub patience : ForSome visit.patience (λ law. IsTrue (is_delay_law law))
  pub away : visit.away ≤ steps + 1
  pub full : visit.full ≤ steps + 1

pub record IsBranch (steps : ℕ) (branch : Branch) : Type 0 where
  pub matched : length branch.weights ≡ length branch.steps
  pub choice : IsTrue (is_choice branch.weights)
  pub links : All (λ step. step ≤ steps + 1) branch.steps

abbrev pub IsStep : ℕ → ℕ → Step → Type 0
IsStep stations steps (Visit visit) = IsVisit stations steps visit
IsStep stations steps (Free station) = station < stations
IsStep stations steps (Delay law) = IsTrue (is_delay_law law)
IsStep stations steps (Go branch) = IsBranch steps branch

pub record IsClass (stations : ℕ) (class : Class) : Type 0 where
  pub every : ForSome class.every (λ law. IsTrue (is_delay_law law))
  pub first : class.first ≤ MOST_DUE
  pub until : class.until ≤ MOST_DUE
  pub times : All (λ time. time ≤ MOST_DUE) class.times
  pub batch : ForSome class.batch (λ law. IsTrue (is_delay_law law))
  pub some : 1 ≤ class.count
  pub few : class.count ≤ MOST_COUNT
  pub priority : class.priority ≤ MOST_PRIORITY
  pub due : ForSome class.due (λ due. due ≤ MOST_DUE)
  pub first_step : 1 ≤ length class.route
  pub few_steps : length class.route ≤ MOST_STEPS
  pub steps : All (IsStep stations (length class.route)) class.route

-- stations and classes are few enough to be numbered as objects
pub record AreRoutes (routes : Routes) : Type 0 where
  pub few : routes.stations + length routes.classes ≤ MOST_OBJECTS
  pub classes : All (IsClass routes.stations) routes.classes
