-- The numbers of what was read lie within their bounds.
use Rattle.std.specs.Prelude.{◌≡◌, ℕ, ◌+◌, ◌^◌, ◌<◌, ◌≤◌, true, IsTrue, List, length, All, Some}
use Rattle.std.specs.List.{AllPairs}
use Rattle.std.specs.Option.{ForSome}
use Rattle.random_streams.specs.Delays.{is_delay_law}
use Rattle.random_streams.specs.Laws.{is_choice}
use Rattle.shop_model.specs.declared.class.Class.{Class}
use Rattle.shop_model.specs.declared.class.TheConstants.{MOST_COUNT, MOST_DUE, MOST_PRIORITY, MOST_STEPS}
use Rattle.shop_model.specs.declared.station.Shift.{Shift}
use Rattle.shop_model.specs.declared.station.Station.{Station}
use Rattle.shop_model.specs.declared.station.TheConstants.{MOST_LINE, MOST_OPEN, MOST_SHIFTS}
use Rattle.shop_model.specs.HasStation.{AreBreakdowns}
use Rattle.shop_model.specs.ShopParts.{most_open}
use Rattle.shop_text.specs.declared.arrivals.Arrivals.{Arrivals}
use Rattle.shop_text.specs.declared.arrivals.Batches.{Batches}
use Rattle.shop_text.specs.declared.arrivals.Window.{Window}
use Rattle.shop_text.specs.declared.named.NamedStep.{NamedStep}
use Rattle.shop_text.specs.declared.named.NamedStep.TheVariants.{Visit, Free, Delay, Go}
use Rattle.shop_text.specs.declared.named.NamedVisit.{NamedVisit}
use Rattle.shop_text.specs.declared.shifts.Timetable.{Timetable}
use Rattle.text_fields.specs.declared.directory.Place.{Place}
use Rattle.text_fields.specs.Names.{Finder}
use Rattle.shop_text.specs.ClassTexts.{ClassText}

pub record IsShift (shift : Shift) : Type 0 where
  pub at : shift.at ≤ 2 ^ 40
  pub servers : shift.servers ≤ MOST_OPEN

-- the shifts begin one after another, all of them within a period
pub record IsTimetable (timetable : Timetable) : Type 0 where
  pub few : length timetable.shifts ≤ MOST_SHIFTS
  pub shifts : All IsShift timetable.shifts
  pub rising : AllPairs (λ (a b : Shift). a.at < b.at) timetable.shifts
  pub period : ForSome timetable.period (λ period. period ≤ 2 ^ 40)
  pub again : ForSome timetable.period (λ period. All (λ (shift : Shift). shift.at < period) timetable.shifts)

-- a station, before its line has its levels
pub record IsStationText (station : Station) : Type 0 where
  pub servers : station.servers ≤ MOST_OPEN
  pub most : station.most ≡ most_open station.servers station.shifts
  pub line : station.line ≤ MOST_LINE
  pub timetable : IsTimetable (record { shifts = station.shifts; period = station.period })
  pub breakdowns : ForSome station.breakdowns AreBreakdowns

pub record IsNamedVisit (visit : NamedVisit) : Type 0 where
  pub service : ForSome visit.service (λ law. IsTrue (is_delay_law law))
  pub patience : ForSome visit.patience (λ law. IsTrue (is_delay_law law))

-- a step, before it is linked
abbrev pub IsNamedStep : NamedStep → Type 0
IsNamedStep (Visit visit) = IsNamedVisit visit
IsNamedStep (Free station) = Unit {0}
IsNamedStep (Delay law) = IsTrue (is_delay_law law)
IsNamedStep (Go steps weights) = (length weights ≡ length steps) × IsTrue (is_choice weights)

pub record IsWindow (window : Window) : Type 0 where
  pub first : window.first ≤ MOST_DUE
  pub until : window.until ≤ MOST_DUE

pub record AreBatches (batches : Batches) : Type 0 where
  pub batch : ForSome batches.batch (λ law. IsTrue (is_delay_law law))
  pub some : 1 ≤ batches.count
  pub few : batches.count ≤ MOST_COUNT

pub record AreArrivals (arrivals : Arrivals) : Type 0 where
  pub every : ForSome arrivals.every (λ law. IsTrue (is_delay_law law))
  pub window : IsWindow arrivals.window
  pub times : All (λ time. time ≤ MOST_DUE) arrivals.times
  pub batches : AreBatches arrivals.batches

-- what has names and may be linked to has numbers below this one
abbrev pub LinksBelow : ℕ → Finder → Type 0
LinksBelow most find = (name : List ℕ) (place : Place) → find name ≡ Some place → place.takes_links ≡ true → place.number < most

-- steps that were read, and their labels
pub record IsRoute (route : List NamedStep) (find : Finder) : Type 0 where
  pub some : 1 ≤ length route
  pub few : length route ≤ MOST_STEPS
  pub steps : All IsNamedStep route
  pub labels : LinksBelow (length route + 2) find

-- a class but for its route
pub record HasClassFields (class : Class) : Type 0 where
  pub every : ForSome class.every (λ law. IsTrue (is_delay_law law))
  pub first : class.first ≤ MOST_DUE
  pub until : class.until ≤ MOST_DUE
  pub times : All (λ time. time ≤ MOST_DUE) class.times
  pub batch : ForSome class.batch (λ law. IsTrue (is_delay_law law))
  pub some : 1 ≤ class.count
  pub few : class.count ≤ MOST_COUNT
  pub priority : class.priority ≤ MOST_PRIORITY
  pub due : ForSome class.due (λ due. due ≤ MOST_DUE)

-- a class, before its route is linked
pub record IsClassText (text : ClassText) : Type 0 where
  pub fields : HasClassFields text.class
  pub route : IsRoute text.route text.labels
