-- A shop keeps the laws of models.
use Rattle.std.proofs.Common.{◌≡◌, ℕ, ◌+◌, ◌-◌, ◌*◌, ◌<◌, ◌≤◌, ◌^◌, Bool, true, false, zero, suc, List, [], ◌∷◌, length, get_or, map, max, replicate}
use Rattle.std.proofs.Common.{reverse, ⊎_elim, refl, sym, ap, ◌∙◌, subst, arith}
use Rattle.std.specs.Prelude.{All, IsTrue, count_by, slice_index, slice_index_or, if◌then◌else◌, nat_lt, nat_le, Option, None, Some}
use Rattle.std.specs.List.{fold, range_with_len}
use Rattle.std.proofs.lemmas.Bool.{ltb-true, ltb-false, lt-ltb, le-ltb, cases_lt}
use Rattle.std.proofs.lemmas.Bool.Decides.{nat_tests}
use Rattle.std.proofs.lemmas.List.{length-replicate, length-reverse, get_or-reverse, get_or-replicate, get_or_past}
use Rattle.std.proofs.lemmas.List.Sums.{sum_by-le}
use Rattle.std.proofs.lemmas.List.FromFn.{length-range_with_len, get_or-range_with_len}
use Rattle.std.proofs.lemmas.List.Elements.{All-append, All-nil, All-cons, All-map, All-weaker}
use Rattle.delta_exchange.specs.Changes.{CellData, line_of}
use Rattle.model_core.specs.declared.event.Event.{Event}
use Rattle.model_core.specs.Meaning.{MeaningLaws, StartLaws, EffectLaws}
use Rattle.random_streams.specs.declared.delay_law.DelayLaw.{DelayLaw}
use Rattle.shop_model.specs.declared.class.Class.{Class}
use Rattle.shop_model.specs.declared.class.TheConstants.{MOST_DUE}
use Rattle.shop_model.specs.declared.kinds.TheConstants.{MAKE, SHIFT, MEND}
use Rattle.shop_model.specs.declared.levels.TheConstants.{EMPTY}
use Rattle.shop_model.specs.declared.station.Breakdowns.{Breakdowns}
use Rattle.shop_model.specs.declared.station.Order.{Order}
use Rattle.shop_model.specs.declared.station.Order.TheVariants.{First, Last, Priority}
use Rattle.shop_model.specs.declared.station.Shift.{Shift}
use Rattle.shop_model.specs.declared.station.Station.{Station}
use Rattle.shop_model.specs.ClassKeeps.{AtClass, class_keeps}
use Rattle.shop_model.specs.Classes.{is_class_cells, first_class_cells}
use Rattle.shop_model.specs.EffectKeeps.{effect_laws, class_fine, rank_of-le}
use Rattle.shop_model.specs.HasStation.{HasLevels, HasStation, IsShift}
use Rattle.shop_model.specs.Lawful.{IsLawful, level_of_lists, lawful_from, from_lawful}
use Rattle.shop_model.specs.Meaning.{site_of, class_of_object, lawful_at, effect_at, first_at, shop_meaning, station_effect, class_effect}
use Rattle.shop_model.specs.Parts.{IsClass}
use Rattle.shop_model.specs.Routes.{class_at, no_class}
use Rattle.shop_model.specs.ShopParts.{ShopParts, shop_under, routes_of, no_station, station_at, most_open, levels_of, IsStationOf, IsShop}
use Rattle.shop_model.specs.StartLaws.{length-starts_of, All-starts_of}
use Rattle.shop_model.specs.Starts.{start_at, first_shift, first_work, first_arrival, station_starts, class_starts}
use Rattle.shop_model.specs.StationKeeps.{AtStation, station_keeps}
use Rattle.shop_model.specs.Stations.{is_station_cells, first_station_cells, level_of, waiting_at, jobs_line, births_line, since_line, until_line}

-- the parts lie within their bounds under any other seed too
pub is_shop_under : (seed : ℕ) → seed < 2 ^ 63 → (p : ShopParts) → IsShop p → IsShop (shop_under seed p)
is_shop_under seed below p fine = record { seed = below; routes = fine.routes; stations = fine.stations; few_times = fine.few_times }

pub station_fine : (p : ShopParts) (object : ℕ) → IsShop p → object < length p.stations → IsStationOf p.classes (station_at p.stations object)
station_fine p object fine exists = fine.stations object no_station exists

-- the first servers are among those that are ever open
pub most_open-le : (servers : ℕ) (shifts : List Shift) → servers ≤ most_open servers shifts
most_open-le servers [] = omega arith
most_open-le servers (shift ∷ rest) = omega (arith, most_open-le (max servers shift.servers) rest)

-- no class is calmer than the calmest
calmest_from : (priority : ℕ) (classes : List Class) → priority ≤ fold (λ most (class : Class). max most class.priority) priority classes
calmest_from priority [] = omega arith
calmest_from priority (class ∷ rest) = omega (arith, calmest_from (max priority class.priority) rest)

calmest_of : (priority : ℕ) (classes : List Class) (k : ℕ) → k < length classes
    → (slice_index_or classes k no_class).priority ≤ fold (λ most (class : Class). max most class.priority) priority classes
calmest_of priority [] k within = absurd (omega arith)
calmest_of priority (class ∷ rest) zero within = omega (arith, calmest_from (max priority class.priority) rest)
calmest_of priority (class ∷ rest) (suc k) within = calmest_of (max priority class.priority) rest k (omega arith)

pub some_levels : (order : Order) (classes : List Class) → 1 ≤ levels_of order classes
some_levels Priority classes = omega arith
some_levels First classes = omega arith
some_levels Last classes = omega arith

-- each class has a level
pub has_levels : (p : ShopParts) (station : Station) → IsStationOf p.classes station → HasLevels (routes_of p) station
has_levels p station is class within =
    subst (λ levels. level_of station.order (class_at (routes_of p) class).priority < levels) (sym is.levels) (by station.order)
  where
    by : (order : Order) → level_of order (class_at (routes_of p) class).priority < levels_of order p.classes
    by Priority = omega (arith, calmest_of 0 p.classes class within)
    by First = omega arith
    by Last = omega arith

-- the cells of a station at the start
first_station : (object : ℕ) (p : ShopParts) (station : Station) → IsStationOf p.classes station
    → IsTrue (is_station_cells object (routes_of p) station (first_station_cells station))
unfolding first_station_cells waiting_at
first_station object p station is = from_lawful object (routes_of p) station (first_station_cells station) (record {
  words = omega (arith, length-replicate {A = ℕ} (4 + station.levels + station.most) 0);
  lines = omega (arith, length-replicate {A = List ℕ} (4 * station.levels) []);
  levels = λ level below. level_of_lists object (routes_of p) (first_station_cells station) level [] [] [] []
      (none (jobs_line level) (omega arith) (omega arith)) (none (births_line level) (omega arith) (omega arith))
      (none (since_line level) (omega arith) (omega arith)) (none (until_line level) (omega arith) (omega arith))
      refl refl refl (λ k d within. absurd (omega arith)) (λ k d within. absurd (omega arith));
  opened = omega (arith, is.most, most_open-le station.servers station.shifts);
  held = omega (arith, zeros 0 (omega arith), all_free);
  free = omega (arith, all_free);
  servers = λ k d within. lt-ltb _ _ (
      let below : k < station.most = omega (arith, all_free) in
      omega (
        arith,
        get_or-reverse (range_with_len 0 station.most) k d (omega (arith, length-range_with_len 0 station.most)),
        get_or-range_with_len 0 station.most (length (range_with_len 0 station.most) - 1 - k) d (omega (arith, length-range_with_len 0 station.most)),
        length-range_with_len 0 station.most,
      ));
  down = omega (arith, zeros 2 (omega arith));
  waiting = omega (
    arith,
    zeros 1 (omega arith),
    sum_by-le (λ k. waiting_at (first_station_cells station) k) 0 (range_with_len 0 station.levels)
        (λ k d within. omega (arith, nobody (get_or (range_with_len 0 station.levels) k d))),
  );
  few = omega (arith, zeros 1 (omega arith));
})
  where
    all_free : length (reverse (range_with_len 0 station.most)) ≡ station.most
    all_free = length-reverse (range_with_len 0 station.most) ∙ length-range_with_len 0 station.most

    none : (line : ℕ) → 1 ≤ line → line < 1 + 4 * station.levels → line_of (first_station_cells station) line ≡ []
    none line past within =
        let place : line ≡ suc (line - 1) = omega arith in
        ap (λ k. line_of (first_station_cells station) k) place ∙ get_or-replicate {A = List ℕ} (4 * station.levels) (line - 1) [] [] (omega arith)

    zeros : (k : ℕ) → k < 4 → slice_index (replicate (4 + station.levels + station.most) 0) k ≡ 0
    zeros k few = get_or-replicate (4 + station.levels + station.most) k 0 0 (omega arith)

    lines : length (first_station_cells station).lines ≡ 1 + 4 * station.levels
    lines = omega (arith, length-replicate {A = List ℕ} (4 * station.levels) [])

    nobody : (level : ℕ) → waiting_at (first_station_cells station) level ≡ 0
    nobody level =
        let empty : line_of (first_station_cells station) (jobs_line level) ≡ [] = ⊎_elim
        (λ (within : jobs_line level < 1 + 4 * station.levels). none (jobs_line level) (omega arith) within)
        (λ (past : 1 + 4 * station.levels ≤ jobs_line level). get_or_past (first_station_cells station).lines (jobs_line level) []
        (omega (arith, lines)))
        (cases_lt (jobs_line level) (1 + 4 * station.levels)) in
        ap (λ xs. count_by (λ a. nat_lt a EMPTY) xs) empty

-- where an object is a station, and where it is a class
lawful_station : (p : ShopParts) (object : ℕ) (cells : CellData) → object < length p.stations → IsTrue (lawful_at p object cells)
    → IsTrue (is_station_cells object (routes_of p) (station_at p.stations object) cells)
unfolding lawful_at
lawful_station p object cells early lawful =
    subst (λ b. IsTrue (if b then is_station_cells object (routes_of p) (station_at p.stations object) cells
    else is_class_cells (class_of_object p object).count cells))
    (lt-ltb object (length p.stations) early) lawful

pub lawful_class : (p : ShopParts) (object : ℕ) (cells : CellData) → length p.stations ≤ object → IsTrue (lawful_at p object cells)
    → IsTrue (is_class_cells (class_of_object p object).count cells)
unfolding lawful_at
lawful_class p object cells late lawful =
    subst (λ b. IsTrue (if b then is_station_cells object (routes_of p) (station_at p.stations object) cells
    else is_class_cells (class_of_object p object).count cells))
    (le-ltb object (length p.stations) late) lawful

-- what the handlers of a station ask of its cells
pub station_stands : (p : ShopParts) (object : ℕ) (cells : CellData) → object < length p.stations → IsTrue (lawful_at p object cells)
    → HasStation (station_at p.stations object) cells
station_stands p object cells early lawful =
    let is = lawful_from object (routes_of p) (station_at p.stations object) cells (lawful_station p object cells early lawful) in
    record {
      words = is.words;
      lines = is.lines;
      counts = record { free = is.free; held = is.held };
      opened = is.opened;
      waiting = is.few;
      servers = λ k d within. ltb-true _ _ (is.servers k d within);
      levels = λ level below.
          let at = is.levels level below in
          record { births = at.births; since = at.since; until = at.until; early = λ k d within. ltb-true _ _ (at.early k d within) };
    }

pub effect_station : (p : ShopParts) (object : ℕ) (cells : CellData) (event : Event) → object < length p.stations
    → effect_at p object cells event ≡ station_effect (site_of p object event) (routes_of p) (station_at p.stations object) cells event
unfolding effect_at
effect_station p object cells event early =
    ap (λ b. if b then station_effect (site_of p object event) (routes_of p) (station_at p.stations object) cells event
    else class_effect (site_of p object event) (routes_of p) (class_of_object p object) cells event)
    (lt-ltb object (length p.stations) early)

pub effect_class : (p : ShopParts) (object : ℕ) (cells : CellData) (event : Event) → length p.stations ≤ object
    → effect_at p object cells event ≡ class_effect (site_of p object event) (routes_of p) (class_of_object p object) cells event
unfolding effect_at
effect_class p object cells event late =
    ap (λ b. if b then station_effect (site_of p object event) (routes_of p) (station_at p.stations object) cells event
    else class_effect (site_of p object event) (routes_of p) (class_of_object p object) cells event)
    (le-ltb object (length p.stations) late)

at_station : (p : ShopParts) (object : ℕ) (cells : CellData) (event : Event) → IsShop p → object < length p.stations
    → IsTrue (is_station_cells object (routes_of p) (station_at p.stations object) cells)
    → AtStation (site_of p object event) (routes_of p) (station_at p.stations object) cells
at_station p object cells event fine exists lawful =
    let is = station_fine p object fine exists in
    record {
      routes_fine = fine.routes;
      station_in_range = is.numbers;
      levels = has_levels p (station_at p.stations object) is;
      rising = is.rising;
      exists = exists;
      lawful = lawful_from object (routes_of p) (station_at p.stations object) cells lawful;
    }

at_class : (p : ShopParts) (object : ℕ) (cells : CellData) (event : Event) → IsShop p → length p.stations ≤ object
    → object < length p.stations + length p.classes
    → IsTrue (is_class_cells (class_of_object p object).count cells) → AtClass (site_of p object event) (routes_of p) (class_of_object p object) cells
at_class p object cells event fine after exists lawful = record {
  routes_fine = fine.routes;
  class_in_range = class_fine (routes_of p) (object - length p.stations) fine.routes (omega arith);
  after = after;
  exists = exists;
  lawful = lawful;
}

outcome_laws : (p : ShopParts) (object : ℕ) (cells : CellData) (event : Event) → IsShop p → object < length p.stations + length p.classes
    → IsTrue (lawful_at p object cells)
    → EffectLaws (shop_meaning p) object cells (effect_at p object cells event)
unfolding shop_meaning lawful_at effect_at
outcome_laws p object cells event fine exists lawful = by (nat_lt object (length p.stations)) refl lawful
  where
    station : Station
    station = station_at p.stations object

    class : Class
    class = class_of_object p object

    kept : (early : Bool) → nat_lt object (length p.stations) ≡ early → (c : CellData)
        → IsTrue (if early then is_station_cells object (routes_of p) station c else is_class_cells class.count c) → IsTrue (lawful_at p object c)
    kept early is c h = subst (λ b. IsTrue (if b then is_station_cells object (routes_of p) station c else is_class_cells class.count c)) (sym is) h

    by : (early : Bool) → nat_lt object (length p.stations) ≡ early
        → IsTrue (if early then is_station_cells object (routes_of p) station cells else is_class_cells class.count cells)
        → EffectLaws (shop_meaning p) object cells
        (if early then station_effect (site_of p object event) (routes_of p) station cells event
        else class_effect (site_of p object event) (routes_of p) class cells event)
    by true early lawful =
        effect_laws (shop_meaning p) object (IsLawful object (routes_of p) station) cells
        (station_effect (site_of p object event) (routes_of p) station cells event)
        (λ c h. kept true early c (from_lawful object (routes_of p) station c h))
        (station_keeps (site_of p object event) (routes_of p) station cells event (at_station p object cells event fine (ltb-true _ _ early) lawful))
    by false late lawful =
        effect_laws (shop_meaning p) object (λ c. IsTrue (is_class_cells class.count c)) cells
        (class_effect (site_of p object event) (routes_of p) class cells event)
        (λ c h. kept false late c h)
        (class_keeps (site_of p object event) (routes_of p) class cells event (at_class p object cells event fine (ltb-false _ _ late) exists lawful))

first_lawful : (p : ShopParts) (object : ℕ) → IsShop p → object < length p.stations + length p.classes
    → IsTrue (lawful_at p object (first_at p object))
unfolding lawful_at first_at
first_lawful p object fine exists = by (nat_lt object (length p.stations)) refl
  where
    by : (early : Bool) → nat_lt object (length p.stations) ≡ early
        → IsTrue (if early then is_station_cells object (routes_of p) (station_at p.stations object)
        (if early then first_station_cells (station_at p.stations object) else first_class_cells)
        else is_class_cells (class_of_object p object).count
        (if early then first_station_cells (station_at p.stations object) else first_class_cells))
    by true early = first_station object p (station_at p.stations object) (station_fine p object fine (ltb-true _ _ early))
    by false late = grind (arith, nat_tests)

-- the events at the start
start_fine : (p : ShopParts) (object time kind b : ℕ) → object < length p.stations + length p.classes → time < 2 ^ 46
    → StartLaws (shop_meaning p) (start_at object time kind b)
unfolding shop_meaning
start_fine p object time kind b exists early = record { dest = exists; time = early; rank = omega (arith, rank_of-le kind) }

station_starts_fine : (p : ShopParts) (object : ℕ) → IsShop p → object < length p.stations
    → All (StartLaws (shop_meaning p)) (station_starts object (station_at p.stations object))
station_starts_fine p object fine exists =
    All-append (StartLaws (shop_meaning p)) (first_shift object station.shifts) (first_work object station.breakdowns)
    (shifts station.shifts (station_fine p object fine exists).numbers.shifts) (works station.breakdowns)
  where
    station : Station
    station = station_at p.stations object

    there : object < length p.stations + length p.classes
    there = omega arith

    shifts : (shifts : List Shift) → All (IsShift station) shifts → All (StartLaws (shop_meaning p)) (first_shift object shifts)
    shifts [] each = All-nil (StartLaws (shop_meaning p))
    shifts (shift ∷ rest) each =
        All-cons (StartLaws (shop_meaning p)) (start_at object shift.at SHIFT 0) []
        (start_fine p object shift.at SHIFT 0 there (omega (arith, (each 0 shift (omega arith)).at)))
        (All-nil (StartLaws (shop_meaning p)))

    works : (breakdowns : Option Breakdowns) → All (StartLaws (shop_meaning p)) (first_work object breakdowns)
    works None = All-nil (StartLaws (shop_meaning p))
    works (Some breakdowns) =
        All-cons (StartLaws (shop_meaning p)) (start_at object 0 MEND 0) [] (start_fine p object 0 MEND 0 there (omega arith))
        (All-nil (StartLaws (shop_meaning p)))

class_starts_fine : (p : ShopParts) (n : ℕ) → IsShop p → n < length p.classes
    → All (StartLaws (shop_meaning p)) (class_starts (length p.stations + n) (slice_index_or p.classes n no_class))
class_starts_fine p n fine exists =
    All-append (StartLaws (shop_meaning p)) (first_arrival object class.every class.first class.until)
    (map (λ time. start_at object time MAKE 0) class.times)
    (arrivals class.every)
    (All-map (StartLaws (shop_meaning p)) (λ time. start_at object time MAKE 0) class.times
    (All-weaker (λ time. time ≤ MOST_DUE) (λ time. StartLaws (shop_meaning p) (start_at object time MAKE 0))
    (λ time early. start_fine p object time MAKE 0 there (omega (arith, early))) class.times is.times))
  where
    object : ℕ
    object = length p.stations + n

    class : Class
    class = slice_index_or p.classes n no_class

    there : object < length p.stations + length p.classes
    there = omega arith

    is : IsClass (length p.stations) class
    is = class_fine (routes_of p) n fine.routes exists

    first : (early : Bool) → All (StartLaws (shop_meaning p)) (if early then start_at object class.first MAKE 1 ∷ [] else [])
    first true =
        All-cons (StartLaws (shop_meaning p)) (start_at object class.first MAKE 1) []
        (start_fine p object class.first MAKE 1 there (omega (arith, is.first))) (All-nil (StartLaws (shop_meaning p)))
    first false = All-nil (StartLaws (shop_meaning p))

    arrivals : (every : Option DelayLaw) → All (StartLaws (shop_meaning p)) (first_arrival object every class.first class.until)
    arrivals None = All-nil (StartLaws (shop_meaning p))
    arrivals (Some every) = first (nat_le class.first class.until)

pub shop_laws : (p : ShopParts) → IsShop p → MeaningLaws (shop_meaning p)
unfolding shop_meaning
shop_laws p fine = record {
  objects = fine.routes.few;
  starts = omega (arith, length-starts_of p.stations p.classes, fine.routes.few, fine.few_times);
  first = λ object exists. first_lawful p object fine exists;
  outcome = λ object cells event exists lawful. outcome_laws p object cells event fine exists lawful;
  start = λ i exists. All-starts_of (StartLaws (shop_meaning p)) p.stations p.classes (λ object there. station_starts_fine p object fine there)
      (λ n there. class_starts_fine p n fine there)
      i (start_at 0 0 0 0) exists;
}
