-- Lemmas on the events with which a shop begins.
use Rattle.std.proofs.Common.{◌≡◌, ℕ, ◌+◌, ◌-◌, ◌*◌, ◌<◌, ◌≤◌, Bool, true, false, zero, suc, List, [], ◌∷◌, ◌++◌, length, get_or, map, take, refl, ap}
use Rattle.std.proofs.Common.{sym, ◌∙◌, subst, ⊎_elim, length-append, arith}
use Rattle.std.specs.Prelude.{All, if◌then◌else◌, nat_le, slice_index_or, sum_by, Option, None, Some}
use Rattle.std.proofs.lemmas.Bool.{lt-ltb, le-ltb, cases_lt}
use Rattle.std.proofs.lemmas.List.{length-map, take_all}
use Rattle.std.proofs.lemmas.List.Elements.{at_read, All-append, All-nil}
use Rattle.std.proofs.lemmas.List.Sums.{sum_by_more}
use Rattle.model_core.specs.declared.event.Start.{Start}
use Rattle.model_core.proofs.Numbers.{flat_map-numbers-more}
use Rattle.random_streams.specs.declared.delay_law.DelayLaw.{DelayLaw}
use Rattle.shop_model.specs.declared.class.Class.{Class}
use Rattle.shop_model.specs.declared.station.Breakdowns.{Breakdowns}
use Rattle.shop_model.specs.declared.station.Shift.{Shift}
use Rattle.shop_model.specs.declared.station.Station.{Station}
use Rattle.shop_model.specs.Routes.{no_class}
use Rattle.shop_model.specs.ShopParts.{no_station, station_at}
use Rattle.shop_model.specs.declared.kinds.TheConstants.{MAKE}
use Rattle.shop_model.specs.Starts.{start_at, first_shift, first_work, first_arrival, station_starts, class_starts, starts_at, starts_below}
use Rattle.shop_model.specs.Starts.{starts_of}

-- one object more
starts_more : (stations : List Station) (classes : List Class) (n : ℕ)
    → starts_below stations classes (n + 1) ≡ starts_below stations classes n ++ starts_at stations classes n
unfolding starts_below
starts_more stations classes n = flat_map-numbers-more (λ object. starts_at stations classes object) n

at_station : (stations : List Station) (classes : List Class) (n : ℕ) → n < length stations
    → starts_at stations classes n ≡ station_starts n (station_at stations n)
unfolding starts_at
at_station stations classes n within =
    ap (λ b. if b then station_starts n (station_at stations n) else class_starts n (slice_index_or classes (n - length stations) no_class))
    (lt-ltb n (length stations) within)

at_class : (stations : List Station) (classes : List Class) (n : ℕ)
    → starts_at stations classes (length stations + n) ≡ class_starts (length stations + n) (slice_index_or classes n no_class)
unfolding starts_at
at_class stations classes n =
    let place : length stations + n - length stations ≡ n = omega arith in
    ap (λ b. if b then station_starts (length stations + n) (station_at stations (length stations + n))
    else class_starts (length stations + n) (slice_index_or classes (length stations + n - length stations) no_class))
    (le-ltb (length stations + n) (length stations) (omega arith))
    ∙ ap (λ k. class_starts (length stations + n) (slice_index_or classes k no_class)) place

-- one station more, and one class more
pub starts_more-station : (stations : List Station) (classes : List Class) (n : ℕ) (station : Station) → n < length stations
    → station ≡ get_or stations n station
    → starts_below stations classes (n + 1) ≡ starts_below stations classes n ++ station_starts n station
starts_more-station stations classes n station within read =
    starts_more stations classes n
    ∙ ap (λ rest. starts_below stations classes n ++ rest)
    (at_station stations classes n within
    ∙ at_read stations (λ s. station_starts n s ≡ station_starts n station) n station within read refl no_station)

pub starts_more-class : (stations : List Station) (classes : List Class) (n : ℕ) (class : Class) → n < length classes → class ≡ get_or classes n class
    → starts_below stations classes (length stations + (n + 1))
    ≡ starts_below stations classes (length stations + n) ++ class_starts (length stations + n) class
starts_more-class stations classes n class within read =
    let next : length stations + (n + 1) ≡ length stations + n + 1 = omega arith in
    ap (λ k. starts_below stations classes k) next
    ∙ starts_more stations classes (length stations + n)
    ∙ ap (λ rest. starts_below stations classes (length stations + n) ++ rest)
    (at_class stations classes n
    ∙ at_read classes (λ c. class_starts (length stations + n) c ≡ class_starts (length stations + n) class) n class within read refl no_class)

-- how many there are
few_shifts : (object : ℕ) (shifts : List Shift) → length (first_shift object shifts) ≤ 1
few_shifts object [] = omega arith
few_shifts object (shift ∷ rest) = omega arith

few_works : (object : ℕ) (breakdowns : Option Breakdowns) → length (first_work object breakdowns) ≤ 1
few_works object None = omega arith
few_works object (Some breakdowns) = omega arith

few_arrivals : (object : ℕ) (every : Option DelayLaw) (first until : ℕ) → length (first_arrival object every first until) ≤ 1
few_arrivals object None first until = omega arith
few_arrivals object (Some every) first until = by (nat_le first until)
  where
    by : (early : Bool) → length (if early then start_at object first MAKE 1 ∷ [] else []) ≤ 1
    by true = omega arith
    by false = omega arith

station_few : (object : ℕ) (station : Station) → length (station_starts object station) ≤ 2
station_few object station =
    omega (
      arith,
      length-append (first_shift object station.shifts) (first_work object station.breakdowns),
      few_shifts object station.shifts,
      few_works object station.breakdowns,
    )

class_few : (object : ℕ) (class : Class) → length (class_starts object class) ≤ 1 + length class.times
class_few object class =
    omega (
      arith,
      length-append (first_arrival object class.every class.first class.until) (map (λ time. start_at object time MAKE 0) class.times),
      few_arrivals object class.every class.first class.until,
      length-map class.times (λ time. start_at object time MAKE 0),
    )

few_of_stations : (stations : List Station) (classes : List Class) (n : ℕ) → n ≤ length stations → length (starts_below stations classes n) ≤ 2 * n
unfolding starts_below
few_of_stations stations classes zero within = omega arith
few_of_stations stations classes (suc n) within =
    let before : length (starts_below stations classes n) ≤ 2 * n = few_of_stations stations classes n (omega arith) in
    let next : suc n ≡ n + 1 = omega arith in
    let more : starts_below stations classes (suc n) ≡ starts_below stations classes n ++ starts_at stations classes n =
    ap (λ k. starts_below stations classes k) next ∙ starts_more stations classes n in
    let here : length (starts_at stations classes n) ≤ 2 =
    omega (arith, ap length (at_station stations classes n (omega arith)), station_few n (station_at stations n)) in
    omega (arith, ap length more, length-append (starts_below stations classes n) (starts_at stations classes n))

few_of_classes : (stations : List Station) (classes : List Class) (n : ℕ) → n ≤ length classes
    → length (starts_below stations classes (length stations + n))
    ≤ 2 * length stations + n + sum_by (λ (class : Class). length class.times) (take n classes)
few_of_classes stations classes zero within =
    let none : length stations + 0 ≡ length stations = omega arith in
    omega (arith, ap (λ k. length (starts_below stations classes k)) none, few_of_stations stations classes (length stations) (omega arith))
few_of_classes stations classes (suc n) within =
    let before : length (starts_below stations classes (length stations + n))
    ≤ 2 * length stations + n + sum_by (λ (class : Class). length class.times) (take n classes) =
    few_of_classes stations classes n (omega arith) in
    let next : length stations + suc n ≡ length stations + n + 1 = omega arith in
    let more : starts_below stations classes (length stations + suc n)
    ≡ starts_below stations classes (length stations + n) ++ starts_at stations classes (length stations + n) =
    ap (λ k. starts_below stations classes k) next ∙ starts_more stations classes (length stations + n) in
    let class : Class = slice_index_or classes n no_class in
    let here : length (starts_at stations classes (length stations + n)) ≤ 1 + length class.times =
    omega (arith, ap length (at_class stations classes n), class_few (length stations + n) class) in
    let one : n + 1 ≡ suc n = omega arith in
    let times : sum_by (λ (class : Class). length class.times) (take (suc n) classes)
    ≡ sum_by (λ (class : Class). length class.times) (take n classes) + length class.times =
    ap (λ k. sum_by (λ (class : Class). length class.times) (take k classes)) (sym one)
    ∙ sum_by_more (λ (class : Class). length class.times) classes n no_class (omega arith) in
    omega (
      arith,
      ap length more,
      length-append (starts_below stations classes (length stations + n))
          (starts_at stations classes (length stations + n)),
    )

pub length-starts_of : (stations : List Station) (classes : List Class)
    → length (starts_of stations classes) ≤ 2 * length stations + length classes + sum_by (λ (class : Class). length class.times) classes
length-starts_of stations classes =
    let all : take (length classes) classes ≡ classes = take_all (length classes) classes (omega arith) in
    omega (arith, few_of_classes stations classes (length classes) (omega arith), ap (λ cs. sum_by (λ (class : Class). length class.times) cs) all)

-- what holds of those of each object holds of all
all_below : (P : Start → Type 0) (stations : List Station) (classes : List Class) (n : ℕ)
    → ((object : ℕ) → object < n → All P (starts_at stations classes object))
    → All P (starts_below stations classes n)
unfolding starts_below
all_below P stations classes zero each = All-nil P
all_below P stations classes (suc n) each =
    let next : suc n ≡ n + 1 = omega arith in
    let more : starts_below stations classes (suc n) ≡ starts_below stations classes n ++ starts_at stations classes n =
    ap (λ k. starts_below stations classes k) next ∙ starts_more stations classes n in
    subst (λ xs. All P xs) (sym more)
    (All-append P (starts_below stations classes n) (starts_at stations classes n)
    (all_below P stations classes n (λ object below. each object (omega arith))) (each n (omega arith)))

pub All-starts_of : (P : Start → Type 0) (stations : List Station) (classes : List Class)
    → ((object : ℕ) → object < length stations → All P (station_starts object (station_at stations object)))
    → ((n : ℕ) → n < length classes → All P (class_starts (length stations + n) (slice_index_or classes n no_class)))
    → All P (starts_of stations classes)
All-starts_of P stations classes of_station of_class = all_below P stations classes (length stations + length classes) each
  where
    late : (object : ℕ) → length stations ≤ object → object < length stations + length classes → All P (starts_at stations classes object)
    late object past below =
        let n = object - length stations in
        let is : length stations + n ≡ object = omega arith in
        subst (λ k. All P (starts_at stations classes k)) is
        (subst (λ xs. All P xs) (sym (at_class stations classes n)) (of_class n (omega arith)))

    each : (object : ℕ) → object < length stations + length classes → All P (starts_at stations classes object)
    each object below =
        ⊎_elim (λ (early : object < length stations). subst (λ xs. All P xs) (sym (at_station stations classes object early))
        (of_station object early))
        (λ (past : length stations ≤ object). late object past below)
        (cases_lt object (length stations))
