-- The events with which a shop begins.
use Rattle.std.specs.Prelude.{ℕ, ◌+◌, ◌-◌, if◌then◌else◌, List, [], ◌∷◌, ◌++◌, length, map, nat_lt, nat_le, slice_index_or, Option, None, Some}
use Rattle.std.specs.List.{flat_map, range_with_len}
use Rattle.model_core.specs.declared.event.Start.{Start}
use Rattle.random_streams.specs.declared.delay_law.DelayLaw.{DelayLaw}
use Rattle.shop_model.specs.declared.class.Class.{Class}
use Rattle.shop_model.specs.declared.kinds.TheConstants.{MAKE, SHIFT, MEND}
use Rattle.shop_model.specs.declared.station.Breakdowns.{Breakdowns}
use Rattle.shop_model.specs.declared.station.Shift.{Shift}
use Rattle.shop_model.specs.declared.station.Station.{Station}
use Rattle.shop_model.specs.Kinds.{rank_of}
use Rattle.shop_model.specs.Routes.{no_class}
use Rattle.shop_model.specs.ShopParts.{station_at}

abbrev pub start_at : ℕ → ℕ → ℕ → ℕ → Start
start_at object time kind b = record { time = time; dest = object; kind = kind; a = 0; b = b; rank = rank_of kind }

-- the first shift begins
abbrev pub first_shift : ℕ → List Shift → List Start
first_shift object [] = []
first_shift object (shift ∷ rest) = start_at object shift.at SHIFT 0 ∷ []

-- a station that breaks down works from the start on
abbrev pub first_work : ℕ → Option Breakdowns → List Start
first_work object None = []
first_work object (Some breakdowns) = start_at object 0 MEND 0 ∷ []

abbrev pub station_starts : ℕ → Station → List Start
station_starts object station = first_shift object station.shifts ++ first_work object station.breakdowns

-- the first of the arrivals that follow each other, if it comes in time
abbrev pub first_arrival : ℕ → Option DelayLaw → ℕ → ℕ → List Start
first_arrival object None first until = []
first_arrival object (Some every) first until = if nat_le first until then start_at object first MAKE 1 ∷ [] else []

abbrev pub class_starts : ℕ → Class → List Start
class_starts object class = first_arrival object class.every class.first class.until ++ map (λ time. start_at object time MAKE 0) class.times

-- the stations come before the classes
unfoldable pub starts_at : List Station → List Class → ℕ → List Start
starts_at stations classes object =
    if nat_lt object (length stations) then station_starts object (station_at stations object)
    else class_starts object (slice_index_or classes (object - length stations) no_class)

-- those of the first objects, in their order
unfoldable pub starts_below : List Station → List Class → ℕ → List Start
starts_below stations classes objects = flat_map (λ object. starts_at stations classes object) (range_with_len 0 objects)

abbrev pub starts_of : List Station → List Class → List Start
starts_of stations classes = starts_below stations classes (length stations + length classes)
