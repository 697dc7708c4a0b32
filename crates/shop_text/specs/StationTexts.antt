-- The check of a station: its fields in their order, and then unknown keys.
use Rattle.std.specs.Prelude.{ℕ, ◌+◌, ◌-◌, nat_lt, Bool, true, false, List, [], ◌∷◌, Option, Some, None, Ok, codes, if◌then◌else◌}
use Rattle.std.specs.Str.{bytes_eq}
use Rattle.toml.specs.Data.{Data, array, Items, no_items, Members, get_member}
use Rattle.random_streams.specs.declared.delay_law.DelayLaw.{DelayLaw}
use Rattle.random_streams.specs.declared.law.TheConstants.{MOST_VALUE}
use Rattle.shop_model.specs.declared.station.Breakdowns.{Breakdowns}
use Rattle.shop_model.specs.declared.station.Order.{Order}
use Rattle.shop_model.specs.declared.station.Order.TheVariants.{First, Last, Priority}
use Rattle.shop_model.specs.declared.station.Shift.{Shift}
use Rattle.shop_model.specs.declared.station.Station.{Station}
use Rattle.shop_model.specs.declared.station.TheConstants.{MOST_LINE, MOST_OPEN, MOST_SHIFTS}
use Rattle.shop_model.specs.ShopParts.{most_open}
use Rattle.shop_text.specs.declared.shifts.Timetable.{Timetable}
use Rattle.shop_text.specs.declared.stations.Desk.{Desk}
use Rattle.text_fields.specs.declared.directory.Place.{Place}
use Rattle.text_fields.specs.declared.refusal.Cause.TheVariants.{BadValue, Missing}
use Rattle.text_fields.specs.Checks.{Checked, refusal, refusal_where, ◌>>=◌}
use Rattle.text_fields.specs.Fields.{number, number_or, optional_number, text, table_of, array_of, required, optional, only, each_with}
use Rattle.text_fields.specs.Names.{Finder, new_name, nothing, taken_in}
use Rattle.shop_text.specs.LawTexts.{optional_law}

abbrev pub order_named : ℕ → List ℕ → Checked Order
order_named at name =
    if bytes_eq name (codes "first") then Ok First
    else if bytes_eq name (codes "last") then Ok Last
    else if bytes_eq name (codes "priority") then Ok Priority
    else refusal BadValue at

-- who came first where the key is absent
abbrev pub order : ℕ → Option Data → Checked Order
order at None = Ok First
order at (Some d) = text at d >>= order_named at

-- a shift that begins at this tick at the earliest, and when the next one may begin
unfoldable pub shift : ℕ → ℕ → Data → Checked (Shift × ℕ)
shift at earliest d = do
  ms ← table_of at d
  tick ← required at (codes "at") ms >>= number at 0 MOST_VALUE
  servers ← required at (codes "servers") ms >>= number at 0 MOST_OPEN
  known ← only at (codes "at" ∷ codes "servers" ∷ []) ms
  later ← refusal_where (nat_lt tick earliest) BadValue at
  Ok (record { at = tick; servers = servers }, tick + 1)

-- the shifts one after another, and when one more may begin
abbrev pub shifts_from : ℕ → Items → Checked (List Shift × ℕ)
shifts_from at ds = each_with (λ k. shift at) 0 0 ds

-- whether shifts come again before the last of them has begun
abbrev pub comes_early : Option ℕ → ℕ → Bool
comes_early None next = false
comes_early (Some period) next = nat_lt period next

-- the shifts, and after how long they come again
unfoldable pub timetable : ℕ → Members → Checked Timetable
timetable at ms = do
  ds ← array_of at MOST_SHIFTS (optional (array no_items) (codes "shifts") ms)
  shifts ← shifts_from at ds
  period ← optional_number at 1 MOST_VALUE (get_member (codes "period") ms)
  within ← refusal_where (comes_early period shifts.1) BadValue at
  Ok (record { shifts = shifts.0; period = period })

-- both laws, or none
abbrev pub in_turn : ℕ → Option DelayLaw → Option DelayLaw → Checked (Option Breakdowns)
in_turn at (Some up) (Some down) = Ok (Some (record { up = up; down = down }))
in_turn at None None = Ok None
in_turn at None (Some down) = refusal Missing at
in_turn at (Some up) None = refusal Missing at

unfoldable pub breakdowns : ℕ → Members → Checked (Option Breakdowns)
breakdowns at ms = do
  up ← optional_law at (get_member (codes "up") ms)
  down ← optional_law at (get_member (codes "down") ms)
  in_turn at up down

abbrev pub station_keys : List (List ℕ)
station_keys =
    codes "name" ∷ codes "servers" ∷ codes "line" ∷ codes "order" ∷ codes "shifts" ∷ codes "period" ∷ codes "up" ∷ codes "down" ∷ []

-- routes may name a station; items are counted from 1, and stations from 0
abbrev pub station_place : ℕ → Place
station_place at = record { number = at - 1; takes_links = true }

unfoldable pub desk : ℕ → Members → Checked Desk
desk at ms = do
  servers ← number_or at 1 0 MOST_OPEN (get_member (codes "servers") ms)
  line ← number_or at MOST_LINE 0 MOST_LINE (get_member (codes "line") ms)
  order ← order at (get_member (codes "order") ms)
  Ok (record { servers = servers; line = line; order = order })

-- a station of this name; its line has one level until all classes are known
abbrev pub station_with : List ℕ → Desk → Timetable → Option Breakdowns → Station
station_with name desk timetable breakdowns = record {
  name = name;
  servers = desk.servers;
  most = most_open desk.servers timetable.shifts;
  line = desk.line;
  order = desk.order;
  levels = 1;
  shifts = timetable.shifts;
  period = timetable.period;
  breakdowns = breakdowns;
}

unfoldable pub station_named : ℕ → List ℕ → Members → Checked Station
station_named at name ms = do
  desk ← desk at ms
  timetable ← timetable at ms
  breakdowns ← breakdowns at ms
  known ← only at station_keys ms
  Ok (station_with name desk timetable breakdowns)

-- a station, where the names before it are found so, and how names are found after it
unfoldable pub station : ℕ → Finder → Data → Checked (Station × Finder)
station at find d = do
  ms ← table_of at d
  name ← required at (codes "name") ms >>= new_name find at
  station ← station_named at name ms
  Ok (station, taken_in find name (station_place at))

-- the stations one after another, the first with item 1
abbrev pub stations : Items → Checked (List Station × Finder)
stations ds = each_with station 1 nothing ds
