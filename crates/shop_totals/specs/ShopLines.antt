-- The totals of a shop over the records of a run: which lines there are, and what they say.
use Rattle.std.specs.Prelude.{ℕ, ◌+◌, List, ◌++◌, codes, length}
use Rattle.std.specs.List.{flat_map, range_with_len}
use Rattle.event_key.specs.declared.key.Key.{Key}
use Rattle.event_key.specs.Stamps.{time_part}
use Rattle.model_core.specs.declared.note.Note.{Note}
use Rattle.run_tally.specs.Tallies.{TotalsOf, last_time}
use Rattle.shop_model.specs.Meaning.{name_at}
use Rattle.shop_model.specs.ShopParts.{ShopParts, station_at}
use Rattle.shop_totals.specs.declared.line.Line.TheVariants.{Station, Visit, Class}
use Rattle.shop_totals.specs.Forms.{Form, named, named_line, total_lines}
use Rattle.shop_totals.specs.Records.{told_at, of_class}
use Rattle.shop_totals.specs.Sums.{station_sums_of, visit_sums_of, class_sums_of}
use Rattle.shop_totals.specs.Told.{TimedPart, told_from}
use Rattle.shop_totals.specs.Visits.{classes_at}
use Rattle.sim_spec.specs.declared.stop.Stop.{Stop}
use Rattle.sim_spec.specs.declared.stop.Stop.TheVariants.{End, Limit, Fault}
use Rattle.sim_spec.specs.declared.terms.Terms.{Terms}

-- ticks before the clock count: the end, the time of the last event done at the limit, and else the time of the fault
abbrev pub clock_of : Terms → List (Key × Note) → Stop → ℕ
clock_of t records End = t.end
clock_of t records Limit = last_time 0 records
clock_of t records (Fault key code) = time_part key.stamp

abbrev pub class_name : ShopParts → ℕ → List ℕ
class_name p class = name_at p (length p.stations + class)

-- the line of a class at a station, of which this is told
unfoldable pub visit_line : Form → ShopParts → ℕ → List TimedPart → ℕ → ℕ → List ℕ
visit_line form p first told station class =
    named form p station ++ (codes "/" ++ (class_name p class ++ form.line (Visit (visit_sums_of (told_from first (of_class class told))))))

-- the line of a station, of which this is told, and those of the classes that visit it
unfoldable pub station_lines : Form → ShopParts → ℕ → ℕ → List TimedPart → ℕ → List ℕ
station_lines form p first clock told station =
    named_line form p station (Station (station_sums_of first (station_at p.stations station).servers told clock))
    ++ flat_map (visit_line form p first told station) (classes_at p station)

unfoldable pub class_line : Form → ShopParts → ℕ → ℕ → List TimedPart → ℕ → List ℕ
class_line form p first clock told class = named_line form p (length p.stations + class) (Class (class_sums_of first told clock))

abbrev pub all_station_lines : Form → ShopParts → ℕ → ℕ → List (Key × Note) → List ℕ
all_station_lines form p first clock records =
    flat_map (λ station. station_lines form p first clock (told_at station records) station) (range_with_len 0 (length p.stations))

abbrev pub all_class_lines : Form → ShopParts → ℕ → ℕ → List (Key × Note) → List ℕ
all_class_lines form p first clock records =
    flat_map (λ class. class_line form p first clock (told_at (length p.stations + class) records) class) (range_with_len 0 (length p.classes))

-- each station followed by the classes that visit it, and after all of them each class, with what comes before the clock
unfoldable pub lines_by : Form → ShopParts → ℕ → ℕ → List (Key × Note) → List ℕ
lines_by form p first clock records = all_station_lines form p first clock records ++ all_class_lines form p first clock records

-- the lines of totals
unfoldable pub shop_lines : ShopParts → ℕ → Terms → TotalsOf
shop_lines p first t records stop = lines_by total_lines p first (clock_of t records stop) records
