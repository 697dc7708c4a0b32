-- The rows of a table of a shop: a column for each number of the lines of totals, empty where a line has no such number.
use Rattle.std.specs.Prelude.{ℕ, ◌-◌, List, ◌++◌, codes}
use Rattle.replications.specs.declared.rows.RunEnd.{RunEnd}
use Rattle.replications.specs.Ends.{RowsOf}
use Rattle.replications.specs.Rows.{field, seed_text, end_text}
use Rattle.shop_model.specs.ShopParts.{ShopParts}
use Rattle.shop_totals.specs.declared.class_sums.ClassSums.{ClassSums}
use Rattle.shop_totals.specs.declared.flow.Flow.{Flow}
use Rattle.shop_totals.specs.declared.line.Line.{Line}
use Rattle.shop_totals.specs.declared.line.Line.TheVariants.{Station, Visit, Class}
use Rattle.shop_totals.specs.declared.station_sums.StationSums.{StationSums}
use Rattle.shop_totals.specs.declared.visit_sums.VisitSums.{VisitSums}
use Rattle.shop_totals.specs.Forms.{Form}
use Rattle.shop_totals.specs.ShopLines.{clock_of, lines_by}

-- the head line
abbrev pub shop_head : List ℕ
shop_head = codes "seed,line,came,begun,done,lost,reneged,busy,waiting,open,down,waited,made,left,dropped,late,ages,inside,ticks,events,stop\n"

unfoldable pub flow_fields : Flow → List ℕ
flow_fields flow = codes "," ++ (field flow.came ++ (field flow.begun ++ (field flow.done ++ (field flow.lost ++ field flow.reneged))))

unfoldable pub station_fields : StationSums → List ℕ
station_fields sums = field sums.busy.ticks ++ (field sums.waiting.ticks ++ (field sums.opened.ticks ++ (field sums.down.ticks ++ codes ",,,,,,,")))

unfoldable pub visit_fields : VisitSums → List ℕ
visit_fields sums = codes ",,,," ++ (field sums.waited ++ codes ",,,,,,")

unfoldable pub count_fields : ClassSums → List ℕ
count_fields sums = codes ",,,,,,,,,,," ++ (field sums.made ++ (field sums.left ++ (field sums.dropped ++ field sums.late)))

unfoldable pub class_fields : ClassSums → List ℕ
class_fields sums = count_fields sums ++ (field sums.ages ++ field sums.inside.ticks)

abbrev pub line_fields : Line → List ℕ
line_fields (Station sums) = flow_fields sums.flow ++ station_fields sums
line_fields (Visit sums) = flow_fields sums.flow ++ visit_fields sums
line_fields (Class sums) = class_fields sums

-- rows begin with the seed, and end with how many ticks count and how the run ended
abbrev pub row_form : ℕ → RunEnd → Form
row_form ticks end = record { before = seed_text end.seed; line = λ line. line_fields line ++ end_text ticks end }

-- the rows of a shop whose totals count from a tick on, wherever the words would have a window begin
abbrev pub shop_rows : ShopParts → ℕ → RowsOf
shop_rows p from first_tick t end records =
    lines_by (row_form (clock_of t records end.stop - from) end) p from (clock_of t records end.stop) records
