-- What is printed of sums, after a name.
use Rattle.std.specs.Prelude.{ℕ, List, ◌++◌, codes, decimal}
use Rattle.shop_totals.specs.declared.class_sums.ClassSums.{ClassSums}
use Rattle.shop_totals.specs.declared.flow.Flow.{Flow}
use Rattle.shop_totals.specs.declared.line.Line.{Line}
use Rattle.shop_totals.specs.declared.line.Line.TheVariants.{Station, Visit, Class}
use Rattle.shop_totals.specs.declared.station_sums.StationSums.{StationSums}
use Rattle.shop_totals.specs.declared.visit_sums.VisitSums.{VisitSums}

unfoldable pub flow_text : Flow → List ℕ
flow_text flow =
    codes " came " ++ (decimal flow.came ++ (codes " begun " ++ (decimal flow.begun ++ (codes " done " ++ (decimal flow.done
    ++ (codes " lost " ++ (decimal flow.lost ++ (codes " reneged " ++ decimal flow.reneged))))))))

unfoldable pub station_text : StationSums → List ℕ
station_text sums =
    flow_text sums.flow
    ++ (codes " busy " ++ (decimal sums.busy.ticks ++ (codes " waiting " ++ (decimal sums.waiting.ticks ++ (codes " open " ++ (decimal sums.opened.ticks
    ++ (codes " down " ++ (decimal sums.down.ticks ++ codes "\n"))))))))

unfoldable pub visit_text : VisitSums → List ℕ
visit_text sums = flow_text sums.flow ++ (codes " waited " ++ (decimal sums.waited ++ codes "\n"))

unfoldable pub counts_text : ClassSums → List ℕ
counts_text sums =
    codes " made " ++ (decimal sums.made ++ (codes " left " ++ (decimal sums.left ++ (codes " dropped " ++ (decimal sums.dropped
    ++ (codes " late " ++ decimal sums.late))))))

unfoldable pub class_text : ClassSums → List ℕ
class_text sums = counts_text sums ++ (codes " ages " ++ (decimal sums.ages ++ (codes " inside " ++ (decimal sums.inside.ticks ++ codes "\n"))))

abbrev pub line_text : Line → List ℕ
line_text (Station sums) = station_text sums
line_text (Visit sums) = visit_text sums
line_text (Class sums) = class_text sums
