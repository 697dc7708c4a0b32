-- Sums over so many parts at most are sums over more at most.
use Rattle.std.proofs.Common.{ℕ, ◌≤◌, List, arith}
use Rattle.std.specs.Prelude.{All}
use Rattle.std.proofs.lemmas.List.Elements.{All-weaker}
use Rattle.shop_totals.specs.declared.class_sums.ClassSums.{ClassSums}
use Rattle.shop_totals.specs.declared.flow.Flow.{Flow}
use Rattle.shop_totals.specs.declared.station_sums.StationSums.{StationSums}
use Rattle.shop_totals.specs.declared.station_totals.StationTotals.{StationTotals}
use Rattle.shop_totals.specs.declared.visit_sums.VisitSums.{VisitSums}
use Rattle.shop_totals.specs.Flows.{IsFlowWithin}
use Rattle.shop_totals.specs.Summed.{SumsUpStation, SumsUpClass}
use Rattle.shop_totals.specs.Sums.{IsWithin, IsVisitWithin, IsClassWithin}
use Rattle.shop_totals.specs.Told.{TimedPart}

flow-within : (parts more : ℕ) (flow : Flow) → parts ≤ more → IsFlowWithin parts flow → IsFlowWithin more flow
flow-within parts more flow le within = record {
  came = omega (arith, within.came);
  begun = omega (arith, within.begun);
  done = omega (arith, within.done);
  lost = omega (arith, within.lost);
  reneged = omega (arith, within.reneged);
}

pub station-within : (parts more : ℕ) (sums : StationSums) → parts ≤ more → IsWithin parts sums → IsWithin more sums
station-within parts more sums le within = record {
  flow = flow-within parts more sums.flow le within.flow;
  busy = omega (arith, within.busy);
  waiting = omega (arith, within.waiting);
  busy_ticks = within.busy_ticks;
  waiting_ticks = within.waiting_ticks;
  open_ticks = within.open_ticks;
  down_ticks = within.down_ticks;
}

pub visit-within : (parts more : ℕ) (sums : VisitSums) → parts ≤ more → IsVisitWithin parts sums → IsVisitWithin more sums
visit-within parts more sums le within = record {
  flow = flow-within parts more sums.flow le within.flow;
  waited = omega (arith, within.waited);
}

pub class-within : (parts more : ℕ) (sums : ClassSums) → parts ≤ more → IsClassWithin parts sums → IsClassWithin more sums
class-within parts more sums le within = record {
  made = omega (arith, within.made);
  left = omega (arith, within.left);
  dropped = omega (arith, within.dropped);
  late = omega (arith, within.late);
  ages = omega (arith, within.ages);
  inside = omega (arith, within.inside);
  inside_ticks = within.inside_ticks;
}

pub visits-within : (parts more : ℕ) (visits : List VisitSums) → parts ≤ more → All (IsVisitWithin parts) visits → All (IsVisitWithin more) visits
visits-within parts more visits le within =
    All-weaker (IsVisitWithin parts) (IsVisitWithin more) (λ sums small. visit-within parts more sums le small) visits within

pub sums_up-within : (first servers : ℕ) (classes : List ℕ) (told : List TimedPart) (parts more : ℕ) (totals : StationTotals) → parts ≤ more
    → SumsUpStation first servers classes told parts totals → SumsUpStation first servers classes told more totals
sums_up-within first servers classes told parts more totals le is = record {
  since = is.since;
  by = is.by;
  sums = is.sums;
  within = station-within parts more totals.sums le is.within;
  visitors = is.visitors;
  rising = is.rising;
  visits = is.visits;
  visits_within = visits-within parts more totals.visits.items le is.visits_within;
}

pub class_sums_up-within : (first : ℕ) (told : List TimedPart) (parts more : ℕ) (sums : ClassSums) → parts ≤ more
    → SumsUpClass first told parts sums → SumsUpClass first told more sums
class_sums_up-within first told parts more sums le is = record {
  since = is.since;
  by = is.by;
  sums = is.sums;
  within = class-within parts more sums le is.within;
}
