use Rattle.std.proofs.Common.{arith}
use Rattle.shop_totals.specs.Told.{TimedPart}
use Rattle.shop_totals.proofs.FlowLemmas.{flow_counts, flow_passes}
use Rattle.shop_totals.proofs.station_sums.StationSums.flow_after.Goals as goal

pub returns-then-self-clause-flow : goal.returns-then-self-clause-flow
returns-then-self-clause-flow c told is =
    let one : TimedPart = record { time = c.args.self.now.clock; part = c.args.part } in
    flow_passes c.args.self.now.first told one c.args.self.now.flow (omega arith) is

pub returns-clause-flow : goal.returns-clause-flow
returns-clause-flow c told is =
    let one : TimedPart = record { time = c.args.self.now.clock; part = c.args.part } in
    flow_counts c.args.self.now.first told one c.args.self.now.flow c.and.result (omega arith) is c.and.ensures.flow
