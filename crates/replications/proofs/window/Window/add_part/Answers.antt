use Rattle.replications.specs.Parts.{TimedPart}
use Rattle.replications.proofs.WindowLemmas.{comes_before, comes_within}
use Rattle.replications.proofs.window.Window.add_part.Goals as goal

pub returns-then-time-first_tick-clause-sums : goal.returns-then-time-first_tick-clause-sums
returns-then-time-first_tick-clause-sums c told summed =
    let one : TimedPart = record { time = c.args.time; part = c.args.part.now } in
    comes_before c.args.first_tick told one c.args.self.now c.pass.new.self c.after-occupancy.result summed c.pass.ensures.passed c.after-occupancy.ensures c.if-time-first_tick.true

pub returns-else-time-first_tick-clause-sums : goal.returns-else-time-first_tick-clause-sums
returns-else-time-first_tick-clause-sums c told summed =
    let one : TimedPart = record { time = c.args.time; part = c.args.part.now } in
    comes_within c.args.first_tick told one c.args.self.now c.pass.new.self c.after-occupancy.result summed c.pass.ensures.passed c.after-occupancy.ensures c.count.new.self c.if-time-first_tick.false c.count.ensures.counted
