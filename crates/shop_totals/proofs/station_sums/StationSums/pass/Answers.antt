use Rattle.std.proofs.Common.{ap, arith}
use Rattle.shop_totals.specs.declared.kept.Kept.{Kept}
use Rattle.shop_totals.specs.declared.station_sums.StationSums.{StationSums}
use Rattle.shop_totals.specs.Sums.{after_busy, after_waiting, after_open, after_down, station_sums_of}
use Rattle.shop_totals.proofs.KeptLemmas.{kept_pass, ticks_within}
use Rattle.shop_totals.proofs.station_sums.StationSums.pass.Goals as goal

pub returns-clause-sums : goal.returns-clause-sums
unfolding station_sums_of
returns-clause-sums c servers told are is =
    let sums = c.args.self in
    let ticks = c.ticks_between-ticks.ensures in
    let flow = ap (λ (s : StationSums). s.flow) is in
    let busy =
    kept_pass after_busy 0 sums.first told sums.clock c.args.time c.ticks_between-ticks.result sums.busy c.pass.result are c.requires.time
    (ap (λ (s : StationSums). s.busy) is) ticks c.pass.ensures in
    let waiting =
    kept_pass after_waiting 0 sums.first told sums.clock c.args.time c.ticks_between-ticks.result sums.waiting c.pass-2.result are c.requires.time
    (ap (λ (s : StationSums). s.waiting) is) ticks c.pass-2.ensures in
    let opened =
    kept_pass after_open servers sums.first told sums.clock c.args.time c.ticks_between-ticks.result sums.opened c.pass-3.result are c.requires.time
    (ap (λ (s : StationSums). s.opened) is) ticks c.pass-3.ensures in
    let down =
    kept_pass after_down 0 sums.first told sums.clock c.args.time c.ticks_between-ticks.result sums.down c.pass-4.result are c.requires.time
    (ap (λ (s : StationSums). s.down) is) ticks c.pass-4.ensures in
    cc (flow, busy, waiting, opened, down)

pub returns-clause-within : goal.returns-clause-within
returns-clause-within c parts within =
    let sums = c.args.self in
    let ticks = c.ticks_between-ticks.ensures in
    record {
      flow = within.flow;
      busy = omega (arith, within.busy, ap (λ (k : Kept). k.number) c.pass.ensures);
      waiting = omega (arith, within.waiting, ap (λ (k : Kept). k.number) c.pass-2.ensures);
      busy_ticks = ticks_within sums.first sums.clock c.args.time c.ticks_between-ticks.result sums.busy c.pass.result (omega arith) within.busy_ticks c.requires.time ticks c.pass.ensures;
      waiting_ticks = ticks_within sums.first sums.clock c.args.time c.ticks_between-ticks.result sums.waiting c.pass-2.result (omega arith) within.waiting_ticks c.requires.time ticks c.pass-2.ensures;
      open_ticks = ticks_within sums.first sums.clock c.args.time c.ticks_between-ticks.result sums.opened c.pass-3.result (omega arith) within.open_ticks c.requires.time ticks c.pass-3.ensures;
      down_ticks = ticks_within sums.first sums.clock c.args.time c.ticks_between-ticks.result sums.down c.pass-4.result (omega arith) within.down_ticks c.requires.time ticks c.pass-4.ensures;
    }
