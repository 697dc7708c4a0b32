use Rattle.std.proofs.Common.{ap, arith}
use Rattle.shop_totals.specs.declared.station_sums.StationSums.{StationSums}
use Rattle.shop_totals.specs.Sums.{after_busy, after_waiting, after_open, after_down, station_sums_of}
use Rattle.shop_totals.specs.Told.{TimedPart}
use Rattle.shop_totals.proofs.KeptLemmas.{kept_more}
use Rattle.shop_totals.proofs.station_sums.StationSums.and.Goals as goal

pub returns-clause-sums : goal.returns-clause-sums
unfolding station_sums_of
returns-clause-sums c servers told are is =
    let sums = c.args.self in
    let one : TimedPart = record { time = sums.clock; part = c.args.part } in
    let flow = c.flow_after.ensures.flow told (ap (λ (s : StationSums). s.flow) is) in
    let busy =
    kept_more after_busy 0 sums.first told one sums.busy c.after_busy.result (ap (λ (s : StationSums). s.busy) is) c.after_busy.ensures.number in
    let waiting =
    kept_more after_waiting 0 sums.first told one sums.waiting c.after_waiting.result
    (ap (λ (s : StationSums). s.waiting) is) c.after_waiting.ensures.number in
    let opened =
    kept_more after_open servers sums.first told one sums.opened c.after_open.result (ap (λ (s : StationSums). s.opened) is) c.after_open.ensures in
    let down = kept_more after_down 0 sums.first told one sums.down c.after_down.result (ap (λ (s : StationSums). s.down) is) c.after_down.ensures in
    cc (flow, busy, waiting, opened, down)

pub returns-clause-within : goal.returns-clause-within
returns-clause-within c parts within = record {
  flow = c.flow_after.ensures.within parts within.flow;
  busy = omega (arith, within.busy, c.after_busy.ensures.few);
  waiting = omega (arith, within.waiting, c.after_waiting.ensures.few);
  busy_ticks = within.busy_ticks;
  waiting_ticks = within.waiting_ticks;
  open_ticks = within.open_ticks;
  down_ticks = within.down_ticks;
}
