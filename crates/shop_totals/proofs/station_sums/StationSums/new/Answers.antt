use Rattle.shop_totals.specs.Flows.{flow_of}
use Rattle.shop_totals.specs.Sums.{after_busy, after_waiting, after_open, after_down, station_sums_of}
use Rattle.shop_totals.proofs.KeptLemmas.{kept_none}
use Rattle.shop_totals.proofs.station_sums.StationSums.new.Goals as goal

pub returns-clause-sums : goal.returns-clause-sums
unfolding station_sums_of flow_of
returns-clause-sums c =
    let busy = kept_none after_busy 0 c.args.first c.new.result c.new.ensures in
    let waiting = kept_none after_waiting 0 c.args.first c.new-2.result c.new-2.ensures in
    let opened = kept_none after_open c.args.servers c.args.first c.new-3.result c.new-3.ensures in
    let down = kept_none after_down 0 c.args.first c.new-4.result c.new-4.ensures in
    cc (busy, waiting, opened, down, c.none.ensures)
