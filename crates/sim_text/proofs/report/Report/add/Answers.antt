use Rattle.sim_spec.specs.Cycles.{records_of_buckets}
use Rattle.sim_text.proofs.ReportLemmas.{known, sums-go_on, sums-kept, counts-go_on}
use Rattle.sim_text.proofs.report.Report.add.Goals as goal

pub add-requires : goal.add-requires
add-requires g c =
    let sums_up = g.L.Tally.sums_up c.args.model.now in
    let telling = c.requires.0 in
    let bs = c.requires.1 in
    let counted = known sums_up telling bs c.args.self.now _ c.in-Counts.is c.requires.2 in
    counts-go_on sums_up telling bs counted.0 c.in-Counts.summary counted.2 c.requires.3.few

pub returns-in-Sums-clause-kept : goal.returns-in-Sums-clause-kept
returns-in-Sums-clause-kept g c telling bs kept can =
    let sums_up = g.L.Tally.sums_up c.args.model.now in
    let summed = known sums_up telling bs c.args.self.now _ c.in-Sums.is kept in
    let records = c.as_buffer-in-Sums.result.now.items in
    let same = c.as_buffer-in-Sums.ensures in
    let can_come = sums-go_on sums_up telling bs (g.M.Model.meaning c.args.model.now) c.args.bucket.now records same summed.0 can in
    let added = c.add_all.ensures (records_of_buckets bs) summed.1 can_come in
    sums-kept sums_up telling bs c.args.bucket.now records c.add_all.new.tally same summed.0 added
