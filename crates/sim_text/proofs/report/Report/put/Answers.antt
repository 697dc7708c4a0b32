use Rattle.std.proofs.lemmas.Result.{on_ok_weaker}
use Rattle.sim_text.proofs.ReportLemmas.{known, counts-end}
use Rattle.sim_text.proofs.report.Report.put.Goals as goal

pub returns-in-Counts : goal.returns-in-Counts
returns-in-Counts g c =
    let sums_up = g.L.Tally.sums_up c.args.model.now in
    on_ok_weaker c.put_demo.result
    (λ put telling bs kept all.
    counts-end sums_up telling bs
    (g.L.Tally.lines c.args.model.now c.args.terms.now) c.in-Counts.summary c.args.count c.args.stop.now c.args.into.now.items c.put_demo.new.into.items
    (known sums_up telling bs c.args.self.now _ c.in-Counts.is kept) put)
    c.put_demo.ensures.ok
