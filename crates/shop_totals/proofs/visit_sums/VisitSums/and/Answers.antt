use Rattle.std.proofs.Common.{ap, sym, ◌∙◌}
use Rattle.std.proofs.lemmas.List.Sums.{sum_by_push}
use Rattle.shop_totals.specs.declared.flow.Flow.{Flow}
use Rattle.shop_totals.specs.declared.visit_sums.VisitSums.{VisitSums}
use Rattle.shop_totals.specs.Flows.{flow_more}
use Rattle.shop_totals.specs.Sums.{ticks_waited, visit_sums_of}
use Rattle.shop_totals.specs.Told.{TimedPart}
use Rattle.shop_totals.proofs.FlowLemmas.{flow_of-more}
use Rattle.shop_totals.proofs.visit_sums.VisitSums.and.Goals as goal

pub returns-clause-sums : goal.returns-clause-sums
unfolding visit_sums_of
returns-clause-sums c told time is =
    let one : TimedPart = record { time = time; part = c.args.part } in
    let flow =
    c.and.ensures.flow ∙ ap (λ (f : Flow). flow_more f c.args.part.word) (ap (λ (s : VisitSums). s.flow) is) ∙ sym (flow_of-more told one) in
    let waits = sum_by_push (λ (one : TimedPart). ticks_waited one.part) told one in
    let waited = ap (λ (s : VisitSums). s.waited) is in
    cc (flow, waits, waited, c.from.ensures, c.ticks_waited.ensures)
