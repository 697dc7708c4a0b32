-- Both parts are counted.
use Rattle.std.proofs.Common.{length, ap, arith}
use Rattle.event_log.specs.Processing.{ProcessedView}
use Rattle.event_log.proofs.ProcessedFacts.{merged-long}
use Rattle.event_log.proofs.processed.Processed.len.Goals as goal

pub overflow_add-result : goal.overflow_add-result
overflow_add-result c =
    let n = c.self.inside in
    let all = merged-long n.news.done n.places.items n.carried.items c.self.invariant.long in
    let long = ap (λ (v : ProcessedView). length v.items) c.self.view_is in
    omega (arith, c.len.ensures, c.len-2.ensures, c.requires)

pub returns : goal.returns
returns c =
    let n = c.self.inside in
    let all = merged-long n.news.done n.places.items n.carried.items c.self.invariant.long in
    let long = ap (λ (v : ProcessedView). length v.items) c.self.view_is in
    omega (arith, c.len.ensures, c.len-2.ensures)
