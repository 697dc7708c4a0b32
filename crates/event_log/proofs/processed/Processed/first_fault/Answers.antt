-- The first fault of both parts.
use Rattle.std.proofs.Common.{map, sym, ap, ◌∙◌}
use Rattle.object_log.specs.Carrying.{Placed}
use Rattle.object_log.specs.Logs.{fault_of}
use Rattle.event_log.specs.Faults.{lesser_fault}
use Rattle.event_log.specs.Processing.{ProcessedView}
use Rattle.event_log.proofs.FaultFacts.{merged-fault}
use Rattle.event_log.proofs.processed.Processed.first_fault.Goals as goal

pub returns : goal.returns
returns c =
    let n = c.self.inside in
    c.lesser_fault.ensures
    ∙ (λ i. lesser_fault (c.faulted.ensures i) (c.faulted-2.ensures i))
    ∙ sym (merged-fault n.news.done n.places.items n.carried.items c.self.invariant.long c.tells.ensures.last c.self.invariant.ordered)
    ∙ ap (λ (v : ProcessedView). fault_of (map (λ (p : Placed). p.done) v.items)) c.self.view_is
