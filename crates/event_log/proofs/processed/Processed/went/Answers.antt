-- Neither part has a fault.
use Rattle.std.proofs.Common.{◌≡◌, None, map, ◌∙◌, subst}
use Rattle.object_log.specs.Carrying.{Placed}
use Rattle.object_log.specs.Logs.{fault_of}
use Rattle.event_log.specs.Faults.{lesser_fault}
use Rattle.event_log.specs.Processing.{ProcessedView}
use Rattle.event_log.proofs.FaultFacts.{merged-fault}
use Rattle.event_log.proofs.processed.Processed.went.Goals as goal

pub returns-then-went : goal.returns-then-went
returns-then-went c = λ yes.
    let n = c.self.inside in
    let F : ProcessedView → Type 0 = λ v. fault_of (map (λ (p : Placed). p.done) v.items) ≡ None in
    subst F c.self.view_is
    (merged-fault n.news.done n.places.items n.carried.items c.self.invariant.long c.tells.ensures.last c.self.invariant.ordered
    ∙ (λ i. lesser_fault (c.went.ensures c.if-went.true i) (c.went-then-went.ensures yes i)))
