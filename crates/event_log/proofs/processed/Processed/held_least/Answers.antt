-- The lesser of what both parts send.
use Rattle.std.proofs.Common.{min, map, sym, ap, ◌∙◌}
use Rattle.event_key.specs.declared.stamp.TheConstants.{NO_STAMP}
use Rattle.key_order.specs.Stamps.{least_stamp}
use Rattle.object_log.specs.Carrying.{Placed}
use Rattle.object_log.specs.Logs.{held_of}
use Rattle.event_log.specs.Processing.{ProcessedView}
use Rattle.event_log.proofs.ProcessedFacts.{merged-held}
use Rattle.event_log.proofs.processed.Processed.held_least.Goals as goal

pub returns : goal.returns
returns c =
    let n = c.self.inside in
    c.min.ensures
    ∙ (λ i. min (c.held_least.ensures i) (c.held_least-2.ensures i))
    ∙ sym (merged-held n.news.done n.places.items n.carried.items c.self.invariant.long)
    ∙ ap (λ (v : ProcessedView). least_stamp NO_STAMP (held_of (map (λ (p : Placed). p.done) v.items))) c.self.view_is
