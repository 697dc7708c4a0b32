-- The last row knows it.
use Rattle.std.proofs.Common.{List, ap, ◌∙◌}
use Rattle.event_key.specs.declared.stamp.TheConstants.{NO_STAMP}
use Rattle.key_order.specs.Stamps.{least_stamp}
use Rattle.object_log.specs.Dones.{Done}
use Rattle.object_log.specs.Logs.{held_of}
use Rattle.event_log.specs.News.{least_after}
use Rattle.event_log.proofs.NewsFacts.{seen}
use Rattle.event_log.proofs.JoinFacts.{least-after}
use Rattle.event_log.proofs.news.News.held_least.Goals as goal

pub returns : goal.returns
returns c =
    let n = c.self.inside in
    let h = c.self.invariant in
    let same = seen h.2 c.args.self.now n.outbox.nodes c.self.view_is in
    c.least_in.ensures ∙ ap (least_after NO_STAMP) (c.deref.ensures.value ∙ h.2.rows_are) ∙ least-after NO_STAMP h.0 ∙ ap (λ (ds : List Done). least_stamp NO_STAMP (held_of ds)) same
