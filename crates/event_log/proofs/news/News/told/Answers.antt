-- All records are told of events that are gone.
use Rattle.std.proofs.Common.{◌++◌, List, ap, ◌∙◌}
use Rattle.object_log.specs.Dones.{Done}
use Rattle.object_log.specs.Tellings.{told_all}
use Rattle.event_log.proofs.NewsFacts.{gone-seen, seen}
use Rattle.event_log.proofs.news.News.told.Goals as goal

pub returns : goal.returns
unfolding told_all
returns c =
    let n = c.self.inside in
    let h = c.self.invariant in
    let same = seen h.2 c.args.self.now n.outbox.nodes c.self.view_is in
    h.2.told_are
    ∙ ap (λ (ds : List Done). told_all ds ++ h.1) (same ∙ c.requires)
    ∙ gone-seen h.2 c.args.self.now n.outbox.nodes c.self.view_is
