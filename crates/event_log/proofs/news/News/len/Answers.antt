-- There is a row for each event.
use Rattle.std.proofs.Common.{◌∙◌}
use Rattle.event_log.proofs.NewsFacts.{rows-seen}
use Rattle.event_log.proofs.news.News.len.Goals as goal

pub returns : goal.returns
returns c =
    let n = c.self.inside in
    c.len.ensures ∙ n.rows.ok.0 ∙ rows-seen c.self.invariant.2 c.args.self.now n.outbox.nodes c.self.view_is
