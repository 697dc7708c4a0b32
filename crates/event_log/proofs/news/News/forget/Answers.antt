-- Nothing is told any more.
use Rattle.std.proofs.Common.{[], sym, ap, ◌∙◌}
use Rattle.event_log.specs.News.{HoldsNews, NewsView}
use Rattle.event_log.proofs.JoinFacts.{forgets}
use Rattle.event_log.proofs.NewsFacts.{seen, view-is}
use Rattle.event_log.proofs.news.News.forget.Goals as goal
use Rattle.event_log.proofs.news.News.forget.Goals.{After-clear}

holds : (c : After-clear) → HoldsNews [] [] c.clear.new.self.items c.self.inside.rows.items c.self.inside.undo.items c.self.inside.outbox.sent c.self.inside.fault
holds c =
    let h = c.self.invariant in
    let same = seen h.2 c.args.self.now c.self.inside.outbox.nodes c.self.view_is in
    forgets h.2 (same ∙ c.requires) c.clear.ensures

pub invariant_of-self : goal.invariant_of-self
invariant_of-self c = ([], [], holds (goal.at.invariant_of-self c).After-clear)

pub returns : goal.returns
returns c =
    view-is (holds (goal.at.returns c).After-clear) c.self.inside.outbox.nodes
    ∙ (λ i. record {
      done = sym c.requires i;
      sent = (ap (λ (v : NewsView). v.sent) c.self.view_is) i;
      gone = [];
      nodes = (ap (λ (v : NewsView). v.nodes) c.self.view_is) i;
    })
