-- What lies there tells it.
use Rattle.std.proofs.Common.{◌≡◌, map, sym, ap, ◌∙◌, subst}
use Rattle.key_order.specs.Ascending.{Ascends}
use Rattle.object_log.specs.EventLogs.{done_key}
use Rattle.object_log.specs.Keeping.{OnlyLastFailed}
use Rattle.object_log.specs.Logs.{held_of}
use Rattle.event_log.specs.News.{NewsView}
use Rattle.event_log.specs.Outboxes.{message}
use Rattle.event_log.proofs.NewsFacts.{seen}
use Rattle.event_log.proofs.news.News.tells.Goals as goal
use Rattle.event_log.proofs.news.News.tells.Goals.{After-self}

same : (c : After-self) → c.self.invariant.0 ≡ c.args.self.now.done
same c = seen c.self.invariant.2 c.args.self.now c.self.inside.outbox.nodes c.self.view_is

pub returns-clause-ordered : goal.returns-clause-ordered
returns-clause-ordered c = subst (Ascends done_key) (same (goal.at.returns-clause-ordered c).After-self) c.self.invariant.2.ordered

pub returns-clause-last : goal.returns-clause-last
returns-clause-last c = subst OnlyLastFailed (same (goal.at.returns-clause-last c).After-self) c.self.invariant.2.last

pub returns-clause-sent : goal.returns-clause-sent
returns-clause-sent c =
    ap (λ (v : NewsView). map message v.sent) (sym c.self.view_is)
    ∙ c.self.invariant.2.sent_are
    ∙ ap held_of (same (goal.at.returns-clause-sent c).After-self)
