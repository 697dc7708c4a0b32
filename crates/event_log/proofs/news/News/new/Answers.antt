-- There is no event.
use Rattle.std.proofs.Common.{None, [], refl, ◌∙◌}
use Rattle.event_log.specs.News.{HoldsNews}
use Rattle.event_log.proofs.NewsFacts.{view-is}
use Rattle.event_log.proofs.JoinFacts.{holds-none}
use Rattle.event_log.proofs.news.News.new.Goals as goal
use Rattle.event_log.proofs.news.News.new.Goals.{After-new-4}

holds : (c : After-new-4) → HoldsNews [] [] c.new-2.result.items c.new.result.items c.new-3.result.items c.new-4.result.sent None
holds c = holds-none _ _ _ _ _ c.new-2.ensures c.new.ensures.items c.new-3.ensures.items c.new-4.ensures.sent refl

pub invariant_of-result : goal.invariant_of-result
invariant_of-result c = ([], [], holds (goal.at.invariant_of-result c).After-new-4)

pub returns : goal.returns
returns c =
    view-is (holds (goal.at.returns c).After-new-4) c.new-4.result.nodes
    ∙ (λ i. record { done = []; sent = c.new-4.ensures.sent i; gone = []; nodes = c.new-4.ensures.nodes i })
