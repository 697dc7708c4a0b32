-- There is nothing.
use Rattle.std.proofs.Common.{ap, ◌∙◌}
use Rattle.event_log.specs.News.{NewsView}
use Rattle.event_log.proofs.ProcessedFacts.{merged-none, none-processed}
use Rattle.event_log.proofs.processed.Processed.new.Goals as goal

pub invariant_of-result : goal.invariant_of-result
invariant_of-result c =
    let v = c.new-2.ensures in
    none-processed c.new-3.result.items c.new-2.result c.new.result c.new-4.result c.new-3.ensures.items (ap (λ (v : NewsView). v.done) v) (ap (λ (v : NewsView). v.gone) v) c.new.ensures

pub returns : goal.returns
returns c =
    let v = c.new-2.ensures in
    let none = ap (λ (v : NewsView). v.done) v in
    λ i. record {
      items = (merged-none c.new-2.result.done c.new-3.result.items c.new.result.items none ∙ c.new.ensures) i;
      news = none i;
      chained = (ap (λ (v : NewsView). v.sent) v) i;
      nodes = (ap (λ (v : NewsView). v.nodes) v) i;
    }
