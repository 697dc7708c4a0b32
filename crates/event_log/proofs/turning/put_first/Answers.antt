-- It holds the least of what it and those behind it send.
use Rattle.std.proofs.Common.{min, refl, ◌∙◌}
use Rattle.event_log.proofs.turning.put_first.Goals as goal

pub returns-clause-items : goal.returns-clause-items
returns-clause-items c = (_, c.push_front.ensures.items, refl, c.min-held.ensures ∙ (λ i. min (c.least.ensures i) (c.held_in_front.ensures i)))
