-- How many events the queue has.
use Rattle.std.proofs.Common.{length, sym, ap, ◌∙◌}
use Rattle.node_core.specs.Stores.{StoreView}
use Rattle.node_core.proofs.QueueFacts.{length-pending}
use Rattle.node_core.proofs.store.Store.waiting.Goals as goal

pub returns : goal.returns
returns c = c.len.ensures.len ∙ sym (length-pending c.self.inside.queue) ∙ ap (λ (s : StoreView). length s.waiting) c.self.view_is
