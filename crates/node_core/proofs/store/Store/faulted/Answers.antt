-- The first fault of the marks is that of the events.
use Rattle.std.proofs.Common.{sym, ap, ◌∙◌}
use Rattle.node_core.specs.Marks.{first_fault}
use Rattle.node_core.specs.Stores.{StoreView}
use Rattle.node_core.proofs.MarkLemmas.{fault-code}
use Rattle.node_core.proofs.store.Store.faulted.Goals as goal

pub returns : goal.returns
returns c = c.faulted.ensures ∙ sym (fault-code c.self.inside.logs.log.done) ∙ ap (λ (s : StoreView). first_fault s.marks) c.self.view_is
