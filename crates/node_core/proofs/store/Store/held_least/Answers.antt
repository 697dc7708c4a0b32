-- The least stamp of the marks is that of the messages.
use Rattle.std.proofs.Common.{sym, ap, ◌∙◌, arith}
use Rattle.event_key.specs.declared.stamp.TheConstants.{NO_STAMP}
use Rattle.node_core.specs.Marks.{least_sent}
use Rattle.node_core.specs.Stores.{StoreView}
use Rattle.node_core.proofs.MarkLemmas.{least-marked}
use Rattle.node_core.proofs.store.Store.held_least.Goals as goal

pub returns : goal.returns
returns c = c.held_least.ensures ∙ sym (least-marked NO_STAMP c.self.inside.logs.log.done (omega arith)) ∙ ap (λ (s : StoreView). least_sent NO_STAMP s.marks) c.self.view_is
