-- The first mark is that of the first event.
use Rattle.std.proofs.Common.{ap, ◌∙◌}
use Rattle.node_core.specs.Marks.{first_mark}
use Rattle.node_core.specs.Stores.{StoreView}
use Rattle.node_core.proofs.MarkLemmas.{first-marked}
use Rattle.node_core.proofs.store.Store.first_processed.Goals as goal

pub returns : goal.returns
returns c = first-marked c.self.inside.logs.log.done c.first.result c.first.ensures.some c.first.ensures.none ∙ ap (λ (s : StoreView). first_mark s.marks) c.self.view_is
