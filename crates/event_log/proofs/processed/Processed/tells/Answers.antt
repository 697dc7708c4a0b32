-- The whole is in order.
use Rattle.std.proofs.Common.{subst}
use Rattle.key_order.specs.Ascending.{Ascends}
use Rattle.object_log.specs.Carrying.{placed_key}
use Rattle.event_log.specs.Processing.{ProcessedView}
use Rattle.event_log.proofs.processed.Processed.tells.Goals as goal

pub returns : goal.returns
returns c =
    let P : ProcessedView → Type 0 = λ v. Ascends placed_key v.items in
    subst P c.self.view_is c.self.invariant.ordered
