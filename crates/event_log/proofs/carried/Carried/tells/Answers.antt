-- The events are in order.
use Rattle.std.proofs.Common.{subst}
use Rattle.key_order.specs.Ascending.{Ascends}
use Rattle.key_order.proofs.AscendingLemmas.{Ascends-map}
use Rattle.object_log.specs.Carrying.{placed_key}
use Rattle.event_log.specs.Items.{CarriedView, placed_of}
use Rattle.event_log.proofs.carried.Carried.tells.Goals as goal

pub returns : goal.returns
returns c =
    let P : CarriedView → Type 0 = λ v. Ascends placed_key v.items in
    subst P c.self.view_is (Ascends-map placed_key placed_of c.self.inside.items.items c.self.invariant.0)
