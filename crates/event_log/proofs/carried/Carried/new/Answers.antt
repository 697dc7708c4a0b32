-- No event is in order.
use Rattle.std.proofs.Common.{List, false, sym, subst}
use Rattle.key_order.specs.Ascending.{Ascends}
use Rattle.event_log.specs.Items.{AreHeld, Item, MayFail, item_key}
use Rattle.event_log.proofs.ItemLemmas.{none-carried}
use Rattle.event_log.proofs.carried.Carried.new.Goals as goal

pub invariant_of-result : goal.invariant_of-result
invariant_of-result c =
    let P : List Item → Type 0 = λ is. Ascends item_key is × AreHeld is × MayFail false is in
    subst P (sym c.new.ensures) none-carried
