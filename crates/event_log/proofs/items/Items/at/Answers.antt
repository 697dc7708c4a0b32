-- What the entry tells.
use Rattle.event_log.specs.Slots.{item_in}
use Rattle.event_log.proofs.SlotLemmas.{seen-there, stands-in, tells-of, there-lies}
use Rattle.event_log.proofs.items.Items.at.Goals as goal

pub returns : goal.returns
returns c =
    let slots = c.self.inside.slots.items in
    let e = c.index.result.now in
    let s = stands-in slots _ _ _ c.args.index e c.args.self.now c.self.view_is c.self.invariant.0 c.requires c.index.ensures in
    (item_in slots e, seen-there s, tells-of slots e (there-lies s))
