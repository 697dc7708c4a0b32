-- The event stays in its slot.
use Rattle.std.proofs.Common.{set, refl, ap, ◌∙◌}
use Rattle.event_log.specs.declared.entry.Entry.{Entry}
use Rattle.event_log.specs.Items.{ItemsView}
use Rattle.event_log.specs.Slots.{item_in}
use Rattle.event_log.proofs.SlotLemmas.{StandsIn, seen-there, set-items, set-slots, stands-in}
use Rattle.event_log.proofs.items.Items.set.Goals as goal
use Rattle.event_log.proofs.items.Items.set.Goals.{After-index_mut-entry}

-- its event lies in a slot
abbrev Stands : After-index_mut-entry → Type 0
Stands c = StandsIn c.self.inside.slots.items c.self.inside.free.items c.self.inside.entries.items c.args.self.now.items c.args.index c.index_mut-entry.result.now

stands : (c : After-index_mut-entry) → Stands c
stands c = stands-in _ _ _ _ c.args.index c.index_mut-entry.result.now c.args.self.now c.self.view_is c.self.invariant.0 c.requires c.index_mut-entry.ensures.value

-- what becomes of the entry
abbrev becomes : After-index_mut-entry → Entry
becomes c = record c.index_mut-entry.result.now { place = c.args.place; held = c.args.held }

pub invariant_of-self : goal.invariant_of-self
invariant_of-self c =
    let at = (goal.at.invariant_of-self c).After-index_mut-entry in
    let s = stands at in
    let slots = c.self.inside.slots.items in
    let e : Entry = c.index_mut-entry.result.now in
    (set-slots slots e (becomes at) refl refl refl c.self.inside.free.items c.args.index _ s.within s.at c.self.invariant.0, c.self.invariant.1)

pub returns-clause-items : goal.returns-clause-items
returns-clause-items c =
    let at = (goal.at.returns-clause-items c).After-index_mut-entry in
    let slots = c.self.inside.slots.items in
    let e : Entry = c.index_mut-entry.result.now in (
      item_in slots e,
      seen-there (stands at),
      set-items slots e (becomes at) refl refl refl c.args.index c.self.inside.entries.items
          ∙ ap (λ (v : ItemsView). set v.items c.args.index (item_in slots (becomes at))) c.self.view_is,
    )
