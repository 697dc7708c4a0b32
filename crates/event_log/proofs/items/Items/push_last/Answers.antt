-- It lies in a slot that was free.
use Rattle.std.proofs.Common.{◌∷◌, min, set, refl, sym, ap, ◌∙◌, subst, arith, vec_capacity}
use Rattle.event_log.specs.declared.entry.Entry.{Entry}
use Rattle.event_log.specs.Keeping.{done_in}
use Rattle.event_log.specs.Items.{Item, ItemsView, item_before}
use Rattle.event_log.specs.Slots.{AreInSlots, IsLaid, items_in}
use Rattle.event_log.proofs.SlotLemmas.{laid-in, room-more}
use Rattle.event_log.proofs.items.Items.push_last.Goals as goal
use Rattle.event_log.proofs.items.Items.push_last.Goals.{After-min}

-- the entry, the item that is seen, and what lies in the slots
abbrev entry : After-min → Entry
entry c = record {
  key = c.pop.new.slot.event.key;
  place = c.args.place;
  slot = c.open_slot-slot.result;
  least = c.pop.new.slot.least;
  held = c.min.result;
}

abbrev Laid : After-min → Type 0
Laid c =
    let slots = c.self.inside.slots.items in
    let now = set c.open_slot-slot.new.slots.items c.open_slot-slot.result c.pop.new.slot in
    let item : Item = record { done = done_in c.pop.new.slot; place = c.args.place; held = c.min.result } in
    IsLaid slots now c.open_slot-slot.new.free.items c.self.inside.entries.items (entry c) item (vec_capacity c.self.inside.free)

laid : (c : After-min) → Laid c
laid c =
    let more = room-more _ _ _ _ _ c.args.self.now c.self.view_is c.requires.room in
    let lies = laid-in _ _ _ _ (entry c) c.pop.new.slot c.open_slot-slot.ensures.opened c.pop.ensures.kept refl refl in
    lies c.self.inside.entries.items _ c.self.invariant.0 c.self.invariant.1 more

pub invariant_of-self : goal.invariant_of-self
invariant_of-self c =
    let l = laid (goal.at.invariant_of-self c).After-min in
    let fits = l.fits in
    (subst (AreInSlots _ _) (sym c.push_front_reserved.ensures.items) l.slots_are, omega (arith, c.open_slot-slot.ensures.free_room))

pub returns-clause-put : goal.returns-clause-put
returns-clause-put c =
    let l = laid (goal.at.returns-clause-put c).After-min in
    let x = c.pop.new.slot in
    let held = c.min.ensures ∙ (λ i. min (c.pop.ensures.kept.least_is i) c.args.held) in
    let own = l.own ∙ ap (λ h. record { done = done_in x; place = c.args.place; held = h }) held in (
      done_in x,
      c.pop.ensures.popped,
      ap (items_in (set c.open_slot-slot.new.slots.items c.open_slot-slot.result x)) c.push_front_reserved.ensures.items
          ∙ (λ i. own i ∷ l.stay i)
          ∙ ap (λ (v : ItemsView). item_before (done_in x) c.args.place c.args.held ∷ v.items) c.self.view_is,
    )
