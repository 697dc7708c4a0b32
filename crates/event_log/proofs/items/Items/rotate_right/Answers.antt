-- Each event stays in its slot.
use Rattle.std.proofs.Common.{◌≡◌, ◌-◌, ◌+◌, List, ◌++◌, length, take, drop, deque_len, sym, ap, ◌∙◌, subst, arith}
use Rattle.std.proofs.lemmas.List.{length-map, map-append, take-append-drop}
use Rattle.event_log.specs.declared.entry.Entry.{Entry}
use Rattle.event_log.specs.Items.{ItemsView}
use Rattle.event_log.specs.Slots.{AreInSlots, item_in, items_in}
use Rattle.event_log.proofs.SlotLemmas.{drop-last, turned-slots}
use Rattle.event_log.proofs.items.Items.rotate_right.Goals as goal

pub invariant_of-self : goal.invariant_of-self
invariant_of-self c =
    let slots = c.self.inside.slots.items in
    let es = c.self.inside.entries.items in
    let n = deque_len c.self.inside.entries - 1 in
    let free = c.self.inside.free.items in
    (subst (AreInSlots slots free) (sym c.rotate_right.ensures.items) (turned-slots slots free (take n es) (drop n es) (subst (AreInSlots slots free) (sym (take-append-drop n es)) c.self.invariant.0)), c.self.invariant.1)

pub returns-clause-items : goal.returns-clause-items
returns-clause-items c =
    let slots = c.self.inside.slots.items in
    let es = c.self.inside.entries.items in
    let n = deque_len c.self.inside.entries - 1 in
    let long : n + 1 ≡ length es = omega (arith, c.requires, ap (λ (v : ItemsView). length v.items) c.self.view_is, length-map es (item_in slots)) in
    let last = drop-last n es long in (
      items_in slots (take n es),
      item_in slots last.0,
      sym (ap (λ (v : ItemsView). v.items) c.self.view_is) ∙ ap (items_in slots) (sym (take-append-drop n es)) ∙ map-append (item_in slots) (take n es) (drop n es) ∙ ap (λ (fs : List Entry). items_in slots (take n es) ++ items_in slots fs) last.1,
      ap (items_in slots) c.rotate_right.ensures.items ∙ map-append (item_in slots) (drop n es) (take n es) ∙ ap (λ (fs : List Entry). items_in slots fs ++ items_in slots (take n es)) last.1,
    )
