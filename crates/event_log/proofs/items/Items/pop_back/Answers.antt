-- Its slot is free.
use Rattle.std.proofs.Common.{◌≡◌, ℕ, List, [], ◌∷◌, ◌++◌, set, refl, sym, ap, ◌∙◌, subst, arith}
use Rattle.std.proofs.lemmas.List.{append-nil, length-set, map-append}
use Rattle.event_log.specs.declared.entry.Entry.{Entry}
use Rattle.event_log.specs.Items.{Item, ItemsView}
use Rattle.event_log.specs.Keeping.{done_in}
use Rattle.event_log.specs.Slots.{AreInSlots, item_in, items_in}
use Rattle.event_log.proofs.SlotLemmas.{end-slot, left-slots, left-stay}
use Rattle.event_log.proofs.items.Items.pop_back.Goals as goal

pub invariant_of-self-2 : goal.invariant_of-self-2
invariant_of-self-2 c =
    let slots = c.self.inside.slots.items in
    let free = c.self.inside.free.items in
    let xs = c.pop_back.new.self.items in
    let e : Entry = c.in_ok-entry.entry in
    let x = c.replace-contents.new.dest in
    let h = subst (AreInSlots slots free) c.in_ok-entry.ensures.items c.self.invariant.0 in
    let A : List ℕ → Type 0 = λ ss. AreInSlots (set slots e.slot x) ss xs in
    let long = length-set slots e.slot x in
    (subst A (sym c.push_reserved.ensures.items) (subst (AreInSlots (set slots e.slot x) (free ++ e.slot ∷ [])) (append-nil xs) (left-slots slots free xs [] e x h)), omega (arith, c.self.invariant.1, c.push_reserved.ensures.capacity))

pub returns-clause-some : goal.returns-clause-some
returns-clause-some c =
    let slots = c.self.inside.slots.items in
    let free = c.self.inside.free.items in
    let es = c.self.inside.entries.items in
    let xs = c.pop_back.new.self.items in
    let e : Entry = c.in_ok-entry.entry in
    let x = c.replace-contents.new.dest in
    let popped : es ≡ xs ++ e ∷ [] = c.in_ok-entry.ensures.items in
    let h = subst (AreInSlots slots free) popped c.self.invariant.0 in
    let now = set slots e.slot x in
    let stay : items_in now xs ≡ items_in slots xs = ap (items_in now) (sym (append-nil xs)) ∙ left-stay slots free xs [] e x h ∙ ap (items_in slots) (append-nil xs) in
    let at = end-slot slots free xs e c.index_mut.result.now h c.index_mut.ensures.value in (
      item_in slots e,
      sym (ap (λ (v : ItemsView). v.items) c.self.view_is) ∙ ap (items_in slots) popped ∙ map-append (item_in slots) xs (e ∷ []) ∙ ap (λ (is : List Item). is ++ item_in slots e ∷ []) (sym stay),
      c.new-2.ensures ∙ ap done_in c.replace-contents.ensures.value ∙ sym at,
      refl,
    )
