-- Each event stays in its slot.
use Rattle.std.proofs.Common.{◌≡◌, ℕ, zero, suc, List, [], ◌∷◌, ◌++◌, map, refl, take, drop, sym, ap, ◌∙◌, subst}
use Rattle.std.proofs.lemmas.List.{drop-map, map-append, take-append-drop}
use Rattle.event_log.specs.Items.{ItemsView}
use Rattle.event_log.specs.Slots.{AreInSlots, item_in, items_in}
use Rattle.event_log.proofs.SlotLemmas.{turned-slots}
use Rattle.event_log.proofs.items.Items.rotate_left.Goals as goal

take-map : {X Y : Type 0} (f : X → Y) (n : ℕ) (xs : List X) → take n (map f xs) ≡ map f (take n xs)
take-map f zero xs = refl
take-map f (suc n) [] = refl
take-map f (suc n) (x ∷ xs) = ap (λ ys. f x ∷ ys) (take-map f n xs)

pub invariant_of-self : goal.invariant_of-self
invariant_of-self c =
    let slots = c.self.inside.slots.items in
    let es = c.self.inside.entries.items in
    let n = c.args.events in
    let free = c.self.inside.free.items in
    (subst (AreInSlots slots free) (sym c.rotate_left.ensures.items) (turned-slots slots free (take n es) (drop n es) (subst (AreInSlots slots free) (sym (take-append-drop n es)) c.self.invariant.0)), c.self.invariant.1)

pub returns-clause-items : goal.returns-clause-items
returns-clause-items c =
    let slots = c.self.inside.slots.items in
    let es = c.self.inside.entries.items in
    let n = c.args.events in
    ap (items_in slots) c.rotate_left.ensures.items ∙ map-append (item_in slots) (drop n es) (take n es)
    ∙ (λ i. sym (drop-map (item_in slots) n es) i ++ sym (take-map (item_in slots) n es) i)
    ∙ ap (λ (v : ItemsView). drop n v.items ++ take n v.items) c.self.view_is
