-- It lies in a slot that was free.
use Rattle.std.proofs.Common.{◌∷◌, sym, ap, ◌∙◌, subst, arith, vec_capacity}
use Rattle.std.proofs.lemmas.List.{length-map}
use Rattle.event_log.specs.Items.{Item, ItemsView}
use Rattle.event_log.specs.Slots.{AreInSlots, IsLaid, item_in, items_in}
use Rattle.event_log.proofs.SlotLemmas.{room-more}
use Rattle.event_log.proofs.items.Items.push_front.Goals as goal
use Rattle.event_log.proofs.items.Items.push_front.Goals.{After-lay_in-entry}

-- it lies there
abbrev Laid : After-lay_in-entry → Type 0
Laid c =
    let now = c.lay_in-entry in
    let item : Item = record { done = c.args.done; place = c.args.place; held = c.args.held } in
    IsLaid c.self.inside.slots.items now.new.slots.items now.new.free.items c.self.inside.entries.items now.result item (vec_capacity c.self.inside.free)

laid : (c : After-lay_in-entry) → Laid c
laid c =
    let more = room-more _ _ _ _ _ c.args.self.now c.self.view_is c.requires in
    c.lay_in-entry.ensures.laid c.self.inside.entries.items _ c.self.invariant.0 c.self.invariant.1 more

pub invariant_of-self : goal.invariant_of-self
invariant_of-self c =
    let l = laid (goal.at.invariant_of-self c).After-lay_in-entry in
    let fits = l.fits in
    (subst (AreInSlots _ _) (sym c.push_front_reserved.ensures.items) l.slots_are, omega (arith, c.lay_in-entry.ensures.free_room))

pub returns-clause-items : goal.returns-clause-items
returns-clause-items c =
    let l = laid (goal.at.returns-clause-items c).After-lay_in-entry in
    let item : Item = record { done = c.args.done; place = c.args.place; held = c.args.held } in
    ap (items_in c.lay_in-entry.new.slots.items) c.push_front_reserved.ensures.items
    ∙ (λ i. l.own i ∷ l.stay i)
    ∙ ap (λ (v : ItemsView). item ∷ v.items) c.self.view_is

pub returns-clause-few : goal.returns-clause-few
returns-clause-few c =
    let now = c.push_front_reserved.new.self in
    omega (arith, now.ok.0, now.small, length-map now.items (item_in c.lay_in-entry.new.slots.items))
