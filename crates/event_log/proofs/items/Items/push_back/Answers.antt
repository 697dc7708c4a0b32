-- It lies in a slot that was free.
use Rattle.std.proofs.Common.{[], ◌∷◌, ◌++◌, sym, ap, ◌∙◌, subst, arith, vec_capacity}
use Rattle.std.proofs.lemmas.List.{map-append}
use Rattle.event_log.specs.Items.{Item, ItemsView}
use Rattle.event_log.specs.Slots.{AreInSlots, IsLaid, item_in, items_in}
use Rattle.event_log.proofs.SlotLemmas.{room-more, turned-slots}
use Rattle.event_log.proofs.items.Items.push_back.Goals as goal
use Rattle.event_log.proofs.items.Items.push_back.Goals.{After-lay_in-entry}

-- it lies there
abbrev Laid : After-lay_in-entry → Type 0
Laid c =
    let now = c.lay_in-entry in
    let item : Item = record { done = c.args.done; place = c.args.place; held = c.args.held } in
    IsLaid c.self.inside.slots.items now.new.slots.items now.new.free.items c.self.inside.entries.items now.result item (vec_capacity c.self.inside.free)

laid : (c : After-lay_in-entry) → Laid c
laid c =
    let more = room-more _ _ _ _ _ c.args.self.now c.self.view_is c.requires in
    c.lay_in-entry.ensures.laid c.self.inside.entries.items _ c.self.invariant.0 c.self.invariant.1 more

pub invariant_of-self : goal.invariant_of-self
invariant_of-self c =
    let l = laid (goal.at.invariant_of-self c).After-lay_in-entry in
    let fits = l.fits in
    (subst (AreInSlots _ _) (sym c.push_back_reserved.ensures.items) (turned-slots _ _ (c.lay_in-entry.result ∷ []) c.self.inside.entries.items l.slots_are), omega (arith, c.lay_in-entry.ensures.free_room))

pub returns-clause-items : goal.returns-clause-items
returns-clause-items c =
    let l = laid (goal.at.returns-clause-items c).After-lay_in-entry in
    let now = c.lay_in-entry.new.slots.items in
    let item : Item = record { done = c.args.done; place = c.args.place; held = c.args.held } in
    ap (items_in now) c.push_back_reserved.ensures.items
    ∙ map-append (item_in now) c.self.inside.entries.items (c.lay_in-entry.result ∷ [])
    ∙ (λ i. l.stay i ++ l.own i ∷ [])
    ∙ ap (λ (v : ItemsView). v.items ++ item ∷ []) c.self.view_is
