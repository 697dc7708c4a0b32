-- Its slot is free, and its object has taken it back.
use Rattle.std.proofs.Common.{sym, ap, ◌∙◌, subst, arith}
use Rattle.std.proofs.lemmas.List.{length-set}
use Rattle.object_log.specs.Dones.{Done}
use Rattle.object_log.specs.Objects.{HasUndone, IsNewest}
use Rattle.event_log.specs.Slots.{item_in}
use Rattle.event_log.proofs.SlotLemmas.{StandsIn, has-left, in-slot, seen-there, stands-in}
use Rattle.event_log.proofs.items.Items.undo.Goals as goal
use Rattle.event_log.proofs.items.Items.undo.Goals.{In-Some}

-- its event lies in a slot
abbrev Stands : In-Some → Type 0
Stands c = StandsIn c.self.inside.slots.items c.self.inside.free.items c.self.inside.entries.items c.args.self.now.items c.args.index c.in-Some.entry

stands : (c : In-Some) → Stands c
stands c = stands-in _ _ _ _ c.args.index c.in-Some.entry c.args.self.now c.self.view_is c.self.invariant.0 c.requires.index c.in-Some.ensures.value

-- and it leaves that
pub invariant_of-self : goal.invariant_of-self
invariant_of-self c =
    let left = has-left (stands (goal.at.invariant_of-self c).In-Some) _ _ c.undo-cell.new.self c.in-Some.ensures.items c.push_reserved.ensures.items in
    let long = length-set c.self.inside.slots.items c.in-Some.entry.slot c.undo-cell.new.self in
    (left.0, omega (arith, c.self.invariant.1, c.push_reserved.ensures.capacity))

pub returns-clause-items : goal.returns-clause-items
returns-clause-items c =
    (has-left (stands (goal.at.returns-clause-items c).In-Some) _ _ c.undo-cell.new.self c.in-Some.ensures.items c.push_reserved.ensures.items).1

pub undo-cell-requires-clause-newest : goal.undo-cell-requires-clause-newest
undo-cell-requires-clause-newest c =
    let s = stands (goal.at.undo-cell-requires-clause-newest c).In-Some in
    let own = (in-slot s c.index_mut-contents.result.now c.index_mut-contents.ensures.value).1 in
    subst (IsNewest c.args.object.now) own (c.requires.newest (item_in c.self.inside.slots.items c.in-Some.entry) (seen-there s))

pub returns-clause-undone : goal.returns-clause-undone
returns-clause-undone c =
    let s = stands (goal.at.returns-clause-undone c).In-Some in
    let own = sym (in-slot s c.index_mut-contents.result.now c.index_mut-contents.ensures.value).1 in
    let H : Done → Type 0 = λ d. HasUndone c.args.object.now c.undo-cell.new.object d in
    let undo = c.undo-cell.ensures in (
      item_in c.self.inside.slots.items c.in-Some.entry,
      seen-there s,
      record { undone = subst H own undo.undone; event_is = undo.event ∙ ap (λ (d : Done). d.event) own },
    )
