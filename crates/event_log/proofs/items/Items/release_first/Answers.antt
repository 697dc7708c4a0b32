-- Its slot is free.
use Rattle.std.proofs.Common.{sym, ap, ◌∙◌, arith}
use Rattle.std.proofs.lemmas.List.{length-set}
use Rattle.object_log.specs.Dones.{Done}
use Rattle.event_log.specs.Slots.{item_in}
use Rattle.event_log.proofs.SlotLemmas.{StandsIn, has-left, in-slot, seen-there, stands-in}
use Rattle.event_log.proofs.items.Items.release_first.Goals as goal
use Rattle.event_log.proofs.items.Items.release_first.Goals.{In-Some}

-- its event lies in a slot
abbrev Stands : In-Some → Type 0
Stands c = StandsIn c.self.inside.slots.items c.self.inside.free.items c.self.inside.entries.items c.args.self.now.items 0 c.in-Some.entry

stands : (c : In-Some) → Stands c
stands c = stands-in _ _ _ _ 0 c.in-Some.entry c.args.self.now c.self.view_is c.self.invariant.0 c.requires c.in-Some.ensures.value

-- and it leaves that
pub invariant_of-self : goal.invariant_of-self
invariant_of-self c =
    let left = has-left (stands (goal.at.invariant_of-self c).In-Some) _ _ c.release-released.new.self c.in-Some.ensures.items c.push_reserved.ensures.items in
    let long = length-set c.self.inside.slots.items c.in-Some.entry.slot c.release-released.new.self in
    (left.0, omega (arith, c.self.invariant.1, c.push_reserved.ensures.capacity))

pub returns-clause-items : goal.returns-clause-items
returns-clause-items c =
    (has-left (stands (goal.at.returns-clause-items c).In-Some) _ _ c.release-released.new.self c.in-Some.ensures.items c.push_reserved.ensures.items).1

pub returns-clause-released : goal.returns-clause-released
returns-clause-released c =
    let s = stands (goal.at.returns-clause-released c).In-Some in
    let here = sym (in-slot s c.index_mut.result.now c.index_mut.ensures.value).1 in
    let own = c.release-released.ensures in (
      item_in c.self.inside.slots.items c.in-Some.entry,
      seen-there s,
      record {
        event_is = own.event ∙ ap (λ (d : Done). d.event) here;
        sends_are = own.sends ∙ ap (λ (d : Done). d.sends) here;
        verdict_is = own.verdict ∙ ap (λ (d : Done). d.verdict) here;
      },
    )
