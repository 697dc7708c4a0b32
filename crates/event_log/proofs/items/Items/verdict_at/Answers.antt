-- The event lies in its slot.
use Rattle.std.proofs.Common.{length, refl, sym, ap, arith}
use Rattle.std.proofs.lemmas.Option.{slice_get_read, slice_get_within}
use Rattle.event_log.specs.Slots.{done_or, item_in}
use Rattle.event_log.proofs.SlotLemmas.{StandsIn, seen-there, stands-in, there-lies}
use Rattle.event_log.proofs.items.Items.verdict_at.Goals as goal
use Rattle.event_log.proofs.items.Items.verdict_at.Goals.{After-index}

-- its event lies in a slot
abbrev Stands : After-index → Type 0
Stands c = StandsIn c.self.inside.slots.items c.self.inside.free.items c.self.inside.entries.items c.args.self.now.items c.args.index c.index.result.now

stands : (c : After-index) → Stands c
stands c = stands-in _ _ _ _ c.args.index c.index.result.now c.args.self.now c.self.view_is c.self.invariant.0 c.requires c.index.ensures

pub returns : goal.returns
returns c =
    let slots = c.self.inside.slots.items in
    let e = c.index.result.now in
    let s = stands (goal.at.returns c).After-index in
    let l = there-lies s in
    let here = slice_get_within slots e.slot l.contents l.there in (
      item_in slots e,
      seen-there s,
      sym (ap (λ o. (done_or e.key o).verdict) (slice_get_read slots (length slots) e.slot c.index-2.result.now refl here c.index-2.ensures)),
    )

pub index-requires-2 : goal.index-requires-2
index-requires-2 c =
    let l = there-lies (stands (goal.at.index-requires-2 c).After-index) in
    omega (arith, slice_get_within c.self.inside.slots.items c.index.result.now.slot l.contents l.there, c.self.inside.slots.ok.0)
