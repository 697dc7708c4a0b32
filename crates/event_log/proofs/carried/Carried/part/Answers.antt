-- Both lists are parts of what was carried.
use Rattle.std.proofs.Common.{◌≤◌, length, map, not, sym, ap, ◌∙◌, subst}
use Rattle.key_order.specs.Ascending.{Ascends}
use Rattle.key_order.proofs.AscendingLemmas.{Ascends-filter, Ascends-map, Ascends-mapped}
use Rattle.object_log.specs.Carrying.{Placed, placed_key}
use Rattle.object_log.specs.EventLogs.{is_of}
use Rattle.event_log.specs.Items.{CarriedView, placed, placed_of}
use Rattle.event_log.specs.Moves.{other_items, own_items, shifted}
use Rattle.event_log.proofs.carried.Carried.part.Goals as goal

pub part-requires-clause-room : goal.part-requires-clause-room
part-requires-clause-room c =
    let R : CarriedView → Type 0 = λ v. length (own_items c.args.object v.items) ≤ c.args.own.now.capacity in
    subst R (sym c.self.view_is) c.requires.room

pub invariant_of-self : goal.invariant_of-self
invariant_of-self c =
    let es = c.self.inside.items.items in
    let others = other_items c.args.object (placed es) in
    let shift = shifted c.args.from c.args.to in
    let all = c.settle.ensures.items ∙ ap (map shift) c.part.ensures.items in
    let up = Ascends-filter placed_key (λ (p : Placed). not (is_of c.args.object p.done)) (placed es) (Ascends-map placed_key placed_of es c.self.invariant.0) in
    (Ascends-mapped placed_key placed_of c.settle.new.items.items (subst (Ascends placed_key) (sym all) (Ascends-map placed_key shift others up)), c.settle.ensures.held, c.has_failed-self-inside.ensures)

pub returns-clause-items : goal.returns-clause-items
returns-clause-items c =
    c.settle.ensures.items
    ∙ ap (map (shifted c.args.from c.args.to)) (c.part.ensures.items ∙ ap (λ (v : CarriedView). other_items c.args.object v.items) c.self.view_is)

pub returns-clause-own : goal.returns-clause-own
returns-clause-own c = c.part.ensures.own ∙ ap (λ (v : CarriedView). own_items c.args.object v.items) c.self.view_is
