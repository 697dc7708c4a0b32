-- All is carried.
use Rattle.std.proofs.Common.{◌+◌, ◌≤◌, List, length, map, sym, ap, ◌∙◌, subst}
use Rattle.key_order.specs.Ascending.{Ascends}
use Rattle.object_log.specs.Carrying.{Placed, placed_key}
use Rattle.object_log.specs.Weave.{weave}
use Rattle.event_log.specs.Items.{placed}
use Rattle.event_log.specs.Moves.{shifted}
use Rattle.event_log.specs.Processing.{ProcessedView}
use Rattle.event_log.proofs.ProcessedFacts.{all-carried, merged-none, other-carried}
use Rattle.event_log.proofs.processed.Processed.absorb.Goals as goal

pub absorb-requires-clause-ordered : goal.absorb-requires-clause-ordered
absorb-requires-clause-ordered c =
    let n = c.self.inside in
    let same = all-carried n.places.items n.news n.carried c.args.self.now c.self.view_is c.requires.news in
    let come = map (shifted 0 c.args.to) (placed c.args.items.items) in
    let A : List Placed → Type 0 = λ items. Ascends placed_key (weave placed_key items come) in
    subst A (sym same) c.requires.ordered

pub absorb-requires-clause-room : goal.absorb-requires-clause-room
absorb-requires-clause-room c =
    let n = c.self.inside in
    let same = all-carried n.places.items n.news n.carried c.args.self.now c.self.view_is c.requires.news in
    let R : List Placed → Type 0 = λ items. length items + length c.args.items.items ≤ c.args.items.capacity in
    subst R (sym same) c.requires.room

pub invariant_of-self : goal.invariant_of-self
invariant_of-self c =
    let n = c.self.inside in
    let none = ap (λ (v : ProcessedView). v.news) c.self.view_is ∙ c.requires.news in
    let same = all-carried n.places.items n.news n.carried c.args.self.now c.self.view_is c.requires.news in
    let come = map (shifted 0 c.args.to) (placed c.args.items.items) in
    let A : List Placed → Type 0 = λ items. Ascends placed_key (weave placed_key items come) in
    other-carried n.places.items n.news n.carried c.absorb.new.self n.idle n.cells n.cells c.self.invariant none
    (subst (Ascends placed_key) (sym c.absorb.ensures) (subst A (sym same) c.requires.ordered))

pub returns-clause-items : goal.returns-clause-items
returns-clause-items c =
    let n = c.self.inside in
    let none = ap (λ (v : ProcessedView). v.news) c.self.view_is ∙ c.requires.news in
    let same = all-carried n.places.items n.news n.carried c.args.self.now c.self.view_is c.requires.news in
    merged-none n.news.done n.places.items c.absorb.new.self.items none
    ∙ c.absorb.ensures
    ∙ ap (λ (items : List Placed). weave placed_key items (map (shifted 0 c.args.to) (placed c.args.items.items))) same
