-- All is carried.
use Rattle.std.proofs.Common.{◌≤◌, List, length, map, not, sym, ap, ◌∙◌, subst}
use Rattle.key_order.specs.Ascending.{Ascends}
use Rattle.key_order.proofs.AscendingLemmas.{Ascends-filter, Ascends-map}
use Rattle.object_log.specs.Carrying.{Placed, placed_key}
use Rattle.object_log.specs.EventLogs.{is_of}
use Rattle.event_log.specs.Moves.{other_items, own_items, shifted}
use Rattle.event_log.specs.Processing.{ProcessedView}
use Rattle.event_log.proofs.ProcessedFacts.{all-carried, merged-none, other-carried}
use Rattle.event_log.proofs.processed.Processed.part.Goals as goal

pub part-requires-clause-room : goal.part-requires-clause-room
part-requires-clause-room c =
    let n = c.self.inside in
    let same = all-carried n.places.items n.news n.carried c.args.self.now c.self.view_is c.requires.news in
    let R : List Placed → Type 0 = λ items. length (own_items c.args.object items) ≤ c.args.own.now.capacity in
    subst R (sym same) c.requires.room

pub invariant_of-self : goal.invariant_of-self
invariant_of-self c =
    let n = c.self.inside in
    let none = ap (λ (v : ProcessedView). v.news) c.self.view_is ∙ c.requires.news in
    let up = subst (Ascends placed_key) (merged-none n.news.done n.places.items n.carried.items none) c.self.invariant.ordered in
    let others = Ascends-filter placed_key (λ (p : Placed). not (is_of c.args.object p.done)) n.carried.items up in
    other-carried n.places.items n.news n.carried c.part.new.self n.idle n.cells n.cells c.self.invariant none
    (subst (Ascends placed_key) (sym c.part.ensures.items) (Ascends-map placed_key (shifted c.args.from c.args.to) (other_items c.args.object n.carried.items) others))

pub returns-clause-items : goal.returns-clause-items
returns-clause-items c =
    let n = c.self.inside in
    let none = ap (λ (v : ProcessedView). v.news) c.self.view_is ∙ c.requires.news in
    let same = all-carried n.places.items n.news n.carried c.args.self.now c.self.view_is c.requires.news in
    merged-none n.news.done n.places.items c.part.new.self.items none
    ∙ c.part.ensures.items
    ∙ ap (λ (items : List Placed). map (shifted c.args.from c.args.to) (other_items c.args.object items)) same

pub returns-clause-own : goal.returns-clause-own
returns-clause-own c =
    let n = c.self.inside in
    c.part.ensures.own ∙ ap (own_items c.args.object) (all-carried n.places.items n.news n.carried c.args.self.now c.self.view_is c.requires.news)
