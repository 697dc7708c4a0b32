-- All is carried.
use Rattle.std.proofs.Common.{◌≡◌, Some, List, length, sym, ap, ◌∙◌, subst, arith}
use Rattle.std.specs.List.{remove}
use Rattle.std.specs.Prelude.{slice_get}
use Rattle.key_order.specs.Ascending.{Ascends}
use Rattle.object_log.specs.Carrying.{Placed, placed_key}
use Rattle.object_log.proofs.CarriedLemmas.{ascends-removed}
use Rattle.event_log.specs.Processing.{ProcessedView}
use Rattle.event_log.proofs.ProcessedFacts.{all-carried, merged-none, other-carried}
use Rattle.event_log.proofs.processed.Processed.undo.Goals as goal

pub undo-requires-clause-index : goal.undo-requires-clause-index
undo-requires-clause-index c =
    let same = ap length (all-carried c.self.inside.places.items c.self.inside.news c.self.inside.carried c.args.self.now c.self.view_is c.requires.news) in
    omega (arith, c.requires.index)

pub undo-requires-clause-newest : goal.undo-requires-clause-newest
undo-requires-clause-newest c = λ p found.
    let same = all-carried c.self.inside.places.items c.self.inside.news c.self.inside.carried c.args.self.now c.self.view_is c.requires.news in
    let P : List Placed → Type 0 = λ items. slice_get items c.args.index ≡ Some p in
    c.requires.newest p (subst P same found)

pub invariant_of-self : goal.invariant_of-self
invariant_of-self c =
    let n = c.self.inside in
    let none = ap (λ (v : ProcessedView). v.news) c.self.view_is ∙ c.requires.news in
    let up = subst (Ascends placed_key) (merged-none n.news.done n.places.items n.carried.items none) c.self.invariant.ordered in
    other-carried n.places.items n.news n.carried c.undo.new.self n.idle n.cells c.undo.new.cells c.self.invariant none (subst (Ascends placed_key) (sym c.undo.ensures.left) (ascends-removed placed_key n.carried.items c.args.index up))

pub returns-clause-left : goal.returns-clause-left
returns-clause-left c =
    let n = c.self.inside in
    let none = ap (λ (v : ProcessedView). v.news) c.self.view_is ∙ c.requires.news in
    let same = all-carried n.places.items n.news n.carried c.args.self.now c.self.view_is c.requires.news in
    merged-none n.news.done n.places.items c.undo.new.self.items none
    ∙ c.undo.ensures.left
    ∙ ap (λ (items : List Placed). remove items c.args.index) same

pub returns-clause-undone : goal.returns-clause-undone
returns-clause-undone c =
    let same = all-carried c.self.inside.places.items c.self.inside.news c.self.inside.carried c.args.self.now c.self.view_is c.requires.news in
    let u = c.undo.ensures.undone in
    let P : List Placed → Type 0 = λ items. slice_get items c.args.index ≡ Some u.0 in
    (u.0, subst P same u.1, u.2)
