-- The event leaves its place.
use Rattle.std.proofs.Common.{◌≡◌, suc, ◌<◌, Some, length, take, drop, length-append, length-take, sym, ap, ◌∙◌, subst, arith}
use Rattle.std.proofs.lemmas.List.{length-map}
use Rattle.std.specs.List.{remove}
use Rattle.std.specs.Prelude.{slice_get}
use Rattle.key_order.specs.Ascending.{Ascends}
use Rattle.object_log.specs.Carrying.{Placed, placed_key}
use Rattle.event_log.specs.Keeping.{IsTakenBack}
use Rattle.event_log.specs.Items.{AreHeldBut, CarriedView, Item, placed, placed_of}
use Rattle.key_order.proofs.AscendingLemmas.{Ascends-map, Ascends-mapped}
use Rattle.object_log.proofs.CarriedLemmas.{ascends-removed, map-removed, read-map}
use Rattle.event_log.proofs.FailFacts.{left-went}
use Rattle.event_log.proofs.ItemLemmas.{but-removed}
use Rattle.event_log.proofs.carried.Carried.undo.Goals as goal
use Rattle.event_log.proofs.carried.Carried.undo.Goals.{After-mend}

pub undo-cell-requires-clause-newest : goal.undo-cell-requires-clause-newest
undo-cell-requires-clause-newest c = λ i is.
    let es = c.self.inside.items.items in
    let within : c.args.index < length es = omega (arith, c.requires.index, ap (λ (v : CarriedView). length v.items) c.self.view_is, length-map es placed_of) in
    let P : CarriedView → Type 0 = λ v. slice_get v.items c.args.index ≡ Some (placed_of i) in
    c.requires.newest (placed_of i) (subst P c.self.view_is (read-map placed_of es c.args.index i within is))

pub mend-requires-clause-inside : goal.mend-requires-clause-inside
mend-requires-clause-inside c =
    let es = c.self.inside.items.items in
    let i = c.args.index in
    let within : i < length es = omega (arith, c.requires.index, ap (λ (v : CarriedView). length v.items) c.self.view_is, length-map es placed_of) in
    let long = ap length c.undo-cell.ensures.items ∙ length-append (take i es) (drop (suc i) es) in
    omega (arith, within, long, length-take i es)

pub mend-requires-clause-but : goal.mend-requires-clause-but
mend-requires-clause-but c = subst (AreHeldBut c.args.index) (sym c.undo-cell.ensures.items) (but-removed c.args.index c.self.inside.items.items c.self.invariant.1)

-- what is left is in order
left : (c : After-mend) → placed c.mend.new.items.items ≡ remove (placed c.self.inside.items.items) c.args.index
left c = c.mend.ensures.same ∙ ap placed c.undo-cell.ensures.items ∙ map-removed placed_of c.self.inside.items.items c.args.index

ordered : (c : After-mend) → Ascends placed_key (placed c.mend.new.items.items)
ordered c =
    let es = c.self.inside.items.items in
    subst (Ascends placed_key) (sym (left c)) (ascends-removed placed_key (placed es) c.args.index (Ascends-map placed_key placed_of es c.self.invariant.0))

pub invariant_of-self : goal.invariant_of-self
invariant_of-self c =
    let at = goal.at.invariant_of-self c in
    (Ascends-mapped placed_key placed_of c.mend.new.items.items (ordered at.After-mend), c.mend.ensures.held, c.has_failed-self-inside.ensures)

pub invariant_of-self-else-failed : goal.invariant_of-self-else-failed
invariant_of-self-else-failed c =
    let at = goal.at.invariant_of-self-else-failed c in
    let es = c.self.inside.items.items in (
      Ascends-mapped placed_key placed_of c.mend.new.items.items (ordered at.After-mend),
      c.mend.ensures.held,
      λ none. left-went (placed es) (placed c.mend.new.items.items) c.args.index (left at.After-mend) (c.self.invariant.2 none),
    )

all-left : (c : After-mend) → placed c.mend.new.items.items ≡ remove c.args.self.now.items c.args.index
all-left c = left c ∙ ap (λ (v : CarriedView). remove v.items c.args.index) c.self.view_is

pub returns-then-failed-clause-left : goal.returns-then-failed-clause-left
returns-then-failed-clause-left c = all-left (goal.at.returns-then-failed-clause-left c).After-mend

pub returns-else-failed-clause-left : goal.returns-else-failed-clause-left
returns-else-failed-clause-left c = all-left (goal.at.returns-else-failed-clause-left c).After-mend

-- the event at the place is undone
abbrev IsUndone : After-mend → Type 0
IsUndone c = (p : Placed) × (slice_get c.args.self.now.items c.args.index ≡ Some p) × IsTakenBack p.done c.args.object.now c.undo-cell.new.object c.undo-cell.result.0

undone : (c : After-mend) → IsUndone c
undone c =
    let u = c.undo-cell.ensures.undone in
    let i : Item = u.0 in
    let es = c.self.inside.items.items in
    let within : c.args.index < length es = omega (arith, c.requires.index, ap (λ (v : CarriedView). length v.items) c.self.view_is, length-map es placed_of) in
    let P : CarriedView → Type 0 = λ v. slice_get v.items c.args.index ≡ Some (placed_of i) in
    (placed_of i, subst P c.self.view_is (read-map placed_of es c.args.index i within u.1), u.2)

pub returns-then-failed-clause-undone : goal.returns-then-failed-clause-undone
returns-then-failed-clause-undone c = undone (goal.at.returns-then-failed-clause-undone c).After-mend

pub returns-else-failed-clause-undone : goal.returns-else-failed-clause-undone
returns-else-failed-clause-undone c = undone (goal.at.returns-else-failed-clause-undone c).After-mend
