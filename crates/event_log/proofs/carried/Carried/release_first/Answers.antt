-- The first event leaves.
use Rattle.std.proofs.Common.{◌≡◌, ◌<◌, Some, length, sym, ap, ◌∙◌, subst, arith}
use Rattle.std.proofs.lemmas.List.{length-map}
use Rattle.std.specs.Prelude.{slice_get}
use Rattle.key_order.specs.Ascending.{Ascends}
use Rattle.object_log.proofs.CarriedLemmas.{ascends-removed, map-removed, read-map}
use Rattle.event_log.specs.Items.{AreHeld, CarriedView, Item, item_key, placed, placed_of}
use Rattle.event_log.proofs.FailFacts.{left-went}
use Rattle.event_log.proofs.ItemLemmas.{held-behind}
use Rattle.event_log.proofs.carried.Carried.release_first.Goals as goal

pub invariant_of-self : goal.invariant_of-self
invariant_of-self c =
    let es = c.self.inside.items.items in
    let gone = c.release_first.ensures.items in (
      subst (Ascends item_key) (sym gone) (ascends-removed item_key es 0 c.self.invariant.0),
      subst AreHeld (sym gone) (held-behind es c.self.invariant.1),
      λ none. left-went (placed es) (placed c.release_first.new.self.items) 0 (ap placed gone ∙ map-removed placed_of es 0) (c.self.invariant.2 none),
    )

pub returns-clause-released : goal.returns-clause-released
returns-clause-released c =
    let r = c.release_first.ensures.released in
    let i : Item = r.0 in
    let es = c.self.inside.items.items in
    let within : 0 < length es = omega (arith, c.requires, ap (λ (v : CarriedView). length v.items) c.self.view_is, length-map es placed_of) in
    let P : CarriedView → Type 0 = λ v. slice_get v.items 0 ≡ Some (placed_of i) in
    (placed_of i, subst P c.self.view_is (read-map placed_of es 0 i within r.1), r.2)
