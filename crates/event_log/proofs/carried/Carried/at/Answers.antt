-- What stands at the place.
use Rattle.std.proofs.Common.{◌≡◌, Some, length, ap, subst, arith}
use Rattle.std.proofs.lemmas.List.{length-map}
use Rattle.std.specs.Prelude.{slice_get}
use Rattle.event_log.specs.Items.{CarriedView, placed_of}
use Rattle.object_log.proofs.CarriedLemmas.{read-map}
use Rattle.event_log.proofs.carried.Carried.at.Goals as goal

pub returns : goal.returns
returns c =
    let a = c.at-entry.ensures in
    let x = a.0 in
    let es = c.self.inside.items.items in
    let long = ap (λ (v : CarriedView). length v.items) c.self.view_is in
    let same = length-map es placed_of in
    let P : CarriedView → Type 0 = λ v. slice_get v.items c.args.index ≡ Some (placed_of x) in
    (placed_of x, subst P c.self.view_is (read-map placed_of es c.args.index x (omega (arith, c.requires)) a.1), a.2.key_is, a.2.place_is)
