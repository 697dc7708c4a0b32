-- All is carried.
use Rattle.std.proofs.Common.{◌≡◌, Some, List, length, ap, subst, arith}
use Rattle.std.specs.Prelude.{slice_get}
use Rattle.object_log.specs.Carrying.{Placed}
use Rattle.event_log.proofs.ProcessedFacts.{all-carried}
use Rattle.event_log.proofs.processed.Processed.at.Goals as goal

pub at-requires : goal.at-requires
at-requires c =
    let same = ap length (all-carried c.self.inside.places.items c.self.inside.news c.self.inside.carried c.args.self.now c.self.view_is c.requires.news) in
    omega (arith, c.requires.index)

pub returns : goal.returns
returns c =
    let same = all-carried c.self.inside.places.items c.self.inside.news c.self.inside.carried c.args.self.now c.self.view_is c.requires.news in
    let at = c.at.ensures in
    let P : List Placed → Type 0 = λ items. slice_get items c.args.index ≡ Some at.0 in
    (at.0, subst P same at.1, at.2, at.3)
