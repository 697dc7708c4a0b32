-- Both parts end before the key.
use Rattle.std.proofs.Common.{◌≡◌, true, subst}
use Rattle.std.specs.List.{AllByRecursion as Each}
use Rattle.event_key.specs.Keys.{key_lt}
use Rattle.object_log.specs.Carrying.{Placed, placed_key}
use Rattle.event_log.specs.Processing.{ProcessedView}
use Rattle.event_log.proofs.EndFacts.{merged-before}
use Rattle.event_log.proofs.processed.Processed.ends_before.Goals as goal

pub returns-then-ends_before : goal.returns-then-ends_before
returns-then-ends_before c = λ yes.
    let n = c.self.inside in
    let V : ProcessedView → Type 0 = λ v. Each (λ (p : Placed). key_lt (placed_key p) c.args.key.now ≡ true) v.items in
    subst V c.self.view_is (merged-before c.args.key.now n.news.done n.places.items n.carried.items (c.ends_before-then-ends_before.ensures yes) (c.ends_before.ensures c.if-ends_before.true))
