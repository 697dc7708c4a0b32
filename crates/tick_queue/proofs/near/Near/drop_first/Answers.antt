use Rattle.std.proofs.Common.{◌+◌, ◌<◌, List, length, drop, ap, subst, arith}
use Rattle.model_core.specs.declared.event.Event.{Event}
use Rattle.tick_queue.specs.Near.{LosesFirst}
use Rattle.tick_queue.specs.Order.{shown}
use Rattle.tick_queue.proofs.NearLemmas.{has_some, loses, placed_next}
use Rattle.tick_queue.proofs.near.Near.drop_first.Goals as goal

pub invariant_of-self : goal.invariant_of-self
invariant_of-self c =
    let es = shown c.self.inside.events.items c.self.inside.places.items in
    let some : 0 < length (drop c.self.inside.at es) = let same = ap length c.self.view_is in omega (arith, same, c.requires) in
    placed_next c.self.inside.at c.self.inside.stop c.self.inside.events.items c.self.inside.places.items c.self.invariant some

pub returns : goal.returns
returns c =
    let es = shown c.self.inside.events.items c.self.inside.places.items in
    let some : 0 < length (drop c.self.inside.at es) = let same = ap length c.self.view_is in omega (arith, same, c.requires) in
    let P : List Event → Type 0 = λ xs. LosesFirst xs (drop (c.self.inside.at + 1) es) in
    subst P c.self.view_is (loses es c.self.inside.at (has_some es c.self.inside.at some))
