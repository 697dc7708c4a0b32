use Rattle.std.proofs.Common.{◌≡◌, List, [], nat_eq, subst, arith}
use Rattle.std.specs.Prelude.{◌↔◌, IsTrue}
use Rattle.model_core.specs.declared.event.Event.{Event}
use Rattle.tick_queue.specs.Order.{shown}
use Rattle.tick_queue.proofs.NearLemmas.{empty_test, length-shown}
use Rattle.tick_queue.proofs.near.Near.is_empty.Goals as goal

pub returns : goal.returns
returns c =
    let es = shown c.self.inside.events.items c.self.inside.places.items in
    let long = length-shown c.self.inside.events.items c.self.inside.places.items in
    let few = c.self.invariant.few in
    let P : List Event → Type 0 = λ xs. IsTrue (nat_eq c.self.inside.at c.len.result) ↔ (xs ≡ []) in
    subst P c.self.view_is (empty_test es c.self.inside.at c.len.result (omega (arith, long, c.len.ensures)) (omega (arith, long, few)))
