use Rattle.std.proofs.Common.{◌≡◌, ℕ, List, length, map, sym, ap, subst, ◌∙◌, arith}
use Rattle.std.specs.Prelude.{All, Some, Vec, slice_get, IsPermutation}
use Rattle.std.specs.declared.alloc.Global.{Global}
use Rattle.std.specs.List.{range_with_len}
use Rattle.std.proofs.lemmas.List.{with_items_is}
use Rattle.std.proofs.lemmas.List.Elements.{length_all_zip}
use Rattle.std.proofs.lemmas.List.Sorted.{IsPermutation-trans, length_permutation}
use Rattle.std.proofs.lemmas.Option.{slice_get_within, get_or_from_slice_get}
use Rattle.model_core.specs.declared.event.Event.{Event}
use Rattle.release_lanes.specs.Lanes.{AllReceived}
use Rattle.release_lanes.proofs.Numbers.{numbered_length, mapped_alike}
use Rattle.parcel_exchange.specs.declared.inbox.Inbox.{Inbox}
use Rattle.parcel_exchange.specs.Inboxes.{coming}
use Rattle.parcel_exchange.specs.Team.{handed_to}
use Rattle.parcel_exchange.proofs.Arrivals.{all_come, found_at}
use Rattle.base_tests.proofs.tests.exchanges.cycle.Given.{Over}
use Rattle.base_tests.proofs.tests.exchanges.cycle.Goals as goal
use Rattle.base_tests.proofs.tests.exchanges.cycle.Goals.{After-give_back}

pub post_each-requires-clause-ends : goal.post_each-requires-clause-ends
post_each-requires-clause-ends g c κs within =
    ap length c.as_mut_slice.ensures.value ∙ numbered_length g.L.End.NodeEnd.number c.in_ok-ends.ends.items (g.L.Lanes.nodes c.args.lanes.now) c.in_ok-ends.ensures.numbers ∙ c.requires.nodes

-- what was handed out to a node comes to it
comes : (g : Over) (c : After-give_back g) (to : ℕ) (inbox : Inbox) → slice_get c.post_each.new.inboxes to ≡ Some inbox
    → IsPermutation (handed_to (λ (out : Vec (List Event) Global). out.items) to c.args.outs.now) (coming (length c.post_each.new.inboxes) (λ from. g.L.Lanes.rest c.give_back.new.self from to) inbox)
comes g c to inbox at =
    let E = g.L.End.NodeEnd in
    let met = g.met.L.End.NodeEnd g.world.𝓛 g.world.𝓜 g.world.𝓡 ((λ s x. x), (λ x. x), (λ x. x), λ x. x) in
    let old = c.as_mut_slice.result.now in
    let new = c.post_each.new.ends in
    let inboxes = c.post_each.new.inboxes in
    let lanes = c.give_back.new.self in
    let ready = c.in_ok-ends.ensures in
    let slice = c.as_mut_slice.ensures.value in
    let alike = length_all_zip E.is_same old new c.post_each.ensures.same in
    let kept = c.post_each.auto.inboxes in
    let n_old : g.L.Lanes.nodes c.args.lanes.now ≡ length inboxes = c.requires.nodes ∙ sym kept in
    let numbers_old = ap (map E.number) slice ∙ ready.numbers ∙ ap (range_with_len 0) n_old in
    let numbers = mapped_alike E.is_same E.number met.same_number old new c.post_each.ensures.same ∙ numbers_old in
    let whole = with_items_is c.in_ok-ends.ends new (let ok = c.in_ok-ends.ends.ok.0 in let had = ap length slice in omega arith) in
    let nodes : g.L.Lanes.nodes lanes ≡ length inboxes = c.give_back.ensures.nodes ∙ ready.nodes ∙ n_old in
    let G : List g.row.L-End.Denot → Type 0 = λ ends. All (λ end. (to : ℕ) → g.L.Lanes.sent lanes (E.number end) to ≡ E.sent end to) ends in
    let R : List g.row.L-End.Denot → Type 0 = λ ends. All (λ end. (from : ℕ) → g.L.Lanes.received lanes from (E.number end) ≡ E.received end from) ends in
    let A : List g.row.L-End.Denot → Type 0 = λ ends. AllReceived E.sent E.received ends in
    all_come E.number E.sent E.received (λ (out : Vec (List Event) Global). out.items) c.args.outs.now inboxes old new (g.L.Lanes.sent lanes) (g.L.Lanes.received lanes) (g.L.Lanes.rest lanes)
    (numbered_length E.number old (length inboxes) numbers_old) numbers (subst A (sym slice) ready.received) c.post_each.ensures.exchanged
    (subst G whole c.give_back.ensures.sent) (subst R whole c.give_back.ensures.received)
    (λ i j first second. g.met.L.Lanes.lane lanes c.give_back.ensures.back i j (omega arith) (omega arith))
    to inbox at
    (ap (λ (x : Inbox). x.arrived) (sym (get_or_from_slice_get inboxes to inbox inbox at)) ∙ c.post_each.ensures.arrived to inbox (slice_get_within inboxes to inbox at))

pub receive_all-requires-clause-few : goal.receive_all-requires-clause-few
receive_all-requires-clause-few g c κs within = λ to inbox at.
    let inboxes = c.post_each.new.inboxes in
    let kept = c.post_each.auto.inboxes in
    let count = length_permutation _ _ (comes g (goal.at.receive_all-requires-clause-few g c).After-give_back to inbox at) in
    let inside = slice_get_within inboxes to inbox at in
    let few = c.requires.few to (omega arith) in
    omega arith

pub returns-clause-arrived : goal.returns-clause-arrived
returns-clause-arrived g c = λ to inbox at.
    let inboxes = c.post_each.new.inboxes in
    let kept = c.post_each.auto.inboxes in
    let inside = slice_get_within c.receive_all.new.inboxes to inbox at in
    let long = c.receive_all.auto.inboxes in
    let was = found_at inboxes to (omega arith) in
    IsPermutation-trans _ _ _ (comes g (goal.at.returns-clause-arrived g c).After-give_back to was.0 was.1) (c.receive_all.ensures.arrived to was.0 inbox was.1 at).all
