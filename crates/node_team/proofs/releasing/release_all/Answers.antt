use Rattle.std.proofs.Common.{◌≡◌, ℕ, ◌<◌, ◌^◌, List, All, length, sym, ap, subst, ◌∙◌, arith}
use Rattle.std.specs.Prelude.{Some, slice_get}
use Rattle.std.specs.List.{AllZip}
use Rattle.std.specs.Vec.{with_items}
use Rattle.std.proofs.lemmas.List.{with_items_is}
use Rattle.release_lanes.specs.Lanes.{AllReceived}
use Rattle.parcel_exchange.specs.declared.inbox.Inbox.{Inbox}
use Rattle.parcel_exchange.specs.Inboxes.{coming, HasArrived}
use Rattle.node_team.specs.Desks.{desks_of}
use Rattle.node_team.specs.Releases.{HaveCome}
use Rattle.node_team.proofs.DeskLemmas.{can-serve, have-released}
use Rattle.node_team.proofs.EndingLemmas.{can-all, have-come, released-few, released-same}
use Rattle.node_team.proofs.releasing.release_all.Goals as goal

pub release_in_parts-requires-clause-can : goal.release_in_parts-requires-clause-can
release_in_parts-requires-clause-can g c lifetimes outlives =
    let before = desks_of c.args.nodes.now c.as_mut_slice.result.now c.args.committed.now c.as_mut_slice-2.result.now in
    let ends = c.in_ok-ends.ensures in
    let can = can-all g.L.End.NodeEnd g.M.Model.meaning c.args.due.now before (g.L.Lanes.nodes c.args.kept.now.lanes) c.in_ok-ends.ends.items c.args.kept.now.inboxes.items c.as_mut_slice.ensures.value c.as_mut_slice-2.ensures.value c.requires.ready.wide
    c.requires.can c.requires.numbered c.requires.few c.requires.blank c.requires.ready.clear ends.numbers ends.count ends.free in
    can-serve g.L.End.NodeEnd g.M.Model.meaning c.args.due.now before can

pub give_back-requires : goal.give_back-requires
give_back-requires g c =
    let before = desks_of c.args.nodes.now c.as_mut_slice.result.now c.args.committed.now c.as_mut_slice-2.result.now in
    let ends = c.in_ok-ends.ensures in
    let can = can-all g.L.End.NodeEnd g.M.Model.meaning c.args.due.now before (g.L.Lanes.nodes c.args.kept.now.lanes) c.in_ok-ends.ends.items c.args.kept.now.inboxes.items c.as_mut_slice.ensures.value c.as_mut_slice-2.ensures.value c.requires.ready.wide
    c.requires.can c.requires.numbered c.requires.few c.requires.blank c.requires.ready.clear ends.numbers ends.count ends.free in
    let left = c.release_in_parts.new in
    let after = desks_of left.nodes left.ends left.committed left.inboxes in
    let released = have-released g.L.End.NodeEnd g.M.Model.meaning c.args.due.now before after can c.in_ok-release_in_parts.ensures in
    let slice = c.as_mut_slice.ensures.value in
    let over = with_items_is c.in_ok-ends.ends left.ends (c.release_in_parts.auto.ends ∙ ap length slice ∙ sym c.in_ok-ends.ends.ok.0) in
    let same = subst (λ es. AllZip g.L.End.NodeEnd.is_same es left.ends) slice (released-same g.L.End.NodeEnd g.M.Model.meaning c.args.due.now before after can released) in
    subst (g.L.Lanes.are_out c.ready.new.self) (sym over) (g.met.L.Lanes.stay_out c.ready.new.self c.in_ok-ends.ends.items left.ends ends.out same)

pub receive_all-requires-clause-nodes : goal.receive_all-requires-clause-nodes
receive_all-requires-clause-nodes g c κs within =
    let left = c.release_in_parts.new in
    let long = c.release_in_parts.auto.inboxes ∙ ap length c.as_mut_slice-2.ensures.value ∙ sym c.args.kept.now.inboxes.ok.0 in
    let boxes = c.as_mut_slice-3.ensures.value ∙ with_items_is c.args.kept.now.inboxes left.inboxes long in
    let lanes = c.give_back.new.self in
    let nodes = c.give_back.ensures.nodes ∙ c.ready.ensures.nodes ∙ c.requires.ready.wide in
    nodes ∙ sym (ap length boxes ∙ c.release_in_parts.auto.inboxes ∙ ap length c.as_mut_slice-2.ensures.value ∙ c.requires.ready.clear.many)

pub receive_all-requires-clause-small : goal.receive_all-requires-clause-small
receive_all-requires-clause-small g c κs within =
    let left = c.release_in_parts.new in
    let long = c.release_in_parts.auto.inboxes ∙ ap length c.as_mut_slice-2.ensures.value ∙ sym c.args.kept.now.inboxes.ok.0 in
    let boxes = c.as_mut_slice-3.ensures.value ∙ with_items_is c.args.kept.now.inboxes left.inboxes long in
    let lanes = c.give_back.new.self in
    let nodes = c.give_back.ensures.nodes ∙ c.ready.ensures.nodes ∙ c.requires.ready.wide in
    let many = ap length boxes ∙ c.release_in_parts.auto.inboxes ∙ ap length c.as_mut_slice-2.ensures.value ∙ c.requires.ready.clear.many in
    let few = c.requires.few in
    omega arith

pub receive_all-requires-clause-few : goal.receive_all-requires-clause-few
receive_all-requires-clause-few g c κs within =
    let before = desks_of c.args.nodes.now c.as_mut_slice.result.now c.args.committed.now c.as_mut_slice-2.result.now in
    let ends = c.in_ok-ends.ensures in
    let can = can-all g.L.End.NodeEnd g.M.Model.meaning c.args.due.now before (g.L.Lanes.nodes c.args.kept.now.lanes) c.in_ok-ends.ends.items c.args.kept.now.inboxes.items c.as_mut_slice.ensures.value c.as_mut_slice-2.ensures.value c.requires.ready.wide
    c.requires.can c.requires.numbered c.requires.few c.requires.blank c.requires.ready.clear ends.numbers ends.count ends.free in
    let left = c.release_in_parts.new in
    let after = desks_of left.nodes left.ends left.committed left.inboxes in
    let released = have-released g.L.End.NodeEnd g.M.Model.meaning c.args.due.now before after can c.in_ok-release_in_parts.ensures in
    let slice = c.as_mut_slice.ensures.value in
    let over = with_items_is c.in_ok-ends.ends left.ends (c.release_in_parts.auto.ends ∙ ap length slice ∙ sym c.in_ok-ends.ends.ok.0) in
    let long = c.release_in_parts.auto.inboxes ∙ ap length c.as_mut_slice-2.ensures.value ∙ sym c.args.kept.now.inboxes.ok.0 in
    let boxes = c.as_mut_slice-3.ensures.value ∙ with_items_is c.args.kept.now.inboxes left.inboxes long in
    let lanes = c.give_back.new.self in
    let nodes = c.give_back.ensures.nodes ∙ c.ready.ensures.nodes ∙ c.requires.ready.wide in
    let met = g.met.L.End.NodeEnd g.world.𝓛 g.world.𝓜 g.world.𝓡 ((λ s x. x), (λ x. x), (λ x. x), λ x. x) in
    let even = subst (λ l. AllReceived g.L.End.NodeEnd.sent g.L.End.NodeEnd.received l) (sym slice) ends.received in
    let gave_sent = subst (λ l. All (λ end. (to : ℕ) → g.L.Lanes.sent lanes (g.L.End.NodeEnd.number end) to ≡ g.L.End.NodeEnd.sent end to) l) over c.give_back.ensures.sent in
    let gave_received = subst (λ l. All (λ end. (from : ℕ) → g.L.Lanes.received lanes from (g.L.End.NodeEnd.number end) ≡ g.L.End.NodeEnd.received end from) l) over c.give_back.ensures.received in
    let P : List Inbox → Type 0 = λ l. (to : ℕ) (inbox : Inbox) → slice_get l to ≡ Some inbox → length (coming (length l) (λ from. g.L.Lanes.rest lanes from to) inbox) < 2 ^ 60 in
    subst P (sym boxes) (released-few g.L.End.NodeEnd g.M.Model.meaning c.args.due.now before after can released met.same_number even (g.L.Lanes.sent lanes) (g.L.Lanes.received lanes) (g.L.Lanes.rest lanes) gave_sent gave_received
    (λ i j first second. g.met.L.Lanes.lane lanes c.give_back.ensures.back i j (omega arith) (omega arith)))

pub returns-clause-come : goal.returns-clause-come
returns-clause-come g c =
    let before = desks_of c.args.nodes.now c.as_mut_slice.result.now c.args.committed.now c.as_mut_slice-2.result.now in
    let ends = c.in_ok-ends.ensures in
    let can = can-all g.L.End.NodeEnd g.M.Model.meaning c.args.due.now before (g.L.Lanes.nodes c.args.kept.now.lanes) c.in_ok-ends.ends.items c.args.kept.now.inboxes.items c.as_mut_slice.ensures.value c.as_mut_slice-2.ensures.value c.requires.ready.wide
    c.requires.can c.requires.numbered c.requires.few c.requires.blank c.requires.ready.clear ends.numbers ends.count ends.free in
    let left = c.release_in_parts.new in
    let after = desks_of left.nodes left.ends left.committed left.inboxes in
    let released = have-released g.L.End.NodeEnd g.M.Model.meaning c.args.due.now before after can c.in_ok-release_in_parts.ensures in
    let slice = c.as_mut_slice.ensures.value in
    let over = with_items_is c.in_ok-ends.ends left.ends (c.release_in_parts.auto.ends ∙ ap length slice ∙ sym c.in_ok-ends.ends.ok.0) in
    let long = c.release_in_parts.auto.inboxes ∙ ap length c.as_mut_slice-2.ensures.value ∙ sym c.args.kept.now.inboxes.ok.0 in
    let boxes = c.as_mut_slice-3.ensures.value ∙ with_items_is c.args.kept.now.inboxes left.inboxes long in
    let lanes = c.give_back.new.self in
    let nodes = c.give_back.ensures.nodes ∙ c.ready.ensures.nodes ∙ c.requires.ready.wide in
    let met = g.met.L.End.NodeEnd g.world.𝓛 g.world.𝓜 g.world.𝓡 ((λ s x. x), (λ x. x), (λ x. x), λ x. x) in
    let even = subst (λ l. AllReceived g.L.End.NodeEnd.sent g.L.End.NodeEnd.received l) (sym slice) ends.received in
    let gave_sent = subst (λ l. All (λ end. (to : ℕ) → g.L.Lanes.sent lanes (g.L.End.NodeEnd.number end) to ≡ g.L.End.NodeEnd.sent end to) l) over c.give_back.ensures.sent in
    let gave_received = subst (λ l. All (λ end. (from : ℕ) → g.L.Lanes.received lanes from (g.L.End.NodeEnd.number end) ≡ g.L.End.NodeEnd.received end from) l) over c.give_back.ensures.received in
    let later = c.receive_all.new.inboxes in
    let many : length later ≡ length left.inboxes = c.receive_all.auto.inboxes ∙ ap length boxes in
    let A : List Inbox → Type 0 = λ l. (to : ℕ) (x y : Inbox) → slice_get l to ≡ Some x → slice_get later to ≡ Some y → HasArrived (length l) (λ from. g.L.Lanes.rest lanes from to) x y in
    let come = have-come g.L.End.NodeEnd g.M.Model.meaning c.args.due.now before after can released met.same_number even (g.L.Lanes.sent lanes) (g.L.Lanes.received lanes) (g.L.Lanes.rest lanes) gave_sent gave_received
    (λ i j first second. g.met.L.Lanes.lane lanes c.give_back.ensures.back i j (omega arith) (omega arith)) later many (subst A boxes c.receive_all.ensures.arrived) in
    subst (HaveCome g.M.Model.meaning c.args.due.now.bound c.args.due.now.below c.args.nodes.now left.nodes left.committed) (sym (with_items_is (with_items c.args.kept.now.inboxes left.inboxes) later (many ∙ long))) come
