use Rattle.std.proofs.Common.{◌≡◌, ◌∷◌, [], ◌+◌, arith, rules, length, slice_index_or}
use Rattle.std.proofs.Math.ListN.{set}
use Rattle.event_bags.proofs.Calls.{there, sees, grown, reused, unused_within, fresh, spare_falls}
use Rattle.event_bags.proofs.ChainLemmas.{shows}
use Rattle.event_bags.proofs.bags.Bags.push.Goals as goal

pub push_reserved-requires : goal.push_reserved-requires
push_reserved-requires g c =
    omega (arith, (fresh c.self.invariant.1 _ _ _ c.self.view_is c.requires.room c.if-at.true (omega (arith, c.self.inside.items.small))).0)

pub push_reserved-requires-then-at : goal.push_reserved-requires-then-at
push_reserved-requires-then-at g c =
    omega (arith, (fresh c.self.invariant.1 _ _ _ c.self.view_is c.requires.room c.if-at.true (omega (arith, c.self.inside.items.small))).1)

pub invariant_of-self : goal.invariant_of-self
invariant_of-self g c =
    (set c.self.invariant.0 c.args.bag (c.args.value ∷ slice_index_or c.self.invariant.0 c.args.bag []), grown c.self.invariant.1 _ _ c.args.bag c.args.value c.index-front.result.now c.len.result c.self.view_is c.requires.bag c.requires.room c.if-at.true (omega (arith, c.self.inside.items.small)) c.index-front.ensures c.push_reserved.ensures.items c.push_reserved-then-at.ensures.items (search rules))

pub returns-then-at-clause-bags : goal.returns-then-at-clause-bags
returns-then-at-clause-bags g c =
    rw (sees c.self.invariant.1 c.self.view_is) (shows (grown c.self.invariant.1 _ _ c.args.bag c.args.value c.index-front.result.now c.len.result c.self.view_is c.requires.bag c.requires.room c.if-at.true (omega (arith, c.self.inside.items.small)) c.index-front.ensures c.push_reserved.ensures.items c.push_reserved-then-at.ensures.items (search rules)))

pub returns-then-at-clause-spare : goal.returns-then-at-clause-spare
returns-then-at-clause-spare g c =
    let held = c.self.invariant.1 in
    let room = fresh c.self.invariant.1 _ _ _ c.self.view_is c.requires.room c.if-at.true (omega (arith, c.self.inside.items.small)) in
    let same = held.same_length in
    let more : length c.push_reserved-then-at.new.self.items ≡ length c.self.inside.links.items + 1 = search rules in
    spare_falls _ c.push_reserved-then-at.new.self.items _ _ _ _ _ _ _ c.self.view_is (omega arith) room.1 room.2 c.push_reserved.ensures.capacity c.push_reserved-then-at.ensures.capacity more

pub index-requires : goal.index-requires
index-requires g c =
    omega (arith, (unused_within c.self.invariant.1 c.if-at.false).1)

pub index_mut-requires-2 : goal.index_mut-requires-2
index_mut-requires-2 g c =
    omega (arith, (unused_within c.self.invariant.1 c.if-at.false).0)

pub index_mut-requires-3 : goal.index_mut-requires-3
index_mut-requires-3 g c =
    omega (arith, (unused_within c.self.invariant.1 c.if-at.false).1)

pub invariant_of-self-2 : goal.invariant_of-self-2
invariant_of-self-2 g c =
    (set c.self.invariant.0 c.args.bag (c.args.value ∷ slice_index_or c.self.invariant.0 c.args.bag []), reused c.self.invariant.1 c.args.bag c.args.value c.index-front.result.now c.index.result.now (there c.self.invariant.1 c.args.bag c.self.view_is c.requires.bag) c.if-at.false c.index-front.ensures c.index.ensures)

pub returns-clause-bags : goal.returns-clause-bags
returns-clause-bags g c =
    rw (sees c.self.invariant.1 c.self.view_is) (shows (reused c.self.invariant.1 c.args.bag c.args.value c.index-front.result.now c.index.result.now (there c.self.invariant.1 c.args.bag c.self.view_is c.requires.bag) c.if-at.false c.index-front.ensures c.index.ensures))
