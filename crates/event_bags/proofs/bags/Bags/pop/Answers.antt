use Rattle.std.proofs.Common.{refl, arith}
use Rattle.std.proofs.Math.ListN.{set}
use Rattle.event_bags.proofs.Calls.{sees, seen_empty, front_inside, taken, took_front}
use Rattle.event_bags.proofs.bags.Bags.pop.Goals as goal

pub returns-then-at-clause-none : goal.returns-then-at-clause-none
returns-then-at-clause-none g c =
    (seen_empty c.self.invariant.1 c.args.bag c.index-at.result.now c.self.view_is c.requires c.index-at.ensures c.if-at.true, refl)

pub index-value-requires : goal.index-value-requires
index-value-requires g c =
    omega (arith, (front_inside c.self.invariant.1 c.args.bag c.index-at.result.now c.self.view_is c.requires c.index-at.ensures c.if-at.false).0)

pub index-requires : goal.index-requires
index-requires g c =
    omega (arith, (front_inside c.self.invariant.1 c.args.bag c.index-at.result.now c.self.view_is c.requires c.index-at.ensures c.if-at.false).1)

pub index_mut-requires-2 : goal.index_mut-requires-2
index_mut-requires-2 g c =
    omega (arith, (front_inside c.self.invariant.1 c.args.bag c.index-at.result.now c.self.view_is c.requires c.index-at.ensures c.if-at.false).1)

pub invariant_of-self : goal.invariant_of-self
invariant_of-self g c =
    let left = taken c.self.invariant.1 c.args.bag c.index-at.result.now c.index.result.now c.index-value.result.now c.self.view_is c.requires c.if-at.false c.index-at.ensures c.index.ensures c.index-value.ensures in
    (set c.self.invariant.0 c.args.bag left.rest, left.held)

pub returns-clause-some : goal.returns-clause-some
returns-clause-some g c =
    let left = taken c.self.invariant.1 c.args.bag c.index-at.result.now c.index.result.now c.index-value.result.now c.self.view_is c.requires c.if-at.false c.index-at.ensures c.index.ensures c.index-value.ensures in
    took_front left _ (sees c.self.invariant.1 c.self.view_is)
