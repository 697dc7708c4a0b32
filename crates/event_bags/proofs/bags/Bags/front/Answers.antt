use Rattle.std.proofs.Common.{arith}
use Rattle.event_bags.proofs.Calls.{seen_empty, front_inside, fronts}
use Rattle.event_bags.proofs.bags.Bags.front.Goals as goal

pub returns-then-at-clause-none : goal.returns-then-at-clause-none
returns-then-at-clause-none g c =
    seen_empty c.self.invariant.1 c.args.bag c.index-at.result.now c.self.view_is c.requires c.index-at.ensures c.if-at.true

pub index-requires : goal.index-requires
index-requires g c =
    omega (arith, (front_inside c.self.invariant.1 c.args.bag c.index-at.result.now c.self.view_is c.requires c.index-at.ensures c.if-at.false).0)

pub returns-clause-some : goal.returns-clause-some
returns-clause-some g c =
    fronts c.self.invariant.1 c.args.bag c.index-at.result.now c.index.result.now c.self.view_is c.requires c.if-at.false c.index-at.ensures c.index.ensures
