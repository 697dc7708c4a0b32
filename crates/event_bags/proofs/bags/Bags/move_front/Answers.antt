use Rattle.std.proofs.Common.{◌∷◌, [], arith}
use Rattle.std.proofs.Math.ListN.{set}
use Rattle.std.specs.Prelude.{slice_index_or}
use Rattle.event_bags.proofs.Calls.{sees, some_front, front_inside, moved, moved_front}
use Rattle.event_bags.proofs.bags.Bags.move_front.Goals as goal

pub index-requires : goal.index-requires
index-requires g c =
    omega (arith, (front_inside c.self.invariant.1 c.args.from c.index-at.result.now c.self.view_is c.requires.from c.index-at.ensures (some_front c.self.invariant.1 c.args.from c.index-at.result.now c.self.view_is c.requires.from c.index-at.ensures c.requires.some)).1)

pub index_mut-requires-2 : goal.index_mut-requires-2
index_mut-requires-2 g c =
    omega (arith, (front_inside c.self.invariant.1 c.args.from c.index-at.result.now c.self.view_is c.requires.from c.index-at.ensures (some_front c.self.invariant.1 c.args.from c.index-at.result.now c.self.view_is c.requires.from c.index-at.ensures c.requires.some)).1)

pub invariant_of-self : goal.invariant_of-self
invariant_of-self g c =
    let left = moved c.self.invariant.1 c.args.from c.args.to c.index-at.result.now c.index.result.now c.index-2.result.now c.self.view_is c.requires.from c.requires.to c.requires.some c.index-at.ensures c.index.ensures c.index-2.ensures in
    (set (set c.self.invariant.0 c.args.from left.rest) c.args.to (left.value ∷ slice_index_or (set c.self.invariant.0 c.args.from left.rest) c.args.to []), left.held)

pub returns-clause-moves : goal.returns-clause-moves
returns-clause-moves g c = λ value front.
    let left = moved c.self.invariant.1 c.args.from c.args.to c.index-at.result.now c.index.result.now c.index-2.result.now c.self.view_is c.requires.from c.requires.to c.requires.some c.index-at.ensures c.index.ensures c.index-2.ensures in
    moved_front left _ value (sees c.self.invariant.1 c.self.view_is) front
