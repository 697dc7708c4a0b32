-- Node by node the first of the best is found.
use Rattle.std.proofs.Common.{arith}
use Rattle.object_moves.specs.Loads.{least_of, fewer_of}
use Rattle.object_moves.proofs.LoadLemmas.{first-next, first-start, first-whole}
use Rattle.object_moves.proofs.balance.emptiest.Goals as goal

pub loop-number-init : goal.loop-number-init
loop-number-init g c = first-start least_of c.args.world.now.nodes (λ a. omega arith) c.requires.nodes.some

pub loop-number-preserved : goal.loop-number-preserved
loop-number-preserved g c =
    let many = c.requires.nodes.many in let end = c.nodes-number-end.ensures in
    first-next least_of c.args.world.now.nodes fewer_of (λ a. omega arith) (λ a b d lt le. omega arith) (λ a b d lt le no. omega arith) c.loop-number.number c.loop-number.found c.emptier-found.result c.loop-number.invariant (omega arith) c.emptier-found.ensures

pub returns : goal.returns
returns g c =
    let many = c.requires.nodes.many in let end = c.nodes-number-end.ensures in
    first-whole least_of c.args.world.now.nodes c.loop-number.number c.loop-number.found (omega arith) c.loop-number.invariant
