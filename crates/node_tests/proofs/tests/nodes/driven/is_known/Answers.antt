-- One of the keys is the one, or none is.
use Rattle.std.proofs.Common.{sym, ◌∙◌, arith}
use Rattle.node_tests.proofs.DriveFacts.{known-all, known-found, known-next}
use Rattle.node_tests.proofs.tests.nodes.driven.is_known.Goals as goal

pub returns-then-is_same : goal.returns-then-is_same
returns-then-is_same c = sym (known-found c.args.key.now c.args.keys.now c.loop-known.known-index _ c.loop-known-test.true (sym c.is_same.ensures ∙ c.if-is_same.true))

pub loop-known-preserved : goal.loop-known-preserved
loop-known-preserved c = known-next c.args.key.now c.args.keys.now c.loop-known.known-index _ c.loop-known-test.true (sym c.is_same.ensures ∙ c.if-is_same.false) c.loop-known.invariant

pub returns : goal.returns
returns c = sym (known-all c.args.key.now c.args.keys.now c.loop-known.known-index (omega arith) c.loop-known.invariant)
