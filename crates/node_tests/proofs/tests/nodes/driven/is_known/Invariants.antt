-- None of the keys so far is the one.
use Rattle.std.proofs.Common.{◌≡◌, false, take}
use Rattle.std.specs.List.{list_any}
use Rattle.event_key.specs.Keys.{same_key}
use Rattle.node_tests.proofs.tests.nodes.driven.is_known.Given as goal

abbrev pub invariant-loop-known : goal.invariant-loop-known
invariant-loop-known l = list_any (same_key l.key) (take l.known-index l.keys) ≡ false
