-- A node under other homes, where it has the same objects.
use Rattle.std.proofs.Common.{ℕ, List, Option, ◌∙◌, arith}
use Rattle.model_core.specs.Meaning.{Meaning}
use Rattle.sim_spec.specs.declared.terms.Terms.{Terms}
use Rattle.object_log.specs.Logs.{LogView}
use Rattle.node_core.specs.Homes.{HomesView}
use Rattle.node_core.specs.Marks.{MarkView}
use Rattle.node_core.specs.Moving.{KeepObjects}
use Rattle.node_core.specs.Nodes.{Counts}
use Rattle.node_core.specs.Sound.{IsNode}

pub node-kept : (m : Meaning) (t : Terms) (number : ℕ) (old new : HomesView) (logs : List (Option LogView)) (marks : List MarkView) (counts : Counts) → IsNode m t number old logs marks counts → KeepObjects number old new → IsNode m t number new logs marks counts
node-kept m t number old new logs marks counts node keep = record {
  exists = omega (arith, node.exists, keep.nodes);
  objects = keep.objects ∙ node.objects;
  here = λ o home. node.here o (home.0, keep.was o home.1);
  only = λ o here. keep.stays o (node.only o here);
  lawful = node.lawful;
  balance = node.balance;
}
