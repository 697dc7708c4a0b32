use Rattle.node_team.specs.Releases.{AreClear}
use Rattle.node_team.proofs.kept.Kept.new.Given as goal

abbrev pub invariant-loop : goal.invariant-loop
invariant-loop g l = AreClear l.counter l.inboxes.items
