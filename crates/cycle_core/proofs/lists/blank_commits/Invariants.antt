use Rattle.std.proofs.Common.{◌≡◌, ◌≤◌, length}
use Rattle.std.specs.Prelude.{vec_capacity}
use Rattle.node_core.specs.Blank.{IsBlank}
use Rattle.cycle_core.specs.Places.{AtEach}
use Rattle.cycle_core.proofs.lists.blank_commits.Given as goal

abbrev pub invariant-loop : goal.invariant-loop
invariant-loop l = (length l.all.items ≡ l.counter) × AtEach (λ number c. IsBlank l.nodes c) l.all.items × (l.nodes ≤ vec_capacity l.all)
