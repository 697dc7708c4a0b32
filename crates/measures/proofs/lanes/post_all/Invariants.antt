use Rattle.std.proofs.Common.{◌≡◌, ℕ, ◌≤◌, get_or}
use Rattle.std.specs.List.{AllZip}
use Rattle.measures.proofs.lanes.post_all.Given as goal

abbrev pub invariant-loop-from : goal.invariant-loop-from
invariant-loop-from g l =
    AllZip g.E.NodeEnd.is_same l.initial.ends.items l.ends.items × ((k : ℕ) (d : _) → l.from ≤ k → get_or l.ends.items k d ≡ get_or l.initial.ends.items k d)
