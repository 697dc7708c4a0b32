-- What a team keeps from cycle to cycle, before a cycle and after it.
use Rattle.std.specs.Prelude.{◌≡◌, ℕ}
use Rattle.node_team.specs.declared.kept.Kept.{Kept}
use Rattle.node_team.specs.Releases.{AreClear}

module _ {L E : Type 0} (nodes_of : L → ℕ) (are_at_rest : L → Type 0) where
  -- lanes at rest between so many nodes, and an inbox for each with nothing in it
  pub record IsReady (nodes : ℕ) (kept : Kept L E) : Type 0 where
    pub wide : nodes_of kept.lanes ≡ nodes
    pub rest : are_at_rest kept.lanes
    pub clear : AreClear nodes kept.inboxes.items
