-- What the advance of several nodes needs, and what it leaves.
use Rattle.std.specs.Prelude.{◌≡◌, ℕ, All, List}
use Rattle.model_core.specs.Meaning.{Meaning}
use Rattle.horizon_word.specs.Views.{WordId, SeatView, IsSeatOf}
use Rattle.node_core.specs.Nodes.{NodeView}
use Rattle.cycle_core.specs.Places.{AtEach, EachPair}
use Rattle.cycle_core.specs.Works.{WorksOn}
use Rattle.node_team.specs.Advances.{CanAdvance, IsDeep}

module _ {M : Type 0} (meaning_of : M → Meaning) (word : WordId) where
  -- a node can advance with a seat of the word
  pub record CanGo (n : NodeView M) (seat : SeatView) : Type 0 where
    pub seat_of : IsSeatOf word seat
    pub can : CanAdvance (meaning_of n.model) n seat

  -- each node can advance with a seat like these, which are alike
  pub record CanAllRun (nodes : List (NodeView M)) (seats : List SeatView) : Type 0 where
    pub seat : SeatView
    pub alike : All (λ each. each ≡ seat) seats
    pub can : AtEach (λ number n. CanGo n seat) nodes

module _ {M : Type 0} where
  -- a node has worked on, and so deep
  pub record HasRun (m : Meaning) (ahead : ℕ) (old new : NodeView M) : Type 0 where
    pub works : WorksOn m old new
    pub deep : IsDeep m ahead old new

  abbrev pub AllHaveRun : (M → Meaning) → ℕ → List (NodeView M) → List (NodeView M) → Type 0
  AllHaveRun meaning_of ahead = EachPair (λ old new. HasRun (meaning_of old.model) ahead old new)
