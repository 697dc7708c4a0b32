-- Nodes that advance at their seats.
use Rattle.std.specs.Prelude.{◌≡◌, ℕ, All, List, IsOk, OnOk}
use Rattle.std.specs.List.{AllZip}
use Rattle.model_core.specs.Meaning.{Meaning}
use Rattle.horizon_word.specs.Views.{WordId, SeatView, IsSeatOf}
use Rattle.node_core.specs.Nodes.{NodeView}
use Rattle.cycle_core.specs.Works.{WorksOn}
use Rattle.node_team.specs.declared.seating.Seated.{Seated}
use Rattle.node_team.specs.Advances.{IsAdvanced}
use Rattle.node_team.specs.Forks.{CanGo}

module _ {M : Type 0} where
  abbrev pub node_in : Seated M → NodeView M
  node_in seated = seated.node

  -- each has a seat like this
  abbrev pub AreSeatedWith : SeatView → List (Seated M) → Type 0
  AreSeatedWith seat = All (λ seated. seated.seat ≡ seat)

  -- no advance was refused
  abbrev pub AllAnswered : List (Seated M) → Type 0
  AllAnswered = All (λ seated. IsOk seated.answer)

  module _ (meaning_of : M → Meaning) (word : WordId) where
    -- the node has advanced with its seat
    pub record HasGone (ahead : ℕ) (old new : Seated M) : Type 0 where
      pub works : WorksOn (meaning_of old.node.model) old.node new.node
      pub seat_of : IsSeatOf word new.seat
      pub advanced : OnOk new.answer (IsAdvanced (meaning_of old.node.model) ahead old.node old.seat new.node new.seat)

    abbrev pub AllCanGo : List (Seated M) → Type 0
    AllCanGo = All (λ seated. CanGo meaning_of word seated.node seated.seat)

    abbrev pub AllHaveGone : ℕ → List (Seated M) → List (Seated M) → Type 0
    AllHaveGone ahead = AllZip (HasGone ahead)
