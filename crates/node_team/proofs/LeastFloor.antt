-- A floor that one node after another may lower.
use Rattle.std.proofs.Common.{◌≡◌, ◌⊎◌, inl, inr, ℕ, List, sym, ◌∙◌, subst}
use Rattle.std.specs.Prelude.{slice_get, Some}
use Rattle.model_core.specs.Meaning.{Meaning}
use Rattle.node_core.specs.Nodes.{NodeView}
use Rattle.node_team.specs.Floors.{IsPastOne, IsPastOneOf}

-- it is the end still, or one more than the stamp of an event
pub past-lower : {M : Type 0} (meaning_of : M → Meaning) (nodes : List (NodeView M)) (end old new place : ℕ) (n : NodeView M) → slice_get nodes place ≡ Some n
    → (old ≡ end) ⊎ IsPastOneOf meaning_of old nodes → (new ≡ old) ⊎ IsPastOne (meaning_of n.model) new n → (new ≡ end) ⊎ IsPastOneOf meaning_of new nodes
past-lower meaning_of nodes end old new place n at before (inr past) = inr (place, n, at, past)
past-lower meaning_of nodes end old new place n at (inl is) (inl same) = inl (same ∙ is)
past-lower meaning_of nodes end old new place n at (inr past) (inl same) = inr (subst (λ floor. IsPastOneOf meaning_of floor nodes) (sym same) past)
