-- What a node does on its own, between what arrives and what is committed.
use Rattle.std.specs.Prelude.{◌≡◌, ◌⊎◌, ℕ, ◌+◌, ◌^◌, ◌<◌, ◌≤◌, List, ◌++◌, length, slice_get, Some}
use Rattle.std.specs.List.{AllByRecursion}
use Rattle.event_key.specs.declared.key.Key.{Key}
use Rattle.event_key.specs.Stamps.{end_stamp}
use Rattle.model_core.specs.Meaning.{Meaning}
use Rattle.sim_spec.specs.declared.terms.Terms.{Terms}
use Rattle.object_log.specs.Dones.{Done}
use Rattle.world_spec.specs.Share.{IsHome}
use Rattle.world_spec.specs.Moves.{Steps, IsIdle}
use Rattle.node_core.specs.Nodes.{NodeView, log_at, base_at, pending_at, home, data_of, IsSameNode}
use Rattle.node_core.specs.Steps.{HoldsMessageAt, IsHeldLeast}
use Rattle.cycle_core.specs.Places.{EachPair, AtEach}

-- a count stands at its last value
abbrev pub IsFull : ℕ → Type 0
IsFull n = 18446744073709551615 ≤ n

module _ {M : Type 0} where
  -- its objects have sent few events, and few are here
  pub record IsSmall (m : Meaning) (n : NodeView M) : Type 0 where
    pub sent : (object : ℕ) → IsHome m (home n) n.number object → (base_at n.logs object).sent < 2 ^ 40
    pub few : length n.processed + length n.waiting < 2 ^ 40

  -- a processed event of the node faulted
  abbrev pub HasFault : Meaning → NodeView M → Type 0
  HasFault m n = (object : ℕ) × IsHome m (home n) n.number object × (fault : Key × ℕ) × (((data_of n).log object).fault ≡ Some fault)

  -- the node has made steps, each below a bound that was read before it: what was processed is, and nothing else changed
  pub record WorksOn (m : Meaning) (old new : NodeView M) : Type 0 where
    pub same : IsSameNode old new
    pub bounds : List ℕ
    pub within : AllByRecursion (λ (bound : ℕ). bound ≤ end_stamp old.terms.end) bounds
    pub steps : Steps m (home old) old.number bounds (data_of old) (data_of new)
    pub begins : (object : ℕ) → (more : List Done) × ((log_at new.logs object).done ≡ (log_at old.logs object).done ++ more)
    pub base : (object : ℕ) → base_at new.logs object ≡ base_at old.logs object
    pub pending : (object : ℕ) → pending_at new.logs new.waiting object ≡ pending_at old.logs old.waiting object
    pub held_on : (stamp : ℕ) → HoldsMessageAt m old stamp → HoldsMessageAt m new stamp
    pub processed : length new.processed ≡ length old.processed + length bounds
    pub waiting : length new.waiting + length bounds ≡ length old.waiting
    pub spare : old.spare ≤ new.spare
    pub undone : new.counts.undone ≡ old.counts.undone
    pub work : (new.work ≡ old.work + length bounds) ⊎ IsFull new.work
    pub work_up : old.work ≤ new.work
    pub met : old.met ≤ new.met
    pub met_more : HasFault m new → HasFault m old ⊎ ((old.met < new.met) ⊎ IsFull new.met)

  -- nothing that is held is below the bound
  pub record IsHeldFrom (m : Meaning) (bound : ℕ) (n : NodeView M) : Type 0 where
    pub least : ℕ
    pub held : IsHeldLeast m n least
    pub above : bound ≤ least

  -- the bound fell to what is held, and nothing waits below it
  pub record IsSettled (m : Meaning) (before bound : ℕ) (n : NodeView M) : Type 0 where
    pub from : IsHeldFrom m bound n
    pub within : bound ≤ before
    pub reached : (bound ≡ before) ⊎ (bound ≡ from.least)
    pub idle : IsIdle m (home n) n.number bound (data_of n)

  -- the least stamp that these nodes hold, or the end
  pub record IsOpened (meaning_of : M → Meaning) (end : ℕ) (nodes : List (NodeView M)) (bound : ℕ) : Type 0 where
    pub within : bound ≤ end
    pub from : AtEach (λ number n. IsHeldFrom (meaning_of n.model) bound n) nodes
    pub reached : (bound ≡ end) ⊎ ((number : ℕ) × (n : NodeView M) × (slice_get nodes number ≡ Some n) × HoldsMessageAt (meaning_of n.model) n bound)

  -- nothing waits at these nodes below the bound
  abbrev pub AreIdle : (M → Meaning) → ℕ → List (NodeView M) → Type 0
  AreIdle meaning_of bound = AtEach (λ number n. IsIdle (meaning_of n.model) (home n) n.number bound (data_of n))

  -- these nodes have worked on, each for itself
  abbrev pub AllWorkOn : (M → Meaning) → List (NodeView M) → List (NodeView M) → Type 0
  AllWorkOn meaning_of = EachPair (λ old new. WorksOn (meaning_of old.model) old new)

  abbrev pub AreSmall : (M → Meaning) → List (NodeView M) → Type 0
  AreSmall meaning_of = AtEach (λ number n. IsSmall (meaning_of n.model) n)

  abbrev pub HaveTerms : Terms → List (NodeView M) → Type 0
  HaveTerms terms = AtEach (λ number n. n.terms ≡ terms)
