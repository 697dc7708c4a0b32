-- A node that is driven by hand.
use Rattle.std.specs.Prelude.{◌≡◌, ℕ, ◌+◌, ◌≤◌, List, length, Bool, true, false, Option, Some, None}
use Rattle.std.specs.List.{AllByRecursion, list_any}
use Rattle.event_key.specs.declared.key.Key.{Key}
use Rattle.event_key.specs.Keys.{same_key}
use Rattle.key_order.specs.Due.{is_due}
use Rattle.model_core.specs.Meaning.{Meaning}
use Rattle.world_spec.specs.Share.{IsHome}
use Rattle.node_core.specs.Nodes.{NodeView, base_at, home, pending_at}

-- a fault, if there is one, is due
abbrev pub fault_is_due : ℕ → Option Key → Option (Key × ℕ) → Bool
fault_is_due horizon cut None = false
fault_is_due horizon cut (Some fault) = is_due horizon cut fault.0

module _ {M : Type 0} where
  -- each event of the node has one of these keys, it has no more events than there are keys, and no object has sent
  -- more than so many events before its processed ones
  pub record IsDriven (m : Meaning) (n : NodeView M) (keys : List Key) (sent : ℕ) : Type 0 where
    pub known : (object : ℕ) → AllByRecursion (λ e. list_any (same_key e.key) keys ≡ true) (pending_at n.logs n.waiting object)
    pub few : length n.processed + length n.waiting ≤ length keys
    pub sent_few : (object : ℕ) → IsHome m (home n) n.number object → (base_at n.logs object).sent ≤ sent
