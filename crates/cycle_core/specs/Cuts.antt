-- Where a cycle is cut, and what comes of it.
use Rattle.std.specs.Prelude.{◌≡◌, ℕ, ◌-◌, ◌*◌, ◌^◌, ◌<◌, ◌≤◌, false, List, [], length, filter, ◌==◌, nat_lt}
use Rattle.std.specs.Prelude.{slice_get, slice_index_or, Option, Some, None, IsPermutation}
use Rattle.event_key.specs.declared.key.Key.{Key}
use Rattle.event_key.specs.Keys.{key_lt}
use Rattle.model_core.specs.declared.event.Event.{Event}
use Rattle.model_core.specs.declared.note.Note.{Note}
use Rattle.model_core.specs.Meaning.{Meaning}
use Rattle.object_log.specs.Logs.{keys_of}
use Rattle.key_order.specs.Ascending.{Ascends}
use Rattle.world_spec.specs.Answer.{CutData, cut_below}
use Rattle.world_spec.specs.Share.{IsHome}
use Rattle.node_core.specs.declared.committed.Committed.{Committed}
use Rattle.node_core.specs.Nodes.{NodeView, log_at, home, data_of}
use Rattle.cycle_core.specs.declared.cut.Cut.{Cut}
use Rattle.cycle_core.specs.Ends.{AreDueDone, CommitUpto, AllCanReceive, ReceiveUpto, sent_to, told_by}
use Rattle.cycle_core.specs.Known.{AreKnown}
use Rattle.cycle_core.specs.Places.{AtEach}
use Rattle.cycle_core.specs.Records.{RecordsDiffer}
use Rattle.sim_spec.specs.declared.terms.Terms.{Terms}
use Rattle.node_core.specs.Homes.{HomesView}
use Rattle.cycle_core.specs.Worlds.{WorldView, AreNodesOf}

abbrev pub cut_data : Cut → CutData
cut_data c = record { below = c.below; fault = c.fault; limited = c.limited }

-- these are all nodes of one world, in their order
pub record AreOneWorld {M : Type 0} (nodes : List (NodeView M)) : Type 0 where
  pub model : M
  pub terms : Terms
  pub homes : HomesView
  pub are : AreNodesOf model terms homes nodes

module _ {M : Type 0} (meaning_of : M → Meaning) where
  abbrev pub HomeOf : NodeView M → ℕ → Type 0
  HomeOf n object = IsHome (meaning_of n.model) (home n) n.number object

  -- the keys of the processed events below a bound, in order
  pub record AreKeysIn (bound : ℕ) (nodes : List (NodeView M)) (keys : List Key) : Type 0 where
    pub ordered : Ascends (λ (k : Key). k) keys
    pub parts : (number : ℕ) (n : NodeView M) → slice_get nodes number ≡ Some n → (object : ℕ) → HomeOf n object
        → filter (λ (k : Key). k.dest == object) keys ≡ filter (λ (k : Key). nat_lt k.stamp bound) (keys_of (log_at n.logs object).done)
    pub others : (object : ℕ) → ((number : ℕ) (n : NodeView M) → slice_get nodes number ≡ Some n → HomeOf n object → ⊥)
        → filter (λ (k : Key). k.dest == object) keys ≡ []

  -- so it is of each fault that an object of these nodes met
  abbrev pub EachFault : List (NodeView M) → (Key × ℕ → Type 0) → Type 0
  EachFault nodes P =
      (number : ℕ) (n : NodeView M) → slice_get nodes number ≡ Some n → (object : ℕ) → HomeOf n object → (met : Key × ℕ)
      → ((data_of n).log object).fault ≡ Some met → P met

  -- the least fault below a bound, or none
  abbrev pub IsLeastFaultIn : ℕ → List (NodeView M) → Option (Key × ℕ) → Type 0
  IsLeastFaultIn bound nodes None = EachFault nodes (λ met. bound ≤ met.0.stamp)
  IsLeastFaultIn bound nodes (Some fault) =
      ((number : ℕ) × (n : NodeView M) × (slice_get nodes number ≡ Some n)
      × HomeOf n fault.0.dest × (((data_of n).log fault.0.dest).fault ≡ Some fault))
      × (fault.0.stamp < bound)
      × EachFault nodes (λ met. key_lt met.0 fault.0 ≡ false)

  -- the cut of the processed events below a bound, when so many events are left: at the least fault, and at the limit
  pub record IsCutAt (left : ℕ) (nodes : List (NodeView M)) (bound : ℕ) (c : Cut) : Type 0 where
    pub keys : List Key
    pub keys_are : AreKeysIn bound nodes keys
    pub fault : Option (Key × ℕ)
    pub fault_is : IsLeastFaultIn bound nodes fault
    pub is : cut_data c ≡ cut_below left keys fault

  abbrev pub IsCutOf : WorldView M → ℕ → Cut → Type 0
  IsCutOf w bound c = IsCutAt (w.terms.limit - w.count) w.nodes bound c

  -- what the end of a cycle needs of the nodes: what is due is done, and what is sent can be received
  pub record CanEnd (bound : ℕ) (cut : Option Key) (nodes : List (NodeView M)) : Type 0 where
    pub due : AreDueDone meaning_of bound cut nodes
    pub few : AtEach (λ number n. 8 * length n.processed < 2 ^ 60) nodes
    pub wide : AtEach (λ number n. n.homes.nodes ≡ length nodes) nodes
    pub sent : (mids : List (NodeView M)) (all : List Committed) → CommitUpto meaning_of bound cut (length nodes) nodes mids all
        → (to : ℕ) → to < length nodes → length (sent_to to all) < 2 ^ 60
    pub told : (mids : List (NodeView M)) (all : List Committed) → CommitUpto meaning_of bound cut (length nodes) nodes mids all
        → RecordsDiffer (told_by all)
    pub arrives : (mids : List (NodeView M)) (all : List Committed) (parcels : List (List Event))
        → CommitUpto meaning_of bound cut (length nodes) nodes mids all → length parcels ≡ length nodes
        → ((to : ℕ) → to < length nodes → IsPermutation (sent_to to all) (slice_index_or parcels to []))
        → AreKnown meaning_of mids → AllCanReceive meaning_of parcels mids

  -- the nodes have committed and received, and these are the records in order
  pub record HaveEnded (bound : ℕ) (cut : Option Key) (old new : List (NodeView M)) (records : List (Key × Note)) : Type 0 where
    pub mids : List (NodeView M)
    pub all : List Committed
    pub commits : CommitUpto meaning_of bound cut (length old) old mids all
    pub parcels : List (List Event)
    pub long : length parcels ≡ length old
    pub sorted : (to : ℕ) → to < length old → IsPermutation (sent_to to all) (slice_index_or parcels to [])
    pub known : AreKnown meaning_of mids
    pub receives : ReceiveUpto meaning_of (length mids) parcels mids new
    pub permutes : IsPermutation (told_by all) records
    pub ordered : Ascends (λ (x : Key × Note). x.0) records
