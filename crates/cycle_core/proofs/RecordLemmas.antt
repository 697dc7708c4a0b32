-- The records of a cycle: those of each node are in order, and the keys of all differ.
use Rattle.world_spec.proofs.NextWorld.{bucket-ordered, bucket-placed}
use Rattle.std.proofs.Common.{ℕ, ◌<◌, List, length, sym, subst, arith}
use Rattle.std.proofs.lemmas.Option.{slice_get_within}
use Rattle.std.specs.Prelude.{Option}
use Rattle.std.specs.List.{AllByRecursion as Each}
use Rattle.event_key.specs.declared.key.Key.{Key}
use Rattle.model_core.specs.Meaning.{Meaning}
use Rattle.model_core.specs.declared.event.Event.{Event}
use Rattle.sim_spec.specs.Cut.{committed_events, events_of, records_of}
use Rattle.sim_spec.specs.Firing.{Firing}
use Rattle.sim_spec.specs.State.{State, Lawful}
use Rattle.sim_spec.specs.declared.terms.Terms.{Terms}
use Rattle.sim_spec.proofs.PartLemmas.{Ascends-done}
use Rattle.key_order.specs.Ascending.{IsAscending}
use Rattle.key_order.proofs.AscendingLemmas.{Ascends-map}
use Rattle.key_order.proofs.KeyLemmas.{Ascends-differ, Differ-permutation}
use Rattle.world_spec.proofs.ParcelLemmas.{records-permutation}
use Rattle.world_spec.specs.Parcels.{records_by_node}
use Rattle.node_core.specs.declared.committed.Committed.{Committed}
use Rattle.node_core.specs.Nodes.{NodeView}
use Rattle.cycle_core.specs.Ends.{CommitUpto}
use Rattle.cycle_core.specs.Records.{AreInOrder, RecordsDiffer, record_key}
use Rattle.cycle_core.proofs.PlaceLemmas.{at-some, each-of}

in-order : (ds : List (Event × Firing)) → IsAscending (events_of ds) → AreInOrder (records_of ds)
in-order ds up = Ascends-map record_key (λ (d : Event × Firing). (d.0.key, d.1.note)) ds (Ascends-done ds up)

-- what each node tells is in order
pub parts-ordered : {M : Type 0} (meaning_of : M → Meaning) (bound : ℕ) (cut : Option Key) (old new : List (NodeView M)) (all : List Committed) → CommitUpto meaning_of bound cut (length old) old new all
    → Each (λ (c : Committed). AreInOrder c.done.items) all
parts-ordered meaning_of bound cut old new all upto =
    each-of (λ (c : Committed). AreInOrder c.done.items) all
    (λ k c at.
    let below = slice_get_within all k c at in
    let count = upto.count in
    let many = upto.many in
    let x = at-some old k (omega arith) in
    let y = at-some new k (omega arith) in
    let commits = upto.each k x.0 y.0 c (omega arith) x.1 y.1 at in
    subst AreInOrder (sym commits.records_are) (in-order commits.done commits.handed.ordered))

module _ (m : Meaning) (t : Terms) (home : ℕ → ℕ) (nodes : ℕ) (s : State) (lawful : Lawful m t s) (homes : (object : ℕ) → object < m.objects → home object < nodes) where
  abbrev happened : List (Event × Firing)
  happened = committed_events m t s

  -- no two records of a bucket have one key
  pub records-differ : RecordsDiffer (records_by_node home happened nodes)
  records-differ =
      let placed = bucket-placed m t s lawful home nodes homes in
      Differ-permutation record_key (records_of happened) (records_by_node home happened nodes) (records-permutation home nodes happened placed) (Ascends-differ record_key (records_of happened) (in-order happened (bucket-ordered m t s lawful)))
