-- A world whose cycle is closed and ended stands for the next state.
use Rattle.std.proofs.Common.{List, [], ap, arith, drop, false, length, subst, sym, ℕ, ◌++◌, ◌+◌, ◌-◌, ◌<◌, ◌∙◌, ◌∷◌, ◌≡◌, ◌≤◌}
use Rattle.std.proofs.Math.Seq.{drop-append_seam}
use Rattle.std.proofs.lemmas.List.{drop-drop}
use Rattle.std.proofs.lemmas.List.Sorted.{IsPermutation-trans}
use Rattle.std.specs.List.{AllByRecursion as Each}
use Rattle.std.specs.Prelude.{IsPermutation, Option, filter}
use Rattle.event_key.specs.declared.key.Key.{Key}
use Rattle.model_core.specs.Meaning.{Meaning, MeaningLaws}
use Rattle.model_core.specs.declared.event.Event.{Event}
use Rattle.sim_spec.specs.Cut.{after, committed_events, emissions_of, events_of, objects_after, state_with_done}
use Rattle.sim_spec.specs.Firing.{Firing}
use Rattle.key_order.specs.Ascending.{IsAscending, key_of}
use Rattle.sim_spec.specs.Replay.{Replay, done_at, events_at, replay, replay_after}
use Rattle.sim_spec.specs.State.{Lawful, State, object_at}
use Rattle.sim_spec.specs.declared.terms.Terms.{Terms}
use Rattle.key_order.proofs.AscendingLemmas.{Ascends-filter, Ascends-prefix}
use Rattle.sim_spec.proofs.BucketLaw.{bucket_law}
use Rattle.key_order.proofs.EachLemmas.{Each-both, Each-drop, Each-filter, Each-front, Each-take}
use Rattle.sim_spec.proofs.PartLemmas.{AllSound-dest, Each-events_at, events_at-append, events_at-events_of, length-events_of}
use Rattle.sim_spec.proofs.ReplayLemmas.{replay-fault}
use Rattle.world_spec.specs.Closed.{cut_key}
use Rattle.world_spec.specs.Early.{IsClosed, RunsAhead, kept}
use Rattle.key_order.specs.Due.{is_due}
use Rattle.world_spec.specs.Moves.{IsCommit, IsDueDone, committed, committed_ahead}
use Rattle.world_spec.specs.Parcels.{IsHandedOut, done_of, parcels}
use Rattle.world_spec.specs.Share.{IsAtHome, NodeData, Share, StandsFor, is_at}
use Rattle.world_spec.specs.World.{IsMadeFor, Setting, WorldData, WorldIsClosed, WorldStands}
use Rattle.world_spec.specs.WorldLaws.{EndsCycle, IsCycle, WorldLaw, next_share}
use Rattle.world_spec.proofs.ClosedFacts.{left_of}
use Rattle.world_spec.proofs.ClosedLaw.{committed_processed, cycle_law, due_parts, pending_is}
use Rattle.world_spec.proofs.CommitLaw.{commit_law}
use Rattle.world_spec.proofs.HandedLemmas.{handed-is}
use Rattle.world_spec.proofs.HomeLemmas.{filter-at}
use Rattle.world_spec.proofs.NodeFacts.{each-object, stands-same}
use Rattle.world_spec.proofs.ParcelLemmas.{merged-is, parcels-permutation}
use Rattle.world_spec.proofs.ProcessedLemmas.{IsProcessed, further_events, replay-split}
use Rattle.world_spec.proofs.ReceiptLaw.{receipt_law}
use Rattle.world_spec.proofs.ShareLaw.{IsNextShare, shares-law}
use Rattle.world_spec.proofs.WorldFacts.{share-events, share-log, world-closed, world-runs}

-- the share of a lawful state is at the node's objects
pub share-homed : (m : Meaning) (t : Terms) (s : State) (home : ℕ → ℕ) (node : ℕ) → Lawful m t s → Each (IsAtHome m home node) (filter (is_at home node) s.pending)
share-homed m t s home node lawful =
    Each-both (λ (e : Event). e.key.dest < m.objects) (λ (e : Event). home e.key.dest ≡ node) (IsAtHome m home node) (filter (is_at home node) s.pending) (λ e low at. (low, at))
    (Each-filter (λ (e : Event). e.key.dest < m.objects) (is_at home node) s.pending (AllSound-dest m s.objects s.pending lawful.sound)) (filter-at home node s.pending)

-- the events of a bucket are at objects of the model, each of them at a node, and in order
module _ (m : Meaning) (t : Terms) (s : State) (lawful : Lawful m t s) where
  pub bucket-dests : Each (λ (e : Event). e.key.dest < m.objects) (events_of (committed_events m t s))
  bucket-dests =
      let P : List Event → Type 0 = Each (λ (e : Event). e.key.dest < m.objects) in
      Each-front (λ (e : Event). e.key.dest < m.objects) (events_of (committed_events m t s)) (left_of m t s) (subst P (pending_is m t s lawful) (AllSound-dest m s.objects s.pending lawful.sound))

  pub bucket-ordered : IsAscending (events_of (committed_events m t s))
  bucket-ordered = let U : List Event → Type 0 = IsAscending in Ascends-prefix key_of (events_of (committed_events m t s)) (left_of m t s) (subst U (pending_is m t s lawful) lawful.ordered)

  pub bucket-placed : (home : ℕ → ℕ) (nodes : ℕ) → ((object : ℕ) → object < m.objects → home object < nodes) → Each (λ (x : Event × Firing). home x.0.key.dest < nodes) (committed_events m t s)
  bucket-placed home nodes homes = each_placed (committed_events m t s) bucket-dests
    where
      each_placed : (ds : List (Event × Firing)) → Each (λ (e : Event). e.key.dest < m.objects) (events_of ds) → Each (λ (x : Event × Firing). home x.0.key.dest < nodes) ds
      each_placed [] all = tt
      each_placed (x ∷ xs) all = (homes x.0.key.dest all.0, each_placed xs all.1)

module _ (m : Meaning) (t : Terms) (laws : MeaningLaws m) (home : ℕ → ℕ) (nodes : ℕ) (s : State) (shares : ℕ → Share) (ahead : ℕ → ℕ) (world : WorldData)
    (stands : WorldStands m t home nodes s shares ahead world) (bound : ℕ)
    (closed : WorldIsClosed m t home nodes world.node bound) where
  runs : RunsAhead m t s ahead
  runs = world-runs m t home nodes s shares ahead world stands

  idle : IsClosed m t s ahead bound
  idle = world-closed m t home nodes s shares ahead world stands bound closed

  abbrev happened : List (Event × Firing)
  happened = committed_events m t s

  abbrev rest : List Event
  rest = left_of m t s

  abbrev cut : Option Key
  cut = cut_key m t s

  not_due : Each (λ (e : Event). is_due bound cut e.key ≡ false) rest
  not_due = (due_parts m t s ahead bound stands.lawful runs idle).1

  processed : (object : ℕ) → object < m.objects → IsProcessed m t s happened rest object (ahead object)
  processed = committed_processed m t s ahead bound stands.lawful runs idle

  -- the premise of a commit holds at each node
  pub due_done : (node : ℕ) → node < nodes → IsDueDone m home node bound cut (world.node node)
  due_done node inside =
      let here = stands.stands node inside in
      let own = stands.shares_of node inside in
      record {
        waiting = each-object (λ (e : Event). is_due bound cut e.key ≡ false) m home node (world.node node).unprocessed here.waiting_homed (λ object at.
            let p = processed object at.0 in
            let upto : length (done_at object happened) ≤ ahead object = p.upto in
            let A = events_at object (events_of happened) in
            let long : length A ≡ length (done_at object happened) = ap length (events_at-events_of object happened) ∙ length-events_of (done_at object happened) in
            let q = ahead object - length A in
            let sum : ahead object ≡ length A + q = omega arith in
            let waits : events_at object (world.node node).unprocessed ≡ drop q (events_at object rest) =
            here.waiting object at
            ∙ ap (drop (ahead object)) (share-events m home s node (shares node) own object at ∙ ap (events_at object) p.goes_first.pending ∙ events_at-append object (events_of happened) rest)
            ∙ ap (λ n. drop n (A ++ events_at object rest)) sum
            ∙ sym (drop-drop q (length A) (A ++ events_at object rest))
            ∙ ap (drop q) (drop-append_seam A (events_at object rest)) in
            let P : List Event → Type 0 = Each (λ (e : Event). is_due bound cut e.key ≡ false) in
            subst P (sym waits) (Each-drop (λ (e : Event). is_due bound cut e.key ≡ false) q (events_at object rest) (Each-events_at (λ (e : Event). is_due bound cut e.key ≡ false) object rest not_due)));
        faults = λ object at fault is_fault.
            let p = processed object at.0 in
            let log : (world.node node).log object ≡ replay_after (done_at object happened) (replay m object (object_at (objects_after s.objects happened) object) (further_events m t s happened rest object (ahead object))) =
            here.logs object at ∙ share-log m home s node (shares node) own object (ahead object) at ∙ replay-split m t s happened rest object (ahead object) p in
            replay-fault (λ k. is_due bound cut k ≡ false) m object (object_at (objects_after s.objects happened) object) (further_events m t s happened rest object (ahead object))
            (Each-take (λ (e : Event). is_due bound cut e.key ≡ false) (ahead object - length (done_at object happened)) (events_at object rest) (Each-events_at (λ (e : Event). is_due bound cut e.key ≡ false) object rest not_due))
            fault (ap (λ (r : Replay). r.fault) (sym log) ∙ is_fault);
      }

  placed : Each (λ (x : Event × Firing). home x.0.key.dest < nodes) happened
  placed = bucket-placed m t s stands.lawful home nodes stands.homes

  -- what a node hands out is its part of the bucket
  handed : (node : ℕ) → node < nodes → (done : List (Event × Firing)) → IsHandedOut m home node bound cut (world.node node) done → done ≡ done_of home node happened
  handed node inside done out =
      handed-is m home node bound cut (world.node node) done happened out (bucket-ordered m t s stands.lawful) (bucket-dests m t s stands.lawful) (λ object at.
      ap (λ (r : Replay). filter (λ x. is_due bound cut x.0.key) r.done) ((stands.stands node inside).logs object at ∙ share-log m home s node (shares node) (stands.shares_of node inside) object (ahead object) at)
      ∙ (cycle_law m t laws s ahead bound stands.lawful runs idle).committed object at.0)

  next_lawful : Lawful m t (after m t s)
  next_lawful = (bucket_law m t laws s stands.lawful).lawful

  pub arrived : (es : ℕ → List Event) → ((node : ℕ) → node < nodes → IsPermutation (parcels home happened node nodes) (es node)) → (node : ℕ) → node < nodes
      → IsPermutation (filter (is_at home node) (emissions_of happened)) (es node)
  arrived es arrivals node inside = IsPermutation-trans (filter (is_at home node) (emissions_of happened)) (parcels home happened node nodes) (es node) (parcels-permutation home node nodes happened placed) (arrivals node inside)

  pub share_next : (es : ℕ → List Event) → ((node : ℕ) → node < nodes → IsPermutation (parcels home happened node nodes) (es node)) → (node : ℕ) → node < nodes
      → IsNextShare m t home s ahead bound node (shares node) (es node)
  share_next es arrivals node inside = shares-law m t laws home s ahead bound node (shares node) (es node) stands.lawful runs idle (stands.shares_of node inside) (arrived es arrivals node inside)

  -- the pending events of the next share are in order, and at the node
  pub next_ordered : (es : ℕ → List Event) → ((node : ℕ) → node < nodes → IsPermutation (parcels home happened node nodes) (es node)) → (node : ℕ) → node < nodes
      → IsAscending (next_share m t s bound (shares node) (es node)).pending
  next_ordered es arrivals node inside =
      let P : List Event → Type 0 = IsAscending in
      subst P (sym (share_next es arrivals node inside).share_of.pending) (Ascends-filter key_of (is_at home node) (after m t s).pending next_lawful.ordered)

  pub next_homed : (es : ℕ → List Event) → ((node : ℕ) → node < nodes → IsPermutation (parcels home happened node nodes) (es node)) → (node : ℕ) → node < nodes
      → Each (IsAtHome m home node) (next_share m t s bound (shares node) (es node)).pending
  next_homed es arrivals node inside =
      let H : List Event → Type 0 = Each (IsAtHome m home node) in
      subst H (sym (share_next es arrivals node inside).share_of.pending) (share-homed m t (after m t s) home node next_lawful)

  -- after its commit a node stands for the share without what was due
  pub commit_stands : (mid : ℕ → NodeData) → ((node : ℕ) → node < nodes → IsCommit m home node bound cut (shares node) (world.node node) (mid node)) → (node : ℕ) → node < nodes
      → StandsFor m t home node (committed m bound cut (shares node)) (committed_ahead bound cut (shares node) ahead) (mid node)
  commit_stands mid commits node inside =
      commit_law m t laws home node bound cut (shares node) ahead (world.node node) (mid node) (stands.stands node inside) (due_done node inside) (commits node inside)

  next_world : (es : ℕ → List Event) (new : WorldData) → EndsCycle m t home nodes s shares ahead bound es world new
      → WorldStands m t home nodes (after m t s) (λ node. next_share m t s bound (shares node) (es node)) (kept s happened ahead) new
  unfolding after state_with_done
  next_world es new ends = record {
    lawful = next_lawful;
    homes = stands.homes;
    made = λ node inside. let P : Setting → Type 0 = IsMadeFor m t home nodes in subst P (sym (ends.made node inside)) (stands.made node inside);
    shares_of = λ node inside. (share_next es ends.arrivals node inside).share_of;
    stands = λ node inside.
        stands-same m t home node (next_share m t s bound (shares node) (es node)) _ (kept s happened ahead) (new.node node) (share_next es ends.arrivals node inside).ahead_is
        (receipt_law m t home node (es node) (committed m bound cut (shares node)) (committed_ahead bound cut (shares node) ahead) (ends.mid node) (new.node node)
        (commit_stands ends.mid ends.commits node inside) (next_ordered es ends.arrivals node inside) (next_homed es ends.arrivals node inside) (ends.receipts node inside));
    count = ends.count ∙ ap (λ n. n + length happened) stands.count;
    fault = λ fault is_fault. (bucket_law m t laws s stands.lawful).fault fault (sym ends.fault ∙ is_fault);
  }

  world_cycle : IsCycle m t home nodes s shares ahead world bound
  world_cycle = record {
    bucket = cycle_law m t laws s ahead bound stands.lawful runs idle;
    due = due_done;
    handed = handed;
    records = λ merged moves sorted. merged-is home nodes happened merged placed (bucket-ordered m t s stands.lawful) moves sorted;
    next = next_world;
  }

pub world_law : (m : Meaning) (t : Terms) → MeaningLaws m → WorldLaw m t
world_law m t laws home nodes s shares ahead world bound stands closed = world_cycle m t laws home nodes s shares ahead world stands bound closed
