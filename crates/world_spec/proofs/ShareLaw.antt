-- What each node has after a cycle is its share of the next state.
use Rattle.std.proofs.Common.{Bool, List, ap, drop, false, length, not, subst, sym, take, true, ℕ, ◌++◌, ◌-◌, ◌<◌, ◌∙◌, ◌≡◌}
use Rattle.std.proofs.Math.Seq.{take-append_seam}
use Rattle.std.proofs.lemmas.Bool.{not_from_false, not_from_true}
use Rattle.std.proofs.lemmas.List.{append-nil}
use Rattle.std.proofs.lemmas.List.Elements.{filter-append}
use Rattle.std.specs.List.{AllByRecursion as Each}
use Rattle.std.specs.Prelude.{IsPermutation, filter}
use Rattle.model_core.specs.Meaning.{Meaning, MeaningLaws}
use Rattle.model_core.specs.declared.event.Event.{Event}
use Rattle.sim_spec.specs.Cut.{after, committed_events, emissions_of, events_of, objects_after, state_with_done}
use Rattle.sim_spec.specs.Firing.{Firing}
use Rattle.key_order.specs.Ascending.{IsAscending, key_of}
use Rattle.key_order.specs.Pending.{enqueue_all}
use Rattle.sim_spec.specs.Replay.{Replay, done_at, events_at, replay}
use Rattle.sim_spec.specs.State.{Lawful, State, object_at}
use Rattle.sim_spec.specs.declared.terms.Terms.{Terms}
use Rattle.key_order.proofs.AscendingLemmas.{Ascends-filter}
use Rattle.key_order.proofs.EnqueueLemmas.{IsAscending-without_all}
use Rattle.sim_spec.proofs.BucketLaw.{bucket_law}
use Rattle.key_order.proofs.EachLemmas.{Each-filter, Each-map}
use Rattle.sim_spec.proofs.InTurnLemmas.{drop-front}
use Rattle.sim_spec.proofs.ObjectReplay.{in-turn-replay}
use Rattle.sim_spec.proofs.PartLemmas.{Each-events_at, events_at-append, events_at-events_of, length-events_of}
use Rattle.key_order.proofs.ShareLemmas.{filter-enqueue_all}
use Rattle.world_spec.specs.Closed.{cut_key}
use Rattle.world_spec.specs.Early.{IsClosed, RunsAhead, is_before_all, kept, leading}
use Rattle.key_order.specs.Due.{is_due}
use Rattle.world_spec.specs.Moves.{committed, committed_ahead, due_count, received, received_ahead}
use Rattle.world_spec.specs.Share.{IsHome, IsShareOf, Share, ahead_events, is_at, log_of}
use Rattle.key_order.proofs.ArrivalLemmas.{arrival}
use Rattle.world_spec.proofs.ClosedFacts.{left_of}
use Rattle.world_spec.proofs.ClosedLaw.{committed_processed, due_parts, pending_is}
use Rattle.key_order.proofs.FilterLemmas.{filter-all, filter-none}
use Rattle.world_spec.proofs.FrontLemmas.{before-permutation, leading-same}
use Rattle.world_spec.proofs.HomeLemmas.{at-home}
use Rattle.world_spec.proofs.ProcessedLemmas.{IsProcessed, further-is, further_events}

-- a node has its share of the next state, and each of its objects is as far ahead as it keeps
pub record IsNextShare (m : Meaning) (t : Terms) (home : ℕ → ℕ) (s : State) (ahead : ℕ → ℕ) (bound node : ℕ) (share : Share) (es : List Event) : Type 0 where
  pub share_of : IsShareOf m home (after m t s) node (received es (committed m bound (cut_key m t s) share))
  pub ahead_is : (object : ℕ) → IsHome m home node object
      → received_ahead es (committed m bound (cut_key m t s) share) (committed_ahead bound (cut_key m t s) share ahead) object ≡ kept s (committed_events m t s) ahead object

module _ (m : Meaning) (t : Terms) (laws : MeaningLaws m) (home : ℕ → ℕ) (s : State) (ahead : ℕ → ℕ) (bound node : ℕ) (share : Share) (es : List Event)
    (lawful : Lawful m t s) (runs : RunsAhead m t s ahead) (closed : IsClosed m t s ahead bound) (own : IsShareOf m home s node share)
    (moves : IsPermutation (filter (is_at home node) (emissions_of (committed_events m t s))) es) where
  abbrev happened : List (Event × Firing)
  happened = committed_events m t s

  abbrev rest : List Event
  rest = left_of m t s

  abbrev due : Event → Bool
  due e = is_due bound (cut_key m t s) e.key

  abbrev here : Event → Bool
  here = is_at home node

  parts : Each (λ (e : Event). due e ≡ true) (events_of happened) × Each (λ (e : Event). due e ≡ false) rest
  parts = due_parts m t s ahead bound lawful runs closed

  after_up : IsAscending (enqueue_all (emissions_of happened) (drop (length happened) s.pending))
  unfolding after state_with_done
  after_up = (bucket_law m t laws s lawful).lawful.ordered

  split : s.pending ≡ events_of happened ++ rest
  split = pending_is m t s lawful

  dropped : drop (length happened) s.pending ≡ rest
  dropped = ap (drop (length happened)) split ∙ drop-front happened rest

  processed : (object : ℕ) → object < m.objects → IsProcessed m t s happened rest object (ahead object)
  processed = committed_processed m t s ahead bound lawful runs closed

  parts_is : share.pending ≡ filter here (events_of happened) ++ filter here rest
  parts_is = own.pending ∙ ap (filter here) split ∙ filter-append here (events_of happened) rest

  -- what is left of the node's pending events
  left_is : filter (λ (e : Event). not (due e)) share.pending ≡ filter here rest
  left_is =
      ap (filter (λ (e : Event). not (due e))) parts_is
      ∙ filter-append (λ (e : Event). not (due e)) (filter here (events_of happened)) (filter here rest)
      ∙ ap (λ xs. xs ++ filter (λ (e : Event). not (due e)) (filter here rest))
      (filter-none (λ (e : Event). not (due e)) (filter here (events_of happened)) (Each-filter (λ (e : Event). not (due e) ≡ false) here (events_of happened) (Each-map (λ (e : Event). due e ≡ true) (λ (e : Event). not (due e) ≡ false) (events_of happened) (λ e h. not_from_true (due e) h) parts.0)))
      ∙ filter-all (λ (e : Event). not (due e)) (filter here rest) (Each-filter (λ (e : Event). not (due e) ≡ true) here rest (Each-map (λ (e : Event). due e ≡ false) (λ (e : Event). not (due e) ≡ true) rest (λ e h. not_from_false (due e) h) parts.1))

  events_is : (object : ℕ) → IsHome m home node object → events_at object share.pending ≡ events_at object s.pending
  events_is object at = ap (events_at object) own.pending ∙ at-home home node object s.pending at.1

  events_parts : (object : ℕ) → IsHome m home node object → events_at object share.pending ≡ events_at object (events_of happened) ++ events_at object rest
  events_parts object at = events_is object at ∙ ap (events_at object) (processed object at.0).goes_first.pending ∙ events_at-append object (events_of happened) rest

  pub due_is : (object : ℕ) → IsHome m home node object → due_count bound (cut_key m t s) share object ≡ length (done_at object happened)
  unfolding due_count
  due_is object at =
      ap (λ xs. length (filter due xs)) (events_parts object at)
      ∙ ap length (filter-append due (events_at object (events_of happened)) (events_at object rest))
      ∙ ap (λ xs. length (filter due (events_at object (events_of happened)) ++ xs)) (filter-none due (events_at object rest) (Each-events_at (λ (e : Event). due e ≡ false) object rest parts.1))
      ∙ ap length (append-nil (filter due (events_at object (events_of happened))))
      ∙ ap length (filter-all due (events_at object (events_of happened)) (Each-events_at (λ (e : Event). due e ≡ true) object (events_of happened) parts.0))
      ∙ ap length (events_at-events_of object happened) ∙ length-events_of (done_at object happened)

  state_is : (object : ℕ) → IsHome m home node object → (log_of m share object (due_count bound (cut_key m t s) share object)).state ≡ object_at (objects_after s.objects happened) object
  unfolding log_of
  state_is object at =
      let p = processed object at.0 in
      let long : length (events_at object (events_of happened)) ≡ length (done_at object happened) = ap length (events_at-events_of object happened) ∙ length-events_of (done_at object happened) in
      let front : ahead_events share object (due_count bound (cut_key m t s) share object) ≡ events_at object (events_of happened) =
      ap (λ xs. take (due_count bound (cut_key m t s) share object) xs) (events_parts object at)
      ∙ ap (λ n. take n (events_at object (events_of happened) ++ events_at object rest)) (due_is object at ∙ sym long)
      ∙ take-append_seam (events_at object (events_of happened)) (events_at object rest) in
      ap (λ xs. (replay m object (share.states object) xs).state) front
      ∙ ap (λ x. (replay m object x (events_at object (events_of happened))).state) (own.states object at)
      ∙ ap (λ (r : Replay). r.state) (in-turn-replay m object s.objects happened p.inside p.goes_first.turn)

  next_pending : enqueue_all es (filter (λ (e : Event). not (due e)) share.pending) ≡ filter here (enqueue_all (emissions_of happened) (drop (length happened) s.pending))
  next_pending =
      let P : List Event → Type 0 = λ xs. IsAscending (enqueue_all (emissions_of happened) xs) in
      let up : IsAscending (enqueue_all (emissions_of happened) rest) = subst P dropped after_up in
      let whole : filter here (enqueue_all (emissions_of happened) rest) ≡ enqueue_all (filter here (emissions_of happened)) (filter here rest) = filter-enqueue_all here (emissions_of happened) rest up in
      let Q : List Event → Type 0 = IsAscending in
      let part_up : IsAscending (enqueue_all (filter here (emissions_of happened)) (filter here rest)) = subst Q whole (Ascends-filter key_of here (enqueue_all (emissions_of happened) rest) up) in
      ap (enqueue_all es) left_is
      ∙ arrival (filter here (emissions_of happened)) es (filter here rest) moves (Ascends-filter key_of here rest (IsAscending-without_all (emissions_of happened) rest up)) part_up
      ∙ sym whole
      ∙ ap (λ xs. filter here (enqueue_all (emissions_of happened) xs)) (sym dropped)

  next_ahead : (object : ℕ) → IsHome m home node object
      → received_ahead es (committed m bound (cut_key m t s) share) (committed_ahead bound (cut_key m t s) share ahead) object ≡ kept s happened ahead object
  unfolding received_ahead kept
  next_ahead object at =
      let xs = further_events m t s happened rest object (ahead object) in
      let front : take (ahead object - due_count bound (cut_key m t s) share object) (events_at object (filter (λ (e : Event). not (due e)) share.pending)) ≡ xs =
      ap (λ n. take (ahead object - n) (events_at object (filter (λ (e : Event). not (due e)) share.pending))) (due_is object at)
      ∙ ap (λ ys. take (ahead object - length (done_at object happened)) (events_at object ys)) left_is
      ∙ ap (take (ahead object - length (done_at object happened))) (at-home home node object rest at.1) in
      let same : (x : Event) → is_before_all (events_at object es) x ≡ is_before_all (events_at object (emissions_of happened)) x =
      λ x. before-permutation object (filter here (emissions_of happened)) es x moves ∙ ap (λ ms. is_before_all ms x) (at-home home node object (emissions_of happened) at.1) in
      ap (leading (is_before_all (events_at object es))) front
      ∙ leading-same (is_before_all (events_at object es)) (is_before_all (events_at object (emissions_of happened))) xs same
      ∙ sym (ap (leading (is_before_all (events_at object (emissions_of happened)))) (further-is m t s happened rest object (ahead object) (processed object at.0)))

  next_share_is : IsNextShare m t home s ahead bound node share es
  unfolding after state_with_done
  next_share_is = record {
    share_of = record { states = state_is; pending = next_pending };
    ahead_is = next_ahead;
  }

pub shares-law : (m : Meaning) (t : Terms) → MeaningLaws m → (home : ℕ → ℕ) (s : State) (ahead : ℕ → ℕ) (bound node : ℕ) (share : Share) (es : List Event)
    → Lawful m t s → RunsAhead m t s ahead → IsClosed m t s ahead bound → IsShareOf m home s node share → IsPermutation (filter (is_at home node) (emissions_of (committed_events m t s))) es
    → IsNextShare m t home s ahead bound node share es
shares-law m t laws home s ahead bound node share es lawful runs closed own moves = next_share_is m t laws home s ahead bound node share es lawful runs closed own moves
