-- A bound at which a cycle is closed gives the bucket, and what is left behind it has run ahead of the next state.
use Rattle.std.proofs.Common.{List, [], ap, append_assoc, arith, drop, false, inl, inr, length, lt-ltb, ltb, not, refl, subst, sym, take, take-append-drop, true, ℕ, ◌&&◌, ◌++◌, ◌+◌, ◌-◌, ◌<◌, ◌∙◌, ◌∷◌, ◌≡◌, ◌≤◌, ◌⊎◌}
use Rattle.std.proofs.lemmas.Bool.{and_right}
use Rattle.std.proofs.lemmas.List.{append-nil, length-append}
use Rattle.std.specs.List.{AllByRecursion as Each}
use Rattle.std.specs.Prelude.{None, Option, Some, filter}
use Rattle.event_key.specs.Keys.{key_lt}
use Rattle.event_key.specs.Stamps.{end_stamp}
use Rattle.event_key.specs.declared.key.Key.{Key}
use Rattle.model_core.specs.Meaning.{Meaning, MeaningLaws}
use Rattle.model_core.specs.declared.event.Event.{Event}
use Rattle.sim_spec.specs.Cut.{after, committed_events, emissions_of, events_of}
use Rattle.sim_spec.specs.Firing.{Firing}
use Rattle.sim_spec.specs.Horizon.{HorizonBucket, horizon_bucket, reach_of, reach_with}
use Rattle.sim_spec.specs.HorizonLaws.{IsBefore, IsBelowHorizon, IsOwnReplay, IsPast}
use Rattle.key_order.specs.Ascending.{IsAscending, key_of}
use Rattle.sim_spec.specs.Replay.{EmitsFrom, Replay, done_at, early_replay, events_at}
use Rattle.key_order.specs.Stamps.{NoneBelow}
use Rattle.sim_spec.specs.State.{Lawful, State}
use Rattle.sim_spec.specs.declared.terms.Terms.{Terms}
use Rattle.key_order.proofs.AscendingLemmas.{Ascends-before, Ascends-from}
use Rattle.sim_spec.proofs.BucketFacts.{GoInTurn, bucket-in-turn, reach-le}
use Rattle.sim_spec.proofs.BucketLaw.{bucket_law}
use Rattle.key_order.proofs.EachLemmas.{Each-append, Each-back, Each-both, Each-front, Each-map}
use Rattle.sim_spec.proofs.HorizonLaw.{GoInTurn-take, events_of-split, horizon_law, pending-split}
use Rattle.sim_spec.proofs.ObjectsLaw.{objects_law}
use Rattle.sim_spec.proofs.PartLemmas.{AllSound-dest, Each-events_at, Each-parts, done_at-append, events_at-events_of, events_at-first, length-events_of}
use Rattle.key_order.proofs.MemberLemmas.{each-contains}
use Rattle.sim_spec.proofs.StampLemmas.{NoneBelow-emissions_of}
use Rattle.world_spec.specs.Closed.{CycleLaw, IsLeastFault, cut_key, fault_key, first_key}
use Rattle.world_spec.specs.Early.{IsClosed, IsPastFault, RunsAhead, kept}
use Rattle.key_order.specs.Due.{is_due}
use Rattle.world_spec.proofs.ClosedFacts.{before_reach, behind_bucket, due-is, due_before, left_of, none-waits, past_before, past_stays}
use Rattle.world_spec.proofs.ProcessedLemmas.{IsProcessed, kept-early, replay-split}

module _ (m : Meaning) (t : Terms) (s : State) (ahead : ℕ → ℕ) (bound : ℕ) (lawful : Lawful m t s) (runs : RunsAhead m t s ahead) (closed : IsClosed m t s ahead bound) where
  abbrev b : HorizonBucket
  b = horizon_bucket m t s

  abbrev tail : List Event
  tail = behind_bucket m t s

  law : IsBelowHorizon m t s b
  law = horizon_law m t s lawful

  own : (object : ℕ) → object < m.objects → IsOwnReplay m s b object
  own = objects_law m t s lawful

  -- nothing is sent below the reach, so the bound is not below it
  reach_is : reach_with b.horizon b.fault ≤ bound
  unfolding horizon_bucket
  reach_is =
      elim closed.reached [
        | inl same ↦ (let le : reach_with b.horizon b.fault ≤ end_stamp t.end = reach-le m (end_stamp t.end) s.objects s.pending in omega arith)
        | inr held ↦
            (let sent = (early_replay m s held.0 (ahead held.0)).done in
            let le : reach_with b.horizon b.fault ≤ held.2.key.stamp =
            each-contains (λ (e : Event). (reach_of b) ≤ e.key.stamp) held.2 (emissions_of sent) (NoneBelow-emissions_of (reach_of b) sent ((own held.0 held.1).sends (ahead held.0))) held.3 in
            let same : held.2.key.stamp ≡ bound = held.4 in
            omega arith)
      ]

  abbrev Waits : Event → Type 0
  Waits e = (bound ≤ e.key.stamp) ⊎ IsPastFault m s ahead e.key

  -- no event of the bucket waits: no object has met a fault before it
  never_waits : (e : Event) → IsBefore b.horizon b.fault e.key → Waits e → ⊥
  never_waits e before waits =
      elim waits [
        | inl late ↦ (let early = before_reach bound b.horizon b.fault e.key reach_is before in omega arith)
        | inr past ↦ past_before b.horizon b.fault past.2.0 e.key ((own past.0 past.1).faults (ahead past.0) past.2 past.3) past.4 before
      ]

  none_waits : (object : ℕ) → Each (λ (e : Event). Waits e → ⊥) (events_at object (events_of b.done))
  none_waits object =
      Each-events_at (λ (e : Event). Waits e → ⊥) object (events_of b.done)
      (Each-map (λ (e : Event). IsBefore b.horizon b.fault e.key) (λ (e : Event). Waits e → ⊥) (events_of b.done) never_waits law.before)

  length_own : (object : ℕ) → length (events_at object (events_of b.done)) ≡ length (done_at object b.done)
  length_own object = ap length (events_at-events_of object b.done) ∙ length-events_of (done_at object b.done)

  -- so each event of the bucket is processed
  processed_is : (object : ℕ) → object < m.objects → length (done_at object b.done) ≤ ahead object
  processed_is object below =
      let P : List Event → Type 0 = λ es. Each Waits (drop (ahead object) es) in
      let le = none-waits Waits (ahead object) (events_at object (events_of b.done)) (events_at object tail) (none_waits object) (subst P (own object below).prefix (closed.waiting object below)) in
      let long = length_own object in
      omega arith

  abbrev pub rest_of : ℕ → List Event
  rest_of k = events_of (drop k b.done) ++ tail

  split_at : (k : ℕ) → s.pending ≡ events_of (take k b.done) ++ rest_of k
  split_at k = pending-split k s.pending b.done tail law.first

  in_turn : GoInTurn m s.objects b.done
  unfolding horizon_bucket
  in_turn = bucket-in-turn m (end_stamp t.end) s.objects s.pending

  inside : (object : ℕ) → object < m.objects → object < length s.objects
  inside object below = let long = lawful.objects in omega arith

  first_processed : (k object : ℕ) → object < m.objects → IsProcessed m t s (take k b.done) (rest_of k) object (ahead object)
  first_processed k object below =
      let parts : b.done ≡ take k b.done ++ drop k b.done = sym (take-append-drop k b.done) in
      let at : done_at object b.done ≡ done_at object (take k b.done) ++ done_at object (drop k b.done) = ap (done_at object) parts ∙ done_at-append object (take k b.done) (drop k b.done) in
      let sum : length (done_at object b.done) ≡ length (done_at object (take k b.done)) + length (done_at object (drop k b.done)) = ap length at ∙ length-append _ _ in
      let all = processed_is object below in
      record {
        goes_first = record { pending = split_at k; turn = GoInTurn-take m k s.objects b.done in_turn };
        inside = inside object below;
        early = runs object below;
        upto = omega arith;
      }

  pub bucket_processed : (object : ℕ) → object < m.objects → IsProcessed m t s b.done tail object (ahead object)
  bucket_processed object below = record { goes_first = record { pending = law.first; turn = in_turn }; inside = inside object below; early = runs object below; upto = processed_is object below }

  abbrev InModel : List Event → Type 0
  InModel = Each (λ (e : Event). e.key.dest < m.objects)

  all_in_model : InModel (events_of b.done ++ tail)
  all_in_model = let P : List Event → Type 0 = InModel in subst P law.first (AllSound-dest m s.objects s.pending lawful.sound)

  -- no message of the bucket is below the bound, so neither is the horizon
  horizon_from : bound ≤ b.horizon
  horizon_from =
      law.greatest bound closed.within
      (Each-parts (λ (d : Event × Firing). NoneBelow bound d.1.events) m.objects b.done (Each-front (λ (e : Event). e.key.dest < m.objects) (events_of b.done) tail all_in_model) (λ object below.
      let Q : Replay → Type 0 = λ r. EmitsFrom bound r.done in
      Each-front (λ (d : Event × Firing). NoneBelow bound d.1.events) (done_at object b.done) _
      (subst Q (replay-split m t s b.done tail object (ahead object) (bucket_processed object below)) (closed.held object below))))

  pub horizon_is : b.fault ≡ None → bound ≡ b.horizon
  horizon_is none =
      let up = horizon_from in
      let down = reach_is in
      let reach : reach_with b.horizon b.fault ≡ b.horizon = ap (reach_with b.horizon) none in
      omega arith

  -- the event at which the bucket fails doesn't wait
  fault_never : (fault : Key × ℕ) → b.fault ≡ Some fault → (e : Event) → e.key ≡ fault.0 → Waits e → ⊥
  fault_never fault is_fault e same waits =
      let reach : reach_with b.horizon b.fault ≡ fault.0.stamp + 1 = ap (reach_with b.horizon) is_fault in
      let le = reach_is in
      let stamp : e.key.stamp ≡ fault.0.stamp = ap (λ (k : Key). k.stamp) same in
      elim waits [
        | inl late ↦ (omega arith)
        | inr past ↦
            (let P : Option (Key × ℕ) → Type 0 = λ f. IsPast b.horizon f past.2.0 in
            let not : key_lt past.2.0 fault.0 ≡ false = subst P is_fault ((own past.0 past.1).faults (ahead past.0) past.2 past.3) in
            let yes : key_lt past.2.0 fault.0 ≡ true = ap (key_lt past.2.0) (sym same) ∙ past.4 in
            cc)
      ]

  -- so its object has met the fault
  fault_held : (fault : Key × ℕ) → b.fault ≡ Some fault
      → (fault.0.dest < m.objects) × ((early_replay m s fault.0.dest (ahead fault.0.dest)).fault ≡ Some fault) × (fault.0.stamp < bound)
  fault_held fault is_fault =
      let found = law.fault fault is_fault in
      let e = found.event in
      let object = e.key.dest in
      let D : List Event → Type 0 = InModel in
      let dests : D (e ∷ found.behind) = subst D found.first (Each-back (λ (e : Event). e.key.dest < m.objects) (events_of b.done) tail all_in_model) in
      let below : object < m.objects = dests.0 in
      let first = events_at object (events_of b.done) in
      let split : events_at object s.pending ≡ (first ++ (e ∷ [])) ++ events_at object found.behind =
      (own object below).prefix
      ∙ ap (λ es. first ++ es) (ap (events_at object) found.first ∙ events_at-first e found.behind)
      ∙ sym (append_assoc first (e ∷ []) (events_at object found.behind)) in
      let never : Each (λ (e : Event). Waits e → ⊥) (first ++ (e ∷ [])) =
      Each-append (λ (e : Event). Waits e → ⊥) first (e ∷ []) (none_waits object) (fault_never fault is_fault e found.key, tt) in
      let P : List Event → Type 0 = λ es. Each Waits (drop (ahead object) es) in
      let le = none-waits Waits (ahead object) (first ++ (e ∷ [])) (events_at object found.behind) never (subst P split (closed.waiting object below)) in
      let sum : length (first ++ (e ∷ [])) ≡ length first + 1 = length-append _ _ in
      let long = length_own object in
      let dest : object ≡ fault.0.dest = ap (λ (k : Key). k.dest) found.key in
      let held : (early_replay m s object (ahead object)).fault ≡ Some fault = ap (λ (r : Replay). r.fault) ((own object below).faulted (ahead object) fault is_fault (sym dest) (omega arith)) in
      let H : ℕ → Type 0 = λ o. (early_replay m s o (ahead o)).fault ≡ Some fault in
      let reach : reach_with b.horizon b.fault ≡ fault.0.stamp + 1 = ap (reach_with b.horizon) is_fault in
      let upto = reach_is in
      let placed : fault.0.dest < m.objects = omega arith in
      let bounded : fault.0.stamp < bound = omega arith in
      (placed, subst H dest held, bounded)

  pub least_fault : (x : Option (Key × ℕ)) → b.fault ≡ x → IsLeastFault m s ahead bound x
  least_fault None is_x = λ object below met is_met.
      let P : Option (Key × ℕ) → Type 0 = λ f. IsPast b.horizon f met.0 in
      let late : b.horizon ≤ met.0.stamp = subst P is_x ((own object below).faults (ahead object) met is_met) in
      let same = horizon_is is_x in
      omega arith
  least_fault (Some fault) is_x =
      let held = fault_held fault is_x in (
        held.0,
        held.1,
        held.2,
        λ object below met is_met.
            let P : Option (Key × ℕ) → Type 0 = λ f. IsPast b.horizon f met.0 in
            subst P is_x ((own object below).faults (ahead object) met is_met),
      )

  pub bucket_due : Each (λ (e : Event). is_due bound (fault_key b.fault) e.key ≡ true) (events_of b.done)
  bucket_due = Each-map (λ (e : Event). IsBefore b.horizon b.fault e.key) (λ (e : Event). is_due bound (fault_key b.fault) e.key ≡ true) (events_of b.done) (λ e. due_before bound b.horizon b.fault e.key reach_is) law.before

  pub behind_stays : Each (λ (e : Event). is_due bound (fault_key b.fault) e.key ≡ false) tail
  behind_stays = Each-map (λ (e : Event). IsPast b.horizon b.fault e.key) (λ (e : Event). is_due bound (fault_key b.fault) e.key ≡ false) tail (λ e. past_stays bound b.horizon b.fault e.key horizon_is) law.past

  -- all that the bucket fires is what is due before the fault
  whole_is : (object : ℕ) → object < m.objects → filter (λ d. is_due bound (fault_key b.fault) d.0.key) (early_replay m s object (ahead object)).done ≡ done_at object b.done
  whole_is object below =
      due-is (is_due bound (fault_key b.fault)) m t s b.done tail object (ahead object) (bucket_processed object below) bucket_due behind_stays

  -- cut at one of its events: what is due is before it, and it and what is behind it isn't
  due_parts_of : (k : ℕ) → (ds : List (Event × Firing)) → drop k b.done ≡ ds
      → Each (λ (e : Event). is_due bound (first_key ds (fault_key b.fault)) e.key ≡ true) (events_of (take k b.done))
      × Each (λ (e : Event). is_due bound (first_key ds (fault_key b.fault)) e.key ≡ false) (events_of ds ++ tail)
  unfolding is_due
  due_parts_of k [] is_ds =
      let all : b.done ≡ take k b.done = sym (take-append-drop k b.done) ∙ ap (λ ds. take k b.done ++ ds) is_ds ∙ append-nil (take k b.done) in
      let E : List (Event × Firing) → Type 0 = λ ds. Each (λ (e : Event). is_due bound (fault_key b.fault) e.key ≡ true) (events_of ds) in
      (subst E all bucket_due, behind_stays)
  due_parts_of k (x ∷ xs) is_ds =
      let Due : Event → Type 0 = λ e. is_due bound (Some x.0.key) e.key ≡ true in
      let B : List Event → Type 0 = Each (λ (e : Event). IsBefore b.horizon b.fault e.key) in
      let U : List (Event × Firing) → Type 0 = λ ds. IsAscending (events_of (take k b.done) ++ (events_of ds ++ tail)) in
      let V : List Event → Type 0 = IsAscending in
      let up : IsAscending (events_of (take k b.done) ++ (x.0 ∷ (events_of xs ++ tail))) = subst U is_ds (subst V (split_at k) lawful.ordered) in
      let before : B (events_of (take k b.done)) =
      Each-front (λ (e : Event). IsBefore b.horizon b.fault e.key) (events_of (take k b.done)) (events_of (drop k b.done)) (subst B (events_of-split k b.done) law.before) in (
        Each-both (λ (e : Event). IsBefore b.horizon b.fault e.key) (λ (e : Event). key_lt e.key x.0.key ≡ true) Due (events_of (take k b.done)) (due_first x.0.key) before
            (Ascends-before key_of (events_of (take k b.done)) x.0 (events_of xs ++ tail) up),
        Each-map (λ (e : Event). key_lt e.key x.0.key ≡ false) (λ (e : Event). is_due bound (Some x.0.key) e.key ≡ false) (x.0 ∷ (events_of xs ++ tail)) (not_due x.0.key)
            (Ascends-from key_of (events_of (take k b.done)) x.0 (events_of xs ++ tail) up),
      )
    where
      due_first : (cut : Key) (e : Event) → IsBefore b.horizon b.fault e.key → key_lt e.key cut ≡ true → is_due bound (Some cut) e.key ≡ true
      due_first cut e first lt = ap (λ b. b && key_lt e.key cut) (lt-ltb e.key.stamp bound (before_reach bound b.horizon b.fault e.key reach_is first)) ∙ lt

      not_due : (cut : Key) (e : Event) → key_lt e.key cut ≡ false → is_due bound (Some cut) e.key ≡ false
      not_due cut e not = ap (λ b. ltb e.key.stamp bound && b) not ∙ and_right (ltb e.key.stamp bound) false refl

  pub due_parts : Each (λ (e : Event). is_due bound (cut_key m t s) e.key ≡ true) (events_of (committed_events m t s)) × Each (λ (e : Event). is_due bound (cut_key m t s) e.key ≡ false) (left_of m t s)
  unfolding cut_key committed_events
  due_parts = due_parts_of (t.limit - s.count) (drop (t.limit - s.count) b.done) refl

  pub committed_processed : (object : ℕ) → object < m.objects → IsProcessed m t s (committed_events m t s) (left_of m t s) object (ahead object)
  unfolding committed_events
  committed_processed = first_processed (t.limit - s.count)

  committed_is : (object : ℕ) → object < m.objects → filter (λ d. is_due bound (cut_key m t s) d.0.key) (early_replay m s object (ahead object)).done ≡ done_at object (committed_events m t s)
  committed_is object below =
      due-is (is_due bound (cut_key m t s)) m t s (committed_events m t s) (left_of m t s) object (ahead object) (committed_processed object below) due_parts.0 due_parts.1

  left_is : MeaningLaws m → RunsAhead m t (after m t s) (kept s (committed_events m t s) ahead)
  unfolding after
  left_is laws object below =
      kept-early m t s (committed_events m t s) (left_of m t s) object (ahead object) ahead refl (committed_processed object below) (bucket_law m t laws s lawful).lawful.ordered

pub pending_is : (m : Meaning) (t : Terms) (s : State) → Lawful m t s → s.pending ≡ events_of (committed_events m t s) ++ left_of m t s
unfolding committed_events
pending_is m t s lawful = pending-split (t.limit - s.count) s.pending (horizon_bucket m t s).done (behind_bucket m t s) (horizon_law m t s lawful).first

pub cycle_law : (m : Meaning) (t : Terms) → MeaningLaws m → CycleLaw m t
cycle_law m t laws s ahead bound lawful runs closed = record {
  reached = reach_is m t s ahead bound lawful runs closed;
  processed = processed_is m t s ahead bound lawful runs closed;
  horizon = horizon_is m t s ahead bound lawful runs closed;
  fault = least_fault m t s ahead bound lawful runs closed (horizon_bucket m t s).fault refl;
  whole = whole_is m t s ahead bound lawful runs closed;
  committed = committed_is m t s ahead bound lawful runs closed;
  lawful = (bucket_law m t laws s lawful).lawful;
  left = left_is m t s ahead bound lawful runs closed laws;
}
