-- A node that is driven by hand keeps what its driver knows of it.
use Rattle.std.proofs.lemmas.Bool.{or_left, or_right, or_from, or_parts}
use Rattle.std.proofs.Common.{◌≡◌, ◌⊎◌, inl, inr, zero, suc, ℕ, ◌+◌, ◌<◌, ◌≤◌, Bool, true, false, cond, ◌||◌, List, [], ◌∷◌, ◌++◌, length, take, drop, Option, Some, None, refl, sym, ap, ◌∙◌, subst, arith, length-append}
use Rattle.std.specs.Prelude.{filter, not, slice_index_or, ◌==◌}
use Rattle.std.proofs.lemmas.Bool.Decides.{nat_tests}
use Rattle.event_key.proofs.Order.{key_lt-apart, same_key-itself, key_lt-turned}
use Rattle.key_order.proofs.DueLemmas.{due-down}
use Rattle.key_order.proofs.KeyLemmas.{new-cons}
use Rattle.std.specs.List.{AllByRecursion as Each, list_any}
use Rattle.std.proofs.lemmas.List.{length-map}
use Rattle.std.proofs.lemmas.List.Folds.{list_any-append}
use Rattle.event_key.specs.declared.key.Key.{Key}
use Rattle.event_key.specs.Keys.{key_lt, same_key}
use Rattle.event_key.specs.Stamps.{end_stamp}
use Rattle.model_core.specs.declared.event.Event.{Event}
use Rattle.model_core.specs.Meaning.{Meaning}
use Rattle.model_core.specs.declared.note.Note.{Note}
use Rattle.sim_spec.specs.Firing.{ObjectState}
use Rattle.key_order.specs.Ascending.{IsAscending, key_of}
use Rattle.key_order.specs.Keys.{IsNewKey}
use Rattle.key_order.specs.Pending.{enqueue_all}
use Rattle.sim_spec.specs.Replay.{events_at}
use Rattle.key_order.proofs.EachLemmas.{Each-append, Each-back, Each-drop, Each-front, Each-map, Each-take}
use Rattle.key_order.proofs.EnqueueLemmas.{IsAscending-enqueue, length-enqueue_all, Each-enqueue_all}
use Rattle.sim_spec.proofs.PartLemmas.{Each-events_at, IsAscending-events_at}
use Rattle.key_order.specs.Due.{is_due}
use Rattle.world_spec.specs.Moves.{IsDueDone, IsIdle, IsPastFaultOf, received, received_ahead}
use Rattle.world_spec.specs.Share.{IsHome}
use Rattle.key_order.proofs.FilterLemmas.{length-filter_le}
use Rattle.object_log.specs.Dones.{Done}
use Rattle.object_log.specs.Logs.{events_of, keys_of, undone}
use Rattle.object_log.specs.Parts.{left_of}
use Rattle.node_core.specs.Calls.{HasCommitted, HasReceived, HasUndoneFrom, HaveOwnKeys, HaveSentFew, IsLeastFaultOf, IsNewNode}
use Rattle.node_core.specs.Homes.{HomesView, home_of}
use Rattle.node_core.specs.Nodes.{IsAsBefore, IsSameNode, NodeView, Stands, ahead_of, base_at, data_of, home, log_at, log_or, pending_at, share_of}
use Rattle.node_core.specs.Shares.{AreProcessedKeys, SendAtMostEight, StandsForItsOwn}
use Rattle.node_core.specs.Steps.{HasStepped, IsLeftIdle}
use Rattle.node_core.specs.Stores.{kept_count}
use Rattle.node_core.specs.declared.step.Step.{Step}
use Rattle.node_core.specs.declared.step.Step.TheVariants.{Did, Idle}
use Rattle.node_core.proofs.ReceiveLoop.{events-take}
use Rattle.node_core.proofs.StoreLemmas.{by_object}
use Rattle.node_tests.specs.Drives.{IsDriven, fault_is_due}

abbrev pub Known : List Key → Event → Type 0
Known keys e = list_any (same_key e.key) keys ≡ true

known-more : (keys : List Key) (key : Key) (es : List Event) → Each (Known keys) es → Each (Known (keys ++ key ∷ [])) es
known-more keys key es all =
    Each-map (Known keys) (Known (keys ++ key ∷ [])) es
    (λ e h. list_any-append (same_key e.key) keys (key ∷ []) ∙ or_left (list_any (same_key e.key) keys) (list_any (same_key e.key) (key ∷ [])) h) all

known-itself : (keys : List Key) (e : Event) → Known (keys ++ e.key ∷ []) e
known-itself keys e =
    list_any-append (same_key e.key) keys (e.key ∷ []) ∙ or_right (list_any (same_key e.key) keys) (same_key e.key e.key || false) (or_left (same_key e.key e.key) false (same_key-itself e.key))

-- a key that isn't known is that of no event
none-known : (keys : List Key) (key : Key) (es : List Event) → list_any (same_key key) keys ≡ false → Each (Known keys) es → IsNewKey key es
none-known keys key [] new all = refl
none-known keys key (e ∷ es) new all =
    new-cons key_of key e es (λ same. let is = ap (λ k. list_any (same_key k) keys) same in let found = all.0 in cc) (none-known keys key es new all.1)

-- the event of a cell that was put into a new list is its only one
pub only-event : (none es : List Event) (cell e : Event) → none ≡ [] → es ≡ none ++ cell ∷ [] → cell ≡ e → es ≡ e ∷ []
only-event none es cell e empty put is = put ∙ ap (λ xs. xs ++ cell ∷ []) empty ∙ ap (λ x. x ∷ []) is

undone-le : (s : ObjectState) (ds : List Done) → (undone s ds).sent ≤ s.sent
unfolding undone
undone-le s [] = omega arith
undone-le s (d ∷ ds) = let more = undone-le s ds in omega arith

none-of : (ds : List Done) → length (keys_of ds) ≡ 0 → ds ≡ []
none-of [] h = refl
none-of (d ∷ ds) h = absurd (omega arith)

each-left : (P : Event → Type 0) (horizon : ℕ) (cut : Option Key) (ds : List Done) → Each P (events_of ds) → Each P (events_of (left_of horizon cut ds))
each-left P horizon cut [] all = tt
each-left P horizon cut (d ∷ ds) all = by_test (is_due horizon cut d.event.key) (each-left P horizon cut ds all.1)
  where
    by_test : (b : Bool) → Each P (events_of (left_of horizon cut ds)) → Each P (events_of (cond (not b) (d ∷ left_of horizon cut ds) (left_of horizon cut ds)))
    by_test true more = more
    by_test false more = (all.0, more)

module _ {M : Type 0} (m : Meaning) where
  was-home : (old new : NodeView M) (object : ℕ) → IsSameNode old new → IsHome m (home new) new.number object → IsHome m (home old) old.number object
  was-home old new object same at = (at.0, ap (λ h. home_of h object) (sym same.homes) ∙ at.1 ∙ same.number)

  -- how many events of an object are processed
  ahead-le : (n : NodeView M) (object : ℕ) → AreProcessedKeys m n → ahead_of n object ≤ length n.processed
  ahead-le n object keys =
      let own = ap length (keys.parts object) ∙ length-map (log_at n.logs object).done (λ (d : Done). d.event.key) in
      let part = length-filter_le (λ (k : Key). k.dest == object) n.processed in
      omega arith

  -- the node is new
  pub driven-new : (n : NodeView M) → IsNewNode m n → AreProcessedKeys m n → IsDriven m n [] 0
  unfolding events_at
  driven-new n new keys =
      let none : (object : ℕ) → (log_at n.logs object).done ≡ [] = λ object.
      none-of (log_at n.logs object).done (ap length (sym (keys.parts object)) ∙ ap (λ ks. length (filter (λ (k : Key). k.dest == object) ks)) new.processed) in
      let K : List Event → Type 0 = Each (Known []) in
      record {
        known = λ object. subst K (sym (λ i. events_of (none object i) ++ events_at object (new.waiting i))) tt;
        few = (let one = ap length new.processed in let two = ap length new.waiting in omega arith);
        sent_few = λ object at. (let same = ap (λ (s : ObjectState). s.sent) (new.stands.states object at) in omega arith);
      }

  -- room was made
  pub driven-same : (old new : NodeView M) (keys : List Key) (sent : ℕ) → IsDriven m old keys sent → IsAsBefore old new → IsDriven m new keys sent
  driven-same old new keys sent d same =
      let K : List Event → Type 0 = Each (Known keys) in
      record {
        known = λ object. subst K (sym (λ i. pending_at (same.logs i) (same.waiting i) object)) (d.known object);
        few = (let one = ap length same.processed in let two = ap length same.waiting in let few = d.few in omega arith);
        sent_few = λ object at. (let was = d.sent_few object (was-home old new object same.same at) in let base = ap (λ logs. (base_at logs object).sent) same.logs in omega arith);
      }

  -- an event with a key of its own may come
  may-come-one : (n : NodeView M) (keys : List Key) (sent : ℕ) (e : Event) → IsDriven m n keys sent → Stands m n (share_of n) (ahead_of n) → list_any (same_key e.key) keys ≡ false → HaveOwnKeys m n (e ∷ [])
  unfolding enqueue_all events_at
  may-come-one n keys sent e d st new object at =
      let A : List Event → Type 0 = IsAscending in
      let up = subst A (st.events object at) (IsAscending-events_at object (share_of n).pending st.stands.ordered) in
      by_test (e.key.dest == object) up
    where
      by_test : (b : Bool) → IsAscending (pending_at n.logs n.waiting object) → IsAscending (enqueue_all (cond b (e ∷ []) []) (pending_at n.logs n.waiting object))
      by_test true up = IsAscending-enqueue e (pending_at n.logs n.waiting object) (none-known keys e.key (pending_at n.logs n.waiting object) new (d.known object)) up
      by_test false up = up

  pub may-come : (n : NodeView M) (keys : List Key) (sent : ℕ) (e : Event) (es : List Event) → es ≡ e ∷ [] → IsDriven m n keys sent → Stands m n (share_of n) (ahead_of n) → list_any (same_key e.key) keys ≡ false → HaveOwnKeys m n es
  may-come n keys sent e es only d st new object at =
      let A : List Event → Type 0 = λ xs. IsAscending (enqueue_all (events_at object xs) (pending_at n.logs n.waiting object)) in
      subst A (sym only) (may-come-one n keys sent e d st new object at)

  -- and then it came
  pub driven-received : (old new : NodeView M) (keys : List Key) (sent : ℕ) (e : Event) (count : ℕ) → IsDriven m old keys sent → HasReceived m (e ∷ []) old new count → Stands m old (share_of old) (ahead_of old)
      → length old.processed + length old.waiting ≡ length (share_of old).pending → StandsForItsOwn m new → length new.processed + length new.waiting ≡ length (share_of new).pending
      → IsDriven m new (keys ++ e.key ∷ []) sent
  driven-received old new keys sent e count d r st size only size' =
      let more = keys ++ e.key ∷ [] in
      let whole = ap length (only (received (e ∷ []) (share_of old)) (received_ahead (e ∷ []) (share_of old) (ahead_of old)) (r.stands (share_of old) (ahead_of old) st)).whole in
      let long = length-enqueue_all (e ∷ []) (share_of old).pending in
      let grown = length-append keys (e.key ∷ []) in
      let few = d.few in
      record {
        known = λ object.
            (let k = kept_count (e ∷ []) old.logs object in
            let ds = (log_at old.logs object).done in
            let all = known-more keys e.key (pending_at old.logs old.waiting object) (d.known object) in
            let done = Each-front (Known more) (events_of ds) (events_at object old.waiting) all in
            let rest = Each-back (Known more) (events_of ds) (events_at object old.waiting) all in
            let E : List Event → Type 0 = Each (Known more) in
            Each-append (Known more) (events_of (log_at new.logs object).done) (events_at object new.waiting)
            (subst E (sym (ap events_of (r.kept object) ∙ events-take k ds)) (Each-take (Known more) k (events_of ds) done))
            (subst E (sym (r.waiting object))
            (Each-enqueue_all (Known more) (events_at object (e ∷ [])) (drop k (events_of ds) ++ events_at object old.waiting)
            (Each-events_at (Known more) object (e ∷ []) (known-itself keys e, tt))
            (Each-append (Known more) (drop k (events_of ds)) (events_at object old.waiting) (Each-drop (Known more) k (events_of ds) done) rest))));
        few = omega arith;
        sent_few = λ object at. (let was = d.sent_few object (was-home old new object r.same at) in let base = ap (λ (s : ObjectState). s.sent) (r.base object) in omega arith);
      }

  -- events were undone
  pub driven-undone : (horizon : ℕ) (old new : NodeView M) (keys : List Key) (sent : ℕ) (count : ℕ) → IsDriven m old keys sent → HasUndoneFrom m horizon old new count → Stands m old (share_of old) (ahead_of old)
      → length old.processed + length old.waiting ≡ length (share_of old).pending → StandsForItsOwn m new → length new.processed + length new.waiting ≡ length (share_of new).pending → IsDriven m new keys sent
  driven-undone horizon old new keys sent count d u st size only size' =
      let E : List Event → Type 0 = Each (Known keys) in
      let whole = ap length (only (share_of old) (ahead_of new) (u.rolls (share_of old) (ahead_of old) st).stands).whole in
      let few = d.few in
      record {
        known = λ object. subst E (sym (u.pending object)) (d.known object);
        few = omega arith;
        sent_few = λ object at. (let was = d.sent_few object (was-home old new object u.same at) in let base = ap (λ (s : ObjectState). s.sent) (u.base object) in omega arith);
      }

  -- its objects have sent few events, where few are processed
  pub driven-few : (n : NodeView M) (keys : List Key) (sent : ℕ) → IsDriven m n keys sent → SendAtMostEight n → AreProcessedKeys m n → length keys ≤ 100 → sent < 1000000 → HaveSentFew m n
  driven-few n keys sent d most parts few low object at =
      let le = ahead-le n object parts in
      let total = d.few in
      let base = d.sent_few object at in
      let own = most object in
      omega arith

  -- it made a step, or was idle
  pub driven-step : (bound : ℕ) (old new : NodeView M) (step : Step) (keys : List Key) (sent : ℕ) → IsDriven m old keys sent → HasStepped m bound old new step → IsDriven m new keys sent
  unfolding log_at
  driven-step bound old new Idle keys sent d s = let D : NodeView M → Type 0 = λ n. IsDriven m n keys sent in subst D (sym s.unchanged) d
  driven-step bound old new (Did key least) keys sent d s =
      let E : List Event → Type 0 = Each (Known keys) in
      let waits = ap length s.step.waits in
      let more = s.processed in
      let few = d.few in
      record {
        known = λ object. subst E (sym (s.pending object)) (d.known object);
        few = omega arith;
        sent_few = λ object at.
            (let was = d.sent_few object (was-home old new object s.same at) in
            let B : ℕ → Type 0 = λ o. base_at new.logs o ≡ base_at old.logs o in
            let base = ap (λ (s : ObjectState). s.sent) (by_object B key.dest object s.base (λ apart. ap (λ slot. undone (log_or slot).state (log_or slot).done) (s.others object apart))) in
            omega arith);
      }

  -- what was due was committed
  pub driven-commit : (horizon : ℕ) (cut : Option Key) (old new : NodeView M) (records : List (Key × Note)) (out : List (List Event)) (keys : List Key) (sent : ℕ) → IsDriven m old keys sent → HasCommitted m horizon cut old new records out
      → SendAtMostEight old → AreProcessedKeys m old → length keys ≤ 100 → IsDriven m new keys (sent + 800)
  driven-commit horizon cut old new records out keys sent d c most parts low =
      let E : List Event → Type 0 = Each (Known keys) in
      let few = d.few in
      let less = c.count in
      let waits = ap length c.waiting in
      record {
        known = λ object.
            (let ds = (log_at old.logs object).done in
            Each-append (Known keys) (events_of (log_at new.logs object).done) (events_at object new.waiting)
            (subst E (sym (ap events_of (c.left object))) (each-left (Known keys) horizon cut ds (Each-front (Known keys) (events_of ds) (events_at object old.waiting) (d.known object))))
            (subst E (sym (ap (events_at object) c.waiting)) (Each-back (Known keys) (events_of ds) (events_at object old.waiting) (d.known object))));
        few = omega arith;
        sent_few = λ object at.
            (let was = d.sent_few object (was-home old new object c.same at) in
            let base = undone-le (log_at new.logs object).state (log_at new.logs object).done in
            let state = ap (λ (s : ObjectState). s.sent) (c.states object) in
            let own = most object in
            let le = ahead-le old object parts in
            omega arith);
      }

late-stamp : (horizon : ℕ) (cut : Option Key) (key : Key) → horizon ≤ key.stamp → is_due horizon cut key ≡ false
unfolding is_due
late-stamp horizon None key le = grind (arith, nat_tests)
late-stamp horizon (Some c) key le = grind (arith, nat_tests)

-- what comes after an event that isn't due isn't due
late-after : (horizon : ℕ) (cut : Option Key) (j k : Key) → key_lt k j ≡ false → is_due horizon cut j ≡ false → is_due horizon cut k ≡ false
late-after horizon cut j k behind late = by_due (is_due horizon cut k) refl (key_lt j k) refl
  where
    by_due : (b : Bool) → is_due horizon cut k ≡ b → (c : Bool) → key_lt j k ≡ c → b ≡ false
    by_due false h c g = refl
    by_due true h true g = let due = due-down horizon cut j k g h in absurd (cc)
    by_due true h false g = let same = key_lt-apart j k g behind in let due = ap (is_due horizon cut) same in absurd (cc)

module _ {M : Type 0} (m : Meaning) (n : NodeView M) (horizon bound : ℕ) (cut : Option Key) (fault : Option (Key × ℕ)) (least : IsLeastFaultOf m n fault) (late : fault_is_due horizon cut fault ≡ false) where
  late-fault : (object : ℕ) → IsHome m (home n) n.number object → (met : Key × ℕ) → ((data_of n).log object).fault ≡ Some met → is_due horizon cut met.0 ≡ false
  late-fault object at met is = by_fault fault least late
    where
      by_fault : (f : Option (Key × ℕ)) → IsLeastFaultOf m n f → fault_is_due horizon cut f ≡ false → is_due horizon cut met.0 ≡ false
      by_fault None none stays = (let none_here = none object at in absurd (cc))
      by_fault (Some first) some stays = late-after horizon cut first.0 met.0 (some.2 object at met is) stays

  -- an idle node none of whose faults is due may commit
  pub may-commit : IsIdle m (home n) n.number bound (data_of n) → horizon ≤ bound → IsDueDone m (home n) n.number horizon cut (data_of n)
  may-commit idle low = record {
    waiting = Each-map (λ (e : Event). (bound ≤ e.key.stamp) ⊎ IsPastFaultOf m (home n) n.number (data_of n) e.key) (λ (e : Event). is_due horizon cut e.key ≡ false) n.waiting
        (λ e stays. elim stays [
          | inl high ↦ late-stamp horizon cut e.key (omega arith)
          | inr past ↦ late-after horizon cut past.2.0 e.key (let lt = past.4 in key_lt-turned past.2.0 e.key lt) (late-fault past.0 past.1 past.2 past.3)
        ]) idle;
    faults = late-fault;
  }

any-found : (p : Key → Bool) (xs : List Key) (i : ℕ) (d : Key) → i < length xs → p (slice_index_or xs i d) ≡ true → list_any p xs ≡ true
any-found p [] i d lt is = absurd (omega arith)
any-found p (y ∷ xs) zero d lt is = or_left (p y) (list_any p xs) is
any-found p (y ∷ xs) (suc i) d lt is = or_right (p y) (list_any p xs) (any-found p xs i d (omega arith) is)

any-none : (p : Key → Bool) (xs : List Key) → list_any p (take 0 xs) ≡ false
any-none p [] = refl
any-none p (x ∷ xs) = refl

any-next : (p : Key → Bool) (xs : List Key) (i : ℕ) (d : Key) → i < length xs → p (slice_index_or xs i d) ≡ false → list_any p (take i xs) ≡ false → list_any p (take (suc i) xs) ≡ false
any-next p [] i d lt is none = absurd (omega arith)
any-next p (y ∷ xs) zero d lt is none = or_from (p y) (list_any p (take 0 xs)) is (any-none p xs)
any-next p (y ∷ xs) (suc i) d lt is none =
    let parts = or_parts (p y) (list_any p (take i xs)) none in
    or_from (p y) (list_any p (take (suc i) xs)) parts.0 (any-next p xs i d (omega arith) is parts.1)

-- the key at a place is the one, or is passed by
pub known-found : (key : Key) (keys : List Key) (i : ℕ) (d : Key) → i < length keys → same_key key (slice_index_or keys i d) ≡ true → list_any (same_key key) keys ≡ true
known-found key keys i d lt is = any-found (same_key key) keys i d lt is

pub known-next : (key : Key) (keys : List Key) (i : ℕ) (d : Key) → i < length keys → same_key key (slice_index_or keys i d) ≡ false → list_any (same_key key) (take i keys) ≡ false
    → list_any (same_key key) (take (i + 1) keys) ≡ false
known-next key keys i d lt is none =
    let next : suc i ≡ i + 1 = omega arith in
    ap (λ n. list_any (same_key key) (take n keys)) (sym next) ∙ any-next (same_key key) keys i d lt is none

pub known-all : (key : Key) (keys : List Key) (i : ℕ) → length keys ≤ i → list_any (same_key key) (take i keys) ≡ false → list_any (same_key key) keys ≡ false
known-all key keys i le none = ap (list_any (same_key key)) (sym (take-long i keys le)) ∙ none
  where
    take-long : (i : ℕ) (xs : List Key) → length xs ≤ i → take i xs ≡ xs
    take-long zero [] le = refl
    take-long (suc i) [] le = refl
    take-long zero (x ∷ xs) le = absurd (omega arith)
    take-long (suc i) (x ∷ xs) le = ap (λ ys. x ∷ ys) (take-long i xs (omega arith))

stepped-same : {M : Type 0} (m : Meaning) (bound : ℕ) (old new : NodeView M) (step : Step) → HasStepped m bound old new step → IsSameNode old new
stepped-same m bound old new (Did key least) s = s.same
stepped-same {M} m bound old new Idle s = let P : NodeView M → Type 0 = λ n. IsSameNode old n in subst P (sym s.unchanged) (record { model = refl; terms = refl; number = refl; homes = refl })

-- an idle node is what it was before the step
pub idle-now : {M : Type 0} (meaning : M → Meaning) (old new node : NodeView M) (step : Step) → step ≡ Idle → HasStepped (meaning old.model) (end_stamp old.terms.end) old new step → new ≡ node
    → IsIdle (meaning node.model) (home node) node.number (end_stamp node.terms.end) (data_of node)
idle-now {M} meaning old new node step is s seen =
    let S : Step → Type 0 = λ x. HasStepped (meaning old.model) (end_stamp old.terms.end) old new x in
    let left : IsLeftIdle (meaning old.model) (end_stamp old.terms.end) old new = subst S is s in
    let I : NodeView M → Type 0 = λ n. IsIdle (meaning n.model) (home n) n.number (end_stamp n.terms.end) (data_of n) in
    subst I seen (subst I (sym left.unchanged) left.idle)

-- what stands of a driven node stands after each call
module _ {M : Type 0} (meaning : M → Meaning) (old new : NodeView M) (homes : HomesView) (keys : List Key) (sent : ℕ) (d : (old.homes ≡ homes) × IsDriven (meaning old.model) old keys sent) where
  moved : (keys' : List Key) (sent' : ℕ) → IsSameNode old new → IsDriven (meaning old.model) new keys' sent' → (new.homes ≡ homes) × IsDriven (meaning new.model) new keys' sent'
  moved keys' sent' same driven = (same.homes ∙ d.0, (let D : M → Type 0 = λ x. IsDriven (meaning x) new keys' sent' in subst D (sym same.model) driven))

  pub keeps-same : IsAsBefore old new → (new.homes ≡ homes) × IsDriven (meaning new.model) new keys sent
  keeps-same same = moved keys sent same.same (driven-same (meaning old.model) old new keys sent d.1 same)

  pub keeps-equal : new ≡ old → (new.homes ≡ homes) × IsDriven (meaning new.model) new keys sent
  keeps-equal same = let P : NodeView M → Type 0 = λ n. (n.homes ≡ homes) × IsDriven (meaning n.model) n keys sent in subst P (sym same) d

  pub keeps-undone : (horizon count : ℕ) → HasUndoneFrom (meaning old.model) horizon old new count → Stands (meaning old.model) old (share_of old) (ahead_of old)
      → length old.processed + length old.waiting ≡ length (share_of old).pending → StandsForItsOwn (meaning new.model) new → length new.processed + length new.waiting ≡ length (share_of new).pending
      → (new.homes ≡ homes) × IsDriven (meaning new.model) new keys sent
  keeps-undone horizon count u st size only size' =
      let S : M → Type 0 = λ x. StandsForItsOwn (meaning x) new in
      moved keys sent u.same (driven-undone (meaning old.model) horizon old new keys sent count d.1 u st size (subst S u.same.model only) size')

  pub keeps-step : (bound : ℕ) (step : Step) → HasStepped (meaning old.model) bound old new step → (new.homes ≡ homes) × IsDriven (meaning new.model) new keys sent
  keeps-step bound step s = moved keys sent (stepped-same (meaning old.model) bound old new step s) (driven-step (meaning old.model) bound old new step keys sent d.1 s)

  pub keeps-received : (e : Event) (es : List Event) → es ≡ e ∷ [] → (count : ℕ) → HasReceived (meaning old.model) es old new count → Stands (meaning old.model) old (share_of old) (ahead_of old)
      → length old.processed + length old.waiting ≡ length (share_of old).pending → StandsForItsOwn (meaning new.model) new → length new.processed + length new.waiting ≡ length (share_of new).pending
      → (new.homes ≡ homes) × IsDriven (meaning new.model) new (keys ++ e.key ∷ []) sent
  keeps-received e es one count r st size only size' =
      let S : M → Type 0 = λ x. StandsForItsOwn (meaning x) new in
      let R : List Event → Type 0 = λ xs. HasReceived (meaning old.model) xs old new count in
      moved (keys ++ e.key ∷ []) sent r.same (driven-received (meaning old.model) old new keys sent e count d.1 (subst R one r) st size (subst S r.same.model only) size')

  pub keeps-committed : (horizon : ℕ) (cut : Option Key) (records : List (Key × Note)) (out : List (List Event)) → HasCommitted (meaning old.model) horizon cut old new records out → SendAtMostEight old
      → AreProcessedKeys (meaning old.model) old → length keys ≤ 100 → (new.homes ≡ homes) × IsDriven (meaning new.model) new keys (sent + 800)
  keeps-committed horizon cut records out c most parts low = moved keys (sent + 800) c.same (driven-commit (meaning old.model) horizon cut old new records out keys sent d.1 c most parts low)
