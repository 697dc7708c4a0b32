-- The share that a node's logs and waiting events make up: it stands for it, and for no other.
use Rattle.std.proofs.Math.Seq.{take-append_seam}
use Rattle.std.proofs.Common.{◌≡◌, ℕ, zero, suc, ◌+◌, ◌<◌, false, List, [], ◌∷◌, ◌++◌, length, take, eqb, eq-eqb, Option, refl, sym, ap, ◌∙◌, subst, arith, append_assoc}
use Rattle.std.specs.Prelude.{filter, ◌==◌}
use Rattle.std.specs.List.{AllByRecursion as Each}
use Rattle.std.proofs.lemmas.List.{append-nil, length-map}
use Rattle.event_key.specs.Stamps.{end_stamp}
use Rattle.model_core.specs.declared.event.Event.{Event}
use Rattle.model_core.specs.Meaning.{Meaning}
use Rattle.key_order.specs.Ascending.{IsAscending, key_of}
use Rattle.key_order.specs.Pending.{enqueue_all}
use Rattle.sim_spec.specs.Replay.{events_at, taken}
use Rattle.key_order.proofs.EachLemmas.{Each-append, Each-map}
use Rattle.key_order.proofs.EnqueueLemmas.{length-enqueue_all, Each-enqueue_all}
use Rattle.sim_spec.proofs.PartLemmas.{events_at-append, events_at-enqueue_all, KeysDiffer-objects, events_at-all}
use Rattle.world_spec.specs.Share.{IsAhead, IsAtHome, IsHome, Share, ahead_events, log_of}
use Rattle.key_order.specs.Keys.{KeysDiffer}
use Rattle.key_order.proofs.KeyLemmas.{Ascends-differ}
use Rattle.key_order.proofs.ArrivalLemmas.{enqueue_all-ascending}
use Rattle.key_order.proofs.FilterLemmas.{filter-none}
use Rattle.world_spec.proofs.HomeLemmas.{homed-same}
use Rattle.object_log.specs.Dones.{Done}
use Rattle.object_log.specs.Logs.{LogView, events_of}
use Rattle.object_log.proofs.ReplayLemmas.{taken_is}
use Rattle.node_core.specs.Marks.{MarkView, mark_of}
use Rattle.node_core.specs.Nodes.{IsHere, NodeView, Stands, ahead_of, base_at, data_of, home, log_at, log_or, pending_at, processed_events, share_of, slot_at}
use Rattle.node_core.specs.Shares.{IsOwnShare, total_upto}
use Rattle.node_core.specs.Sound.{AreOrderly, AreMarked, IsNode, IsStore}
use Rattle.node_core.proofs.GiveBackFacts.{enqueue_all-front}
use Rattle.node_core.proofs.HeldFacts.{mark-done, part-of}
use Rattle.node_core.proofs.LogLemmas.{inside}
use Rattle.node_core.proofs.RollbackFacts.{ahead-is, home-here, left-log, rest-waits}
use Rattle.node_core.proofs.OldestFacts.{here-done}
use Rattle.node_core.proofs.TotalLemmas.{eqb-apart, length-parts, total-same}

-- each slot has the events of its own object, the first one of the object at the base
AreOwnFrom : ℕ → List (Option LogView) → Type 0
AreOwnFrom base slots = (k : ℕ) → Each (λ (e : Event). e.key.dest ≡ base + k) (events_of (log_or (slot_at slots k)).done)

own-later : (base : ℕ) (slot : Option LogView) (slots : List (Option LogView)) → AreOwnFrom base (slot ∷ slots) → AreOwnFrom (base + 1) slots
unfolding AreOwnFrom
own-later base slot slots own k = Each-map (λ (e : Event). e.key.dest ≡ base + suc k) (λ (e : Event). e.key.dest ≡ base + 1 + k) (events_of (log_or (slot_at slots k)).done) (λ e is. omega arith) (own (suc k))

none-of : (object other : ℕ) (es : List Event) → (other ≡ object → ⊥) → Each (λ (e : Event). e.key.dest ≡ other) es → events_at object es ≡ []
unfolding events_at
none-of object other es apart own = filter-none (λ (e : Event). e.key.dest == object) es
    (Each-map (λ (e : Event). e.key.dest ≡ other) (λ (e : Event). eqb e.key.dest object ≡ false) es (λ e is. eqb-apart e.key.dest object (λ same. apart (sym is ∙ same))) own)

processed-none : (base object : ℕ) (slots : List (Option LogView)) → object < base → AreOwnFrom base slots → events_at object (processed_events slots) ≡ []
unfolding processed_events AreOwnFrom events_at
processed-none base object [] lt own = refl
processed-none base object (slot ∷ slots) lt own =
    events_at-append object (events_of (log_or slot).done) (processed_events slots)
    ∙ ap (λ es. es ++ events_at object (processed_events slots)) (none-of object (base + 0) (events_of (log_or slot).done) (λ is. omega arith) (own 0))
    ∙ processed-none (base + 1) object slots (omega arith) (own-later base slot slots own)

processed-at : (base object : ℕ) (slots : List (Option LogView)) → AreOwnFrom base slots → events_at (base + object) (processed_events slots) ≡ events_of (log_or (slot_at slots object)).done
unfolding processed_events AreOwnFrom events_at
processed-at base zero [] own = refl
processed-at base (suc object) [] own = refl
processed-at base zero (slot ∷ slots) own =
    let es = events_of (log_or slot).done in
    events_at-append (base + 0) es (processed_events slots)
    ∙ ap (λ xs. xs ++ events_at (base + 0) (processed_events slots)) (events_at-all (base + 0) es (own 0))
    ∙ ap (λ xs. es ++ xs) (processed-none (base + 1) (base + 0) slots (omega arith) (own-later base slot slots own))
    ∙ append-nil es
processed-at base (suc object) (slot ∷ slots) own =
    let es = events_of (log_or slot).done in
    let same : base + suc object ≡ base + 1 + object = omega arith in
    events_at-append (base + suc object) es (processed_events slots)
    ∙ ap (λ xs. xs ++ events_at (base + suc object) (processed_events slots)) (none-of (base + suc object) (base + 0) es (λ is. omega arith) (own 0))
    ∙ ap (λ o. events_at o (processed_events slots)) same
    ∙ processed-at (base + 1) object slots (own-later base slot slots own)

pub processed-parts : (logs : List (Option LogView)) (waiting : List Event) → AreOrderly logs waiting → (object : ℕ) → events_at object (processed_events logs) ≡ events_of (log_at logs object).done
unfolding log_at AreOwnFrom
processed-parts logs waiting held object =
    let same : object ≡ 0 + object = omega arith in
    ap (λ o. events_at o (processed_events logs)) same
    ∙ processed-at 0 object logs (λ k. Each-map (λ (e : Event). e.key.dest ≡ k) (λ (e : Event). e.key.dest ≡ 0 + k) (events_of (log_at logs k).done) (λ e is. omega arith) (held.own k))

processed-each : (P : Event → Type 0) (slots : List (Option LogView)) → ((k : ℕ) → Each P (events_of (log_or (slot_at slots k)).done)) → Each P (processed_events slots)
unfolding processed_events
processed-each P [] all = tt
processed-each P (slot ∷ slots) all = Each-append P (events_of (log_or slot).done) (processed_events slots) (all 0) (processed-each P slots (λ k. all (suc k)))

-- each processed event is at an object that is here
pub processed-here : (logs : List (Option LogView)) (waiting : List Event) → AreOrderly logs waiting → Each (λ (e : Event). IsHere logs e.key.dest) (processed_events logs)
unfolding log_at
processed-here logs waiting held = processed-each (λ (e : Event). IsHere logs e.key.dest) logs (λ k. by_done k (log_at logs k).done refl (held.own k))
  where
    by_done : (k : ℕ) (ds : List Done) → (log_at logs k).done ≡ ds → Each (λ (e : Event). e.key.dest ≡ k) (events_of (log_at logs k).done) → Each (λ (e : Event). IsHere logs e.key.dest) (events_of (log_at logs k).done)
    by_done k [] is own = let P : List Done → Type 0 = λ ds. Each (λ (e : Event). IsHere logs e.key.dest) (events_of ds) in subst P (sym is) tt
    by_done k (d ∷ ds) is own =
        let H : ℕ → Type 0 = IsHere logs in
        Each-map (λ (e : Event). e.key.dest ≡ k) (λ (e : Event). IsHere logs e.key.dest) (events_of (log_at logs k).done) (λ e same. subst H (sym same) (here-done logs k d ds is)) own

-- each mark is at an object that is here
marks-here : (logs : List (Option LogView)) (marks xs ys : List MarkView) → AreMarked logs marks → marks ≡ xs ++ ys → Each (λ (k : MarkView). IsHere logs k.key.dest) ys
marks-here logs marks xs [] marked is = tt
marks-here logs marks xs (y ∷ ys) marked is =
    let here = λ (k : MarkView). k.key.dest == y.key.dest in
    let found = mark-done y (filter here xs) (filter here ys) (log_at logs y.key.dest).done (sym (marked.parts y.key.dest) ∙ ap (filter here) is ∙ part-of here y xs ys (eq-eqb y.key.dest y.key.dest refl)) in (
      here-done logs y.key.dest (first-of found.front found.done found.back).0 (first-of found.front found.done found.back).1 (found.place ∙ (first-of found.front found.done found.back).2),
      marks-here logs marks (xs ++ y ∷ []) ys marked (is ∙ sym (append_assoc xs (y ∷ []) ys)),
    )
  where
    first-of : (front : List Done) (d : Done) (back : List Done) → (e : Done) × (rest : List Done) × (front ++ d ∷ back ≡ e ∷ rest)
    first-of [] d back = (d, back, refl)
    first-of (f ∷ front) d back = (f, front ++ d ∷ back, refl)

-- how many events are processed, object by object
pub marks-total : (logs : List (Option LogView)) (marks : List MarkView) → AreMarked logs marks → length marks ≡ total_upto (λ o. length (log_at logs o).done) (length logs)
marks-total logs marks marked =
    let H : MarkView → Type 0 = λ k. IsHere logs k.key.dest in
    length-parts (λ (k : MarkView). k.key.dest) (length logs) marks (Each-map H (λ (k : MarkView). k.key.dest < length logs) marks (λ k here. inside logs k.key.dest here) (marks-here logs marks [] marks marked refl))
    ∙ total-same (λ o. length (filter (λ (k : MarkView). k.key.dest == o) marks)) (λ o. length (log_at logs o).done) (length logs)
    (λ o. ap length (marked.parts o) ∙ length-map (log_at logs o).done mark_of)

pub events-total : (logs : List (Option LogView)) (waiting : List Event) → AreOrderly logs waiting → length (processed_events logs) ≡ total_upto (λ o. length (log_at logs o).done) (length logs)
unfolding events_at
events-total logs waiting held =
    length-parts (λ (e : Event). e.key.dest) (length logs) (processed_events logs)
    (Each-map (λ (e : Event). IsHere logs e.key.dest) (λ (e : Event). e.key.dest < length logs) (processed_events logs) (λ e here. inside logs e.key.dest here) (processed-here logs waiting held))
    ∙ total-same (λ o. length (events_at o (processed_events logs))) (λ o. length (log_at logs o).done) (length logs)
    (λ o. ap length (processed-parts logs waiting held o) ∙ length-map (log_at logs o).done (λ (d : Done). d.event))

module _ {M : Type 0} (m : Meaning) (n : NodeView M) (marks : List MarkView) (node : IsNode m n.terms n.number n.homes n.logs marks n.counts) (store : IsStore n.logs marks n.waiting) where
  own-ascends : IsAscending (share_of n).pending
  own-ascends =
      let es = processed_events n.logs in
      let K : List Event → Type 0 = KeysDiffer in
      enqueue_all-ascending es n.waiting
      (KeysDiffer-objects (es ++ n.waiting)
      (λ o. subst K (sym (events_at-append o es n.waiting ∙ ap (λ xs. xs ++ events_at o n.waiting) (processed-parts n.logs n.waiting store.held o)))
      (Ascends-differ key_of (pending_at n.logs n.waiting o) (store.held.ordered o))))
      store.held.waiting_ordered

  own-pending : (object : ℕ) → events_at object (share_of n).pending ≡ pending_at n.logs n.waiting object
  own-pending object =
      events_at-enqueue_all object (processed_events n.logs) n.waiting own-ascends
      ∙ ap (λ es. enqueue_all es (events_at object n.waiting)) (processed-parts n.logs n.waiting store.held object)
      ∙ enqueue_all-front (events_of (log_at n.logs object).done) (events_at object n.waiting) (store.held.ordered object)

  at-home : (es : List Event) → Each (λ (e : Event). IsHere n.logs e.key.dest) es → Each (IsAtHome m (home n) n.number) es
  at-home es here = Each-map (λ (e : Event). IsHere n.logs e.key.dest) (IsAtHome m (home n) n.number) es (λ e h. home-here m n.terms n.number n.homes n.logs marks n.counts e.key.dest node h) here

  own-homed : Each (IsAtHome m (home n) n.number) (share_of n).pending
  own-homed = Each-enqueue_all (IsAtHome m (home n) n.number) (processed_events n.logs) n.waiting (at-home (processed_events n.logs) (processed-here n.logs n.waiting store.held)) (at-home n.waiting store.held.waiting_here)

  own-log : (object : ℕ) → IsHome m (home n) n.number object → (data_of n).log object ≡ log_of m (share_of n) object (ahead_of n object)
  unfolding log_of
  own-log object here =
      left-log m object (log_at n.logs object) (base_at n.logs object) (events_at object n.waiting) (events_at object (share_of n).pending)
      (store.held.objects object (node.here object here)) (node.lawful.replayed object) (store.held.last object) refl (own-pending object)

  own-ahead : (object : ℕ) → IsHome m (home n) n.number object → IsAhead m n.terms (share_of n) object (ahead_of n object)
  own-ahead object here =
      let log = log_at n.logs object in
      let long : length log.done ≡ length (events_of log.done) = sym (length-map log.done (λ (d : Done). d.event)) in
      let front : ahead_events (share_of n) object (ahead_of n object) ≡ events_of log.done = (λ i. take (long i) (own-pending object i)) ∙ take-append_seam (events_of log.done) (events_at object n.waiting) in
      let B : List Event → Type 0 = Each (λ (e : Event). e.key.stamp < end_stamp n.terms.end) in
      record { whole = ap taken (sym (own-log object here)) ∙ taken_is log.state log.done (store.held.last object); below = subst B (sym front) (node.lawful.below object) }

  pub own-stands : Stands m n (share_of n) (ahead_of n)
  own-stands = record {
    stands = record {
      ordered = own-ascends;
      homed = own-homed;
      cells = λ o h. node.lawful.lawful o (node.here o h);
      early = own-ahead;
      logs = own-log;
      waiting_ordered = store.held.waiting_ordered;
      waiting_homed = at-home n.waiting store.held.waiting_here;
      waiting = λ o h. rest-waits (log_at n.logs o) (events_at o n.waiting) (events_at o (share_of n).pending) (own-pending o);
    };
    states = λ o h. refl;
    events = λ o h. own-pending o;
  }

  pub own-only : (share : Share) (ahead : ℕ → ℕ) → Stands m n share ahead → IsOwnShare m n share ahead
  own-only share ahead st = record {
    states = st.states;
    pending = st.events;
    ahead_is = λ o h. ahead-is m n marks node store share ahead st o h;
    whole = homed-same m (home n) n.number share.pending (share_of n).pending st.stands.ordered own-ascends st.stands.homed own-homed (λ o h. st.events o h ∙ sym (own-pending o));
  }

  pub own-size : length marks + length n.waiting ≡ length (share_of n).pending
  own-size =
      let one = marks-total n.logs marks store.marked in
      let two = events-total n.logs n.waiting store.held in
      let sum = length-enqueue_all (processed_events n.logs) n.waiting in
      omega arith
