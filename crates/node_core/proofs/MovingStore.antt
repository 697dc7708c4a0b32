-- An object that leaves a store, and one that comes to it.
use Rattle.std.proofs.Common.{◌≡◌, ◌≢◌, ℕ, ◌+◌, ◌≤◌, Bool, true, false, cond, not, List, [], ◌∷◌, ◌++◌, length, map, Option, Some, None, is_some, append-nil, eq-eqb, ne_eqb, eqb-true, refl, sym, ap, ◌∙◌, subst, arith}
use Rattle.std.specs.Prelude.{filter, ◌==◌}
use Rattle.std.specs.List.{AllByRecursion as Each}
use Rattle.model_core.specs.declared.event.Event.{Event}
use Rattle.key_order.specs.Ascending.{IsAscending, key_of}
use Rattle.key_order.proofs.AscendingLemmas.{Ascends-back, Ascends-filter, Ascends-prefix}
use Rattle.key_order.proofs.EachLemmas.{Each-both, Each-filter, Each-map}
use Rattle.key_order.proofs.EnqueueLemmas.{length-enqueue_all}
use Rattle.key_order.proofs.FilterLemmas.{filter-none, filter-passes}
use Rattle.sim_spec.specs.Replay.{events_at}
use Rattle.sim_spec.proofs.PartLemmas.{IsAscending-events_at, events_at-all, events_at-dest}
use Rattle.object_log.specs.Keeping.{OnlyLastFailed}
use Rattle.object_log.specs.Logs.{LogView, events_of}
use Rattle.node_core.specs.Homes.{HomesView}
use Rattle.node_core.specs.Marks.{MarkView, AreInOrder, mark_of}
use Rattle.node_core.specs.Moving.{MovedView, CanCome, HasCome, HasLeft, IsOwn, IsPutAt, IsTakenAt, marks_at}
use Rattle.node_core.specs.Nodes.{IsHere, log_at, log_or, no_log, pending_at, slot_at}
use Rattle.node_core.specs.Sound.{IsStore}
use Rattle.node_core.specs.Stores.{StoreView, IsGivenBack, IsInHand}
use Rattle.node_core.proofs.MovingWaits.{is_elsewhere}
use Rattle.node_core.proofs.StoreLemmas.{by_object}

pub slot-log : (logs : List (Option LogView)) (object : ℕ) (slot : Option LogView) → slot_at logs object ≡ slot → log_at logs object ≡ log_or slot
unfolding log_at
slot-log logs object slot is = ap log_or is

pub slot-here : (logs : List (Option LogView)) (object : ℕ) (log : LogView) → slot_at logs object ≡ Some log → IsHere logs object
unfolding IsHere
slot-here logs object log is = ap is_some is

pub slot-away : (logs : List (Option LogView)) (object : ℕ) → slot_at logs object ≡ None → IsHere logs object → ⊥
unfolding IsHere
slot-away logs object is here = let no = ap is_some is in cc

pub same-here : (old new : List (Option LogView)) (object : ℕ) → slot_at new object ≡ slot_at old object → IsHere old object → IsHere new object
unfolding IsHere
same-here old new object is here = ap is_some is ∙ here

pub same-log : (old new : List (Option LogView)) (object : ℕ) → slot_at new object ≡ slot_at old object → log_at new object ≡ log_at old object
unfolding log_at
same-log old new object is = ap log_or is

elsewhere-apart : (object : ℕ) (e : Event) → is_elsewhere object e ≡ true → e.key.dest ≢ object
elsewhere-apart object e is same = let at = ap not (eq-eqb e.key.dest object same) in cc

-- the waiting events of another object are those that stay
rest-at : (object other : ℕ) (ws : List Event) → other ≢ object → events_at other (filter (is_elsewhere object) ws) ≡ events_at other ws
unfolding events_at
rest-at object other [] apart = refl
rest-at object other (e ∷ ws) apart = by_test (e.key.dest == object) refl (rest-at object other ws apart)
  where
    by_test : (b : Bool) → (e.key.dest == object) ≡ b → filter (λ (e : Event). e.key.dest == other) (filter (is_elsewhere object) ws) ≡ filter (λ (e : Event). e.key.dest == other) ws
        → filter (λ (e : Event). e.key.dest == other) (cond (not b) (e ∷ filter (is_elsewhere object) ws) (filter (is_elsewhere object) ws)) ≡ filter (λ (e : Event). e.key.dest == other) (e ∷ ws)
    by_test false h more = ap (λ es. cond (e.key.dest == other) (e ∷ es) es) more
    by_test true h more =
        let no = ne_eqb e.key.dest other (λ same. apart (sym same ∙ eqb-true e.key.dest object h)) in
        more ∙ sym (ap (λ b. cond b (e ∷ filter (λ (e : Event). e.key.dest == other) ws) (filter (λ (e : Event). e.key.dest == other) ws)) no)

-- each waiting event is the object's or stays
parts-total : (object : ℕ) (ws : List Event) → length (filter (is_elsewhere object) ws) + length (events_at object ws) ≡ length ws
unfolding events_at
parts-total object [] = refl
parts-total object (e ∷ ws) = by_test (e.key.dest == object) (parts-total object ws)
  where
    by_test : (b : Bool) → length (filter (is_elsewhere object) ws) + length (filter (λ (e : Event). e.key.dest == object) ws) ≡ length ws
        → length (cond (not b) (e ∷ filter (is_elsewhere object) ws) (filter (is_elsewhere object) ws)) + length (cond b (e ∷ filter (λ (e : Event). e.key.dest == object) ws) (filter (λ (e : Event). e.key.dest == object) ws)) ≡ length (e ∷ ws)
    by_test true more = omega arith
    by_test false more = omega arith

module _ (object : ℕ) (logs left : List (Option LogView)) (marks : List MarkView) (waiting : List Event) (log : LogView) (store : IsStore logs marks waiting) (taken : IsTakenAt object logs left log) where
  was : log_at logs object ≡ log
  was = slot-log logs object (Some log) taken.was

  pub left-number : log.object ≡ object
  left-number = ap (λ (l : LogView). l.object) (sym was) ∙ store.held.objects object (slot-here logs object log taken.was)

  pub left-marks : marks_at log.object marks ≡ map mark_of log.done
  left-marks = ap (λ o. marks_at o marks) left-number ∙ store.marked.parts object ∙ ap (λ (l : LogView). map mark_of l.done) was

  pub left-own : Each (λ (e : Event). e.key.dest ≡ log.object) (events_of log.done)
  left-own =
      let P : LogView → Type 0 = λ l. Each (λ (e : Event). e.key.dest ≡ object) (events_of l.done) in
      let Q : ℕ → Type 0 = λ o. Each (λ (e : Event). e.key.dest ≡ o) (events_of log.done) in
      subst Q (sym left-number) (subst P was (store.held.own object))

  pub left-is-own : (room places : ℕ) → IsOwn (record { log = log; waiting = events_at object waiting; room = room; places = places })
  left-is-own room places =
      let L : LogView → Type 0 = λ l. OnlyLastFailed l.done in
      let A : LogView → Type 0 = λ l. IsAscending (events_of l.done ++ events_at object waiting) in
      let Q : ℕ → Type 0 = λ o. Each (λ (e : Event). e.key.dest ≡ o) (events_at object waiting) in
      record {
        last = subst L was (store.held.last object);
        ordered = subst A was (store.held.ordered object);
        processed = left-own;
        waits = subst Q (sym left-number) (events_at-dest object waiting);
      }

  module _ (marks' : List MarkView) (rest : List Event) (none : marks_at log.object marks' ≡ []) (others : (other : ℕ) → other ≢ log.object → marks_at other marks' ≡ marks_at other marks)
      (count : length marks' + length log.done ≡ length marks) (up : AreInOrder marks') (rest_is : rest ≡ filter (is_elsewhere object) waiting) where
    gone : log_at left object ≡ no_log
    gone = slot-log left object None taken.gone

    rest-other : (other : ℕ) → other ≢ object → events_at other rest ≡ events_at other waiting
    rest-other other apart = ap (events_at other) rest_is ∙ rest-at object other waiting apart

    total : length rest + length (events_at object waiting) ≡ length waiting
    total = ap (λ es. length es + length (events_at object waiting)) rest_is ∙ parts-total object waiting

    rest-up : IsAscending rest
    rest-up = subst IsAscending (sym rest_is) (Ascends-filter key_of (is_elsewhere object) waiting store.held.waiting_ordered)

    pub left-store : IsStore left marks' rest
    unfolding OnlyLastFailed
    left-store =
        let O : ℕ → Type 0 = λ o. IsHere left o → (log_at left o).object ≡ o in
        let L : ℕ → Type 0 = λ o. OnlyLastFailed (log_at left o).done in
        let A : ℕ → Type 0 = λ o. IsAscending (pending_at left rest o) in
        let E : ℕ → Type 0 = λ o. Each (λ (e : Event). e.key.dest ≡ o) (events_of (log_at left o).done) in
        let M : ℕ → Type 0 = λ o. marks_at o marks' ≡ map mark_of (log_at left o).done in
        let H : List Event → Type 0 = Each (λ (e : Event). IsHere left e.key.dest) in
        let other_log = λ (o : ℕ) (apart : o ≢ object). same-log logs left o (taken.others o apart) in
        let L0 : LogView → Type 0 = λ l. OnlyLastFailed l.done in
        let A0 : LogView → Type 0 = λ l. IsAscending (events_of l.done ++ events_at object rest) in
        let E0 : LogView → Type 0 = λ l. Each (λ (e : Event). e.key.dest ≡ object) (events_of l.done) in
        let few = store.few in
        let whole = total in
        record {
          held = record {
            objects = λ o. by_object O object o (λ here. absurd (slot-away left object taken.gone here))
                (λ apart here. ap (λ (l : LogView). l.object) (other_log o apart) ∙ store.held.objects o (same-here left logs o (sym (taken.others o apart)) here));
            last = λ o. by_object L object o (subst L0 (sym gone) tt) (λ apart. let P : LogView → Type 0 = λ l. OnlyLastFailed l.done in subst P (sym (other_log o apart)) (store.held.last o));
            ordered = λ o. by_object A object o (subst A0 (sym gone) (IsAscending-events_at object rest rest-up))
                (λ apart. let P : LogView → Type 0 = λ l. IsAscending (events_of l.done ++ events_at o rest) in
                let Q : List Event → Type 0 = λ ws. IsAscending (events_of (log_at logs o).done ++ ws) in
                subst P (sym (other_log o apart)) (subst Q (sym (rest-other o apart)) (store.held.ordered o)));
            own = λ o. by_object E object o (subst E0 (sym gone) tt) (λ apart. let P : LogView → Type 0 = λ l. Each (λ (e : Event). e.key.dest ≡ o) (events_of l.done) in subst P (sym (other_log o apart)) (store.held.own o));
            waiting_ordered = rest-up;
            waiting_here = subst H (sym rest_is)
                (Each-both (λ (e : Event). IsHere logs e.key.dest) (λ (e : Event). is_elsewhere object e ≡ true) (λ (e : Event). IsHere left e.key.dest) (filter (is_elsewhere object) waiting)
                (λ e here away. same-here logs left e.key.dest (taken.others e.key.dest (elsewhere-apart object e away)) here)
                (Each-filter (λ (e : Event). IsHere logs e.key.dest) (is_elsewhere object) waiting store.held.waiting_here)
                (filter-passes (is_elsewhere object) waiting));
          };
          marked = record {
            ordered = up;
            parts = λ o. by_object M object o (ap (λ k. marks_at k marks') (sym left-number) ∙ none ∙ ap (λ (l : LogView). map mark_of l.done) (sym gone))
                (λ apart. others o (λ same. apart (same ∙ left-number)) ∙ store.marked.parts o ∙ ap (λ (l : LogView). map mark_of l.done) (sym (other_log o apart)));
          };
          few = omega arith;
        }

    pub has-left : (homes homes' : HomesView) (spare spare' room places : ℕ) → spare ≤ spare'
        → HasLeft object (record { homes = homes; logs = logs; marks = marks; waiting = waiting; spare = spare }) (record { homes = homes'; logs = left; marks = marks'; waiting = rest; spare = spare' })
        (record { log = log; waiting = events_at object waiting; room = room; places = places })
    has-left homes homes' spare spare' room places more = record {
      logs = taken;
      number = left-number;
      own = left-is-own room places;
      waiting = refl;
      rest = rest-other;
      count = count;
      total = total;
      spare = more;
    }

-- nothing waits for an object that isn't here
none-waits : (logs : List (Option LogView)) (waiting : List Event) (object : ℕ) → slot_at logs object ≡ None → Each (λ (e : Event). IsHere logs e.key.dest) waiting → events_at object waiting ≡ []
unfolding events_at
none-waits logs waiting object away here =
    filter-none (λ (e : Event). e.key.dest == object) waiting
    (Each-map (λ (e : Event). IsHere logs e.key.dest) (λ (e : Event). (e.key.dest == object) ≡ false) waiting
    (λ e is. ne_eqb e.key.dest object (λ same. let P : ℕ → Type 0 = λ o. IsHere logs o in slot-away logs object away (subst P same is))) here)

-- no event of another object waits among an object's own
none-at : (object other : ℕ) (ws : List Event) → other ≢ object → Each (λ (e : Event). e.key.dest ≡ object) ws → events_at other ws ≡ []
unfolding events_at
none-at object other ws apart own =
    filter-none (λ (e : Event). e.key.dest == other) ws
    (Each-map (λ (e : Event). e.key.dest ≡ object) (λ (e : Event). (e.key.dest == other) ≡ false) ws (λ e is. ne_eqb e.key.dest other (λ same. apart (sym same ∙ is))) own)

module _ (homes : HomesView) (s : StoreView) (moved : MovedView) (store : IsStore s.logs s.marks s.waiting) (can : CanCome homes s moved) where
  abbrev object : ℕ
  object = moved.log.object

  pub come-none : marks_at object s.marks ≡ []
  come-none = store.marked.parts object ∙ ap (λ (l : LogView). map mark_of l.done) (slot-log s.logs object None can.away)

  module _ (logs : List (Option LogView)) (marks : List MarkView) (put : IsPutAt object s.logs logs moved.log) (parts : marks_at object marks ≡ map mark_of moved.log.done)
      (others : (other : ℕ) → other ≢ object → marks_at other marks ≡ marks_at other s.marks) (count : length marks ≡ length s.marks + length moved.log.done) (up : AreInOrder marks) where
    now : log_at logs object ≡ moved.log
    now = slot-log logs object (Some moved.log) put.here

    nothing : events_at object s.waiting ≡ []
    nothing = none-waits s.logs s.waiting object can.away store.held.waiting_here

    pub come-store : IsStore logs marks s.waiting
    come-store =
        let O : ℕ → Type 0 = λ o. IsHere logs o → (log_at logs o).object ≡ o in
        let L : ℕ → Type 0 = λ o. OnlyLastFailed (log_at logs o).done in
        let A : ℕ → Type 0 = λ o. IsAscending (pending_at logs s.waiting o) in
        let E : ℕ → Type 0 = λ o. Each (λ (e : Event). e.key.dest ≡ o) (events_of (log_at logs o).done) in
        let M : ℕ → Type 0 = λ o. marks_at o marks ≡ map mark_of (log_at logs o).done in
        let H : ℕ → Type 0 = λ o. IsHere s.logs o → IsHere logs o in
        let other_log = λ (o : ℕ) (apart : o ≢ object). same-log s.logs logs o (put.others o apart) in
        let L0 : LogView → Type 0 = λ l. OnlyLastFailed l.done in
        let E0 : LogView → Type 0 = λ l. Each (λ (e : Event). e.key.dest ≡ object) (events_of l.done) in
        let A0 : LogView → Type 0 = λ l. IsAscending (events_of l.done ++ events_at object s.waiting) in
        let A1 : List Event → Type 0 = λ ws. IsAscending (events_of moved.log.done ++ ws) in
        let A2 : List Event → Type 0 = IsAscending in
        let front = Ascends-prefix key_of (events_of moved.log.done) moved.waiting can.own.ordered in
        let few = can.few in
        record {
          held = record {
            objects = λ o. by_object O object o (λ here. ap (λ (l : LogView). l.object) now)
                (λ apart here. ap (λ (l : LogView). l.object) (other_log o apart) ∙ store.held.objects o (same-here logs s.logs o (sym (put.others o apart)) here));
            last = λ o. by_object L object o (subst L0 (sym now) can.own.last) (λ apart. let P : LogView → Type 0 = λ l. OnlyLastFailed l.done in subst P (sym (other_log o apart)) (store.held.last o));
            ordered = λ o. by_object A object o (subst A0 (sym now) (subst A1 (sym nothing) (subst A2 (sym (append-nil (events_of moved.log.done))) front)))
                (λ apart. let P : LogView → Type 0 = λ l. IsAscending (events_of l.done ++ events_at o s.waiting) in subst P (sym (other_log o apart)) (store.held.ordered o));
            own = λ o. by_object E object o (subst E0 (sym now) can.own.processed) (λ apart. let P : LogView → Type 0 = λ l. Each (λ (e : Event). e.key.dest ≡ o) (events_of l.done) in subst P (sym (other_log o apart)) (store.held.own o));
            waiting_ordered = store.held.waiting_ordered;
            waiting_here = Each-map (λ (e : Event). IsHere s.logs e.key.dest) (λ (e : Event). IsHere logs e.key.dest) s.waiting
                (λ e. by_object H object e.key.dest (λ was. slot-here logs object moved.log put.here) (λ apart was. same-here s.logs logs e.key.dest (put.others e.key.dest apart) was)) store.held.waiting_here;
          };
          marked = record {
            ordered = up;
            parts = λ o. by_object M object o (parts ∙ ap (λ (l : LogView). map mark_of l.done) (sym now))
                (λ apart. others o apart ∙ store.marked.parts o ∙ ap (λ (l : LogView). map mark_of l.done) (sym (other_log o apart)));
          };
          few = omega arith;
        }

    pub come-hand : (after : HomesView) (spare : ℕ) → IsInHand (record { homes = after; logs = logs; marks = marks; waiting = s.waiting; spare = spare }) moved.waiting
    come-hand after spare =
        let A : ℕ → Type 0 = λ o. IsAscending (events_of (log_at logs o).done ++ (events_at o moved.waiting ++ events_at o s.waiting)) in
        let A0 : LogView → Type 0 = λ l. IsAscending (events_of l.done ++ (events_at object moved.waiting ++ events_at object s.waiting)) in
        let A1 : List Event → Type 0 = λ ws. IsAscending (events_of moved.log.done ++ ws) in
        let own = events_at-all object moved.waiting can.own.waits in
        let list : events_at object moved.waiting ++ events_at object s.waiting ≡ moved.waiting = (λ i. own i ++ nothing i) ∙ append-nil moved.waiting in
        let few = can.few in
        record {
          ascending = Ascends-back key_of (events_of moved.log.done) moved.waiting can.own.ordered;
          ordered = λ o. by_object A object o (subst A0 (sym now) (subst A1 (sym list) can.own.ordered))
              (λ apart. let P : LogView → Type 0 = λ l. IsAscending (events_of l.done ++ (events_at o moved.waiting ++ events_at o s.waiting)) in
              let Q : List Event → Type 0 = λ ws. IsAscending (events_of (log_at s.logs o).done ++ (ws ++ events_at o s.waiting)) in
              subst P (sym (same-log s.logs logs o (put.others o apart))) (subst Q (sym (none-at object o moved.waiting apart can.own.waits)) (store.held.ordered o)));
          here = Each-map (λ (e : Event). e.key.dest ≡ object) (λ (e : Event). IsHere logs e.key.dest) moved.waiting
              (λ e is. let P : ℕ → Type 0 = λ o. IsHere logs o in subst P (sym is) (slot-here logs object moved.log put.here)) can.own.waits;
          few = omega arith;
        }

    pub has-come : (after : HomesView) (new : StoreView) → IsGivenBack (record { homes = after; logs = logs; marks = marks; waiting = s.waiting; spare = s.spare }) new moved.waiting → HasCome s new moved
    has-come after new back =
        let P : List (Option LogView) → Type 0 = λ ls. IsPutAt object s.logs ls moved.log in
        let long = ap length back.waiting ∙ length-enqueue_all moved.waiting s.waiting in
        let marks_long = ap length back.marks in
        record {
          logs = subst P (sym back.logs) put;
          waiting = back.parts object ∙ (λ i. events_at-all object moved.waiting can.own.waits i ++ nothing i) ∙ append-nil moved.waiting;
          rest = λ other apart. back.parts other ∙ ap (λ ws. ws ++ events_at other s.waiting) (none-at object other moved.waiting apart can.own.waits);
          count = marks_long ∙ count;
          total = omega arith;
          spare = back.spare;
        }
