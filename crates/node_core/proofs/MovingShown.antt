-- What a store shows of an object that leaves, and of one that comes.
use Rattle.std.proofs.Common.{◌≡◌, ◌≢◌, ℕ, ◌+◌, ◌<◌, Bool, true, false, cond, not, ◌≤◌, List, [], ◌∷◌, length, map, eqb-true, ne_eqb, Option, Some, None, refl, sym, ap, ◌∙◌, subst, arith}
use Rattle.std.proofs.lemmas.List.{length-map}
use Rattle.std.specs.Prelude.{filter}
use Rattle.model_core.specs.declared.event.Event.{Event}
use Rattle.sim_spec.specs.Firing.{ObjectState}
use Rattle.sim_spec.specs.Replay.{events_at}
use Rattle.key_order.proofs.AscendingLemmas.{Ascends-map}
use Rattle.object_log.specs.Dones.{Done}
use Rattle.object_log.specs.EventLogs.{EventLogView, dones_at, is_of, logs_upto, slot_in, slot_of, state_in}
use Rattle.object_log.specs.Logs.{LogView}
use Rattle.object_log.specs.Objects.{AreSound}
use Rattle.node_core.specs.Homes.{HomesView}
use Rattle.node_core.specs.Logged.{LogsView}
use Rattle.node_core.specs.Marks.{AreInOrder, MarkView, mark_of}
use Rattle.node_core.specs.Moving.{CanCome, HasCome, HasLeft, IsPutAt, IsTakenAt, MovedView, marks_at}
use Rattle.node_core.specs.Nodes.{slot_at}
use Rattle.node_core.specs.Sound.{IsStore}
use Rattle.node_core.specs.Stores.{IsGivenBack, IsInHand, StoreView, shown_logs, shown_marks}
use Rattle.node_core.proofs.ListedLogs.{marks-at}
use Rattle.node_core.proofs.MovingStore.{come-hand, come-store, has-come, has-left, left-number, left-store}
use Rattle.node_core.proofs.MovingWaits.{is_elsewhere}
use Rattle.node_core.proofs.SlotLemmas.{length-logs, same-slots, slot-is, slot-same}

-- what is processed at other objects stays
pub dones-other : (object other : ℕ) (ds : List Done) → other ≢ object → dones_at other (filter (λ d. not (is_of object d)) ds) ≡ dones_at other ds
dones-other object other [] apart = refl
dones-other object other (d ∷ ds) apart = by_test (is_of object d) refl (dones-other object other ds apart)
  where
    by_test : (b : Bool) → is_of object d ≡ b → dones_at other (filter (λ d. not (is_of object d)) ds) ≡ dones_at other ds
        → dones_at other (cond (not b) (d ∷ filter (λ d. not (is_of object d)) ds) (filter (λ d. not (is_of object d)) ds)) ≡ dones_at other (d ∷ ds)
    by_test false h more = ap (λ es. cond (is_of other d) (d ∷ es) es) more
    by_test true h more =
        let no = ne_eqb d.event.key.dest other (λ same. apart (sym same ∙ eqb-true d.event.key.dest object h)) in
        more ∙ sym (ap (λ b. cond b (d ∷ dones_at other ds) (dones_at other ds)) no)

dones-gone : (object : ℕ) (ds : List Done) → dones_at object (filter (λ d. not (is_of object d)) ds) ≡ []
dones-gone object [] = refl
dones-gone object (d ∷ ds) = by_test (is_of object d) refl (dones-gone object ds)
  where
    by_test : (b : Bool) → is_of object d ≡ b → dones_at object (filter (λ d. not (is_of object d)) ds) ≡ []
        → dones_at object (cond (not b) (d ∷ filter (λ d. not (is_of object d)) ds) (filter (λ d. not (is_of object d)) ds)) ≡ []
    by_test true h more = more
    by_test false h more = ap (λ b. cond b (d ∷ dones_at object (filter (λ d. not (is_of object d)) ds)) (dones_at object (filter (λ d. not (is_of object d)) ds))) h ∙ more

dones-total : (object : ℕ) (ds : List Done) → length (filter (λ d. not (is_of object d)) ds) + length (dones_at object ds) ≡ length ds
dones-total object [] = refl
dones-total object (d ∷ ds) = by_test (is_of object d) (dones-total object ds)
  where
    by_test : (b : Bool) → length (filter (λ d. not (is_of object d)) ds) + length (dones_at object ds) ≡ length ds
        → length (cond (not b) (d ∷ filter (λ d. not (is_of object d)) ds) (filter (λ d. not (is_of object d)) ds)) + length (cond b (d ∷ dones_at object ds) (dones_at object ds)) ≡ length (d ∷ ds)
    by_test true more = omega arith
    by_test false more = omega arith

slot-done : (ds : List Done) (object : ℕ) (s : Option ObjectState) (log : LogView) → slot_of ds object s ≡ Some log → log.done ≡ dones_at object ds
slot-done ds object None log is = absurd (cc)
slot-done ds object (Some s) log is = (let same : Some (record { object = object; state = s; done = dones_at object ds }) ≡ Some log = is in let P : LogView → Type 0 = λ l. l.done ≡ dones_at object ds in subst P (some-same same) refl)
  where
    some-same : {x y : LogView} → Some x ≡ Some y → x ≡ y
    some-same {x} {y} e = cc

module _ (object n : ℕ) (old new : EventLogView) (log : LogView) (within : object < n) (was : slot_in old object ≡ Some log) (gone : state_in new.objects object ≡ None)
    (others : (other : ℕ) → other ≢ object → state_in new.objects other ≡ state_in old.objects other) (done : new.done ≡ filter (λ d. not (is_of object d)) old.done) where
  dones-stay : (other : ℕ) → other ≢ object → dones_at other new.done ≡ dones_at other old.done
  dones-stay other apart = ap (dones_at other) done ∙ dones-other object other old.done apart

  pub shown-taken : IsTakenAt object (logs_upto old n) (logs_upto new n) log
  shown-taken = record {
    was = slot-is old n object within ∙ was;
    gone = slot-is new n object within ∙ ap (slot_of new.done object) gone;
    others = λ other apart. same-slots old new n other (ap (slot_of new.done other) (others other apart) ∙ slot-same old.done new.done other (state_in old.objects other) (dones-stay other apart));
    long = length-logs new n ∙ sym (length-logs old n);
  }

  pub own-done : log.done ≡ dones_at object old.done
  own-done = slot-done old.done object (state_in old.objects object) log was

  pub marks-gone : marks_at object (map mark_of new.done) ≡ []
  marks-gone = marks-at object new.done ∙ ap (λ ds. map mark_of (dones_at object ds)) done ∙ ap (map mark_of) (dones-gone object old.done)

  pub marks-stay : (other : ℕ) → other ≢ object → marks_at other (map mark_of new.done) ≡ marks_at other (map mark_of old.done)
  marks-stay other apart = marks-at other new.done ∙ ap (map mark_of) (dones-stay other apart) ∙ sym (marks-at other old.done)

  pub marks-count : length (map mark_of new.done) + length log.done ≡ length (map mark_of old.done)
  marks-count =
      let a = length-map new.done mark_of in let b = length-map old.done mark_of in let c = ap length done in let d = ap length own-done in
      let all = dones-total object old.done in omega arith

module _ (n : ℕ) (old new : EventLogView) (log : LogView) (within : log.object < n) (slot : slot_in new log.object ≡ Some log)
    (states : (other : ℕ) → other ≢ log.object → state_in new.objects other ≡ state_in old.objects other) (dones : (other : ℕ) → other ≢ log.object → dones_at other new.done ≡ dones_at other old.done)
    (count : length new.done ≡ length old.done + length log.done) where
  pub shown-put : IsPutAt log.object (logs_upto old n) (logs_upto new n) log
  shown-put = record {
    here = slot-is new n log.object within ∙ slot;
    others = λ other apart. same-slots old new n other (ap (slot_of new.done other) (states other apart) ∙ slot-same old.done new.done other (state_in old.objects other) (dones other apart));
    long = length-logs new n ∙ sym (length-logs old n);
  }

  pub marks-come : marks_at log.object (map mark_of new.done) ≡ map mark_of log.done
  marks-come = marks-at log.object new.done ∙ ap (map mark_of) (sym (slot-done new.done log.object (state_in new.objects log.object) log slot))

  pub marks-others : (other : ℕ) → other ≢ log.object → marks_at other (map mark_of new.done) ≡ marks_at other (map mark_of old.done)
  marks-others other apart = marks-at other new.done ∙ ap (map mark_of) (dones other apart) ∙ sym (marks-at other old.done)

  pub marks-more : length (map mark_of new.done) ≡ length (map mark_of old.done) + length log.done
  marks-more = let a = length-map new.done mark_of in let b = length-map old.done mark_of in omega arith

module _ (object : ℕ) (old new : LogsView) (log : LogView) (waiting rest : List Event) (store : IsStore (shown_logs old) (shown_marks old) waiting) (sound : AreSound new.log)
    (same : length new.homes.homes ≡ length old.homes.homes) (within : object < length old.homes.homes) (was : slot_in old.log object ≡ Some log) (gone : state_in new.log.objects object ≡ None)
    (others : (other : ℕ) → other ≢ object → state_in new.log.objects other ≡ state_in old.log.objects other) (done : new.log.done ≡ filter (λ d. not (is_of object d)) old.log.done)
    (rest_is : rest ≡ filter (is_elsewhere object) waiting) where
  taken : IsTakenAt object (shown_logs old) (shown_logs new) log
  taken =
      let T : ℕ → Type 0 = λ n. IsTakenAt object (shown_logs old) (logs_upto new.log n) log in
      subst T (sym same) (shown-taken object (length old.homes.homes) old.log new.log log within was gone others done)

  number : log.object ≡ object
  number = left-number object (shown_logs old) (shown_logs new) (shown_marks old) waiting log store taken

  none : marks_at log.object (shown_marks new) ≡ []
  none = ap (λ o. marks_at o (shown_marks new)) number ∙ marks-gone object (length old.homes.homes) old.log new.log log within was gone others done

  stay : (other : ℕ) → other ≢ log.object → marks_at other (shown_marks new) ≡ marks_at other (shown_marks old)
  stay other apart = marks-stay object (length old.homes.homes) old.log new.log log within was gone others done other (λ is. apart (is ∙ sym number))

  count : length (shown_marks new) + length log.done ≡ length (shown_marks old)
  count = marks-count object (length old.homes.homes) old.log new.log log within was gone others done

  up : AreInOrder (shown_marks new)
  up = Ascends-map (λ (mark : MarkView). mark.key) mark_of new.log.done sound.ordered

  pub store-left : IsStore (shown_logs new) (shown_marks new) rest
  store-left = left-store object (shown_logs old) (shown_logs new) (shown_marks old) waiting log store taken (shown_marks new) rest none stay count up rest_is

  pub shown-left : (spare spare' room places : ℕ) → spare ≤ spare'
      → HasLeft object (record { homes = old.homes; logs = shown_logs old; marks = shown_marks old; waiting = waiting; spare = spare })
      (record { homes = new.homes; logs = shown_logs new; marks = shown_marks new; waiting = rest; spare = spare' }) (record { log = log; waiting = events_at object waiting; room = room; places = places })
  shown-left spare spare' room places more =
      has-left object (shown_logs old) (shown_logs new) (shown_marks old) waiting log store taken (shown_marks new) rest none stay count up rest_is old.homes new.homes spare spare' room places more

-- an object is in: the store is whole, its events are in hand, and once they are given back all has come
pub record IsComing (new : LogsView) (s : StoreView) (moved : MovedView) : Type 0 where
  pub store : IsStore (shown_logs new) (shown_marks new) s.waiting
  pub in_hand : (after : HomesView) (spare : ℕ)
      → IsInHand (record { homes = after; logs = shown_logs new; marks = shown_marks new; waiting = s.waiting; spare = spare }) moved.waiting
  pub has_come : (after : HomesView) (later : StoreView)
      → IsGivenBack (record { homes = after; logs = shown_logs new; marks = shown_marks new; waiting = s.waiting; spare = s.spare }) later moved.waiting
      → HasCome s later moved

module _ (homes : HomesView) (old new : LogsView) (s : StoreView) (moved : MovedView) (logs : s.logs ≡ shown_logs old) (marks : s.marks ≡ shown_marks old) (store : IsStore s.logs s.marks s.waiting) (can : CanCome homes s moved)
    (sound : AreSound new.log) (same : length new.homes.homes ≡ length old.homes.homes) (within : moved.log.object < length old.homes.homes) (slot : slot_in new.log moved.log.object ≡ Some moved.log)
    (states : (other : ℕ) → other ≢ moved.log.object → state_in new.log.objects other ≡ state_in old.log.objects other)
    (dones : (other : ℕ) → other ≢ moved.log.object → dones_at other new.log.done ≡ dones_at other old.log.done) (more : length new.log.done ≡ length old.log.done + length moved.log.done) where
  put : IsPutAt moved.log.object s.logs (shown_logs new) moved.log
  put =
      let T : ℕ → Type 0 = λ n. IsPutAt moved.log.object (shown_logs old) (logs_upto new.log n) moved.log in
      let P : List (Option LogView) → Type 0 = λ ls. IsPutAt moved.log.object ls (shown_logs new) moved.log in
      subst P (sym logs) (subst T (sym same) (shown-put (length old.homes.homes) old.log new.log moved.log within slot states dones more))

  come : marks_at moved.log.object (shown_marks new) ≡ map mark_of moved.log.done
  come = marks-come (length old.homes.homes) old.log new.log moved.log within slot states dones more

  stays : (other : ℕ) → other ≢ moved.log.object → marks_at other (shown_marks new) ≡ marks_at other s.marks
  stays other apart = marks-others (length old.homes.homes) old.log new.log moved.log within slot states dones more other apart ∙ ap (marks_at other) (sym marks)

  total : length (shown_marks new) ≡ length s.marks + length moved.log.done
  total = let all = marks-more (length old.homes.homes) old.log new.log moved.log within slot states dones more in let is = ap length marks in omega arith

  rises : AreInOrder (shown_marks new)
  rises = Ascends-map (λ (mark : MarkView). mark.key) mark_of new.log.done sound.ordered

  pub coming : IsComing new s moved
  coming = record {
    store = come-store homes s moved store can (shown_logs new) (shown_marks new) put come stays total rises;
    in_hand = come-hand homes s moved store can (shown_logs new) (shown_marks new) put come stays total rises;
    has_come = has-come homes s moved store can (shown_logs new) (shown_marks new) put come stays total rises;
  }

-- an object whose slot is empty isn't there
pub state-away : (l : LogsView) (object : ℕ) → object < length l.homes.homes → slot_at (shown_logs l) object ≡ None → state_in l.log.objects object ≡ None
state-away l object within away = by_state (state_in l.log.objects object) (sym (slot-is l.log (length l.homes.homes) object within) ∙ away)
  where
    by_state : (s : Option ObjectState) → slot_of l.log.done object s ≡ None → s ≡ None
    by_state None none = refl
    by_state (Some s) none = absurd (cc)
