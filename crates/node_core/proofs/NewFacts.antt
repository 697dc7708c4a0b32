-- A new node: the logs of its objects, and no event.
use Rattle.std.proofs.Common.{◌≡◌, ℕ, zero, suc, ◌+◌, ◌<◌, ◌≤◌, ◌%◌, ◌^◌, Bool, true, false, cond, List, [], ◌∷◌, ◌++◌, length, map, eqb, eq-eqb, eqb-true, ltb, ltb-true, ltb-false, Option, Some, None, is_some, refl, sym, ap, ◌∙◌, subst, arith, length-append}
use Rattle.std.proofs.lemmas.Bool.{eqb-false}
use Rattle.std.proofs.Math.ListN.{get_or-append}
use Rattle.std.proofs.Math.Seq.{get_or-append_seam}
use Rattle.std.specs.Prelude.{IsTrue}
use Rattle.std.specs.List.{AllByRecursion as Each}
use Rattle.event_key.specs.Stamps.{end_stamp}
use Rattle.model_core.specs.declared.event.Event.{Event}
use Rattle.model_core.specs.Meaning.{Meaning, MeaningLaws}
use Rattle.sim_spec.specs.declared.terms.Terms.{Terms}
use Rattle.sim_spec.specs.Firing.{ObjectState}
use Rattle.key_order.specs.Ascending.{IsAscending, Ascends}
use Rattle.sim_spec.specs.Replay.{events_at, replay}
use Rattle.sim_spec.specs.State.{first_object}
use Rattle.world_spec.specs.Share.{IsHome, log_of}
use Rattle.object_log.specs.Dones.{Done}
use Rattle.object_log.specs.EventLogs.{dones_at, state_in}
use Rattle.object_log.specs.Objects.{AreSound}
use Rattle.object_log.specs.Logs.{LogView, events_of, undone}
use Rattle.object_log.specs.Replays.{IsReplayed, replay_of}
use Rattle.node_core.specs.Calls.{IsNewNode}
use Rattle.node_core.specs.Homes.{HomesView, home_of}
use Rattle.node_core.specs.Logged.{LogsView}
use Rattle.node_core.specs.NewLogs.{first_log, first_logs}
use Rattle.node_core.specs.Nodes.{Counts, IsHere, NodeView, Stands, base_at, home, log_at, log_or, slot_at}
use Rattle.node_core.specs.Sound.{IsNode, IsStore}
use Rattle.node_core.specs.Stores.{StoreView, shown_logs, shown_marks}
use Rattle.node_core.proofs.NodeViews.{node_of}
use Rattle.node_core.proofs.ShownFacts.{marks-long, shown-done, shown-store}
use Rattle.node_core.proofs.TotalLemmas.{eqb-apart}

abbrev new_log : Meaning → ℕ → LogView
new_log m object = record { object = object; state = first_object m object; done = [] }

pub logs-more : (m : Meaning) (home : ℕ → ℕ) (number n : ℕ) (logs more : List (Option LogView)) (slot : Option LogView) → logs ≡ first_logs m home number n → more ≡ logs ++ slot ∷ [] → slot ≡ first_log m home number n → more ≡ first_logs m home number (n + 1)
unfolding first_logs
logs-more m home number n logs more slot is adds slot_is =
    let next : suc n ≡ n + 1 = omega arith in
    adds ∙ (λ i. is i ++ slot_is i ∷ []) ∙ ap (first_logs m home number) next

pub log-here : (m : Meaning) (home : ℕ → ℕ) (number object : ℕ) → home object ≡ number → first_log m home number object ≡ Some (new_log m object)
log-here m home number object is = ap (λ b. cond b (Some (new_log m object)) None) (eq-eqb (home object) number is)

pub log-elsewhere : (m : Meaning) (home : ℕ → ℕ) (number object : ℕ) → (home object ≡ number → ⊥) → first_log m home number object ≡ None
log-elsewhere m home number object apart = ap (λ b. cond b (Some (new_log m object)) None) (eqb-apart (home object) number apart)

logs-long : (m : Meaning) (home : ℕ → ℕ) (number n : ℕ) → length (first_logs m home number n) ≡ n
unfolding first_logs
logs-long m home number zero = refl
logs-long m home number (suc n) = let more = logs-long m home number n in let long = length-append (first_logs m home number n) (first_log m home number n ∷ []) in omega arith

slot-first : (m : Meaning) (home : ℕ → ℕ) (number n object : ℕ) → object < n → slot_at (first_logs m home number n) object ≡ first_log m home number object
unfolding first_logs
slot-first m home number zero object lt = absurd (omega arith)
slot-first m home number (suc n) object lt = by_test (ltb object n) refl (λ below. slot-first m home number n object below)
  where
    by_test : (b : Bool) → ltb object n ≡ b → (object < n → slot_at (first_logs m home number n) object ≡ first_log m home number object)
        → slot_at (first_logs m home number n ++ first_log m home number n ∷ []) object ≡ first_log m home number object
    by_test true h smaller =
        let below = ltb-true object n h in
        let long = logs-long m home number n in
        get_or-append (first_logs m home number n) (first_log m home number n ∷ []) None object (omega arith) ∙ smaller below
    by_test false h smaller =
        let above = ltb-false object n h in
        let is : object ≡ n = omega arith in
        ap (λ k. slot_at (first_logs m home number n ++ first_log m home number n ∷ []) k) (is ∙ sym (logs-long m home number n))
        ∙ get_or-append_seam (first_logs m home number n) (first_log m home number n) [] None ∙ ap (first_log m home number) (sym is)

slot-past : (slots : List (Option LogView)) (object : ℕ) → length slots ≤ object → slot_at slots object ≡ None
slot-past [] zero le = refl
slot-past [] (suc object) le = refl
slot-past (slot ∷ slots) zero le = absurd (omega arith)
slot-past (slot ∷ slots) (suc object) le = slot-past slots object (omega arith)

module _ (m : Meaning) (homes : HomesView) (number : ℕ) where
  -- by whether an object is at home
  by_home : (P : Type 0) (object : ℕ) → (IsHome m (home_of homes) number object → P) → ((IsHome m (home_of homes) number object → ⊥) → P) → P
  by_home P object at elsewhere = by_tests (ltb object m.objects) refl (eqb (home_of homes object) number) refl
    where
      by_tests : (a : Bool) → ltb object m.objects ≡ a → (b : Bool) → eqb (home_of homes object) number ≡ b → P
      by_tests true h true g = at (ltb-true object m.objects h, eqb-true (home_of homes object) number g)
      by_tests true h false g = elsewhere (λ home. eqb-false (home_of homes object) number g home.1)
      by_tests false h b g = elsewhere (λ home. (let low = home.0 in let high = ltb-false object m.objects h in omega arith))

-- a node without events stands for the states of its objects
module _ {M : Type 0} (m : Meaning) (n : NodeView M) (states : ℕ → ObjectState) (cells : (object : ℕ) → IsHome m (home n) n.number object → IsTrue (m.lawful object (states object).cells))
    (states_are : (object : ℕ) → IsHome m (home n) n.number object → (log_at n.logs object).state ≡ states object) (none : (object : ℕ) → IsHome m (home n) n.number object → (log_at n.logs object).done ≡ [])
    (waiting : n.waiting ≡ []) where
  pub blank-stands : Stands m n (record { states = states; pending = [] }) (λ (object : ℕ). 0)
  unfolding log_of replay replay_of undone events_at Ascends
  blank-stands = record {
    stands = record {
      ordered = tt;
      homed = tt;
      cells = cells;
      early = λ o at. record { whole = refl; below = tt };
      logs = λ o at. (λ i. replay_of (states_are o at i) (none o at i));
      waiting_ordered = (let A : List Event → Type 0 = IsAscending in subst A (sym waiting) tt);
      waiting_homed = (let E : List Event → Type 0 = Each (λ (e : Event). IsHome m (home n) n.number e.key.dest) in subst E (sym waiting) tt);
      waiting = λ o at. ap (events_at o) waiting;
    };
    states = λ o at. sym (λ i. undone (states_are o at i) (none o at i));
    events = λ o at. sym (λ i. events_of (none o at i) ++ events_at o (waiting i));
  }

module _ (m : Meaning) (homes : HomesView) (number : ℕ) (logs : List (Option LogView)) (is : logs ≡ first_logs m (home_of homes) number m.objects) where
  pub new-here : (object : ℕ) → IsHome m (home_of homes) number object → slot_at logs object ≡ Some (new_log m object)
  new-here object at = ap (λ slots. slot_at slots object) is ∙ slot-first m (home_of homes) number m.objects object at.0 ∙ log-here m (home_of homes) number object at.1

  pub new-elsewhere : (object : ℕ) → (IsHome m (home_of homes) number object → ⊥) → slot_at logs object ≡ None
  new-elsewhere object apart = by_test (ltb object m.objects) refl
    where
      by_test : (b : Bool) → ltb object m.objects ≡ b → slot_at logs object ≡ None
      by_test true h =
          let below = ltb-true object m.objects h in
          ap (λ slots. slot_at slots object) is ∙ slot-first m (home_of homes) number m.objects object below ∙ log-elsewhere m (home_of homes) number object (λ same. apart (below, same))
      by_test false h = let long = ap length is ∙ logs-long m (home_of homes) number m.objects in let above = ltb-false object m.objects h in slot-past logs object (omega arith)

  new-log : (object : ℕ) → IsHome m (home_of homes) number object → log_at logs object ≡ new_log m object
  unfolding log_at
  new-log object at = ap log_or (new-here object at)

  pub new-done : (object : ℕ) → (log_at logs object).done ≡ []
  unfolding log_at
  new-done object = by_home m homes number ((log_at logs object).done ≡ []) object
      (λ at. ap (λ (l : LogView). l.done) (new-log object at))
      (λ apart. ap (λ slot. (log_or slot).done) (new-elsewhere object apart))

  new-home : (object : ℕ) → IsHere logs object → IsHome m (home_of homes) number object
  unfolding IsHere
  new-home object here = by_home m homes number (IsHome m (home_of homes) number object) object (λ at. at) (λ apart. absurd (let none = ap is_some (new-elsewhere object apart) in cc))

  pub new-base : (object : ℕ) → IsHome m (home_of homes) number object → base_at logs object ≡ first_object m object
  unfolding undone
  new-base object at = ap (λ (l : LogView). undone l.state l.done) (new-log object at)

  pub new-node : (t : Terms) (counts : Counts) → MeaningLaws m → number < homes.nodes → length homes.homes ≡ m.objects → counts ≡ record { processed = 0; undone = 0; committed = 0 } → IsNode m t number homes logs [] counts
  unfolding IsHere IsReplayed
  new-node t counts laws exists objects none = record {
    exists = exists;
    objects = objects;
    here = λ o at. ap is_some (new-here o at);
    only = λ o here. (new-home o here).1;
    lawful = record {
      long = ap length is ∙ logs-long m (home_of homes) number m.objects;
      lawful = λ o here. (let at = new-home o here in let C : ObjectState → Type 0 = λ s. IsTrue (m.lawful o s.cells) in subst C (sym (new-base o at)) (laws.first o at.0));
      replayed = λ o. (let R : List Done → Type 0 = λ ds. IsReplayed m (log_at logs o).object (log_at logs o).state ds in subst R (sym (new-done o)) tt);
      below = λ o. (let E : List Done → Type 0 = λ ds. Each (λ (e : Event). e.key.stamp < end_stamp t.end) (events_of ds) in subst E (sym (new-done o)) tt);
    };
    balance = (let B : Counts → Type 0 = λ c. c.processed ≡ (c.committed + c.undone + 0) % 2 ^ 64 in subst B (sym none) refl);
  }

  pub is-new : {M : Type 0} (model : M) (t : Terms) (s : StoreView) (counts : Counts) → MeaningLaws m → s.logs ≡ logs → s.marks ≡ [] → s.waiting ≡ [] → counts ≡ record { processed = 0; undone = 0; committed = 0 }
      → IsNewNode m (node_of model t number homes s 0 0 counts)
  is-new model t s counts laws logs_are marks_are waiting_are none =
      let done : (o : ℕ) → (log_at s.logs o).done ≡ [] = λ o. ap (λ slots. (log_at slots o).done) logs_are ∙ new-done o in
      let state : (o : ℕ) → IsHome m (home_of homes) number o → (log_at s.logs o).state ≡ first_object m o = λ o at. ap (λ slots. (log_at slots o).state) logs_are ∙ ap (λ (l : LogView). l.state) (new-log o at) in
      record {
        here = λ o at. ap (λ slots. slot_at slots o) logs_are ∙ new-here o at;
        others = λ o apart. ap (λ slots. slot_at slots o) logs_are ∙ new-elsewhere o apart;
        stands = blank-stands m (node_of model t number homes s 0 0 counts) (first_object m) (λ o at. laws.first o at.0) state (λ o at. done o) waiting_are;
        processed = ap (map (λ mark. mark.key)) marks_are;
        waiting = waiting_are;
        work = refl;
        met = refl;
        counts = none;
      }

-- a store without events
pub new-store : (l : LogsView) → AreSound l.log → ((object : ℕ) → is_some (state_in l.log.objects object) ≡ true → object < length l.homes.homes) → l.log.done ≡ [] → IsStore (shown_logs l) (shown_marks l) []
unfolding Ascends events_at
new-store l sound inside none =
    let A : List Done → Type 0 = λ ds. IsAscending (events_of ds ++ []) in
    let no_mark = ap length none in
    let long = marks-long l in
    shown-store l sound inside [] (λ o. subst A (sym (shown-done l sound inside o ∙ ap (dones_at o) none)) tt) tt tt (omega arith)
