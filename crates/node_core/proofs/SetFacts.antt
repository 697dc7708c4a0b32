-- An object is given a state, where nothing is processed.
use Rattle.std.proofs.Common.{◌≡◌, ◌≢◌, ℕ, ◌<◌, List, [], ◌++◌, length, map, Option, Some, None, is_some, true, refl, sym, ap, ◌∙◌, subst}
use Rattle.std.specs.Prelude.{IsTrue}
use Rattle.std.specs.List.{AllByRecursion as Each}
use Rattle.event_key.specs.Stamps.{end_stamp}
use Rattle.model_core.specs.declared.event.Event.{Event}
use Rattle.model_core.specs.Meaning.{Meaning}
use Rattle.key_order.specs.Ascending.{IsAscending}
use Rattle.sim_spec.specs.declared.terms.Terms.{Terms}
use Rattle.sim_spec.specs.Firing.{ObjectState}
use Rattle.sim_spec.specs.Replay.{events_at}
use Rattle.object_log.specs.Dones.{Done}
use Rattle.object_log.specs.EventLogs.{dones_at, logs_upto, slot_of, state_in}
use Rattle.object_log.specs.Keeping.{OnlyLastFailed}
use Rattle.object_log.specs.Logs.{LogView, events_of, undone}
use Rattle.object_log.specs.Replays.{IsLogOf, IsReplayed}
use Rattle.node_core.specs.Homes.{HomesView}
use Rattle.node_core.specs.Logged.{LogsView}
use Rattle.node_core.specs.Marks.{MarkView, mark_of}
use Rattle.node_core.specs.Moves.{IsMovedAt}
use Rattle.node_core.specs.Nodes.{Counts, IsHere, base_at, log_at, log_or, slot_at}
use Rattle.node_core.specs.Saves.{IsPutIn}
use Rattle.node_core.specs.Sound.{IsNode, IsStore}
use Rattle.node_core.specs.Stores.{shown_logs}
use Rattle.node_core.proofs.SlotLemmas.{length-logs, same-slots, slot-is}
use Rattle.node_core.proofs.StoreLemmas.{IsGoodAt, by_object, held-moved, still_here, was_here}

-- the slot of an object that is here
pub slot-here : (logs : List (Option LogView)) (object : ℕ) → IsHere logs object → slot_at logs object ≡ Some (log_at logs object)
unfolding IsHere log_at
slot-here logs object here = by_slot (slot_at logs object) here
  where
    by_slot : (slot : Option LogView) → is_some slot ≡ true → slot ≡ Some (log_or slot)
    by_slot None here = absurd (cc)
    by_slot (Some log) here = refl

module _ (object : ℕ) (s : ObjectState) (old new : LogsView) (inside : object < length old.homes.homes) (none : dones_at object old.log.done ≡ []) (homes : new.homes ≡ old.homes) (done : new.log.done ≡ old.log.done)
    (state : state_in new.log.objects object ≡ Some s) (others : (other : ℕ) → other ≢ object → state_in new.log.objects other ≡ state_in old.log.objects other) where
  -- an object is shown with the state that it is given
  pub put-shown : IsPutIn object (record { object = object; state = s; done = [] }) (shown_logs old) (shown_logs new)
  put-shown =
      let n = length old.homes.homes in
      let P : HomesView → Type 0 = λ hs. IsPutIn object (record { object = object; state = s; done = [] }) (shown_logs old) (logs_upto new.log (length hs.homes)) in
      subst P (sym homes)
      (record {
        log_is = slot-is new.log n object inside ∙ ap (slot_of new.log.done object) state ∙ ap (λ ds. Some (record { object = object; state = s; done = ds })) (ap (dones_at object) done ∙ none);
        others = λ other apart. same-slots old.log new.log n other (λ i. slot_of (done i) other (others other apart i));
        long = length-logs new.log n ∙ sym (length-logs old.log n);
      })

module _ (object : ℕ) (log : LogView) (old new : List (Option LogView)) (put : IsPutIn object log old new) (here : IsHere old object) (none : (log_at old object).done ≡ []) (number : log.object ≡ object) (fresh : log.done ≡ []) where
  log-put : log_at new object ≡ log
  unfolding log_at
  log-put = ap log_or put.log_is

  log-left : (other : ℕ) → other ≢ object → log_at new other ≡ log_at old other
  unfolding log_at
  log-left other apart = ap log_or (put.others other apart)

  done-same : (other : ℕ) → (log_at new other).done ≡ (log_at old other).done
  done-same other =
      let P : ℕ → Type 0 = λ o. (log_at new o).done ≡ (log_at old o).done in
      by_object P object other (ap (λ (l : LogView). l.done) log-put ∙ fresh ∙ sym none) (λ apart. ap (λ (l : LogView). l.done) (log-left other apart))

  module _ (marks : List MarkView) (waiting : List Event) (store : IsStore old marks waiting) where
    moved : IsMovedAt object old new
    unfolding IsHere
    moved = record {
      here = ap is_some put.log_is;
      others = put.others;
      long = put.long;
      number = ap (λ (l : LogView). l.object) log-put ∙ number ∙ sym (store.held.objects object here);
    }

    good : IsGoodAt new waiting object
    unfolding OnlyLastFailed
    good =
        let gone : (log_at new object).done ≡ [] = ap (λ (l : LogView). l.done) log-put ∙ fresh in
        let L : List Done → Type 0 = OnlyLastFailed in
        let A : List Done → Type 0 = λ ds. IsAscending (events_of ds ++ events_at object waiting) in
        let E : List Done → Type 0 = λ ds. Each (λ (e : Event). e.key.dest ≡ object) (events_of ds) in
        record {
          last = subst L (sym gone) tt;
          ordered = subst A (sym (done-same object)) (store.held.ordered object);
          own = subst E (sym gone) tt;
        }

    pub put-store : IsStore new marks waiting
    put-store = record {
      held = held-moved object old new waiting moved here store.held good;
      marked = record { ordered = store.marked.ordered; parts = λ o. store.marked.parts o ∙ ap (map mark_of) (sym (done-same o)) };
      few = store.few;
    }

    pub put-node : (m : Meaning) (t : Terms) (number : ℕ) (homes : HomesView) (counts : Counts) → IsNode m t number homes old marks counts → IsTrue (m.lawful object log.state.cells) → IsNode m t number homes new marks counts
    unfolding undone IsReplayed
    put-node m t number homes counts node lawful =
        let C : ℕ → Type 0 = λ o. IsHere new o → IsTrue (m.lawful o (base_at new o).cells) in
        let R : ℕ → Type 0 = λ o. IsLogOf m (log_at new o) in
        record {
          exists = node.exists;
          objects = node.objects;
          here = λ o at. still_here object o old new moved (node.here o at);
          only = λ o at. node.only o (was_here object o old new moved here at);
          lawful = record {
            long = put.long ∙ node.lawful.long;
            lawful = λ o. by_object C object o
                (λ at. let base : base_at new object ≡ log.state = ap (λ (l : LogView). undone l.state l.done) log-put ∙ ap (undone log.state) fresh in
                let P : ObjectState → Type 0 = λ s. IsTrue (m.lawful object s.cells) in subst P (sym base) lawful)
                (λ apart at. let P : LogView → Type 0 = λ l. IsTrue (m.lawful o (undone l.state l.done).cells) in
                subst P (sym (log-left o apart)) (node.lawful.lawful o (was_here object o old new moved here at)));
            replayed = λ o. by_object R object o
                (let P : List Done → Type 0 = λ ds. IsReplayed m (log_at new object).object (log_at new object).state ds in
                subst P (sym (ap (λ (l : LogView). l.done) log-put ∙ fresh)) tt)
                (λ apart. let P : LogView → Type 0 = λ l. IsLogOf m l in subst P (sym (log-left o apart)) (node.lawful.replayed o));
            below = λ o. let E : List Done → Type 0 = λ ds. Each (λ (e : Event). e.key.stamp < end_stamp t.end) (events_of ds) in subst E (sym (done-same o)) (node.lawful.below o);
          };
          balance = node.balance;
        }
