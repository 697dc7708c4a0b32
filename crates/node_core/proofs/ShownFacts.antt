-- What a store shows of its logs, once they tell what is true of them.
use Rattle.std.proofs.Common.{◌≡◌, ℕ, ◌+◌, ◌<◌, ◌^◌, Bool, true, false, List, length, ltb, ltb-true, ltb-false, Option, Some, None, is_some, refl, sym, ap, ◌∙◌, subst}
use Rattle.std.specs.List.{AllByRecursion as Each}
use Rattle.std.specs.Prelude.{IfSome}
use Rattle.std.proofs.lemmas.List.{length-map}
use Rattle.model_core.specs.declared.event.Event.{Event}
use Rattle.sim_spec.specs.Firing.{ObjectState}
use Rattle.key_order.specs.Ascending.{IsAscending}
use Rattle.object_log.specs.EventLogs.{EventLogView, dones_at, log_with, slot_of, state_in}
use Rattle.object_log.specs.Keeping.{OnlyLastFailed}
use Rattle.object_log.specs.Logs.{LogView, events_of}
use Rattle.object_log.specs.Objects.{AreSound}
use Rattle.node_core.specs.Logged.{LogsView}
use Rattle.node_core.specs.Marks.{mark_of}
use Rattle.node_core.specs.Nodes.{IsHere, log_at, log_or, pending_at}
use Rattle.node_core.specs.Sound.{AreMarked, IsStore}
use Rattle.node_core.specs.Stores.{shown_logs, shown_marks}
use Rattle.node_core.proofs.ListedFacts.{sound-last, sound-objects, sound-own}
use Rattle.node_core.proofs.ListedLogs.{log-done, log-marked}
use Rattle.node_core.proofs.SlotLemmas.{length-logs, slot-beyond, slot-is}

pub shown-long : (l : LogsView) → length (shown_logs l) ≡ length l.homes.homes
shown-long l = length-logs l.log (length l.homes.homes)

pub marks-long : (l : LogsView) → length (shown_marks l) ≡ length l.log.done
marks-long l = length-map l.log.done mark_of

slot-some : (log : EventLogView) (object : ℕ) (s : Option ObjectState) → is_some (slot_of log.done object s) ≡ is_some s
slot-some log object None = refl
slot-some log object (Some s) = refl

-- what is shown to be here is here
pub state-here : (l : LogsView) (object : ℕ) → IsHere (shown_logs l) object → is_some (state_in l.log.objects object) ≡ true
unfolding IsHere
state-here l object at = by_test (ltb object (length l.homes.homes)) refl
  where
    by_test : (b : Bool) → ltb object (length l.homes.homes) ≡ b → is_some (state_in l.log.objects object) ≡ true
    by_test true h = sym (slot-some l.log object (state_in l.log.objects object)) ∙ ap is_some (sym (slot-is l.log (length l.homes.homes) object (ltb-true object (length l.homes.homes) h))) ∙ at
    by_test false h = let none = ap is_some (slot-beyond l.log (length l.homes.homes) object (ltb-false object (length l.homes.homes) h)) in absurd (cc)

-- the log of an object with this state
pub shown-log : (l : LogsView) (object : ℕ) (s : ObjectState) → object < length l.homes.homes → state_in l.log.objects object ≡ Some s → log_at (shown_logs l) object ≡ log_with l.log.done object s
unfolding log_at
shown-log l object s inside is = ap log_or (slot-is l.log (length l.homes.homes) object inside) ∙ ap (λ (t : Option ObjectState). log_or (slot_of l.log.done object t)) is

module _ (l : LogsView) (sound : AreSound l.log) (inside : (object : ℕ) → is_some (state_in l.log.objects object) ≡ true → object < length l.homes.homes) where
  -- what is here is shown
  pub shown-here : (object : ℕ) → is_some (state_in l.log.objects object) ≡ true → IsHere (shown_logs l) object
  unfolding IsHere
  shown-here object at = ap is_some (slot-is l.log (length l.homes.homes) object (inside object at)) ∙ slot-some l.log object (state_in l.log.objects object) ∙ at

  -- what is true of its state is true of what is shown of it
  pub if-shown : (P : ObjectState → Type 0) (object : ℕ) → IsHere (shown_logs l) object → IfSome (state_in l.log.objects object) P → P (log_at (shown_logs l) object).state
  if-shown P object at = by_state (state_in l.log.objects object) refl (state-here l object at)
    where
      by_state : (s : Option ObjectState) → state_in l.log.objects object ≡ s → is_some (state_in l.log.objects object) ≡ true → IfSome s P → P (log_at (shown_logs l) object).state
      by_state None is here all = absurd (cc)
      by_state (Some s) is here all = subst P (ap (λ (g : LogView). g.state) (sym (shown-log l object s (inside object here) is))) all

  pub shown-if : (P : ObjectState → Type 0) (object : ℕ) → P (log_at (shown_logs l) object).state → IfSome (state_in l.log.objects object) P
  shown-if P object all = by_state (state_in l.log.objects object) refl
    where
      by_state : (s : Option ObjectState) → state_in l.log.objects object ≡ s → IfSome s P
      by_state None is = tt
      by_state (Some s) is = subst P (ap (λ (g : LogView). g.state) (shown-log l object s (inside object (ap is_some is)) is)) all

  pub shown-done : (object : ℕ) → (log_at (shown_logs l) object).done ≡ dones_at object l.log.done
  shown-done = log-done l.log (length l.homes.homes) inside sound.here

  pub shown-marked : AreMarked (shown_logs l) (shown_marks l)
  shown-marked = log-marked l.log (length l.homes.homes) inside sound.here sound.ordered

  pub shown-objects : (object : ℕ) → IsHere (shown_logs l) object → (log_at (shown_logs l) object).object ≡ object
  shown-objects = sound-objects l.log (length l.homes.homes) inside sound.here

  pub shown-last : (object : ℕ) → OnlyLastFailed (log_at (shown_logs l) object).done
  shown-last = sound-last l.log (length l.homes.homes) inside sound.here sound.last

  pub shown-own : (object : ℕ) → Each (λ (e : Event). e.key.dest ≡ object) (events_of (log_at (shown_logs l) object).done)
  shown-own = sound-own l.log (length l.homes.homes) inside sound.here

  -- so a store is sound once what waits is in its place
  pub shown-store : (waiting : List Event) → ((object : ℕ) → IsAscending (pending_at (shown_logs l) waiting object)) → IsAscending waiting → Each (λ (e : Event). IsHere (shown_logs l) e.key.dest) waiting
      → length (shown_marks l) + length waiting < 2 ^ 60 → IsStore (shown_logs l) (shown_marks l) waiting
  shown-store waiting ordered ascending here few = record {
    held = record { objects = shown-objects; last = shown-last; ordered = ordered; own = shown-own; waiting_ordered = ascending; waiting_here = here };
    marked = shown-marked;
    few = few;
  }
