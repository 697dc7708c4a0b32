-- What a commit takes out of one list is the front of each object's log.
use Rattle.std.proofs.Common.{◌≡◌, ℕ, ◌<◌, Bool, true, false, not, List, ◌++◌, ltb, ltb-true, ltb-false, Option, Some, None, is_some, refl, sym, ap, ◌∙◌, subst}
use Rattle.std.proofs.lemmas.List.Elements.{filter-append}
use Rattle.std.specs.Prelude.{map}
use Rattle.std.specs.List.{AllByRecursion as Each}
use Rattle.event_key.specs.declared.key.Key.{Key}
use Rattle.key_order.specs.Ascending.{Ascends}
use Rattle.key_order.specs.Due.{is_due}
use Rattle.key_order.proofs.EachLemmas.{Each-filter}
use Rattle.model_core.specs.declared.event.Event.{Event}
use Rattle.model_core.specs.declared.note.Note.{Note}
use Rattle.sim_spec.specs.Firing.{Firing, ObjectState}
use Rattle.sim_spec.specs.Replay.{replay_after}
use Rattle.object_log.specs.Dones.{Done}
use Rattle.object_log.specs.Logs.{LogView}
use Rattle.object_log.specs.Parts.{due_of, left_of}
use Rattle.object_log.specs.Replays.{IsReplayed, replay_of}
use Rattle.object_log.specs.Tellings.{IsNoted}
use Rattle.node_core.specs.Handed.{IsLogLess}
use Rattle.node_core.specs.Nodes.{IsHere, log_at, log_or, slot_at}
use Rattle.object_log.specs.EventCalls.{HasCommitted}
use Rattle.object_log.specs.EventLogs.{EventLogView, done_key, dones_at, is_of, logs_upto, slot_of, state_in}
use Rattle.object_log.specs.Firings.{firings}
use Rattle.object_log.proofs.FrontLemmas.{replay-left}
use Rattle.object_log.proofs.FiringLemmas.{firings-at, firings-events, replay-firings}
use Rattle.node_core.proofs.ListedLogs.{log-done}
use Rattle.object_log.proofs.PrefixLemmas.{due-front}
use Rattle.node_core.proofs.SlotLemmas.{slot-beyond, slot-is}

slot-state : (a b : List Done) (object : ℕ) (s : Option ObjectState) → (log_or (slot_of a object s)).state ≡ (log_or (slot_of b object s)).state
slot-state a b object None = refl
slot-state a b object (Some s) = refl

slot-object : (a b : List Done) (object : ℕ) (s : Option ObjectState) → (log_or (slot_of a object s)).object ≡ (log_or (slot_of b object s)).object
slot-object a b object None = refl
slot-object a b object (Some s) = refl

slot-some : (a b : List Done) (object : ℕ) (s : Option ObjectState) → is_some (slot_of a object s) ≡ is_some (slot_of b object s)
slot-some a b object None = refl
slot-some a b object (Some s) = refl

module _ (n : ℕ) (old new : EventLogView) (same : new.objects ≡ old.objects) (object : ℕ) where
  -- where the objects are as they were, so are all things of their logs but what is processed
  by-slots : {A : Type 0} (f : Option LogView → A) → ((s : Option ObjectState) → f (slot_of new.done object s) ≡ f (slot_of old.done object s)) → f (slot_at (logs_upto new n) object) ≡ f (slot_at (logs_upto old n) object)
  by-slots f each = by_test (ltb object n) refl
    where
      by_test : (b : Bool) → ltb object n ≡ b → f (slot_at (logs_upto new n) object) ≡ f (slot_at (logs_upto old n) object)
      by_test true h =
          let inside = ltb-true object n h in
          ap f (slot-is new n object inside) ∙ ap (λ os. f (slot_of new.done object (state_in os object))) same ∙ each (state_in old.objects object) ∙ ap f (sym (slot-is old n object inside))
      by_test false h = let beyond = ltb-false object n h in ap f (slot-beyond new n object beyond ∙ sym (slot-beyond old n object beyond))

module _ (n : ℕ) (nodes : ℕ) (home : ℕ → ℕ) (horizon : ℕ) (cut : Option Key) (old new : EventLogView) (told : List (Key × Note)) (out : List (List Event)) (c : HasCommitted nodes home horizon cut old new told out)
    (up : Ascends done_key old.done) (within : (object : ℕ) → is_some (state_in old.objects object) ≡ true → object < n)
    (here : Each (λ (d : Done). is_some (state_in old.objects d.event.key.dest) ≡ true) old.done) (noted : Each (λ (d : Done). IsNoted d.verdict) (due_of horizon cut old.done)) where
  abbrev due : List Done
  due = due_of horizon cut old.done

  abbrev rest : List Done
  rest = left_of horizon cut old.done

  pub states : ℕ → ObjectState
  unfolding log_at
  states object = (log_at (logs_upto old n) object).state

  new-done : (object : ℕ) → (log_at (logs_upto new n) object).done ≡ dones_at object rest
  new-done object =
      let W : List _ → Type 0 = λ os. (object : ℕ) → is_some (state_in os object) ≡ true → object < n in
      let H : List _ → Type 0 = λ os. Each (λ (d : Done). is_some (state_in os d.event.key.dest) ≡ true) new.done in
      let D : List Done → Type 0 = Each (λ (d : Done). is_some (state_in old.objects d.event.key.dest) ≡ true) in
      let left_here = subst D (sym c.done) (Each-filter (λ (d : Done). is_some (state_in old.objects d.event.key.dest) ≡ true) (λ d. not (is_due horizon cut d.event.key)) old.done here) in
      log-done new n (subst W (sym c.objects) within) (subst H (sym c.objects) left_here) object ∙ ap (dones_at object) c.done

  parts : (object : ℕ) → (log_at (logs_upto old n) object).done ≡ dones_at object due ++ dones_at object rest
  parts object = log-done old n within here object ∙ ap (dones_at object) (due-front horizon cut old.done up) ∙ filter-append (is_of object) due rest

  same-state : (object : ℕ) → (log_at (logs_upto new n) object).state ≡ (log_at (logs_upto old n) object).state
  unfolding log_at
  same-state object = by-slots n old new c.objects object (λ s. (log_or s).state) (slot-state new.done old.done object)

  same-object : (object : ℕ) → (log_at (logs_upto new n) object).object ≡ (log_at (logs_upto old n) object).object
  unfolding log_at
  same-object object = by-slots n old new c.objects object (λ s. (log_or s).object) (slot-object new.done old.done object)

  same-here : (object : ℕ) → is_some (slot_at (logs_upto new n) object) ≡ is_some (slot_at (logs_upto old n) object)
  same-here object = by-slots n old new c.objects object is_some (slot-some new.done old.done object)

  own-noted : (object : ℕ) → Each (λ (d : Done). IsNoted d.verdict) (dones_at object due)
  own-noted object = Each-filter (λ (d : Done). IsNoted d.verdict) (is_of object) due noted

  -- the front of each object's log went, and was taken out
  pub log-less : (object : ℕ) → IsLogLess (logs_upto old n) (logs_upto new n) (firings states rest due) object
  unfolding IsHere states
  log-less object =
      let gone = dones_at object due in
      let left = dones_at object rest in
      let s = (log_at (logs_upto old n) object).state in
      let own = firings-at object states rest due in
      record {
        gone = gone;
        front = parts object ∙ ap (λ zs. gone ++ zs) (sym (new-done object));
        noted = own-noted object;
        state = same-state object;
        events = ap (λ fs. map (λ (f : Event × Firing). f.0) fs) own ∙ firings-events s gone left (own-noted object);
        told = ap (replay_of s) (parts object) ∙ replay-firings s gone left (own-noted object) ∙ (λ i. replay_after (sym own i) (replay_of (sym (same-state object) i) (sym (new-done object) i)));
        here = λ h. same-here object ∙ h;
        back = λ h. sym (same-here object) ∙ h;
        replay = λ m is_log. (let P : ℕ → Type 0 = λ o. IsReplayed m o (log_at (logs_upto new n) object).state (log_at (logs_upto new n) object).done in
            let Q : ObjectState → Type 0 = λ t. IsReplayed m (log_at (logs_upto old n) object).object t (log_at (logs_upto new n) object).done in
            let R : List Done → Type 0 = λ ds. IsReplayed m (log_at (logs_upto old n) object).object s ds in
            subst P (sym (same-object object)) (subst Q (sym (same-state object)) (subst R (sym (new-done object)) (replay-left m (log_at (logs_upto old n) object).object s (log_at (logs_upto old n) object).done gone left (parts object) is_log))));
      }
