-- A node's logs, out of one list: an event more, and what a node knows of all.
use Rattle.std.proofs.Common.{◌≡◌, ℕ, ◌<◌, Bool, true, false, ltb, ltb-true, ltb-false, arith, List, [], Option, Some, None, is_some, map, refl, sym, ap, ◌∙◌}
use Rattle.std.proofs.lemmas.Bool.{false_from_ne_true}
use Rattle.std.specs.List.{AllByRecursion as Each}
use Rattle.std.specs.Prelude.{filter, ◌==◌}
use Rattle.model_core.specs.declared.event.Event.{Event}
use Rattle.model_core.specs.Meaning.{Meaning}
use Rattle.sim_spec.specs.Firing.{ObjectState}
use Rattle.key_order.specs.Ascending.{Ascends}
use Rattle.key_order.proofs.AscendingLemmas.{Ascends-map}
use Rattle.key_order.proofs.EachLemmas.{Each-map}
use Rattle.key_order.proofs.FilterLemmas.{filter-map, filter-none}
use Rattle.object_log.specs.Dones.{Done}
use Rattle.object_log.specs.Logs.{LogView}
use Rattle.object_log.proofs.OwnLemmas.{is_there}
use Rattle.node_core.specs.Marks.{MarkView, code_of, mark_of}
use Rattle.node_core.specs.Moves.{IsProcessedAt}
use Rattle.node_core.specs.Nodes.{log_at, log_or, slot_at}
use Rattle.node_core.specs.Sound.{AreMarked}
use Rattle.node_core.proofs.LogLemmas.{processed_at}
use Rattle.object_log.specs.EventCalls.{HasProcessed}
use Rattle.object_log.specs.EventLogs.{EventLogView, done_key, dones_at, is_of, log_with, logs_upto, slot_of, state_in}
use Rattle.node_core.proofs.SlotLemmas.{slot-beyond, slot-is, written}
use Rattle.object_log.proofs.ProcessLemmas.{one-base, one-replay}

-- what a node knows at once of its processed events, object by object
pub marks-at : (object : ℕ) (ds : List Done) → filter (λ (mark : MarkView). mark.key.dest == object) (map mark_of ds) ≡ map mark_of (dones_at object ds)
marks-at object ds = filter-map mark_of (λ (mark : MarkView). mark.key.dest == object) ds

-- so a node's log is one event longer
pub node-processed : (m : Meaning) (n : ℕ) (old new : EventLogView) (event : Event) (least : ℕ) (fault : Option ℕ) → event.key.dest < n → (h : HasProcessed m old new event least)
    → fault ≡ code_of h.more.entry.verdict → IsProcessedAt m (logs_upto old n) (logs_upto new n) event least fault
node-processed m n old new event least fault inside h is =
    let was = log_with old.done event.key.dest h.was in
    let now = log_with new.done event.key.dest h.now in
    processed_at m (logs_upto old n) (logs_upto new n) was now event least fault (written event.key.dest n old new h.was h.now inside h.changes) h.more is (one-base m was now event least h.more) (one-replay m was now event least h.more)

module _ (log : EventLogView) (n : ℕ) (within : (object : ℕ) → is_some (state_in log.objects object) ≡ true → object < n) (here : Each (λ (d : Done). is_some (state_in log.objects d.event.key.dest) ≡ true) log.done) where
  none-away : (object : ℕ) → is_some (state_in log.objects object) ≡ false → dones_at object log.done ≡ []
  none-away object away =
      filter-none (is_of object) log.done
      (Each-map (λ (d : Done). is_some (state_in log.objects d.event.key.dest) ≡ true) (λ (d : Done). is_of object d ≡ false) log.done
      (λ d is. is_there d object (λ same. let moved = ap (λ o. is_some (state_in log.objects o)) same in cc)) here)

  slot-done : (object : ℕ) (s : Option ObjectState) → (is_some s ≡ false → dones_at object log.done ≡ []) → (log_or (slot_of log.done object s)).done ≡ dones_at object log.done
  slot-done object None none = sym (none refl)
  slot-done object (Some s) none = refl

  -- a node's log of an object is the list filtered by it
  pub log-done : (object : ℕ) → (log_at (logs_upto log n) object).done ≡ dones_at object log.done
  unfolding log_at
  log-done object = by_test (ltb object n) refl
    where
      by_test : (b : Bool) → ltb object n ≡ b → (log_or (slot_at (logs_upto log n) object)).done ≡ dones_at object log.done
      by_test true h = ap (λ (s : Option LogView). (log_or s).done) (slot-is log n object (ltb-true object n h)) ∙ slot-done object (state_in log.objects object) (none-away object)
      by_test false h =
          ap (λ (s : Option LogView). (log_or s).done) (slot-beyond log n object (ltb-false object n h))
          ∙ sym (none-away object (false_from_ne_true (is_some (state_in log.objects object)) (λ yes. let lt = within object yes in let ge = ltb-false object n h in absurd (omega arith))))

  -- what a node has marked is what it has processed
  pub log-marked : Ascends done_key log.done → AreMarked (logs_upto log n) (map mark_of log.done)
  log-marked up = record {
    ordered = Ascends-map (λ (mark : MarkView). mark.key) mark_of log.done up;
    parts = λ object. marks-at object log.done ∙ ap (map mark_of) (sym (log-done object));
  }
