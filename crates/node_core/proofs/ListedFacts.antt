-- What a node asks of its logs, out of one list.
use Rattle.std.proofs.Common.{◌≡◌, ℕ, ◌<◌, Bool, true, false, cond, List, [], ◌∷◌, ◌++◌, map, eqb-true, ltb, ltb-true, ltb-false, Option, Some, None, is_some, refl, sym, ap, ◌∙◌, subst}
use Rattle.std.specs.List.{AllByRecursion as Each}
use Rattle.event_key.specs.declared.key.Key.{Key}
use Rattle.model_core.specs.declared.event.Event.{Event}
use Rattle.sim_spec.specs.Firing.{Firing, ObjectState}
use Rattle.object_log.specs.Dones.{Done}
use Rattle.object_log.specs.declared.done.Verdict.{Verdict}
use Rattle.object_log.specs.declared.done.Verdict.TheVariants.{Noted, Failed}
use Rattle.object_log.specs.Keeping.{OnlyLastFailed}
use Rattle.object_log.specs.Logs.{LogView, events_of, keys_of, undone}
use Rattle.object_log.specs.Parts.{due_of, left_of}
use Rattle.object_log.specs.Tellings.{IsNoted}
use Rattle.node_core.specs.Nodes.{IsHere, log_at, log_or, slot_at}
use Rattle.key_order.specs.Ascending.{Ascends}
use Rattle.std.proofs.lemmas.List.{map-append}
use Rattle.object_log.specs.EventLogs.{EventLogView, done_key, dones_at, is_of, logs_upto, slot_of, state_in}
use Rattle.object_log.specs.Firings.{fired_of, firings}
use Rattle.node_core.proofs.ListedLogs.{log-done}
use Rattle.object_log.proofs.PrefixLemmas.{due-front}
use Rattle.node_core.proofs.SlotLemmas.{slot-beyond, slot-is}

own-each : (object : ℕ) (ds : List Done) → Each (λ (e : Event). e.key.dest ≡ object) (events_of (dones_at object ds))
own-each object [] = tt
own-each object (d ∷ ds) = by_test (is_of object d) refl (own-each object ds)
  where
    by_test : (b : Bool) → is_of object d ≡ b → Each (λ (e : Event). e.key.dest ≡ object) (events_of (dones_at object ds)) → Each (λ (e : Event). e.key.dest ≡ object) (events_of (cond b (d ∷ dones_at object ds) (dones_at object ds)))
    by_test true h more = (eqb-true d.event.key.dest object h, more)
    by_test false h more = more

slot-number : (ds : List Done) (object : ℕ) (s : Option ObjectState) → is_some (slot_of ds object s) ≡ true → (log_or (slot_of ds object s)).object ≡ object
slot-number ds object None here = absurd (cc)
slot-number ds object (Some s) here = refl

module _ (log : EventLogView) (n : ℕ) (within : (object : ℕ) → is_some (state_in log.objects object) ≡ true → object < n) (here : Each (λ (d : Done). is_some (state_in log.objects d.event.key.dest) ≡ true) log.done) where
  pub sound-objects : (object : ℕ) → IsHere (logs_upto log n) object → (log_at (logs_upto log n) object).object ≡ object
  unfolding IsHere log_at
  sound-objects object at = by_test (ltb object n) refl
    where
      by_test : (b : Bool) → ltb object n ≡ b → (log_or (slot_at (logs_upto log n) object)).object ≡ object
      by_test true h =
          let is = slot-is log n object (ltb-true object n h) in
          ap (λ (s : Option LogView). (log_or s).object) is ∙ slot-number log.done object (state_in log.objects object) (sym (ap is_some is) ∙ at)
      by_test false h = let none = ap is_some (slot-beyond log n object (ltb-false object n h)) in absurd (let yes = at in cc)

  pub sound-own : (object : ℕ) → Each (λ (e : Event). e.key.dest ≡ object) (events_of (log_at (logs_upto log n) object).done)
  sound-own object = let P : List Done → Type 0 = λ ds. Each (λ (e : Event). e.key.dest ≡ object) (events_of ds) in subst P (sym (log-done log n within here object)) (own-each object log.done)

  pub sound-last : ((object : ℕ) → OnlyLastFailed (dones_at object log.done)) → (object : ℕ) → OnlyLastFailed (log_at (logs_upto log n) object).done
  sound-last last object = subst OnlyLastFailed (sym (log-done log n within here object)) (last object)

-- the keys of what a commit takes, and that it is due
pub firings-keys : (states : ℕ → ObjectState) (rest ds : List Done) → Each (λ (d : Done). IsNoted d.verdict) ds → map (λ (f : Event × Firing). f.0.key) (firings states rest ds) ≡ keys_of ds
unfolding firings
firings-keys states rest [] noted = refl
firings-keys states rest (d ∷ ds) noted = by_verdict d.verdict noted.0 (undone (states d.event.key.dest) (dones_at d.event.key.dest (ds ++ rest))) (firings-keys states rest ds noted.1)
  where
    by_verdict : (v : Verdict) → IsNoted v → (later : ObjectState) → map (λ (f : Event × Firing). f.0.key) (firings states rest ds) ≡ keys_of ds → map (λ (f : Event × Firing). f.0.key) (fired_of later d v ++ firings states rest ds) ≡ d.event.key ∷ keys_of ds
    by_verdict (Noted note) one later more = ap (λ ks. d.event.key ∷ ks) more
    by_verdict (Failed code) one later more = absurd one

pub firings-each : (P : Key → Type 0) (states : ℕ → ObjectState) (rest ds : List Done) → Each (λ (d : Done). P d.event.key) ds → Each (λ (f : Event × Firing). P f.0.key) (firings states rest ds)
unfolding firings
firings-each P states rest [] all = tt
firings-each P states rest (d ∷ ds) all = by_verdict d.verdict (undone (states d.event.key.dest) (dones_at d.event.key.dest (ds ++ rest))) (firings-each P states rest ds all.1)
  where
    by_verdict : (v : Verdict) → (later : ObjectState) → Each (λ (f : Event × Firing). P f.0.key) (firings states rest ds) → Each (λ (f : Event × Firing). P f.0.key) (fired_of later d v ++ firings states rest ds)
    by_verdict (Noted note) later more = (all.0, more)
    by_verdict (Failed code) later more = more

-- what was processed is what was taken, and what is left
pub taken-keys : (horizon : ℕ) (cut : Option Key) (states : ℕ → ObjectState) (rest ds : List Done) → Ascends done_key ds → Each (λ (d : Done). IsNoted d.verdict) (due_of horizon cut ds)
    → keys_of ds ≡ map (λ (f : Event × Firing). f.0.key) (firings states rest (due_of horizon cut ds)) ++ keys_of (left_of horizon cut ds)
taken-keys horizon cut states rest ds up noted =
    ap keys_of (due-front horizon cut ds up)
    ∙ map-append (λ (d : Done). d.event.key) (due_of horizon cut ds) (left_of horizon cut ds)
    ∙ ap (λ ks. ks ++ keys_of (left_of horizon cut ds)) (sym (firings-keys states rest (due_of horizon cut ds) noted))
