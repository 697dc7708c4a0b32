-- All that is due of a store is handed out at once.
use Rattle.std.proofs.Common.{◌≡◌, ℕ, ◌*◌, ◌<◌, ◌≤◌, ◌^◌, Bool, true, false, cond, not, List, [], ◌∷◌, ◌++◌, length, map, Option, None, is_some, refl, sym, ap, ◌∙◌, subst, arith, append_assoc, length-append}
use Rattle.std.specs.Prelude.{filter, slice_index_or, IfSome, IsPermutation}
use Rattle.std.specs.List.{AllByRecursion as Each}
use Rattle.std.proofs.lemmas.Bool.{not-true}
use Rattle.std.proofs.lemmas.List.{length-map}
use Rattle.std.proofs.lemmas.List.Sorted.{IsPermutation-refl}
use Rattle.event_key.specs.declared.key.Key.{Key}
use Rattle.model_core.specs.declared.event.Event.{Event}
use Rattle.model_core.specs.declared.note.Note.{Note}
use Rattle.sim_spec.specs.Cut.{emissions_of}
use Rattle.sim_spec.specs.Firing.{Firing, ObjectState}
use Rattle.sim_spec.specs.Replay.{done_at, events_at}
use Rattle.key_order.specs.Ascending.{Ascends, IsAscending, key_of}
use Rattle.key_order.specs.Due.{is_due}
use Rattle.key_order.proofs.AscendingLemmas.{Ascends-back}
use Rattle.key_order.proofs.DueLemmas.{none-due}
use Rattle.key_order.proofs.EachLemmas.{Each-filter, Each-map}
use Rattle.key_order.proofs.FilterLemmas.{filter-none, filter-passes, length-filter_le}
use Rattle.object_log.specs.Dones.{Done}
use Rattle.object_log.specs.declared.done.Verdict.{Verdict}
use Rattle.object_log.specs.declared.done.Verdict.TheVariants.{Noted, Failed}
use Rattle.object_log.specs.EventCalls.{HasCommitted}
use Rattle.object_log.specs.EventLogs.{EventLogView, ObjectView, done_key, dones_at, is_of, logs_upto, state_in}
use Rattle.object_log.specs.Firings.{firings}
use Rattle.object_log.specs.Logs.{events_of as log_events, fault_of, fault_or, held_of}
use Rattle.object_log.specs.Objects.{AreSound}
use Rattle.object_log.specs.Parts.{due_of, left_of}
use Rattle.object_log.specs.Tellings.{IsNoted}
use Rattle.object_log.proofs.FiringLemmas.{firings-sent, firings-told}
use Rattle.object_log.proofs.OwnLemmas.{is_here}
use Rattle.object_log.proofs.PrefixLemmas.{due-front}
use Rattle.world_spec.specs.Share.{is_at}
use Rattle.node_core.specs.Handed.{AreTaken, CanCommit, HasHandedOut, IsFaultLate, IsLogLess}
use Rattle.node_core.specs.Homes.{HomesView, home_of}
use Rattle.node_core.specs.Marks.{first_fault, first_mark, mark_of}
use Rattle.node_core.specs.Nodes.{IsHere, log_at}
use Rattle.node_core.specs.Rows.{keys_of}
use Rattle.node_core.specs.Sound.{IsStore}
use Rattle.node_core.specs.Logged.{LogsView}
use Rattle.node_core.specs.Stores.{StoreView, shown_logs, shown_marks}
use Rattle.speedes_queue.specs.Queues.{QueueView, pending_of}
use Rattle.node_core.proofs.ListedCommit.{log-less, states}
use Rattle.node_core.proofs.ListedFacts.{firings-each, firings-keys, taken-keys}
use Rattle.node_core.proofs.MarkLemmas.{fault-code, marked-keys}
use Rattle.node_core.proofs.ShownFacts.{marks-long, shown-done, shown-here, shown-long, shown-store}
use Rattle.node_core.proofs.StoreLemmas.{events_of-append, store_of}
use Rattle.event_log.proofs.WovenFacts.{held-each}

-- where the first fault isn't due, all that is due went
pub due-went : (horizon : ℕ) (cut : Option Key) (ds : List Done) → Ascends done_key ds → IsFaultLate horizon cut (fault_of ds) → fault_of (due_of horizon cut ds) ≡ None
unfolding Ascends fault_of
due-went horizon cut [] up late = refl
due-went horizon cut (d ∷ ds) up late = by_test (is_due horizon cut d.event.key) refl (due-went horizon cut ds up.1)
  where
    by_verdict : (v : Verdict) → is_due horizon cut d.event.key ≡ true → IsFaultLate horizon cut (fault_or d.event.key v (fault_of ds)) → (IsFaultLate horizon cut (fault_of ds) → fault_of (due_of horizon cut ds) ≡ None)
        → fault_or d.event.key v (fault_of (due_of horizon cut ds)) ≡ None
    by_verdict (Noted note) due late more = more late
    by_verdict (Failed code) due late more = absurd (cc)

    by_test : (b : Bool) → is_due horizon cut d.event.key ≡ b → (IsFaultLate horizon cut (fault_of ds) → fault_of (due_of horizon cut ds) ≡ None) → fault_of (cond b (d ∷ due_of horizon cut ds) (due_of horizon cut ds)) ≡ None
    by_test true h more = by_verdict d.verdict h late more
    by_test false h more = ap fault_of (filter-none (λ (x : Done). is_due horizon cut x.event.key) ds (none-due done_key horizon cut d.event.key ds h up.0))

-- where none failed, each went
each-noted : (ds : List Done) → fault_of ds ≡ None → Each (λ (d : Done). IsNoted d.verdict) ds
unfolding fault_of
each-noted [] none = tt
each-noted (d ∷ ds) none = by_verdict d.verdict none (each-noted ds)
  where
    by_verdict : (v : Verdict) → fault_or d.event.key v (fault_of ds) ≡ None → (fault_of ds ≡ None → Each (λ (d : Done). IsNoted d.verdict) ds) → IsNoted v × Each (λ (d : Done). IsNoted d.verdict) ds
    by_verdict (Noted note) none more = (tt, more none)
    by_verdict (Failed code) none more = absurd (cc)

-- the fault is among what is left
fault-behind : (gone rest : List Done) → Each (λ (d : Done). IsNoted d.verdict) gone → fault_of (gone ++ rest) ≡ fault_of rest
unfolding fault_of
fault-behind [] rest noted = refl
fault-behind (d ∷ gone) rest noted = by_verdict d.verdict noted.0 (fault-behind gone rest noted.1)
  where
    by_verdict : (v : Verdict) → IsNoted v → fault_of (gone ++ rest) ≡ fault_of rest → fault_or d.event.key v (fault_of (gone ++ rest)) ≡ fault_of rest
    by_verdict (Noted note) went more = more
    by_verdict (Failed code) went more = absurd went

-- what is true of the events of each object is true of all
pub each-object : (P : Done → Type 0) (ds : List Done) → ((object : ℕ) → Each P (dones_at object ds)) → Each P ds
each-object P [] all = tt
each-object P (d ∷ ds) all =
    let object = d.event.key.dest in
    let C : Bool → Type 0 = λ b. Each P (cond b (d ∷ dones_at object ds) (dones_at object ds)) in
    ((subst C (is_here d object refl) (all object)).0, each-object P ds (λ o. rest (is_of o d) (dones_at o ds) (all o)))
  where
    rest : (b : Bool) (own : List Done) → Each P (cond b (d ∷ own) own) → Each P own
    rest true own all = all.1
    rest false own all = all

held-few : (ds : List Done) → Each (λ (d : Done). length d.sends ≤ 8) ds → length (held_of ds) ≤ 8 * length ds
unfolding held_of
held-few [] few = omega arith
held-few (d ∷ ds) few = let long = length-append d.sends (held_of ds) in let own = few.0 in let more = held-few ds few.1 in omega arith

first-left : (horizon : ℕ) (cut : Option Key) (ds : List Done) → Each (λ (d : Done). not (is_due horizon cut d.event.key) ≡ true) ds → IfSome (first_mark (map mark_of ds)) (λ key. is_due horizon cut key ≡ false)
unfolding first_mark
first-left horizon cut [] all = tt
first-left horizon cut (d ∷ ds) all = not-true (is_due horizon cut d.event.key) all.0

module _ (l : LogsView) (queue : QueueView) (sound : AreSound l.log) (inside : (object : ℕ) → is_some (state_in l.log.objects object) ≡ true → object < length l.homes.homes) where
  module _ (horizon : ℕ) (cut : Option Key) (can : CanCommit l.homes horizon cut (store_of l queue)) where
    pub commits-went : fault_of (due_of horizon cut l.log.done) ≡ None
    commits-went = let L : Option (Key × ℕ) → Type 0 = IsFaultLate horizon cut in due-went horizon cut l.log.done sound.ordered (subst L (fault-code l.log.done) can.late)

    each-few : Each (λ (d : Done). length d.sends ≤ 8) l.log.done
    each-few =
        let P : Done → Type 0 = λ d. length d.sends ≤ 8 in
        let E : List Done → Type 0 = Each P in
        each-object P l.log.done (λ o. subst E (shown-done l sound inside o) (can.few_sends o))

    pub commits-few : length (held_of l.log.done) < 2 ^ 60
    commits-few = let all = held-few l.log.done each-few in let long = marks-long l in let few = can.few in omega arith

    pub commits-known : Each (λ (e : Event). e.key.dest < length l.homes.homes) (held_of (due_of horizon cut l.log.done))
    commits-known =
        let P : Event → Type 0 = λ e. e.key.dest < length l.homes.homes in
        let Q : Done → Type 0 = λ d. Each P d.sends in
        let E : List Done → Type 0 = Each Q in
        held-each P (due_of horizon cut l.log.done)
        (Each-filter Q (λ d. is_due horizon cut d.event.key) l.log.done (each-object Q l.log.done (λ o. subst E (shown-done l sound inside o) (can.homed o))))

    module _ (new : EventLogView) (told : List (Key × Note)) (out : List (List Event)) (c : HasCommitted l.homes.nodes (home_of l.homes) horizon cut l.log new told out) where
      abbrev due : List Done
      due = due_of horizon cut l.log.done

      abbrev left : List Done
      left = left_of horizon cut l.log.done

      abbrev later : LogsView
      later = record { homes = l.homes; log = new }

      noted : Each (λ (d : Done). IsNoted d.verdict) due
      noted = each-noted due commits-went

      states_of : ℕ → ObjectState
      states_of = states (length l.homes.homes) l.homes.nodes (home_of l.homes) horizon cut l.log new told out c sound.ordered inside sound.here noted

      abbrev done : List (Event × Firing)
      done = firings states_of left due

      less : (object : ℕ) → IsLogLess (shown_logs l) (shown_logs later) done object
      unfolding states_of
      less object = log-less (length l.homes.homes) l.homes.nodes (home_of l.homes) horizon cut l.log new told out c sound.ordered inside sound.here noted object

      here-all : Each (λ (d : Done). IsHere (shown_logs l) d.event.key.dest) l.log.done
      here-all = Each-map (λ (d : Done). is_some (state_in l.log.objects d.event.key.dest) ≡ true) (λ (d : Done). IsHere (shown_logs l) d.event.key.dest) l.log.done
          (λ d is. shown-here l sound inside d.event.key.dest is) sound.here

      taken : AreTaken horizon cut (store_of l queue) (store_of later queue) done
      taken =
          let M : List Done → Type 0 = λ ds. keys_of (map mark_of l.log.done) ≡ map (λ (d : Event × Firing). d.0.key) done ++ keys_of (map mark_of ds) in
          record {
            logs = less;
            due = firings-each (λ (k : Key). is_due horizon cut k ≡ true) states_of left due (filter-passes (λ (d : Done). is_due horizon cut d.event.key) l.log.done);
            here = firings-each (λ (k : Key). IsHere (shown_logs l) k.dest) states_of left due
                (Each-filter (λ (d : Done). IsHere (shown_logs l) d.event.key.dest) (λ (d : Done). is_due horizon cut d.event.key) l.log.done here-all);
            keys = subst M (sym c.done)
                (marked-keys l.log.done ∙ taken-keys horizon cut states_of left l.log.done sound.ordered noted ∙ ap (λ ks. map (λ (d : Event × Firing). d.0.key) done ++ ks) (sym (marked-keys left)));
            fault = ap (λ ds. first_fault (map mark_of ds)) c.done ∙ fault-code left ∙ sym (fault-behind due left noted)
                ∙ ap fault_of (sym (due-front horizon cut l.log.done sound.ordered)) ∙ sym (fault-code l.log.done);
            few = (let sent = ap length (firings-sent states_of left due noted) in
                let all = held-few due (Each-filter (λ (d : Done). length d.sends ≤ 8) (λ (d : Done). is_due horizon cut d.event.key) l.log.done each-few) in
                let keys = ap length (firings-keys states_of left due noted) in
                let one = length-map done (λ (d : Event × Firing). d.0.key) in
                let two = length-map due (λ (d : Done). d.event.key) in
                omega arith);
            long = shown-long later ∙ sym (shown-long l);
            waiting = refl;
            spare = refl;
          }

      pub handed-out : (homes : HomesView) → homes ≡ l.homes → HasHandedOut l.homes horizon cut (store_of l queue) (store_of (record { homes = homes; log = new }) queue) told out
      handed-out homes same =
          let H : HomesView → Type 0 = λ h. HasHandedOut l.homes horizon cut (store_of l queue) (store_of (record { homes = h; log = new }) queue) told out in
          subst H (sym same) (record {
            done = done;
            taken = taken;
            tells = record {
              told_is = c.told_is ∙ sym (firings-told states_of left due);
              long = c.long;
              parcels = λ to within. (let P : List Event → Type 0 = λ es. IsPermutation (filter (is_at (home_of l.homes) to) es) (slice_index_or out to []) in
                  subst P (sym (firings-sent states_of left due noted)) (c.parcels to within));
            };
            rest = (let F : List Done → Type 0 = λ ds. IfSome (first_mark (map mark_of ds)) (λ key. is_due horizon cut key ≡ false) in
                subst F (sym c.done) (first-left horizon cut left (filter-passes (λ (d : Done). not (is_due horizon cut d.event.key)) l.log.done)));
          })

      left-few : length (shown_marks later) ≤ length (shown_marks l)
      left-few =
          let one = marks-long l in
          let two = marks-long later in
          let three = ap length c.done in
          let fewer = length-filter_le (λ (d : Done). not (is_due horizon cut d.event.key)) l.log.done in
          omega arith

      -- and what waits is in its place still
      pub left-store : (homes : HomesView) → homes ≡ l.homes → AreSound new → IsStore (shown_logs l) (shown_marks l) (pending_of queue) → IsStore (logs_upto new (length homes.homes)) (map mark_of new.done) (pending_of queue)
      left-store homes same whole store =
          let waiting = pending_of queue in
          let W : List ObjectView → Type 0 = λ os. (object : ℕ) → is_some (state_in os object) ≡ true → object < length l.homes.homes in
          let H : HomesView → Type 0 = λ h. IsStore (logs_upto new (length h.homes)) (map mark_of new.done) waiting in
          let few = left-few in let all = store.few in
          subst H (sym same)
          (shown-store later whole (subst W (sym c.objects) inside) waiting
          (λ o. let own = log_events (less o).gone in let kept = log_events (log_at (shown_logs later) o).done in let waits = events_at o waiting in
          let A : List Event → Type 0 = IsAscending in
          Ascends-back key_of own (kept ++ waits)
          (subst A (ap (λ ds. log_events ds ++ waits) (less o).front ∙ ap (λ es. es ++ waits) (events_of-append (less o).gone (log_at (shown_logs later) o).done) ∙ append_assoc own kept waits) (store.held.ordered o)))
          store.held.waiting_ordered
          (Each-map (λ (e : Event). IsHere (shown_logs l) e.key.dest) (λ (e : Event). IsHere (shown_logs later) e.key.dest) waiting (λ e here. (less e.key.dest).here here) store.held.waiting_here)
          (omega arith))

-- where nothing is due, nothing is handed out
pub handed-none : (homes : HomesView) (horizon : ℕ) (cut : Option Key) (s : StoreView) (told : List (Key × Note)) (out : List (List Event)) → told ≡ [] → length out ≡ homes.nodes → ((to : ℕ) → slice_index_or out to [] ≡ [])
    → IfSome (first_mark s.marks) (λ key. is_due horizon cut key ≡ false) → HasHandedOut homes horizon cut s s told out
unfolding done_at emissions_of
handed-none homes horizon cut s told out none long empty rest = record {
  done = [];
  taken = record {
    logs = λ o. record { gone = []; front = refl; noted = tt; state = refl; events = refl; told = refl; here = λ h. h; back = λ h. h; replay = λ m h. h };
    due = tt;
    here = tt;
    keys = refl;
    fault = refl;
    few = omega arith;
    long = refl;
    waiting = refl;
    spare = refl;
  };
  tells = record { told_is = none; long = long; parcels = λ to within. (let P : List Event → Type 0 = IsPermutation [] in subst P (sym (empty to)) (IsPermutation-refl [])) };
  rest = rest;
}
