-- A node whose due events were committed.
use Rattle.std.proofs.Common.{◌≡◌, ℕ, ◌+◌, ◌*◌, ◌<◌, ◌≤◌, ◌%◌, ◌^◌, false, not, List, [], ◌∷◌, ◌++◌, length, map, Option, Some, None, refl, sym, ap, ◌∙◌, subst, arith, length-append}
use Rattle.std.specs.Prelude.{IsTrue, filter, ◌==◌}
use Rattle.std.specs.List.{AllByRecursion as Each}
use Rattle.std.proofs.lemmas.List.{length-map}
use Rattle.event_key.specs.declared.key.Key.{Key}
use Rattle.event_key.specs.Stamps.{end_stamp}
use Rattle.model_core.specs.declared.event.Event.{Event}
use Rattle.model_core.specs.declared.note.Note.{Note}
use Rattle.model_core.specs.Meaning.{Meaning, MeaningLaws}
use Rattle.sim_spec.specs.declared.terms.Terms.{Terms}
use Rattle.sim_spec.specs.Cut.{events_of}
use Rattle.sim_spec.specs.Firing.{Firing, ObjectState}
use Rattle.sim_spec.specs.Replay.{events_at, replay}
use Rattle.key_order.proofs.EachLemmas.{Each-back, Each-map}
use Rattle.sim_spec.proofs.PartLemmas.{Each-events_at}
use Rattle.object_log.specs.Dones.{Done}
use Rattle.object_log.specs.Logs.{undone, events_of as log_events}
use Rattle.object_log.specs.Replays.{IsReplayed, replay_of}
use Rattle.key_order.specs.Due.{is_due}
use Rattle.world_spec.specs.Moves.{IsCommit, IsDueDone, due_count, without_first}
use Rattle.world_spec.specs.Parcels.{IsHandedOut}
use Rattle.world_spec.specs.Share.{IsAtHome, IsHome, NodeData, Share, log_of}
use Rattle.world_spec.proofs.CommitLaw.{commit_law}
use Rattle.key_order.proofs.FilterLemmas.{filter-swap}
use Rattle.node_core.specs.Calls.{HasCommitted, IsLeastFaultOf}
use Rattle.node_core.specs.Handed.{AreTaken, CanCommit, HasHandedOut, IsFaultLate, IsLogLess}
use Rattle.node_core.specs.Homes.{HomesView, home_of}
use Rattle.node_core.specs.Marks.{MarkView, first_fault}
use Rattle.node_core.specs.Nodes.{Counts, IsHere, base_at, log_at, pending_at}
use Rattle.node_core.specs.Rows.{keys_of}
use Rattle.node_core.specs.Sound.{IsNode, IsStore}
use Rattle.node_core.specs.Stores.{StoreView}
use Rattle.node_core.proofs.CommitParts.{IsCutAt, cut-at, cut-left, cut-parts, cut-replay, due-events-are, due-events-first, keys-up, other-events-are}
use Rattle.node_core.proofs.CommitReplay.{base-lawful, front-state, log-little}
use Rattle.node_core.proofs.FaultFacts.{node-faulted}
use Rattle.node_core.proofs.LogLemmas.{inside}
use Rattle.node_core.proofs.NodeViews.{node_of}
use Rattle.node_core.proofs.RollbackFacts.{home-here}
use Rattle.node_core.proofs.OldestFacts.{here-done}
use Rattle.node_core.proofs.StoreLemmas.{events_of-append}

mod-first : (a b c d : ℕ) → ((a + b) % 2 ^ 64 + c + d) % 2 ^ 64 ≡ (a + b + c + d) % 2 ^ 64
mod-first a b c d = grind arith

-- how many were committed
taken-count : (horizon : ℕ) (cut : Option Key) (old new : StoreView) (done : List (Event × Firing)) → AreTaken horizon cut old new done → length new.marks + length done ≡ length old.marks
taken-count horizon cut old new done taken =
    let total = ap length taken.keys ∙ length-append (map (λ (d : Event × Firing). d.0.key) done) (map (λ (k : MarkView). k.key) new.marks) in
    let one = length-map done (λ (d : Event × Firing). d.0.key) in
    let two = length-map old.marks (λ (k : MarkView). k.key) in
    let three = length-map new.marks (λ (k : MarkView). k.key) in
    omega arith

told-count : (homes : HomesView) (horizon : ℕ) (cut : Option Key) (old new : StoreView) (told : List (Key × Note)) (out : List (List Event)) (h : HasHandedOut homes horizon cut old new told out) → length told ≡ length h.done
told-count homes horizon cut old new told out h = ap length h.tells.told_is ∙ length-map h.done (λ (d : Event × Firing). (d.0.key, d.1.note))

abbrev data_at : StoreView → NodeData
data_at s = record { log = λ object. replay_of (log_at s.logs object).state (log_at s.logs object).done; unprocessed = s.waiting }

-- an object that is here
pub record IsInside (m : Meaning) (t : Terms) (number : ℕ) (homes : HomesView) (s : StoreView) (counts : Counts) : Type 0 where
  pub laws : MeaningLaws m
  pub node : IsNode m t number homes s.logs s.marks counts
  pub store : IsStore s.logs s.marks s.waiting

module _ (m : Meaning) (t : Terms) (number : ℕ) (homes : HomesView) (s : StoreView) (counts : Counts) (is : IsInside m t number homes s counts) where
  exists : (object : ℕ) → IsHere s.logs object → object < m.objects
  exists object here = let within = inside s.logs object here in let long = is.node.lawful.long in omega arith

  replayed : (object : ℕ) → IsHere s.logs object → IsReplayed m object (log_at s.logs object).state (log_at s.logs object).done
  replayed object here =
      let P : ℕ → Type 0 = λ o. IsReplayed m o (log_at s.logs object).state (log_at s.logs object).done in
      subst P (is.store.held.objects object here) (is.node.lawful.replayed object)

  little : (object : ℕ) → Each (λ (d : Done). length d.sends ≤ 8) (log_at s.logs object).done × Each (λ (d : Done). Each (λ (e : Event). e.key.dest < m.objects) d.sends) (log_at s.logs object).done
  little object = by_done (log_at s.logs object).done refl
    where
      by_done : (ds : List Done) → (log_at s.logs object).done ≡ ds → Each (λ (d : Done). length d.sends ≤ 8) (log_at s.logs object).done × Each (λ (d : Done). Each (λ (e : Event). e.key.dest < m.objects) d.sends) (log_at s.logs object).done
      by_done [] none =
          let P : List Done → Type 0 = Each (λ (d : Done). length d.sends ≤ 8) in
          let Q : List Done → Type 0 = Each (λ (d : Done). Each (λ (e : Event). e.key.dest < m.objects) d.sends) in
          (subst P (sym none) tt, subst Q (sym none) tt)
      by_done (d ∷ ds) some =
          let here = here-done s.logs object d ds some in
          log-little m object (log_at s.logs object).state (log_at s.logs object).done is.laws (exists object here) (replayed object here) (is.node.lawful.lawful object here)

  fault-late : (horizon : ℕ) (cut : Option Key) → IsDueDone m (home_of homes) number horizon cut (data_at s) → IsFaultLate horizon cut (first_fault s.marks)
  fault-late horizon cut done = by_least (first_fault s.marks) (node-faulted {M = ℕ} m (node_of {M = ℕ} 0 t number homes s 0 0 counts) s.marks (first_fault s.marks) is.node is.store.marked refl)
    where
      by_least : (f : Option (Key × ℕ)) → IsLeastFaultOf {M = ℕ} m (node_of {M = ℕ} 0 t number homes s 0 0 counts) f → IsFaultLate horizon cut f
      by_least None least = tt
      by_least (Some fault) least = done.faults fault.0.dest least.0 fault least.1

  -- what is due can be committed
  pub can-commit : (horizon : ℕ) (cut : Option Key) → IsDueDone m (home_of homes) number horizon cut (data_at s) → 8 * length (keys_of s.marks) < 2 ^ 60 → CanCommit homes horizon cut s
  can-commit horizon cut done few =
      let long = length-map s.marks (λ (k : MarkView). k.key) in
      let E : ℕ → ℕ → Type 0 = λ o n. Each (λ (d : Done). Each (λ (e : Event). e.key.dest < n) d.sends) (log_at s.logs o).done in
      record {
        late = fault-late horizon cut done;
        few_sends = λ o. (little o).0;
        homed = λ o. subst (E o) (sym is.node.objects) (little o).1;
        few = omega arith;
      }

module _ (m : Meaning) (t : Terms) (number : ℕ) (homes : HomesView) (s s' : StoreView) (counts : Counts) (is : IsInside m t number homes s counts) (horizon : ℕ) (cut : Option Key) (told : List (Key × Note)) (out : List (List Event))
    (h : HasHandedOut homes horizon cut s s' told out) where
  less : (object : ℕ) → IsLogLess s.logs s'.logs h.done object
  less object = h.taken.logs object

  lawful-base : (object : ℕ) → IsHere s.logs object → IsTrue (m.lawful object (base_at s'.logs object).cells)
  lawful-base object here =
      let old = log_at s.logs object in
      let kept = (log_at s'.logs object).done in
      let R : List Done → Type 0 = IsReplayed m object old.state in
      let L : List Done → Type 0 = λ ds. IsTrue (m.lawful object (undone old.state ds).cells) in
      let C : ObjectState → Type 0 = λ x. IsTrue (m.lawful object (undone x kept).cells) in
      subst C (sym (less object).state)
      (base-lawful m object old.state (less object).gone kept is.laws (exists m t number homes s counts is object here)
      (subst R (less object).front (replayed m t number homes s counts is object here)) (subst L (less object).front (is.node.lawful.lawful object here)))

  pub node-committed : (count : ℕ) → count ≡ length told → (after : Counts) → after ≡ record counts { committed = (counts.committed + count) % 2 ^ 64 } → IsNode m t number homes s'.logs s'.marks after
  node-committed count counted after is_after =
      let N : Counts → Type 0 = λ c. IsNode m t number homes s'.logs s'.marks c in
      let total = taken-count horizon cut s s' h.done h.taken in
      let same = told-count homes horizon cut s s' told out h in
      let sum : counts.committed + count + counts.undone + length s'.marks ≡ counts.committed + counts.undone + length s.marks = omega arith in
      let E : List Event → Type 0 = Each (λ (e : Event). e.key.stamp < end_stamp t.end) in
      subst N (sym is_after) (record {
        exists = is.node.exists;
        objects = is.node.objects;
        here = λ o at. (less o).here (is.node.here o at);
        only = λ o at. is.node.only o ((less o).back at);
        lawful = record {
          long = h.taken.long ∙ is.node.lawful.long;
          lawful = λ o at. lawful-base o ((less o).back at);
          replayed = λ o. (less o).replay m (is.node.lawful.replayed o);
          below = λ o. Each-back (λ (e : Event). e.key.stamp < end_stamp t.end) (log_events (less o).gone) (log_events (log_at s'.logs o).done)
              (subst E (ap log_events (less o).front ∙ events_of-append (less o).gone (log_at s'.logs o).done) (is.node.lawful.below o));
        };
        balance = is.node.balance ∙ ap (λ n. n % 2 ^ 64) (sym sum) ∙ sym (mod-first counts.committed count counts.undone (length s'.marks));
      })

  module _ (store' : IsStore s'.logs s'.marks s'.waiting) (due_done : IsDueDone m (home_of homes) number horizon cut (data_at s)) where
    at : (object : ℕ) → IsCutAt horizon cut s.logs s'.logs h.done object
    at object = cut-at horizon cut s s' h.done h.taken h.rest store'.marked object

    -- none that waits is due
    later : (object : ℕ) → Each (λ (e : Event). is_due horizon cut e.key ≡ false) (events_at object s.waiting)
    later object = Each-events_at (λ (e : Event). is_due horizon cut e.key ≡ false) object s.waiting due_done.waiting

    handed-out : IsHandedOut m (home_of homes) number horizon cut (data_at s) h.done
    handed-out = record {
      ordered = keys-up s.marks h.done (keys_of s'.marks) is.store.marked.ordered h.taken.keys;
      homed = each-event (IsAtHome m (home_of homes) number) h.done
          (Each-map (λ (d : Event × Firing). IsHere s.logs d.0.key.dest) (λ (d : Event × Firing). IsAtHome m (home_of homes) number d.0) h.done (λ d here. home-here m t number homes s.logs s.marks counts d.0.key.dest is.node here) h.taken.here);
      parts = λ o home. cut-parts horizon cut s.logs s'.logs h.done o (at o);
    }
      where
        each-event : (P : Event → Type 0) (ds : List (Event × Firing)) → Each (λ (d : Event × Firing). P d.0) ds → Each P (events_of ds)
        each-event P [] all = tt
        each-event P (d ∷ ds) all = (all.0, each-event P ds all.1)

    module _ (share : Share) (states : (object : ℕ) → IsHome m (home_of homes) number object → share.states object ≡ base_at s.logs object)
        (events : (object : ℕ) → IsHome m (home_of homes) number object → events_at object share.pending ≡ pending_at s.logs s.waiting object) where
      commits : IsCommit m (home_of homes) number horizon cut share (data_at s) (data_at s')
      unfolding due_count
      commits = record {
        logs = λ o home. cut-replay horizon cut s.logs s'.logs h.done o (at o)
            ∙ ap (λ n. without_first n (replay_of (log_at s.logs o).state (log_at s.logs o).done))
            (sym (ap length (due-events-are horizon cut s.logs s'.logs h.done o (at o) (events_at o s.waiting) (events_at o share.pending) (events o home) (later o))));
        waits = h.taken.waiting;
      }

      state-left : (object : ℕ) → IsHome m (home_of homes) number object → (log_of m share object (due_count horizon cut share object)).state ≡ base_at s'.logs object
      unfolding log_of due_count
      state-left object home =
          let old = log_at s.logs object in
          let kept = (log_at s'.logs object).done in
          let l = (at object).less in
          let R : List Done → Type 0 = IsReplayed m object old.state in
          ap (λ es. (replay m object (share.states object) es).state) (due-events-first horizon cut s.logs s'.logs h.done object (at object) (events_at object s.waiting) (events_at object share.pending) (events object home) (later object))
          ∙ ap (λ x. (replay m object x (log_events l.gone)).state) (states object home ∙ ap (undone old.state) l.front)
          ∙ front-state m object old.state l.gone kept l.noted (subst R l.front (replayed m t number homes s counts is object (is.node.here object home)))
          ∙ ap (λ x. undone x kept) (sym l.state)

      events-left : (object : ℕ) → IsHome m (home_of homes) number object → events_at object (filter (λ (e : Event). not (is_due horizon cut e.key)) share.pending) ≡ pending_at s'.logs s'.waiting object
      unfolding events_at
      events-left object home =
          filter-swap (λ (e : Event). e.key.dest == object) (λ (e : Event). not (is_due horizon cut e.key)) share.pending
          ∙ other-events-are horizon cut s.logs s'.logs h.done object (at object) (events_at object s.waiting) (events_at object share.pending) (events object home) (later object)
          ∙ ap (λ ws. log_events (log_at s'.logs object).done ++ events_at object ws) (sym h.taken.waiting)

    pub committed-whole : {M : Type 0} (model : M) (work met count : ℕ) → count ≡ length told
        → HasCommitted m horizon cut (node_of model t number homes s work met counts) (node_of model t number homes s' work met (record counts { committed = (counts.committed + count) % 2 ^ 64 })) told out
    committed-whole model work met count counted =
        let total = taken-count horizon cut s s' h.done h.taken in
        let same = told-count homes horizon cut s s' told out h in
        let one = length-map s.marks (λ (k : MarkView). k.key) in
        let two = length-map s'.marks (λ (k : MarkView). k.key) in
        let room = h.taken.spare in
        record {
          same = record { model = refl; terms = refl; number = refl; homes = refl };
          done = h.done;
          handed = handed-out;
          records_are = h.tells.told_is;
          long = h.tells.long;
          parcels = h.tells.parcels;
          stands = λ share ahead st. record {
            stands = commit_law m t is.laws (home_of homes) number horizon cut share ahead (data_at s) (data_at s') st.stands due_done (commits share st.states st.events);
            states = state-left share st.states st.events;
            events = events-left share st.states st.events;
          };
          commit = λ share ahead st. commits share st.states st.events;
          left = λ o. cut-left horizon cut s.logs s'.logs h.done o (at o);
          states = λ o. (less o).state;
          waiting = h.taken.waiting;
          count = omega arith;
          spare = omega arith;
          work = refl;
          met = refl;
          counts = ap (λ n. record counts { committed = (counts.committed + n) % 2 ^ 64 }) counted;
        }
