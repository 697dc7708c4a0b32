-- What is due was committed, object by object.
use Rattle.std.proofs.Common.{◌≡◌, ℕ, Bool, true, false, not, List, [], ◌∷◌, ◌++◌, length, map, take, drop, Option, sym, ap, ◌∙◌, subst, append_assoc}
use Rattle.std.specs.Prelude.{filter, IfSome, ◌==◌}
use Rattle.std.specs.List.{AllByRecursion as Each}
use Rattle.std.proofs.Math.Seq.{drop-append_seam, take-append_seam}
use Rattle.std.proofs.lemmas.Bool.{false_from_ne_true}
use Rattle.std.proofs.lemmas.List.{length-map}
use Rattle.std.proofs.lemmas.List.Elements.{filter-append}
use Rattle.event_key.specs.declared.key.Key.{Key}
use Rattle.model_core.specs.declared.event.Event.{Event}
use Rattle.sim_spec.specs.Cut.{events_of}
use Rattle.sim_spec.specs.Firing.{Firing, ObjectState}
use Rattle.key_order.specs.Ascending.{AllAfter, IsAscending, After, Ascends}
use Rattle.sim_spec.specs.Replay.{Replay, done_at}
use Rattle.key_order.proofs.EachLemmas.{Each-filter, Each-map, Each-append}
use Rattle.object_log.specs.Dones.{Done}
use Rattle.object_log.specs.declared.done.Verdict.{Verdict}
use Rattle.object_log.specs.declared.done.Verdict.TheVariants.{Noted, Failed}
use Rattle.object_log.specs.Logs.{LogView, undone, events_of as log_events}
use Rattle.object_log.specs.Parts.{left_of}
use Rattle.object_log.specs.Replays.{replay_of, told}
use Rattle.key_order.specs.Due.{is_due}
use Rattle.world_spec.specs.Moves.{without_first}
use Rattle.key_order.proofs.AscendingLemmas.{Ascends-map}
use Rattle.key_order.proofs.DueLemmas.{due-down}
use Rattle.key_order.proofs.FilterLemmas.{filter-all, filter-front, filter-none}
use Rattle.node_core.proofs.StoreLemmas.{events_of-append}
use Rattle.node_core.specs.Handed.{AreTaken, IsLogLess}
use Rattle.node_core.specs.Marks.{MarkView, AreInOrder, first_mark, mark_of}
use Rattle.node_core.specs.Nodes.{log_at}
use Rattle.node_core.specs.Rows.{keys_of}
use Rattle.node_core.specs.Sound.{AreMarked}
use Rattle.node_core.specs.Stores.{StoreView}

-- the committed events are in the order of their keys
all-after : (k : Key) (done : List (Event × Firing)) (rest : List Key) → After (λ (k : Key). k) k (map (λ (d : Event × Firing). d.0.key) done ++ rest) → AllAfter k (events_of done)
all-after k [] rest all = tt
all-after k (d ∷ done) rest all = (all.0, all-after k done rest all.1)

up-events : (done : List (Event × Firing)) (rest : List Key) → Ascends (λ (k : Key). k) (map (λ (d : Event × Firing). d.0.key) done ++ rest) → IsAscending (events_of done)
unfolding Ascends
up-events [] rest up = tt
up-events (d ∷ done) rest up = (all-after d.0.key done rest up.0, up-events done rest up.1)

pub keys-up : (marks : List MarkView) (done : List (Event × Firing)) (rest : List Key) → AreInOrder marks → keys_of marks ≡ map (λ (d : Event × Firing). d.0.key) done ++ rest → IsAscending (events_of done)
keys-up marks done rest up is =
    let P : List Key → Type 0 = Ascends (λ (k : Key). k) in
    up-events done rest (subst P is (Ascends-map (λ (k : Key). k) (λ (mark : MarkView). mark.key) marks up))

-- none is due behind one that isn't
none-behind : (horizon : ℕ) (cut : Option Key) (key : Key) (ks : List MarkView) → After (λ (mark : MarkView). mark.key) key ks → is_due horizon cut key ≡ false → Each (λ (k : MarkView). is_due horizon cut k.key ≡ false) ks
none-behind horizon cut key [] all no_more = tt
none-behind horizon cut key (k ∷ ks) all no_more =
    (false_from_ne_true (is_due horizon cut k.key) (λ due. let first = due-down horizon cut key k.key all.0 due in cc), none-behind horizon cut key ks all.1 no_more)

none-due : (horizon : ℕ) (cut : Option Key) (ks : List MarkView) → AreInOrder ks → IfSome (first_mark ks) (λ key. is_due horizon cut key ≡ false) → Each (λ (k : MarkView). is_due horizon cut k.key ≡ false) ks
unfolding first_mark Ascends
none-due horizon cut [] up first = tt
none-due horizon cut (k ∷ ks) up first = (first, none-behind horizon cut k.key ks up.0 first)

marks-stay : (horizon : ℕ) (cut : Option Key) (ds : List Done) → Each (λ (k : MarkView). is_due horizon cut k.key ≡ false) (map mark_of ds) → Each (λ (d : Done). is_due horizon cut d.event.key ≡ false) ds
marks-stay horizon cut [] all = tt
marks-stay horizon cut (d ∷ ds) all = (all.0, marks-stay horizon cut ds all.1)

events-due : (P : Event → Type 0) (done : List (Event × Firing)) → Each (λ (d : Event × Firing). P d.0) done → Each P (events_of done)
events-due P [] all = tt
events-due P (d ∷ done) all = (all.0, events-due P done all.1)

pub log-each : (P : Event → Type 0) (ds : List Done) → Each P (log_events ds) → Each (λ (d : Done). P d.event) ds
log-each P [] all = tt
log-each P (d ∷ ds) all = (all.0, log-each P ds all.1)

pub each-log : (P : Event → Type 0) (ds : List Done) → Each (λ (d : Done). P d.event) ds → Each P (log_events ds)
each-log P [] all = tt
each-log P (d ∷ ds) all = (all.0, each-log P ds all.1)

replay-each : (P : Event → Type 0) (s : ObjectState) (ds : List Done) → Each (λ (d : Done). P d.event) ds → Each (λ (d : Event × Firing). P d.0) (replay_of s ds).done
unfolding replay_of
replay-each P s [] all = tt
replay-each P s (d ∷ ds) all = by_verdict d.verdict (replay-each P s ds all.1)
  where
    by_verdict : (v : Verdict) → Each (λ (d : Event × Firing). P d.0) (replay_of s ds).done → Each (λ (d : Event × Firing). P d.0) (told (undone s ds) d v (replay_of s ds)).done
    by_verdict (Noted note) more = (all.0, more)
    by_verdict (Failed code) more = tt

-- the first events of an object were due, and those that are left aren't
pub record IsCutAt (horizon : ℕ) (cut : Option Key) (old now : List (Option LogView)) (done : List (Event × Firing)) (object : ℕ) : Type 0 where
  pub less : IsLogLess old now done object
  pub due : Each (λ (d : Done). is_due horizon cut d.event.key ≡ true) less.gone
  pub stays : Each (λ (d : Done). is_due horizon cut d.event.key ≡ false) (log_at now object).done

pub cut-at : (horizon : ℕ) (cut : Option Key) (old new : StoreView) (done : List (Event × Firing)) → AreTaken horizon cut old new done → IfSome (first_mark new.marks) (λ key. is_due horizon cut key ≡ false) → AreMarked new.logs new.marks
    → (object : ℕ) → IsCutAt horizon cut old.logs new.logs done object
unfolding done_at
cut-at horizon cut old new done taken rest marked object =
    let s = taken.logs object in
    let E : List Event → Type 0 = Each (λ (e : Event). is_due horizon cut e.key ≡ true) in
    let K : List MarkView → Type 0 = Each (λ (k : MarkView). is_due horizon cut k.key ≡ false) in
    record {
      less = s;
      due = log-each (λ (e : Event). is_due horizon cut e.key ≡ true) s.gone
          (subst E s.events (events-due (λ (e : Event). is_due horizon cut e.key ≡ true) (done_at object done)
          (Each-filter (λ (d : Event × Firing). is_due horizon cut d.0.key ≡ true) (λ (d : Event × Firing). d.0.key.dest == object) done taken.due)));
      stays = marks-stay horizon cut (log_at new.logs object).done
          (subst K (marked.parts object) (Each-filter (λ (k : MarkView). is_due horizon cut k.key ≡ false) (λ (k : MarkView). k.key.dest == object) new.marks (none-due horizon cut new.marks marked.ordered rest)));
    }

module _ (horizon : ℕ) (cut : Option Key) (old now : List (Option LogView)) (done : List (Event × Firing)) (object : ℕ) (at : IsCutAt horizon cut old now done object) where
  abbrev gone : List Done
  gone = at.less.gone

  abbrev kept : List Done
  kept = (log_at now object).done

  abbrev due : Event → Bool
  due e = is_due horizon cut e.key

  -- the log is what isn't due
  pub cut-left : kept ≡ left_of horizon cut (log_at old object).done
  cut-left =
      let stays = λ (d : Done). not (is_due horizon cut d.event.key) in
      sym (ap (filter stays) at.less.front ∙ filter-append stays gone kept
      ∙ ap (λ ds. ds ++ filter stays kept) (filter-none stays gone (Each-map (λ (d : Done). is_due horizon cut d.event.key ≡ true) (λ (d : Done). stays d ≡ false) gone (λ d is. ap not is) at.due))
      ∙ filter-all stays kept (Each-map (λ (d : Done). is_due horizon cut d.event.key ≡ false) (λ (d : Done). stays d ≡ true) kept (λ d is. ap not is) at.stays))

  -- what is handed out of it is what was due
  pub cut-parts : done_at object done ≡ filter (λ (d : Event × Firing). is_due horizon cut d.0.key) (replay_of (log_at old object).state (log_at old object).done).done
  cut-parts =
      let P = λ (d : Event × Firing). is_due horizon cut d.0.key in
      let left = replay_of (log_at now object).state kept in
      let E : List Event → Type 0 = Each (λ (e : Event). due e ≡ true) in
      let firsts : Each (λ (d : Event × Firing). P d ≡ true) (done_at object done) =
      due-events (done_at object done) (subst E (sym at.less.events) (each-log (λ (e : Event). due e ≡ true) gone at.due)) in
      sym (ap (λ (r : Replay). filter P r.done) at.less.told
      ∙ filter-front P (done_at object done) left.done firsts (replay-each (λ (e : Event). due e ≡ false) (log_at now object).state kept at.stays))
    where
      due-events : (ds : List (Event × Firing)) → Each (λ (e : Event). due e ≡ true) (events_of ds) → Each (λ (d : Event × Firing). is_due horizon cut d.0.key ≡ true) ds
      due-events [] all = tt
      due-events (d ∷ ds) all = (all.0, due-events ds all.1)

  -- its replay is the old one without so many events
  pub cut-replay : replay_of (log_at now object).state kept ≡ without_first (length (log_events gone)) (replay_of (log_at old object).state (log_at old object).done)
  cut-replay =
      let left = replay_of (log_at now object).state kept in
      let long : length (log_events gone) ≡ length (done_at object done) = sym (ap length at.less.events) ∙ length-map (done_at object done) (λ (d : Event × Firing). d.0) in
      sym (ap (without_first (length (log_events gone))) at.less.told
      ∙ ap (λ n. record left { done = drop n (done_at object done ++ left.done) }) long
      ∙ ap (λ ds. record left { done = ds }) (drop-append_seam (done_at object done) left.done))

  module _ (waits pending : List Event) (list : pending ≡ log_events (log_at old object).done ++ waits) (later : Each (λ (e : Event). due e ≡ false) waits) where
    events-parts : pending ≡ log_events gone ++ (log_events kept ++ waits)
    events-parts = list ∙ ap (λ ds. log_events ds ++ waits) at.less.front ∙ ap (λ es. es ++ waits) (events_of-append gone kept) ∙ append_assoc (log_events gone) (log_events kept) waits

    behind : Each (λ (e : Event). due e ≡ false) (log_events kept ++ waits)
    behind = Each-append (λ (e : Event). due e ≡ false) (log_events kept) waits (each-log (λ (e : Event). due e ≡ false) kept at.stays) later

    pub due-events-are : filter due pending ≡ log_events gone
    due-events-are = ap (filter due) events-parts ∙ filter-front due (log_events gone) (log_events kept ++ waits) (each-log (λ (e : Event). due e ≡ true) gone at.due) behind

    pub due-events-first : take (length (filter due pending)) pending ≡ log_events gone
    due-events-first = (λ i. take (length (due-events-are i)) (events-parts i)) ∙ take-append_seam (log_events gone) (log_events kept ++ waits)

    pub other-events-are : filter (λ (e : Event). not (due e)) pending ≡ log_events kept ++ waits
    other-events-are =
        let stays = λ (e : Event). not (due e) in
        ap (filter stays) events-parts ∙ filter-append stays (log_events gone) (log_events kept ++ waits)
        ∙ ap (λ es. es ++ filter stays (log_events kept ++ waits)) (filter-none stays (log_events gone) (Each-map (λ (e : Event). due e ≡ true) (λ (e : Event). stays e ≡ false) (log_events gone) (λ e is. ap not is) (each-log (λ (e : Event). due e ≡ true) gone at.due)))
        ∙ filter-all stays (log_events kept ++ waits) (Each-map (λ (e : Event). due e ≡ false) (λ (e : Event). stays e ≡ true) (log_events kept ++ waits) (λ e is. ap not is) behind)
