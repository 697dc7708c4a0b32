-- A commit leaves a node that stands for the share without what was due.
use Rattle.std.proofs.Common.{Bool, List, [], ap, arith, cond, drop, eqb, false, length, length-take, min, not, refl, subst, suc, sym, take, take-append-drop, true, zero, ℕ, ◌++◌, ◌+◌, ◌-◌, ◌<◌, ◌∙◌, ◌∷◌, ◌≡◌, ◌≤◌}
use Rattle.std.proofs.Math.Seq.{drop-append_seam}
use Rattle.std.proofs.lemmas.List.{append-nil, drop-drop, length-append}
use Rattle.std.proofs.lemmas.List.Elements.{filter-append}
use Rattle.std.specs.List.{AllByRecursion as Each}
use Rattle.std.specs.Prelude.{None, Option, Some, filter}
use Rattle.event_key.specs.Stamps.{end_stamp}
use Rattle.event_key.specs.declared.key.Key.{Key}
use Rattle.model_core.specs.Meaning.{Meaning, MeaningLaws}
use Rattle.model_core.specs.declared.event.Event.{Event}
use Rattle.sim_spec.specs.Firing.{ObjectState}
use Rattle.key_order.specs.Ascending.{IsAscending, key_of, Ascends}
use Rattle.sim_spec.specs.Replay.{Replay, events_at, replay, taken, replay_after}
use Rattle.sim_spec.specs.declared.terms.Terms.{Terms}
use Rattle.key_order.proofs.AscendingLemmas.{Ascends-filter}
use Rattle.key_order.proofs.EachLemmas.{Each-back, Each-filter, Each-map}
use Rattle.sim_spec.proofs.PartLemmas.{Each-events_at, IsAscending-events_at}
use Rattle.sim_spec.proofs.ReplayLemmas.{replay-append, replay-fault, replay-faulted}
use Rattle.key_order.specs.Due.{is_due}
use Rattle.world_spec.specs.Moves.{IsCommit, IsDueDone, committed, committed_ahead, due_count, without_first}
use Rattle.world_spec.specs.NodeLaws.{CommitLaw}
use Rattle.world_spec.specs.Share.{IsAtHome, IsHome, NodeData, Share, StandsFor, log_of}
use Rattle.key_order.proofs.FilterLemmas.{filter-all, filter-none, filter-passes, filter-swap, length-filter_le}
use Rattle.world_spec.proofs.ReplayLawful.{replay-lawful}
use Rattle.sim_spec.proofs.TakenLemmas.{taken-le, taken-rest}
use Rattle.key_order.proofs.DueLemmas.{none-due}

-- the first events, and those behind them
abbrev no_events : List Event
no_events = []

take_none : (q : ℕ) → take q no_events ≡ no_events
take_none zero = refl
take_none (suc q) = refl

pub take-split : (c q : ℕ) (xs : List Event) → take (c + q) xs ≡ take c xs ++ take q (drop c xs)
take-split zero q xs = ap (λ n. take n xs) (let same : zero + q ≡ q = omega arith in same)
take-split (suc c) q [] = ap (λ n. take n no_events) (let same : suc c + q ≡ suc (c + q) = omega arith in same) ∙ sym (take_none q)
take-split (suc c) q (x ∷ xs) = ap (λ n. take n (x ∷ xs)) (let same : suc c + q ≡ suc (c + q) = omega arith in same) ∙ ap (λ ys. x ∷ ys) (take-split c q xs)

module _ (bound : ℕ) (cut : Option Key) where
  abbrev due : Event → Bool
  due e = is_due bound cut e.key

  abbrev stays : Event → Bool
  stays e = not (is_due bound cut e.key)

  -- in a list in order, what is due stands at the front
  pub due-front : (es : List Event) → IsAscending es → (filter due es ≡ take (length (filter due es)) es) × (filter stays es ≡ drop (length (filter due es)) es)
  unfolding Ascends
  due-front [] up = (refl, refl)
  due-front (e ∷ es) up = by_test (due e) refl (due-front es up.1)
    where
      by_test : (b : Bool) → due e ≡ b → (filter due es ≡ take (length (filter due es)) es) × (filter stays es ≡ drop (length (filter due es)) es)
          → (cond b (e ∷ filter due es) (filter due es) ≡ take (length (cond b (e ∷ filter due es) (filter due es))) (e ∷ es))
          × (cond (not b) (e ∷ filter stays es) (filter stays es) ≡ drop (length (cond b (e ∷ filter due es) (filter due es))) (e ∷ es))
      by_test true h more = (ap (λ xs. e ∷ xs) more.0, more.1)
      by_test false h more =
          let no = none-due key_of bound cut e.key es h up.0 in
          let nothing : filter due es ≡ [] = filter-none due es no in
          let all : filter stays es ≡ es = filter-all stays es (Each-map (λ x. due x ≡ false) (λ x. stays x ≡ true) es (λ x n. ap not n) no) in
          (nothing ∙ sym (ap (λ xs. take (length xs) (e ∷ es)) nothing), ap (λ xs. e ∷ xs) all ∙ sym (ap (λ xs. drop (length xs) (e ∷ es)) nothing))

  module _ (m : Meaning) (t : Terms) (laws : MeaningLaws m) (home : ℕ → ℕ) (node : ℕ) (share : Share) (ahead : ℕ → ℕ) (old new : NodeData)
      (stands : StandsFor m t home node share ahead old) (done : IsDueDone m home node bound cut old) (commit : IsCommit m home node bound cut share old new) where
    own_events : ℕ → List Event
    own_events object = events_at object share.pending

    abbrev due_at : ℕ → ℕ
    due_at = due_count bound cut share

    count_is : (object : ℕ) → due_at object ≡ length (filter due (own_events object))
    unfolding due_count own_events
    count_is object = refl

    up_at : (object : ℕ) → IsAscending (own_events object)
    unfolding own_events
    up_at object = IsAscending-events_at object share.pending stands.ordered

    -- all that is due is processed
    due_ahead : (object : ℕ) → IsHome m home node object → due_at object ≤ ahead object
    unfolding own_events
    due_ahead object at =
        let n = ahead object in
        let parts : filter due (own_events object) ≡ filter due (take n (own_events object)) ++ filter due (drop n (own_events object)) =
        ap (filter due) (sym (take-append-drop n (own_events object))) ∙ filter-append due (take n (own_events object)) (drop n (own_events object)) in
        let P : List Event → Type 0 = Each (λ (e : Event). due e ≡ false) in
        let none : filter due (drop n (own_events object)) ≡ [] = filter-none due (drop n (own_events object)) (subst P (stands.waiting object at) (Each-events_at (λ (e : Event). due e ≡ false) object old.unprocessed done.waiting)) in
        let few : length (filter due (take n (own_events object))) ≤ length (take n (own_events object)) = length-filter_le due (take n (own_events object)) in
        let long : length (take n (own_events object)) ≡ min n (length (own_events object)) = length-take n (own_events object) in
        let sum : length (filter due (own_events object)) ≡ length (filter due (take n (own_events object)) ++ filter due (drop n (own_events object))) = ap length parts in
        let sum2 : length (filter due (take n (own_events object)) ++ filter due (drop n (own_events object))) ≡ length (filter due (take n (own_events object))) = ap (λ xs. length (filter due (take n (own_events object)) ++ xs)) none ∙ ap length (append-nil (filter due (take n (own_events object)))) in
        let same = count_is object in
        omega arith

    split : (object : ℕ) → IsHome m home node object → take (ahead object) (own_events object) ≡ take (due_at object) (own_events object) ++ take (ahead object - due_at object) (drop (due_at object) (own_events object))
    split object at =
        let le = due_ahead object at in
        let sum : ahead object ≡ due_at object + (ahead object - due_at object) = omega arith in
        ap (λ n. take n (own_events object)) sum ∙ take-split (due_at object) (ahead object - due_at object) (own_events object)

    base : ℕ → ObjectState
    base object = share.states object

    front : ℕ → Replay
    front object = replay m object (base object) (take (due_at object) (own_events object))

    front_due : (object : ℕ) → Each (λ (e : Event). due e ≡ true) (take (due_at object) (own_events object))
    unfolding own_events
    front_due object =
        let P : List Event → Type 0 = Each (λ (e : Event). due e ≡ true) in
        subst P ((due-front (own_events object) (up_at object)).0 ∙ sym (ap (λ n. take n (own_events object)) (count_is object))) (filter-passes due (own_events object))

    log_is : (object : ℕ) → IsHome m home node object → old.log object ≡ replay m object (base object) (take (due_at object) (own_events object) ++ take (ahead object - due_at object) (drop (due_at object) (own_events object)))
    unfolding own_events base log_of
    log_is object at = stands.logs object at ∙ ap (replay m object (share.states object)) (split object at)

    front_whole : (object : ℕ) → IsHome m home node object → (front object).fault ≡ None
    unfolding front
    front_whole object at = by_fault (front object).fault refl
      where
        by_fault : (f : Option (Key × ℕ)) → (front object).fault ≡ f → f ≡ None
        by_fault None h = refl
        by_fault (Some fault) h =
            let due_fault : is_due bound cut fault.0 ≡ true = replay-fault (λ k. is_due bound cut k ≡ true) m object (base object) (take (due_at object) (own_events object)) (front_due object) fault h in
            let same : (old.log object).fault ≡ Some fault =
            ap (λ (r : Replay). r.fault) (log_is object at ∙ replay-faulted m object (base object) (take (due_at object) (own_events object)) (take (ahead object - due_at object) (drop (due_at object) (own_events object))) fault h) ∙ h in
            let not_due = done.faults object at fault same in
            absurd (cc)

    behind : ℕ → List Event
    behind object = take (ahead object - due_at object) (drop (due_at object) (own_events object))

    log_parts : (object : ℕ) → IsHome m home node object → old.log object ≡ replay_after (front object).done (replay m object (front object).state (behind object))
    unfolding front behind
    log_parts object at = log_is object at ∙ replay-append m object (base object) (take (due_at object) (own_events object)) (take (ahead object - due_at object) (drop (due_at object) (own_events object))) (front_whole object at)

    whole_log : (object : ℕ) → IsHome m home node object → (taken (replay m object (base object) (take (due_at object) (own_events object) ++ behind object)) ≡ length (take (due_at object) (own_events object) ++ behind object)) × (length (behind object) ≡ ahead object - due_at object) × (length (take (due_at object) (own_events object)) ≡ due_at object)
    unfolding own_events base log_of behind
    whole_log object at =
        let n = ahead object in
        let whole : taken (replay m object (share.states object) (take n (own_events object))) ≡ n = (stands.early object at).whole in
        let le : taken (replay m object (share.states object) (take n (own_events object))) ≤ length (take n (own_events object)) = taken-le m object (share.states object) (take n (own_events object)) in
        let short : length (take n (own_events object)) ≡ min n (length (own_events object)) = length-take n (own_events object) in
        let same : taken (replay m object (share.states object) (take n (own_events object))) ≡ taken (replay m object (base object) (take (due_at object) (own_events object) ++ behind object)) = ap (λ es. taken (replay m object (share.states object) es)) (split object at) in
        let long : length (take n (own_events object)) ≡ length (take (due_at object) (own_events object) ++ behind object) = ap length (split object at) in
        let sum : length (take (due_at object) (own_events object) ++ behind object) ≡ length (take (due_at object) (own_events object)) + length (behind object) = length-append (take (due_at object) (own_events object)) (behind object) in
        let one : length (take (due_at object) (own_events object)) ≡ min (due_at object) (length (own_events object)) = length-take (due_at object) (own_events object) in
        let fits = due_ahead object at in (
          (let r : taken (replay m object (base object) (take (due_at object) (own_events object) ++ behind object)) ≡ length (take (due_at object) (own_events object) ++ behind object) = omega arith in r),
          (let r : length (behind object) ≡ ahead object - due_at object = omega arith in r),
          (let r : length (take (due_at object) (own_events object)) ≡ due_at object = omega arith in r),
        )

    front_long : (object : ℕ) → IsHome m home node object → length (front object).done ≡ due_at object
    unfolding front
    front_long object at =
        let w = whole_log object at in
        let sum : length (take (due_at object) (own_events object) ++ behind object) ≡ length (take (due_at object) (own_events object)) + length (behind object) = length-append (take (due_at object) (own_events object)) (behind object) in
        let joined : replay m object (base object) (take (due_at object) (own_events object) ++ behind object) ≡ replay_after (front object).done (replay m object (front object).state (behind object)) =
        replay-append m object (base object) (take (due_at object) (own_events object)) (behind object) (front_whole object at) in
        let total : taken (replay m object (base object) (take (due_at object) (own_events object) ++ behind object)) ≡ taken (replay_after (front object).done (replay m object (front object).state (behind object))) = ap taken joined in
        let parts : length ((front object).done ++ (replay m object (front object).state (behind object)).done) ≡ length (front object).done + length (replay m object (front object).state (behind object)).done = length-append (front object).done (replay m object (front object).state (behind object)).done in
        let rest : taken (replay m object (front object).state (behind object)) ≡ length (behind object) = taken-rest m object (base object) (take (due_at object) (own_events object)) (behind object) (front_whole object at) w.0 in
        omega arith

    next_events : (object : ℕ) → events_at object (filter stays share.pending) ≡ drop (due_at object) (own_events object)
    unfolding own_events events_at
    next_events object =
        filter-swap (λ e. eqb e.key.dest object) stays share.pending ∙ (due-front (own_events object) (up_at object)).1 ∙ sym (ap (λ n. drop n (own_events object)) (count_is object))

    next_log : (object : ℕ) → IsHome m home node object → log_of m (committed m bound cut share) object (ahead object - due_at object) ≡ replay m object (front object).state (behind object)
    unfolding log_of front behind base own_events
    next_log object at = ap (λ es. replay m object (front object).state (take (ahead object - due_at object) es)) (next_events object)

    pub commit_stands : StandsFor m t home node (committed m bound cut share) (committed_ahead bound cut share ahead) new
    unfolding behind front base own_events log_of
    commit_stands =
        let B : List Event → Type 0 = Each (λ (e : Event). e.key.stamp < end_stamp t.end) in
        let O : List Event → Type 0 = IsAscending in
        let H : List Event → Type 0 = Each (IsAtHome m home node) in
        record {
          ordered = Ascends-filter key_of stays share.pending stands.ordered;
          homed = Each-filter (IsAtHome m home node) stays share.pending stands.homed;
          cells = λ object at. replay-lawful m object (share.states object) (take (due_at object) (own_events object)) laws at.0 (stands.cells object at);
          early = λ object at. record {
            whole = ap taken (next_log object at) ∙ taken-rest m object (base object) (take (due_at object) (own_events object)) (behind object) (front_whole object at) (whole_log object at).0 ∙ (whole_log object at).1;
            below = subst B (sym (ap (take (ahead object - due_at object)) (next_events object)))
                (Each-back (λ (e : Event). e.key.stamp < end_stamp t.end) (take (due_at object) (own_events object)) (behind object) (subst B (split object at) (stands.early object at).below));
          };
          logs = λ object at.
              commit.logs object at
              ∙ ap (without_first (due_at object)) (log_parts object at)
              ∙ ap (λ ds. record (replay m object (front object).state (behind object)) { done = ds })
              (ap (λ n. drop n ((front object).done ++ (replay m object (front object).state (behind object)).done)) (sym (front_long object at))
              ∙ drop-append_seam (front object).done (replay m object (front object).state (behind object)).done)
              ∙ sym (next_log object at);
          waiting_ordered = subst O (sym commit.waits) stands.waiting_ordered;
          waiting_homed = subst H (sym commit.waits) stands.waiting_homed;
          waiting = λ object at.
              ap (events_at object) commit.waits ∙ stands.waiting object at
              ∙ (let le = due_ahead object at in let sum : ahead object ≡ due_at object + (ahead object - due_at object) = omega arith in ap (λ n. drop n (own_events object)) sum)
              ∙ sym (drop-drop (ahead object - due_at object) (due_at object) (own_events object))
              ∙ sym (ap (drop (ahead object - due_at object)) (next_events object));
        }

pub commit_law : (m : Meaning) (t : Terms) → MeaningLaws m → CommitLaw m t
commit_law m t laws home node bound cut share ahead old new stands done commit = commit_stands bound cut m t laws home node share ahead old new stands done commit
