-- The logs of a new node, object by object, out of one list.
use Rattle.std.proofs.Common.{◌≡◌, ℕ, zero, suc, ◌+◌, ◌<◌, ◌≤◌, Bool, true, false, List, [], ◌∷◌, ◌++◌, length, eq-eqb, Option, Some, None, is_some, refl, sym, ap, subst, ◌∙◌, ⊎_elim, arith, length-append}
use Rattle.std.specs.Prelude.{slice_get, slice_index_or, ◌==◌}
use Rattle.std.proofs.lemmas.Bool.{cases_eq, ne_eqb}
use Rattle.std.proofs.Math.ListN.{get_or-append}
use Rattle.std.proofs.Math.Seq.{get_or-append_seam}
use Rattle.model_core.specs.Meaning.{Meaning}
use Rattle.sim_spec.specs.Firing.{ObjectState}
use Rattle.sim_spec.specs.State.{first_object}
use Rattle.object_log.specs.EventLogs.{EventLogView, ObjectView, dones_at, logs_upto, or_else, slot_in, slot_of, state_in}
use Rattle.object_log.specs.Objects.{IsPlaced}
use Rattle.event_log.specs.NodeLogs.{NodeLogView}
use Rattle.node_core.specs.Homes.{HomesView, home_of}
use Rattle.node_core.specs.Logged.{AreLogged}
use Rattle.node_core.specs.NewLogs.{AreFirst, first_logs}
use Rattle.node_core.proofs.LoggedFacts.{none-homed}
use Rattle.node_core.proofs.NewFacts.{log-elsewhere, log-here, logs-more}

none-found : (found : Option ObjectState) → (is_some found ≡ true → ⊥) → found ≡ None
none-found None none = refl
none-found (Some s) none = absurd (none refl)

-- an object behind others
push-other : (os : List ObjectView) (o : ObjectView) (other : ℕ) → (o.object ≡ other → ⊥) → state_in (os ++ o ∷ []) other ≡ state_in os other
unfolding state_in
push-other [] o other apart = ap (λ b. or_else b o.state None) (ne_eqb o.object other apart)
push-other (x ∷ xs) o other apart = ap (or_else (x.object == other) x.state) (push-other xs o other apart)

push-own : (os : List ObjectView) (o : ObjectView) → state_in os o.object ≡ None → state_in (os ++ o ∷ []) o.object ≡ Some o.state
unfolding state_in
push-own [] o none = ap (λ b. or_else b o.state None) (eq-eqb o.object o.object refl)
push-own (x ∷ xs) o none = by_test (x.object == o.object) none (λ away. push-own xs o away)
  where
    by_test : (b : Bool) → or_else b x.state (state_in xs o.object) ≡ None → (state_in xs o.object ≡ None → state_in (xs ++ o ∷ []) o.object ≡ Some o.state)
        → or_else b x.state (state_in (xs ++ o ∷ []) o.object) ≡ Some o.state
    by_test true none more = absurd (cc)
    by_test false none more = more none

get-push : (os : List ObjectView) (o x : ObjectView) (place : ℕ) → slice_get os place ≡ Some x → slice_get (os ++ o ∷ []) place ≡ Some x
get-push [] o x place found = absurd (cc)
get-push (y ∷ os) o x zero found = found
get-push (y ∷ os) o x (suc place) found = get-push os o x place found

get-last : (os : List ObjectView) (o : ObjectView) → slice_get (os ++ o ∷ []) (length os) ≡ Some o
get-last [] o = refl
get-last (x ∷ os) o = get-last os o

-- logs of equal objects are equal
same-upto : (old new : EventLogView) (n : ℕ) → ((object : ℕ) → object < n → slot_in new object ≡ slot_in old object) → logs_upto new n ≡ logs_upto old n
unfolding logs_upto
same-upto old new zero same = refl
same-upto old new (suc n) same = (let more = same-upto old new n (λ object below. same object (omega arith)) in let last = same n (omega arith) in λ i. more i ++ last i ∷ [])

upto-more : (log : EventLogView) (n : ℕ) → logs_upto log (n + 1) ≡ logs_upto log n ++ slot_in log n ∷ []
unfolding logs_upto
upto-more log n = (let next : n + 1 ≡ suc n = omega arith in ap (logs_upto log) next)

not-below : (n : ℕ) → n < n → ⊥
not-below n below = absurd (omega arith)

below-other : (n k : ℕ) → k < n → n ≡ k → ⊥
below-other n k below same = absurd (omega arith)

below-more : (k n : ℕ) → k < n → k < n + 1
below-more k n below = omega arith

last-below : (k n : ℕ) → n ≡ k → k < n + 1
last-below k n same = omega arith

most-more : (k n : ℕ) → k ≤ n → k ≤ n + 1
most-more k n most = omega arith

both-more : (k n : ℕ) → k ≤ n → k + 1 ≤ n + 1
both-more k n most = omega arith

module _ (m : Meaning) (homes : HomesView) (number : ℕ) where
  pub first-none : (v : NodeLogView) → v.log ≡ record { objects = []; done = [] } → v.chained ≡ [] → v.nodes ≡ homes.nodes → AreFirst m homes number 0 v [] 0
  unfolding state_in logs_upto first_logs
  first-none v log chained nodes =
      let none : (object : ℕ) → is_some (state_in v.log.objects object) ≡ true → ⊥ = λ object here. (let away : is_some (state_in v.log.objects object) ≡ false = ap (λ (l : EventLogView). is_some (state_in l.objects object)) log in absurd (cc)) in
      record {
        long = refl;
        nodes = nodes;
        chained = chained;
        done = ap (λ (l : EventLogView). l.done) log;
        here_is = sym (ap (λ (l : EventLogView). length l.objects) log);
        few = omega arith;
        inside = λ object here. absurd (none object here);
        placed = λ object here. absurd (none object here);
        logs = refl;
      }

  module _ (n : ℕ) (v : NodeLogView) (places : List ℕ) (here : ℕ) (are : AreFirst m homes number n v places here) where
    -- the next object isn't here yet
    pub next-new : state_in v.log.objects n ≡ None
    next-new = none-found (state_in v.log.objects n) (λ found. not-below n (are.inside n found))

    long-more : length (places ++ here ∷ []) ≡ n + 1
    long-more = length-append places (here ∷ []) ∙ ap (λ k. k + 1) are.long

    place-kept : (object : ℕ) → object < n → slice_index_or places object 0 ≡ slice_index_or (places ++ here ∷ []) object 0
    place-kept object below = (let W : ℕ → Type 0 = λ k. object < k in sym (get_or-append places (here ∷ []) 0 object (subst W (sym are.long) below)))

    place-last : here ≡ slice_index_or (places ++ here ∷ []) n 0
    place-last = sym (ap (λ k. slice_index_or (places ++ here ∷ []) k 0) (sym are.long) ∙ get_or-append_seam places here [] 0)

    -- it is another node's
    pub first-away : (home_of homes n ≡ number → ⊥) → AreFirst m homes number (n + 1) v (places ++ here ∷ []) here
    first-away apart =
        let P : ℕ → ℕ → Type 0 = λ object place. IsPlaced v.log place object in
        record {
          long = long-more;
          nodes = are.nodes;
          chained = are.chained;
          done = are.done;
          here_is = are.here_is;
          few = most-more _ _ are.few;
          inside = λ object found. below-more _ _ (are.inside object found);
          placed = λ object found. subst (P object) (place-kept object (are.inside object found)) (are.placed object found);
          logs = logs-more m (home_of homes) number n (logs_upto v.log n) (logs_upto v.log (n + 1)) (slot_in v.log n) are.logs (upto-more v.log n)
              (ap (slot_of v.log.done n) next-new ∙ sym (log-elsewhere m (home_of homes) number n apart));
        }

    -- it is put behind the others
    module _ (w : NodeLogView) (o : ObjectView) (number_is : o.object ≡ n) (objects : w.log.objects ≡ v.log.objects ++ o ∷ []) (done : w.log.done ≡ v.log.done) where
      at-other : (object : ℕ) → (n ≡ object → ⊥) → state_in w.log.objects object ≡ state_in v.log.objects object
      at-other object apart = ap (λ os. state_in os object) objects ∙ push-other v.log.objects o object (λ same. apart (sym number_is ∙ same))

      at-own : state_in w.log.objects n ≡ Some o.state
      at-own = ap (λ k. state_in w.log.objects k) (sym number_is) ∙ ap (λ os. state_in os o.object) objects ∙ push-own v.log.objects o (ap (state_in v.log.objects) number_is ∙ next-new)

      slots-kept : (object : ℕ) → object < n → slot_in w.log object ≡ slot_in v.log object
      slots-kept object below = (let state = at-other object (below-other n object below) in λ i. slot_of (done i) object (state i))

      was-found : (object : ℕ) → (n ≡ object → ⊥) → is_some (state_in w.log.objects object) ≡ true → is_some (state_in v.log.objects object) ≡ true
      was-found object apart found = sym (ap is_some (at-other object apart)) ∙ found

      stands-kept : (object place : ℕ) → IsPlaced v.log place object → IsPlaced w.log place object
      stands-kept object place at = (at.0, ap (λ os. slice_get os place) objects ∙ get-push v.log.objects o at.0 place at.1, at.2)

      stands-last : IsPlaced w.log here n
      stands-last = (o, ap (λ os. slice_get os here) objects ∙ ap (slice_get (v.log.objects ++ o ∷ [])) are.here_is ∙ get-last v.log.objects o, number_is)

      inside-more : (object : ℕ) → is_some (state_in w.log.objects object) ≡ true → object < n + 1
      inside-more object found =
          ⊎_elim (last-below object n) (λ apart. below-more _ _ (are.inside object (was-found object apart found))) (cases_eq n object)

      placed-more : (object : ℕ) → is_some (state_in w.log.objects object) ≡ true → IsPlaced w.log (slice_index_or (places ++ here ∷ []) object 0) object
      placed-more object found =
          let P : ℕ → ℕ → Type 0 = λ k place. IsPlaced w.log place k in
          let Q : ℕ → Type 0 = λ k. IsPlaced w.log (slice_index_or (places ++ here ∷ []) k 0) k in
          ⊎_elim
          (λ (same : n ≡ object). subst Q same (subst (P n) place-last stands-last))
          (λ apart. let was = was-found object apart found in
          subst (P object) (place-kept object (are.inside object was)) (stands-kept object (slice_index_or places object 0) (are.placed object was)))
          (cases_eq n object)

      pub first-here : home_of homes n ≡ number → o.state ≡ first_object m n → w.chained ≡ v.chained → w.nodes ≡ v.nodes → AreFirst m homes number (n + 1) w (places ++ here ∷ []) (here + 1)
      first-here home state chained nodes =
          let count = ap length objects ∙ length-append v.log.objects (o ∷ []) in
          let none : w.log.done ≡ [] = done ∙ are.done in
          record {
            long = long-more;
            nodes = nodes ∙ are.nodes;
            chained = chained ∙ are.chained;
            done = none;
            here_is = ap (λ k. k + 1) are.here_is ∙ sym count;
            few = both-more _ _ are.few;
            inside = inside-more;
            placed = placed-more;
            logs = logs-more m (home_of homes) number n (logs_upto w.log n) (logs_upto w.log (n + 1)) (slot_in w.log n) (same-upto v.log w.log n slots-kept ∙ are.logs) (upto-more w.log n)
                (ap (slot_of w.log.done n) at-own ∙ (λ i. Some (record { object = n; state = state i; done = dones_at n (none i) })) ∙ sym (log-here m (home_of homes) number n home));
          }

  -- all are
  pub first-logged : (v : NodeLogView) (places : List ℕ) (here : ℕ) → length homes.homes ≡ m.objects → AreFirst m homes number m.objects v places here → AreLogged homes v places
  first-logged v places here objects are = record {
    long = are.long ∙ sym objects;
    nodes = are.nodes;
    homed = none-homed homes.homes v are.chained;
    inside = λ object found. (let W : ℕ → Type 0 = λ k. object < k in subst W (sym objects) (are.inside object found));
    placed = are.placed;
  }
