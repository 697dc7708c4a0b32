-- What stays processed over the end of a cycle, and how much is undone at an object and at a node.
use Rattle.std.proofs.Common.{Bool, List, [], ap, arith, cond, drop, eqb, eqb-true, false, le-ltb, length, lt-ltb, ltb, ltb-false, ltb-true, not, refl, subst, suc, sym, true, zero, ℕ, ◌&&◌, ◌+◌, ◌<◌, ◌∙◌, ◌∷◌, ◌≡◌, ◌≤◌}
use Rattle.std.proofs.lemmas.Bool.{eqb-false}
use Rattle.std.specs.Prelude.{Contains, filter}
use Rattle.model_core.specs.Meaning.{Meaning, MeaningLaws}
use Rattle.model_core.specs.declared.event.Event.{Event}
use Rattle.sim_spec.specs.Cut.{after, committed_events, emissions_of, events_of}
use Rattle.sim_spec.specs.Firing.{Firing}
use Rattle.key_order.specs.Ascending.{IsAscending}
use Rattle.sim_spec.specs.Replay.{events_at}
use Rattle.sim_spec.specs.State.{Lawful, State}
use Rattle.sim_spec.specs.declared.terms.Terms.{Terms}
use Rattle.sim_spec.proofs.BucketLaw.{bucket_law}
use Rattle.key_order.proofs.EachLemmas.{Each-take}
use Rattle.sim_spec.proofs.InTurnLemmas.{drop-front}
use Rattle.sim_spec.proofs.PartLemmas.{events_at-dest}
use Rattle.world_spec.specs.Closed.{CarriedLaw, is_late, undone_at, undone_upto}
use Rattle.world_spec.specs.Early.{IsClosed, RunsAhead, early_events, is_before_all, kept}
use Rattle.world_spec.proofs.CarriedLemmas.{carried, undone-le}
use Rattle.world_spec.proofs.ClosedFacts.{left_of}
use Rattle.world_spec.proofs.ClosedLaw.{committed_processed, pending_is}
use Rattle.key_order.proofs.MemberLemmas.{each-contains, filter-contains}
use Rattle.world_spec.proofs.ProcessedLemmas.{IsProcessed}

-- at an object of a list the late events are those that come late for its messages
late_at : (done : List (Event × Firing)) (object : ℕ) (es : List Event)
    → filter (λ e. not (is_before_all (events_at object (emissions_of done)) e)) (events_at object es) ≡ filter (is_late done) (events_at object es)
unfolding events_at
late_at done object [] = refl
late_at done object (e ∷ es) = by_dest (eqb e.key.dest object) refl (late_at done object es)
  where
    comes : ℕ → Event → Bool
    comes at e = not (is_before_all (events_at at (emissions_of done)) e)

    by_dest : (b : Bool) → eqb e.key.dest object ≡ b → filter (comes object) (events_at object es) ≡ filter (is_late done) (events_at object es)
        → filter (comes object) (cond b (e ∷ events_at object es) (events_at object es)) ≡ filter (is_late done) (cond b (e ∷ events_at object es) (events_at object es))
    by_dest true here more =
        let same : comes object e ≡ is_late done e = ap (λ at. comes at e) (sym (eqb-true e.key.dest object here)) in
        ap (λ b. cond b (e ∷ filter (comes object) (events_at object es)) (filter (comes object) (events_at object es))) same
        ∙ ap (λ ys. cond (is_late done e) (e ∷ ys) ys) more
    by_dest false there more = more

-- the events that pass at the first n objects of a node
passing : (Event → Bool) → (ℕ → ℕ) → ℕ → ℕ → List Event → ℕ
passing p home node zero es = 0
passing p home node (suc n) es = passing p home node n es + cond (eqb (home n) node) (length (filter p (events_at n es))) 0

abbrev one_if : Bool → ℕ
one_if b = cond b 1 0

-- an event is counted at its own object alone
passing_one : (p : Event → Bool) (home : ℕ → ℕ) (node n : ℕ) (e : Event) (es : List Event)
    → passing p home node n (e ∷ es) ≡ passing p home node n es + one_if (ltb e.key.dest n && (p e && eqb (home e.key.dest) node))
unfolding passing events_at
passing_one p home node zero e es =
    let none : ltb e.key.dest 0 ≡ false = le-ltb e.key.dest 0 (omega arith) in
    sym (ap (λ b. 0 + one_if (b && (p e && eqb (home e.key.dest) node))) none)
passing_one p home node (suc n) e es = by_dest (eqb e.key.dest n) refl (passing_one p home node n e es)
  where
    at : ℕ
    at = cond (eqb (home n) node) (length (filter p (events_at n es))) 0

    counted : Bool → ℕ
    counted low = one_if (low && (p e && eqb (home e.key.dest) node))

    own : (c q : Bool) → cond c (length (cond q (e ∷ filter p (events_at n es)) (filter p (events_at n es)))) 0 ≡ cond c (length (filter p (events_at n es))) 0 + one_if (q && c)
    own true true = omega arith
    own true false = omega arith
    own false true = refl
    own false false = refl

    by_dest : (b : Bool) → eqb e.key.dest n ≡ b → passing p home node n (e ∷ es) ≡ passing p home node n es + counted (ltb e.key.dest n)
        → passing p home node n (e ∷ es) + cond (eqb (home n) node) (length (filter p (cond b (e ∷ events_at n es) (events_at n es)))) 0
        ≡ (passing p home node n es + at) + counted (ltb e.key.dest (suc n))
    by_dest true here more =
        let same : e.key.dest ≡ n = eqb-true e.key.dest n here in
        let not_below : ltb e.key.dest n ≡ false = le-ltb e.key.dest n (omega arith) in
        let below : ltb e.key.dest (suc n) ≡ true = lt-ltb e.key.dest (suc n) (omega arith) in
        let zero_here : counted (ltb e.key.dest n) ≡ 0 = ap counted not_below in
        let one_here : counted (ltb e.key.dest (suc n)) ≡ one_if (p e && eqb (home e.key.dest) node) = ap counted below in
        let home_same : one_if (p e && eqb (home e.key.dest) node) ≡ one_if (p e && eqb (home n) node) = ap (λ (o : ℕ). one_if (p e && eqb (home o) node)) same in
        let mine : cond (eqb (home n) node) (length (filter p (e ∷ events_at n es))) 0 ≡ at + one_if (p e && eqb (home n) node) = own (eqb (home n) node) (p e) in
        omega arith
    by_dest false there more =
        let apart = eqb-false e.key.dest n there in
        let same : ltb e.key.dest (suc n) ≡ ltb e.key.dest n = below_more (ltb e.key.dest n) refl apart in
        let counts : counted (ltb e.key.dest (suc n)) ≡ counted (ltb e.key.dest n) = ap counted same in
        omega arith
      where
        below_more : (b : Bool) → ltb e.key.dest n ≡ b → (e.key.dest ≡ n → ⊥) → ltb e.key.dest (suc n) ≡ b
        below_more true lt apart = lt-ltb e.key.dest (suc n) (let low = ltb-true e.key.dest n lt in omega arith)
        below_more false ge apart = le-ltb e.key.dest (suc n) (let high = ltb-false e.key.dest n ge in omega arith)

passing_none : (p : Event → Bool) (home : ℕ → ℕ) (node n : ℕ) → passing p home node n [] ≡ 0
unfolding passing events_at
passing_none p home node zero = refl
passing_none p home node (suc n) =
    let more = passing_none p home node n in
    let none = nothing (eqb (home n) node) in
    omega arith
  where
    nothing : (b : Bool) → cond b (length (filter p (events_at n []))) 0 ≡ 0
    nothing true = refl
    nothing false = refl

-- so they are no more than all that pass at the node
passing_le : (p : Event → Bool) (home : ℕ → ℕ) (node n : ℕ) (es : List Event) → passing p home node n es ≤ length (filter (λ e. p e && eqb (home e.key.dest) node) es)
passing_le p home node n [] = let none = passing_none p home node n in omega arith
passing_le p home node n (e ∷ es) =
    let one = passing_one p home node n e es in
    let more = passing_le p home node n es in
    let le = counted_le (ltb e.key.dest n) (p e && eqb (home e.key.dest) node) in
    omega arith
  where
    others : List Event
    others = filter (λ e. p e && eqb (home e.key.dest) node) es

    counted_le : (low q : Bool) → cond (low && q) 1 0 + length others ≤ length (cond q (e ∷ others) others)
    counted_le true true = omega arith
    counted_le true false = omega arith
    counted_le false true = omega arith
    counted_le false false = omega arith

undone_upto_le : (m : Meaning) (t : Terms) (s : State) (home : ℕ → ℕ) (ahead : ℕ → ℕ) (node n : ℕ) (p : Event → Bool) (es : List Event) → n ≤ m.objects
    → ((object : ℕ) → object < m.objects → undone_at m t s ahead object ≤ length (filter p (events_at object es))) → undone_upto m t s home ahead node n ≤ passing p home node n es
unfolding undone_upto passing
undone_upto_le m t s home ahead node zero p es upto each = omega arith
undone_upto_le m t s home ahead node (suc n) p es upto each =
    let more = undone_upto_le m t s home ahead node n p es (omega arith) each in
    let one = each n (omega arith) in
    let le : cond (eqb (home n) node) (undone_at m t s ahead n) 0 ≤ cond (eqb (home n) node) (length (filter p (events_at n es))) 0 =
    elim (eqb (home n) node) as (λ b. cond b (undone_at m t s ahead n) 0 ≤ cond b (length (filter p (events_at n es))) 0) [ true ↦ one | false ↦ omega arith ] in
    omega arith

module _ (m : Meaning) (t : Terms) (laws : MeaningLaws m) (s : State) (ahead : ℕ → ℕ) (bound : ℕ) (lawful : Lawful m t s) (runs : RunsAhead m t s ahead) (closed : IsClosed m t s ahead bound) where
  abbrev done : List (Event × Firing)
  done = committed_events m t s

  ordered : IsAscending (after m t s).pending
  ordered = (bucket_law m t laws s lawful).lawful.ordered

  processed : (object : ℕ) → object < m.objects → IsProcessed m t s done (left_of m t s) object (ahead object)
  processed = committed_processed m t s ahead bound lawful runs closed

  left_is : drop (length done) s.pending ≡ left_of m t s
  left_is = ap (drop (length done)) (pending_is m t s lawful) ∙ drop-front done (left_of m t s)

  stays : (object : ℕ) → object < m.objects → (e : Event) → Contains (early_events s object (ahead object)) e → (Contains (events_of done) e → ⊥) → is_late done e ≡ false
      → Contains (early_events (after m t s) object (kept s done ahead object)) e
  unfolding after events_at
  stays object below e was undone on_time =
      let P : Event → Type 0 = λ x. x.key.dest ≡ object in
      let at : e.key.dest ≡ object = each-contains P e (early_events s object (ahead object)) (Each-take P (ahead object) (events_at object s.pending) (events_at-dest object s.pending)) was in
      let before : is_before_all (events_at object (emissions_of done)) e ≡ true =
      ap (λ o. is_before_all (events_at o (emissions_of done)) e) (sym at) ∙ not_late (is_before_all (events_at e.key.dest (emissions_of done)) e) on_time in
      carried m t s done (left_of m t s) ahead object e (processed object below) lawful.ordered ordered was
      (λ is_in. undone (filter-contains (λ x. eqb x.key.dest object) e (events_of done) is_in)) before
    where
      not_late : (b : Bool) → not b ≡ false → b ≡ true
      not_late true h = refl
      not_late false h = absurd (cc)

  undone : (object : ℕ) → object < m.objects → undone_at m t s ahead object ≤ length (filter (is_late done) (events_at object (drop (length done) s.pending)))
  undone object below =
      let P : List Event → Type 0 = λ es. undone_at m t s ahead object ≤ length es in
      let at_left : P (filter (is_late done) (events_at object (left_of m t s))) =
      subst P (late_at done object (left_of m t s)) (undone-le m t s done (left_of m t s) ahead object (processed object below) lawful.ordered) in
      let Q : List Event → Type 0 = λ es. P (filter (is_late done) (events_at object es)) in
      subst Q (sym left_is) at_left

  undone_node : (home : ℕ → ℕ) (node : ℕ)
      → undone_upto m t s home ahead node m.objects ≤ length (filter (λ e. is_late done e && eqb (home e.key.dest) node) (drop (length done) s.pending))
  undone_node home node =
      let upto = undone_upto_le m t s home ahead node m.objects (is_late done) (drop (length done) s.pending) (omega arith) undone in
      let all = passing_le (is_late done) home node m.objects (drop (length done) s.pending) in
      omega arith

pub carried_law : (m : Meaning) (t : Terms) → MeaningLaws m → CarriedLaw m t
carried_law m t laws s ahead bound lawful runs closed = record {
  stays = stays m t laws s ahead bound lawful runs closed;
  undone_at_object = undone m t laws s ahead bound lawful runs closed;
  undone_at_node = undone_node m t laws s ahead bound lawful runs closed;
}
