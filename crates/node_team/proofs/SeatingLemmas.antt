-- Floors of nodes, and what is said of nodes at their seats.
use Rattle.std.proofs.Common.{◌≡◌, ℕ, zero, suc, ◌+◌, ◌≤◌, Bool, true, false, List, [], ◌∷◌, ◌++◌, length, map, get_or, refl, sym, ap, ◌∙◌, subst, arith, ltb, ltb-true, ltb-false}
use Rattle.std.proofs.Math.Seq.{get_or-append_seam}
use Rattle.std.proofs.lemmas.List.{append-nil, length-append, length-map, get_or_append_left}
use Rattle.std.specs.Option.{option_to_list}
use Rattle.std.proofs.lemmas.Option.{get_or_from_slice_get, slice_get-get_or, slice_get_within}
use Rattle.std.specs.Prelude.{Contains, slice_get, Option, Some, None, filter, ◌==◌, All, Result, Ok, Err, IsOk, IfOk, OnOk, Vec}
use Rattle.std.specs.declared.alloc.Global.{Global}
use Rattle.std.specs.List.{AllByRecursion as Each}
use Rattle.event_key.specs.declared.key.Key.{Key}
use Rattle.event_key.specs.Keys.{key_lt}
use Rattle.event_key.specs.Stamps.{end_stamp}
use Rattle.event_key.proofs.Order.{key_lt-stamp}
use Rattle.delta_exchange.specs.declared.memory.OutOfMemory.{OutOfMemory}
use Rattle.model_core.specs.Meaning.{Meaning}
use Rattle.model_core.specs.declared.event.Event.{Event}
use Rattle.sim_spec.specs.Replay.{events_at}
use Rattle.key_order.proofs.EachLemmas.{Each-map}
use Rattle.object_log.specs.Dones.{Done}
use Rattle.object_log.specs.Logs.{events_of, keys_of}
use Rattle.key_order.proofs.MemberLemmas.{is-first, is-later}
use Rattle.world_spec.proofs.NodeFacts.{each-object}
use Rattle.horizon_word.specs.Views.{WordId, SeatView, new_seat}
use Rattle.node_core.specs.Calls.{IsLeastKeyOf}
use Rattle.node_core.specs.Nodes.{NodeView, log_at, home, pending_at, share_of, ahead_of}
use Rattle.cycle_core.specs.Known.{IsKnown}
use Rattle.cycle_core.specs.Works.{IsSmall}
use Rattle.cycle_core.proofs.PlaceLemmas.{same-some}
use Rattle.node_team.specs.declared.seating.Seated.{Seated}
use Rattle.node_team.specs.Advances.{AreFrom, CanAdvance}
use Rattle.node_team.specs.Forks.{CanGo, HasRun, AllHaveRun, CanAllRun}
use Rattle.node_team.specs.Teams.{IsFloorOf}
use Rattle.node_team.specs.Turns.{node_in, AllAnswered, AllCanGo, AllHaveGone, AreSeatedWith, HasGone}

each-from : (P : Event → Type 0) (xs : List Event) → ((e : Event) → Contains xs e → P e) → Each P xs
each-from P [] all = tt
each-from P (x ∷ xs) all = (all x (is-first x x xs refl), each-from P xs (λ e there. all e (is-later e x xs there)))

empty-of : (ds : List Done) → length ds ≡ 0 → ds ≡ []
empty-of [] none = refl
empty-of (d ∷ ds) none = absurd (omega arith)

-- what is said of each value is said of the one at a place
pub at-each-place : {A : Type 0} (P : A → Type 0) (xs : List A) → All P xs → (place : ℕ) (x : A) → slice_get xs place ≡ Some x → P x
at-each-place P xs all place x at = subst P (get_or_from_slice_get xs place x x at) (all place x (slice_get_within xs place x at))

-- what is said of each value is said of the last one and of those before it
pub popped : {A : Type 0} (P : A → Type 0) (all rest : List A) (last : Option A) (x : A) → all ≡ rest ++ option_to_list last → last ≡ Some x → All P all → P x × All P rest
popped P all rest last x is some each =
    let whole : all ≡ rest ++ x ∷ [] = is ∙ ap (λ o. rest ++ option_to_list o) some in
    let Q : List _ → Type 0 = All P in
    let now : Q (rest ++ x ∷ []) = subst Q whole each in
    let long = length-append rest (x ∷ []) in
    (subst P (get_or-append_seam rest x [] x) (now (length rest) x (omega arith)), λ k d below. subst P (get_or_append_left rest (x ∷ []) d k below) (now k d (omega arith)))

module _ {M : Type 0} (m : Meaning) (n : NodeView M) where
  pub floor-least : (key : Key) (floor : ℕ) → IsLeastKeyOf m n (Some key) → floor ≤ key.stamp + 1 → IsFloorOf m floor n
  floor-least key floor least low object at = each-from (λ (e : Event). floor ≤ e.key.stamp + 1) (pending_at n.logs n.waiting object) (λ e there. by_stamp e (least.1 object at e there) (ltb e.key.stamp key.stamp) refl)
    where
      by_stamp : (e : Event) → key_lt e.key key ≡ false → (b : Bool) → ltb e.key.stamp key.stamp ≡ b → floor ≤ e.key.stamp + 1
      by_stamp e not_lt true h = let yes = key_lt-stamp e.key key (ltb-true e.key.stamp key.stamp h) in absurd (cc)
      by_stamp e not_lt false h = let ge = ltb-false e.key.stamp key.stamp h in omega arith

  pub floor-none : (floor : ℕ) → IsKnown m n → IsLeastKeyOf m n None → IsFloorOf m floor n
  unfolding events_at
  floor-none floor known none object at =
      let part = known.keys.parts object in
      let nothing : keys_of (log_at n.logs object).done ≡ [] = sym part ∙ ap (filter (λ (k : Key). k.dest == object)) none.0 in
      let short : length (log_at n.logs object).done ≡ 0 = sym (length-map (log_at n.logs object).done (λ d. d.event.key)) ∙ ap length nothing in
      let P : List Done → List Event → Type 0 = λ ds ws. AreFrom floor (events_of ds ++ events_at object ws) in
      let zero_done = empty-of (log_at n.logs object).done short in
      subst (λ ds. P ds n.waiting) (sym zero_done) (subst (λ ws. P [] ws) (sym none.1) tt)

  pub floor-lower : (f g : ℕ) → f ≤ g → IsFloorOf m g n → IsFloorOf m f n
  floor-lower f g le from object at = Each-map (λ (e : Event). g ≤ e.key.stamp + 1) (λ (e : Event). f ≤ e.key.stamp + 1) (pending_at n.logs n.waiting object) (λ e low. omega arith) (from object at)

  -- a node can advance with a new seat whose floor is below its events
  pub can-advance : (word : WordId) (floor : ℕ) → IsKnown m n → IsFloorOf m floor n → IsSmall m n → CanAdvance m n (new_seat word floor (end_stamp n.terms.end))
  can-advance word floor known from small = record {
    floor =
        (let its = known.only (share_of n) (ahead_of n) known.stands in
        let P : List Event → Type 0 = AreFrom floor in
        each-object (λ (e : Event). floor ≤ e.key.stamp + 1) m (home n) n.number (share_of n).pending known.stands.stands.homed
        (λ object at. subst P (sym (its.pending object at)) (from object at)));
    least = omega arith;
    seen = omega arith;
    small = small;
  }

module _ {M : Type 0} (meaning_of : M → Meaning) where
  -- each can go
  pub all-can-go : (word : WordId) (nodes : List (NodeView M)) (seats : List SeatView) (all : List (Seated M)) → (can : CanAllRun meaning_of word nodes seats) → map node_in all ≡ nodes → AreSeatedWith can.seat all
      → AllCanGo meaning_of word all
  all-can-go word nodes seats all can are seated k d below =
      let t = get_or all k d in
      let there : slice_get nodes k ≡ Some t.node = ap (λ ns. slice_get ns k) (sym are) ∙ map-at all k t (slice_get-get_or all k d below) in
      let P : SeatView → Type 0 = λ s. CanGo meaning_of word t.node s in
      subst P (sym (seated k d below)) (can.can k t.node there)
    where
      map-at : (ts : List (Seated M)) (k : ℕ) (x : Seated M) → slice_get ts k ≡ Some x → slice_get (map node_in ts) k ≡ Some x.node
      map-at [] k x at = absurd (cc)
      map-at (y ∷ ys) zero x at = ap (λ o. Some o) (ap node_in (same-some y x at))
      map-at (y ∷ ys) (suc k) x at = map-at ys k x at

  -- what each left, place by place
  pub gone-at : (word : WordId) (ahead : ℕ) (old new : List (Seated M)) → AllHaveGone meaning_of word ahead old new
      → (length new ≡ length old)
      × ((place : ℕ) (x y : NodeView M) → slice_get (map node_in old) place ≡ Some x → slice_get (map node_in new) place ≡ Some y
      → (t : Seated M) × (u : Seated M) × (t.node ≡ x) × (u.node ≡ y) × (slice_get new place ≡ Some u) × HasGone meaning_of word ahead t u)
  gone-at word ahead [] [] all = (refl, λ place x y a b. absurd (cc))
  gone-at word ahead [] (u ∷ us) all = absurd all
  gone-at word ahead (t ∷ ts) [] all = absurd all
  gone-at word ahead (t ∷ ts) (u ∷ us) all =
      let more = gone-at word ahead ts us all.1 in
      ((let same = more.0 in omega arith), λ place x y a b. by_place more.1 place x y a b)
    where
      by_place : ((place : ℕ) (x y : NodeView M) → slice_get (map node_in ts) place ≡ Some x → slice_get (map node_in us) place ≡ Some y
          → (t' : Seated M) × (u' : Seated M) × (t'.node ≡ x) × (u'.node ≡ y) × (slice_get us place ≡ Some u') × HasGone meaning_of word ahead t' u')
          → (place : ℕ) (x y : NodeView M) → slice_get (map node_in (t ∷ ts)) place ≡ Some x → slice_get (map node_in (u ∷ us)) place ≡ Some y
          → (t' : Seated M) × (u' : Seated M) × (t'.node ≡ x) × (u'.node ≡ y) × (slice_get (u ∷ us) place ≡ Some u') × HasGone meaning_of word ahead t' u'
      by_place rest zero x y a b = (t, u, same-some t.node x a, same-some u.node y b, refl, all.0)
      by_place rest (suc k) x y a b = rest k x y a b

  -- so each has run
  pub all-run : (word : WordId) (ahead : ℕ) (old new : List (Seated M)) → AllHaveGone meaning_of word ahead old new → AllAnswered new → AllHaveRun meaning_of ahead (map node_in old) (map node_in new)
  all-run word ahead old new gone answered = record {
    many = length-map new node_in ∙ (gone-at word ahead old new gone).0 ∙ sym (length-map old node_in);
    pairs = λ place x y a b.
        let g = (gone-at word ahead old new gone).1 place x y a b in
        let advanced = on-ok g.1.answer (at-each-place (λ u. IsOk u.answer) new answered place g.1 g.4) g.5.advanced in
        let P : NodeView M → NodeView M → Type 0 = λ v w. HasRun (meaning_of v.model) ahead v w in
        subst (λ w. P x w) g.3 (subst (λ v. P v g.1.node) g.2 (record { works = g.5.works; deep = advanced.deep }));
  }
    where
      on-ok : {P : Type 0} (r : Result (Unit {0}) OutOfMemory) → IsOk r → OnOk r P → P
      on-ok (Ok v) is p = p
      on-ok (Err e) is p = absurd (cc)

  -- the nodes that leave their seats have run
  pub unseated-run : (word : WordId) (ahead : ℕ) (nodes : List (NodeView M)) (old new : List (Seated M)) (left : Result (Vec (NodeView M) Global) OutOfMemory) → map node_in old ≡ nodes → AllHaveGone meaning_of word ahead old new
      → IfOk left (λ now. now.items ≡ map node_in new) → OnOk left (AllAnswered new) → IfOk left (λ now. AllHaveRun meaning_of ahead nodes now.items)
  unseated-run word ahead nodes old new (Err refused) are gone is answered = tt
  unseated-run word ahead nodes old new (Ok now) are gone is answered =
      let P : List (NodeView M) → List (NodeView M) → Type 0 = AllHaveRun meaning_of ahead in
      subst (λ ns. P nodes ns) (sym is) (subst (λ ns. P ns (map node_in new)) are (all-run word ahead old new gone answered))

-- what was yielded is all, where nothing is left
pub nothing-left : {A : Type 0} (xs ys zs : List A) (many : ℕ) → xs ++ ys ≡ zs → many ≡ length ys → many ≡ 0 → xs ≡ zs
nothing-left xs [] zs many whole long none = sym (append-nil xs) ∙ whole
nothing-left xs (y ∷ ys) zs many whole long none = absurd (omega arith)
