-- A world at its start: nodes with the states of their objects, and the events that arrive there.
use Rattle.std.proofs.Common.{◌≡◌, ◌⊎◌, inl, inr, ℕ, zero, suc, ◌+◌, ◌<◌, ◌≤◌, Bool, true, List, [], ◌∷◌, ◌++◌, length, get_or, refl, sym, ap, ◌∙◌, subst, arith, eqb-true}
use Rattle.std.proofs.lemmas.List.{length-append}
use Rattle.std.proofs.lemmas.List.FromFn.{map-range_with_len_more}
use Rattle.std.proofs.lemmas.Option.{slice_get-get_or, slice_get_within}
use Rattle.std.specs.Prelude.{slice_get, Some, None, filter}
use Rattle.std.specs.List.{AllByRecursion as Each}
use Rattle.model_core.specs.declared.event.Event.{Event}
use Rattle.model_core.specs.Meaning.{Meaning}
use Rattle.sim_spec.specs.declared.terms.Terms.{Terms}
use Rattle.sim_spec.specs.Replay.{events_at}
use Rattle.sim_spec.specs.State.{AllSound, State, object_at, start_event}
use Rattle.sim_spec.proofs.PartLemmas.{AllSound-dest, IsAscending-events_at, events_at-enqueue_all}
use Rattle.key_order.specs.Ascending.{IsAscending, key_of}
use Rattle.key_order.specs.Pending.{enqueue_all, in_order}
use Rattle.key_order.proofs.AscendingLemmas.{Ascends-filter}
use Rattle.key_order.proofs.EachLemmas.{Each-both, Each-filter}
use Rattle.key_order.proofs.EnqueueLemmas.{Each-enqueued_all}
use Rattle.key_order.proofs.FilterLemmas.{filter-passes, length-filter_le}
use Rattle.key_order.proofs.InOrder.{length-in_order}
use Rattle.key_order.proofs.ShareLemmas.{filter-enqueue_all}
use Rattle.object_log.specs.Logs.{events_of}
use Rattle.sim_spec.specs.Standing.{stands}
use Rattle.world_spec.specs.Early.{leading}
use Rattle.world_spec.specs.Moves.{received_ahead}
use Rattle.world_spec.specs.Share.{IsAtHome, IsHome, NodeData, Share, StandsFor, is_at}
use Rattle.node_core.specs.Blank.{AreEmpty}
use Rattle.node_core.specs.Calls.{HasReceived, IsNewNode}
use Rattle.node_core.specs.Homes.{HomesView, home_of}
use Rattle.node_core.specs.Nodes.{NodeView, Stands, data_of, home, pending_at}
use Rattle.node_core.proofs.NewFacts.{blank-stands}
use Rattle.cycle_core.specs.Ends.{AllCanReceive, ReceiveUpto}
use Rattle.cycle_core.specs.Places.{AtEach}
use Rattle.cycle_core.specs.Standings.{WorldStandsAt}
use Rattle.cycle_core.specs.Starts.{AreNewNodes, ArePartsOf, CanBegin, first_events}
use Rattle.cycle_core.specs.Worlds.{IsNodeOf, StandsAt, WorldView}
use Rattle.cycle_core.proofs.EndLemmas.{node-same, stands-as, to-world}
use Rattle.cycle_core.proofs.PlaceLemmas.{at-some, same-some}
use Rattle.cycle_core.proofs.WorldLemmas.{data-is}

module _ {A : Type 0} where
  no-length : (xs : List A) → length xs ≡ 0 → xs ≡ []
  no-length [] none = refl
  no-length (x ∷ xs) none = absurd (omega arith)

-- what stands at a place of a list with one element more
append-at : {A : Type 0} (xs : List A) (x : A) (k : ℕ) (y : A) → slice_get (xs ++ x ∷ []) k ≡ Some y → (slice_get xs k ≡ Some y) ⊎ ((k ≡ length xs) × (x ≡ y))
append-at [] x zero y at = inr (refl, same-some x y at)
append-at [] x (suc k) y at = absurd (cc)
append-at (z ∷ zs) x zero y at = inl at
append-at (z ∷ zs) x (suc k) y at = elim (append-at zs x k y at) [ inl here ↦ inl here | inr last ↦ inr (ap suc last.0, last.1) ]

-- one new node more
pub nodes-more : {M : Type 0} (m : Meaning) (model : M) (terms : Terms) (homes : HomesView) (n : ℕ) (nodes new : List (NodeView M)) (x : NodeView M)
    → AreNewNodes m model terms homes n nodes → IsNodeOf model terms homes n x → IsNewNode m x → new ≡ nodes ++ x ∷ [] → AreNewNodes m model terms homes (n + 1) new
nodes-more m model terms homes n nodes new x are is fresh new_is = record {
  many = ap length new_is ∙ length-append nodes (x ∷ []) ∙ ap (λ k. k + 1) are.many;
  each = λ number y at.
      elim (append-at nodes x number y (ap (λ ns. slice_get ns number) (sym new_is) ∙ at)) [
        | inl here ↦ are.each number y here
        | inr last ↦ (
            let N : ℕ → NodeView _ → Type 0 = λ k v. IsNodeOf model terms homes k v × IsNewNode m v in
            let place : n ≡ number = sym are.many ∙ sym last.0 in
            subst (N number) last.1 (subst (λ k. N k x) place (is, fresh)))
      ];
}

-- no event is anywhere yet
pub no-parts : (homes : HomesView) (nodes : ℕ) (parcels : List (List Event)) → AreEmpty nodes parcels → nodes ≡ homes.nodes → ArePartsOf homes [] parcels
no-parts homes nodes parcels empty same = record { many = empty.many ∙ same; parts = λ to below. empty.empty to }

module _ (homes : HomesView) (es : List Event) (parcels : List (List Event)) (e : Event) (so_far : ArePartsOf homes es parcels) where
  abbrev place : ℕ
  place = home_of homes e.key.dest

  abbrev at : ℕ → Event → Bool
  at = is_at (home_of homes)

  pub parcel-few : place < homes.nodes → length (get_or parcels place []) ≤ length es
  parcel-few inside =
      let le = length-filter_le (at place) es in
      let same : length (get_or parcels place []) ≡ length (filter (at place) es) = ap length (so_far.parts place inside) in
      omega arith

pub first-more : (m : Meaning) (n : ℕ) → first_events m n ++ start_event m n ∷ [] ≡ first_events m (n + 1)
first-more m n = sym (map-range_with_len_more (start_event m) 0 n n (omega arith))

module _ {M : Type 0} (meaning_of : M → Meaning) (w : WorldView M) (parcels : List (List Event)) (s : State) (can : CanBegin meaning_of w parcels s) where
  abbrev m : Meaning
  m = meaning_of w.model

  abbrev p : ℕ → Event → Bool
  p number = is_at (home_of w.homes) number

  up : IsAscending (in_order can.events)
  up = subst IsAscending can.pending can.lawful.ordered

  dests : Each (λ (e : Event). e.key.dest < m.objects) can.events
  dests =
      (Each-enqueued_all (λ (e : Event). e.key.dest < m.objects) can.events []
      (AllSound-dest m s.objects (in_order can.events) (subst (AllSound m s.objects) can.pending can.lawful.sound))).0

  up-at : (number : ℕ) → IsAscending (enqueue_all (filter (p number) can.events) [])
  up-at number = subst IsAscending (filter-enqueue_all (p number) can.events [] up) (Ascends-filter key_of (p number) (in_order can.events) up)

  es-is : (number : ℕ) (es : List Event) → number < w.homes.nodes → slice_get parcels number ≡ Some es → es ≡ filter (p number) can.events
  es-is number es below at =
      let many = can.parts.many in
      same-some es (get_or parcels number []) (sym at ∙ slice_get-get_or parcels number [] (omega arith)) ∙ can.parts.parts number below

  pub can-start : AllCanReceive meaning_of parcels w.nodes
  unfolding events_at
  can-start number n es at at_es =
      let many = can.nodes.many in
      let lt = slice_get_within w.nodes number n at in
      let is = (can.nodes.each number n at).0 in
      let has = (can.nodes.each number n at).1 in
      let same = es-is number es (omega arith) at_es in
      let objects : (meaning_of n.model).objects ≡ m.objects = ap (λ v. (meaning_of v).objects) is.model_is in
      record {
        homed = subst (Each (IsAtHome (meaning_of n.model) (home n) n.number)) (sym same)
            (Each-both (λ (e : Event). e.key.dest < m.objects) (λ (e : Event). p number e ≡ true) (IsAtHome (meaning_of n.model) (home n) n.number) (filter (p number) can.events)
            (λ e low here. ((omega arith), ap (λ h. home_of h e.key.dest) is.homes_is ∙ eqb-true (home_of w.homes e.key.dest) number here ∙ sym is.number_is))
            (Each-filter (λ (e : Event). e.key.dest < m.objects) (p number) can.events dests) (filter-passes (p number) can.events));
        keys = λ object here.
            let H : M → Type 0 = λ v. IsHome (meaning_of v) (home n) n.number object in
            let done = has.none object (subst H is.model_is here) in
            let none : pending_at n.logs n.waiting object ≡ [] = ap (λ ds. events_of ds ++ events_at object n.waiting) done ∙ ap (events_at object) has.waiting in
            let there : IsAscending (enqueue_all es []) = subst (λ xs. IsAscending (enqueue_all xs [])) (sym same) (up-at number) in
            subst (λ xs. IsAscending (enqueue_all (events_at object es) xs)) (sym none) (subst IsAscending (events_at-enqueue_all object es [] there) (IsAscending-events_at object (enqueue_all es []) there));
        few =
            (let le = length-filter_le (p number) can.events in
            let count : length es ≡ length (filter (p number) can.events) = ap length same in
            let all : length s.pending ≡ length can.events = ap length can.pending ∙ length-in_order can.events in
            let a = ap length has.processed in
            let b = ap length has.waiting in
            let few = can.lawful.few in
            let done = can.lawful.count in
            let limit = w.terms.limit_in_range in
            omega arith);
      }

  module _ (news : List (NodeView M)) (receives : ReceiveUpto meaning_of (length w.nodes) parcels w.nodes news) where
    abbrev share_at : ℕ → Share
    share_at number = record { states = object_at s.objects; pending = enqueue_all (get_or parcels number []) [] }

    record Start (number : ℕ) (y : NodeView M) : Type 0 where
      is : IsNodeOf w.model w.terms w.homes number y
      stands : Stands m y (share_at number) (λ (object : ℕ). 0)
      processed : y.processed ≡ []

    start : (number : ℕ) (y : NodeView M) → number < w.homes.nodes → slice_get news number ≡ Some y → Start number y
    unfolding received_ahead leading
    start number y below at =
        let many = can.nodes.many in
        let many_now = receives.many in
        let parcels_many = can.parts.many in
        let x = at-some w.nodes number (omega arith) in
        let x_is = (can.nodes.each number x.0 x.1).0 in
        let has = (can.nodes.each number x.0 x.1).1 in
        let es = get_or parcels number [] in
        let r = receives.each number x.0 y es (omega arith) x.1 at (slice_get-get_or parcels number [] (omega arith)) in
        let roomy_is = node-same w.model w.terms w.homes number x.0 r.roomy x_is r.room.same in
        let R : M → Type 0 = λ v. HasReceived (meaning_of v) es r.roomy y r.count in
        let got = subst R x_is.model_is r.receives in
        let old : Share = record { states = object_at s.objects; pending = [] } in
        let blank = blank-stands m x.0 (object_at s.objects) (λ o here. can.lawful.cells o here.0) (λ o here. has.states_are o here (omega arith)) has.none has.waiting in
        let there = got.stands old (λ (object : ℕ). 0) (stands-as m x.0 r.roomy old (λ (object : ℕ). 0) r.room blank) in
        let still : received_ahead es old (λ (object : ℕ). 0) ≡ (λ (object : ℕ). 0) = refl in
        let a = ap length (r.room.processed ∙ has.processed) in
        let b = got.count_is in
        record {
          is = node-same w.model w.terms w.homes number r.roomy y roomy_is got.same;
          stands = subst (Stands m y (share_at number)) still there;
          processed = no-length y.processed (omega arith);
        }

    pub start-processed : AtEach (λ number n. n.processed ≡ []) news
    start-processed number y at = (start number y (let lt = slice_get_within news number y at in let many = can.nodes.many in let now = receives.many in omega arith) at).processed

    inside : (number : ℕ) (y : NodeView M) → slice_get news number ≡ Some y → number < w.homes.nodes
    inside number y at = let lt = slice_get_within news number y at in let many = can.nodes.many in let now = receives.many in omega arith

    start-stands : StandsAt m (record w { nodes = news }) s
    start-stands = record {
      has = record {
        nodes = record { many = receives.many ∙ can.nodes.many; some = (let many = can.nodes.many in let now = receives.many in let some = can.placed.some in omega arith); each = λ number y at. (start number y (inside number y at) at).is };
        awake = can.awake;
      };
      shares = share_at;
      ahead = λ (object : ℕ). 0;
      own = λ number y at. let s = (start number y (inside number y at) at).stands in record { states = s.states; events = s.events };
      stands = record {
        lawful = can.lawful;
        homes = can.placed.nodes;
        made = λ number below. record { model = refl; terms = refl; number = refl; homes = λ object low. refl };
        shares_of = λ number below. record {
          states = λ object here. refl;
          pending = ap (λ es. enqueue_all es []) (can.parts.parts number below) ∙ sym (filter-enqueue_all (p number) can.events [] up) ∙ ap (filter (p number)) (sym can.pending);
        };
        stands = λ number below.
            let many = can.nodes.many in
            let now = receives.many in
            let y = at-some news number (omega arith) in
            let s = start number y.0 below y.1 in
            let F : M → Terms → HomesView → ℕ → Type 0 = λ v t h k. StandsFor m t (home_of h) k (share_at number) (λ (object : ℕ). 0) (data_of y.0) in
            let P : NodeData → Type 0 = λ d. StandsFor m w.terms (home_of w.homes) number (share_at number) (λ (object : ℕ). 0) d in
            subst P (sym (data-is news number y.0 y.1)) (to-world w.model w.terms w.homes number F y.0 s.is s.stands.stands);
        count = can.count;
        fault = λ fault is. absurd (let none = can.none in cc);
      };
    }

    pub start-standing : WorldStandsAt meaning_of (record w { nodes = news }) (stands s None)
    unfolding WorldStandsAt
    start-standing = (start-stands, can.none)
