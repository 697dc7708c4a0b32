-- What the commits of a closed cycle hand out, and that each node can receive what is sent to it.
use Rattle.std.proofs.Common.{◌≡◌, ℕ, zero, suc, ◌+◌, ◌*◌, ◌<◌, ◌≤◌, ◌^◌, List, [], ◌++◌, length, take, drop, not, get_or, refl, sym, ap, ◌∙◌, subst, arith}
use Rattle.std.proofs.lemmas.List.{take_all}
use Rattle.std.proofs.lemmas.List.Sorted.{IsPermutation-append, IsPermutation-refl, IsPermutation-trans, length_permutation}
use Rattle.std.proofs.lemmas.Option.{slice_get_within, get_or_from_slice_get}
use Rattle.std.specs.Prelude.{slice_get, Option, Some, IsPermutation, filter}
use Rattle.std.specs.List.{AllByRecursion as Each}
use Rattle.event_key.specs.declared.key.Key.{Key}
use Rattle.model_core.specs.Meaning.{Meaning, MeaningLaws}
use Rattle.model_core.specs.declared.event.Event.{Event}
use Rattle.sim_spec.specs.declared.terms.Terms.{Terms}
use Rattle.sim_spec.specs.Cut.{after, committed_events, emissions_of, records_of, state_with_done}
use Rattle.sim_spec.specs.Firing.{Firing}
use Rattle.key_order.specs.Ascending.{IsAscending}
use Rattle.key_order.specs.Pending.{enqueue_all}
use Rattle.sim_spec.specs.Replay.{events_at}
use Rattle.sim_spec.specs.State.{State, Lawful}
use Rattle.sim_spec.proofs.BucketLaw.{bucket_law}
use Rattle.key_order.proofs.EnqueueLemmas.{length-enqueue_all, Each-enqueued_all}
use Rattle.sim_spec.proofs.PartLemmas.{IsAscending-events_at, events_at-enqueue_all}
use Rattle.key_order.proofs.FilterLemmas.{length-filter_le}
use Rattle.world_spec.proofs.NextWorld.{arrived, next_ordered, next_homed, world_law}
use Rattle.world_spec.specs.Closed.{cut_key}
use Rattle.key_order.specs.Due.{is_due}
use Rattle.world_spec.specs.Moves.{IsDueDone, committed, committed_ahead}
use Rattle.world_spec.specs.Parcels.{IsHandedOut, done_of, parcel, parcels, records_by_node}
use Rattle.world_spec.specs.Share.{IsAtHome, IsHome, NodeData, Share, is_at}
use Rattle.world_spec.specs.World.{WorldIsClosed}
use Rattle.world_spec.specs.WorldLaws.{IsCycle}
use Rattle.node_core.specs.declared.committed.Committed.{Committed}
use Rattle.node_core.specs.Calls.{HasCommitted, HasReceived}
use Rattle.node_core.specs.Homes.{HomesView, home_of}
use Rattle.node_core.specs.Nodes.{NodeView, home, data_of, pending_at, share_of, Stands}
use Rattle.cycle_core.specs.Ends.{CommitUpto, CanReceive, AllCanReceive, ReceiveUpto, NodeEnds, AllEnd, sent_to, told_by}
use Rattle.cycle_core.specs.Known.{IsKnown, AreKnown}
use Rattle.cycle_core.specs.Worlds.{WorldView, data_at, IsNodeOf, data_of_world, StandsAt}
use Rattle.cycle_core.proofs.EndLemmas.{to-world, to-node, node-same}
use Rattle.cycle_core.proofs.PlaceLemmas.{at-some, same-some, take-at}
use Rattle.cycle_core.proofs.SentLemmas.{sent_to-more, told_by-more}
use Rattle.cycle_core.proofs.WorldLemmas.{data-is, node-stands}

module _ {M : Type 0} (meaning_of : M → Meaning) (w : WorldView M) (laws : MeaningLaws (meaning_of w.model)) (s : State) (stands : StandsAt (meaning_of w.model) w s) (bound : ℕ)
    (closed : WorldIsClosed (meaning_of w.model) w.terms (home_of w.homes) w.homes.nodes (data_at w.nodes) bound) where
  abbrev m : Meaning
  m = meaning_of w.model

  abbrev home_in : ℕ → ℕ
  home_in = home_of w.homes

  abbrev cut_at : Option Key
  cut_at = cut_key m w.terms s

  abbrev happened : List (Event × Firing)
  happened = committed_events m w.terms s

  pub the-cycle : IsCycle m w.terms home_in w.homes.nodes s stands.shares stands.ahead (data_of_world m w) bound
  the-cycle = world_law m w.terms laws home_in w.homes.nodes s stands.shares stands.ahead (data_of_world m w) bound stands.stands closed

  next_lawful : Lawful m w.terms (after m w.terms s)
  next_lawful = (bucket_law m w.terms laws s stands.stands.lawful).lawful

  -- the count of the events that happen, and of what they send
  pub emissions-few : length (emissions_of happened) ≤ 400000 + 8 * 1000000000
  unfolding after state_with_done
  emissions-few =
      let few = next_lawful.few in
      let count = next_lawful.count in
      let limit = w.terms.limit_in_range in
      let sum = length-enqueue_all (emissions_of happened) (drop (length happened) s.pending) in
      omega arith

  pub count-fits : w.count + length happened ≤ w.terms.limit
  unfolding after state_with_done
  count-fits = let count = next_lawful.count in let same = stands.stands.count in omega arith

  -- what is due at each node is done
  pub node-due : (number : ℕ) (n : NodeView M) → slice_get w.nodes number ≡ Some n → IsDueDone (meaning_of n.model) (home n) n.number bound cut_at (data_of n)
  node-due number n at =
      let is = stands.has.nodes.each number n at in
      let lt = slice_get_within w.nodes number n at in
      let many = stands.has.nodes.many in
      let F : M → Terms → HomesView → ℕ → Type 0 = λ v t h k. IsDueDone (meaning_of v) (home_of h) k bound cut_at (data_of n) in
      let P : NodeData → Type 0 = λ d. IsDueDone m home_in number bound cut_at d in
      to-node w.model w.terms w.homes number F n is (subst P (data-is w.nodes number n at) (the-cycle.due number (omega arith)))

  module _ (mids : List (NodeView M)) (all : List Committed) (upto : CommitUpto meaning_of bound cut_at (length w.nodes) w.nodes mids all) where
    pub record Middle (number : ℕ) : Type 0 where
      pub x : NodeView M
      pub mid : NodeView M
      pub c : Committed
      pub at_old : slice_get w.nodes number ≡ Some x
      pub at_mid : slice_get mids number ≡ Some mid
      pub at_all : slice_get all number ≡ Some c
      pub is : IsNodeOf w.model w.terms w.homes number x
      pub commits : HasCommitted m bound cut_at x mid c.done.items c.out.items

    pub middle : (number : ℕ) → number < w.homes.nodes → Middle number
    middle number below =
        let many = stands.has.nodes.many in
        let many_mid = upto.many in
        let count = upto.count in
        let x = at-some w.nodes number (omega arith) in
        let y = at-some mids number (omega arith) in
        let c = at-some all number (omega arith) in
        let is = stands.has.nodes.each number x.0 x.1 in
        let E : M → Type 0 = λ v. HasCommitted (meaning_of v) bound cut_at x.0 y.0 c.0.done.items c.0.out.items in
        record { x = x.0; mid = y.0; c = c.0; at_old = x.1; at_mid = y.1; at_all = c.1; is = is; commits = subst E is.model_is (upto.each number x.0 y.0 c.0 (omega arith) x.1 y.1 c.1) }

    -- what a node hands out is its part of the bucket
    done_is : (number : ℕ) (below : number < w.homes.nodes) → (middle number below).commits.done ≡ done_of home_in number happened
    done_is number below =
        let p = middle number below in
        let F : M → Terms → HomesView → ℕ → Type 0 = λ v t h k. IsHandedOut m (home_of h) k bound cut_at (data_of p.x) p.commits.done in
        let one = to-world w.model w.terms w.homes number F p.x p.is p.commits.handed in
        let P : NodeData → Type 0 = λ d. IsHandedOut m home_in number bound cut_at d p.commits.done in
        the-cycle.handed number below p.commits.done (subst P (sym (data-is w.nodes number p.x p.at_old)) one)

    out_is : (number to : ℕ) (below : number < w.homes.nodes) → to < w.homes.nodes → IsPermutation (parcel home_in happened number to) (get_or (middle number below).c.out.items to [])
    out_is number to below to_below =
        let p = middle number below in
        let fits : to < p.x.homes.nodes = let same = ap (λ (h : HomesView). h.nodes) p.is.homes_is in omega arith in
        let P : List Event → Type 0 = λ es. IsPermutation es (get_or p.c.out.items to []) in
        subst P
        (ap (λ (h : HomesView). filter (is_at (home_of h) to) (emissions_of p.commits.done)) p.is.homes_is
        ∙ ap (λ ds. filter (is_at home_in to) (emissions_of ds)) (done_is number below))
        (p.commits.parcels to fits)

    sent_upto : (to k : ℕ) → to < w.homes.nodes → k ≤ w.homes.nodes → IsPermutation (parcels home_in happened to k) (sent_to to (take k all))
    unfolding parcels sent_to
    sent_upto to zero to_below le = IsPermutation-refl []
    sent_upto to (suc k) to_below le =
        let p = middle k (omega arith) in
        let P : List Event → Type 0 = IsPermutation (parcels home_in happened to k ++ parcel home_in happened k to) in
        subst P (sym (ap (sent_to to) (take-at all k p.c p.at_all) ∙ sent_to-more to (take k all) p.c))
        (IsPermutation-append (parcels home_in happened to k) (sent_to to (take k all)) (parcel home_in happened k to) (get_or p.c.out.items to [])
        (sent_upto to k to_below (omega arith)) (out_is k to (omega arith) to_below))

    all_is : take w.homes.nodes all ≡ all
    all_is = take_all w.homes.nodes all (let count = upto.count in let many = stands.has.nodes.many in omega arith)

    pub sent-is : (to : ℕ) → to < w.homes.nodes → IsPermutation (parcels home_in happened to w.homes.nodes) (sent_to to all)
    sent-is to to_below =
        let P : List Committed → Type 0 = λ cs. IsPermutation (parcels home_in happened to w.homes.nodes) (sent_to to cs) in
        subst P all_is (sent_upto to w.homes.nodes to_below (omega arith))

    told_upto : (k : ℕ) → k ≤ w.homes.nodes → told_by (take k all) ≡ records_by_node home_in happened k
    unfolding records_by_node told_by
    told_upto zero le = refl
    told_upto (suc k) le =
        let p = middle k (omega arith) in
        ap told_by (take-at all k p.c p.at_all) ∙ told_by-more (take k all) p.c
        ∙ ap (λ xs. xs ++ p.c.done.items) (told_upto k (omega arith))
        ∙ ap (λ xs. records_by_node home_in happened k ++ xs) (p.commits.records_are ∙ ap records_of (done_is k (omega arith)))

    pub told-is : told_by all ≡ records_by_node home_in happened w.homes.nodes
    told-is = ap told_by (sym all_is) ∙ told_upto w.homes.nodes (omega arith)

    abbrev pub left_share : ℕ → Share
    left_share number = committed m bound cut_at (stands.shares number)

    abbrev pub left_ahead : ℕ → ℕ → ℕ
    left_ahead number = committed_ahead bound cut_at (stands.shares number) stands.ahead

    pub mid_is : (number : ℕ) (below : number < w.homes.nodes) → IsNodeOf w.model w.terms w.homes number (middle number below).mid
    mid_is number below = let p = middle number below in node-same w.model w.terms w.homes number p.x p.mid p.is p.commits.same

    pub mid_record : (number : ℕ) (below : number < w.homes.nodes) → Stands m (middle number below).mid (left_share number) (left_ahead number)
    mid_record number below = let p = middle number below in p.commits.stands (stands.shares number) stands.ahead (node-stands m w s stands number p.x p.at_old)

    parcels-few : (number : ℕ) → number < w.homes.nodes → length (parcels home_in happened number w.homes.nodes) ≤ 400000 + 8 * 1000000000
    parcels-few number below =
        let moves = arrived m w.terms laws home_in w.homes.nodes s stands.shares stands.ahead (data_of_world m w) stands.stands bound closed (λ k. parcels home_in happened k w.homes.nodes) (λ k low. IsPermutation-refl (parcels home_in happened k w.homes.nodes)) number below in
        let same = length_permutation (filter (is_at home_in number) (emissions_of happened)) (parcels home_in happened number w.homes.nodes) moves in
        let le = length-filter_le (is_at home_in number) (emissions_of happened) in
        let few = emissions-few in
        omega arith

    pub sent-few : (to : ℕ) → to < w.homes.nodes → length (sent_to to all) < 2 ^ 60
    sent-few to below = let few = parcels-few to below in let same : length (sent_to to all) ≡ length (parcels home_in happened to w.homes.nodes) = length_permutation (parcels home_in happened to w.homes.nodes) (sent_to to all) (sent-is to below) in omega arith

    module _ (parcel_list : List (List Event)) (long : length parcel_list ≡ w.homes.nodes) (sorted : (to : ℕ) → to < length w.nodes → IsPermutation (sent_to to all) (get_or parcel_list to [])) where
      -- what arrives at a node, in the order of its arrival
      abbrev pub arrivals_of : ℕ → List Event
      arrivals_of number = get_or parcel_list number []

      pub arrive : (number : ℕ) → number < w.homes.nodes → IsPermutation (parcels home_in happened number w.homes.nodes) (arrivals_of number)
      arrive number below =
          let many = stands.has.nodes.many in
          IsPermutation-trans (parcels home_in happened number w.homes.nodes) (sent_to number all) (arrivals_of number) (sent-is number below) (sorted number (omega arith))

      arrivals-few : (number : ℕ) → number < w.homes.nodes → length (arrivals_of number) ≤ 400000 + 8 * 1000000000
      arrivals-few number below =
          let same = length_permutation (parcels home_in happened number w.homes.nodes) (arrivals_of number) (arrive number below) in
          let few = parcels-few number below in
          omega arith

      -- each node can receive what is sent to it
      can_receive : (number : ℕ) (below : number < w.homes.nodes) → IsKnown m (middle number below).mid → CanReceive meaning_of (arrivals_of number) (middle number below).mid
      can_receive number below known =
          let p = middle number below in
          let is = mid_is number below in
          let there = mid_record number below in
          let its = known.only (left_share number) (left_ahead number) there in
          let up = next_ordered m w.terms laws home_in w.homes.nodes s stands.shares stands.ahead (data_of_world m w) stands.stands bound closed arrivals_of arrive number below in
          let homed = next_homed m w.terms laws home_in w.homes.nodes s stands.shares stands.ahead (data_of_world m w) stands.stands bound closed arrivals_of arrive number below in
          let here = (Each-enqueued_all (IsAtHome m home_in number) (arrivals_of number) (left_share number).pending homed).0 in
          let A : M → Terms → HomesView → ℕ → Type 0 = λ v t h k. Each (IsAtHome (meaning_of v) (home_of h) k) (arrivals_of number) in
          let V : M → Type 0 = λ v. (object : ℕ) → IsHome (meaning_of v) (home p.mid) p.mid.number object → IsAscending (enqueue_all (events_at object (arrivals_of number)) (pending_at p.mid.logs p.mid.waiting object)) in
          let keys : V w.model = λ object at.
          let U : List Event → Type 0 = IsAscending in
          let one : IsAscending (events_at object (enqueue_all (arrivals_of number) (left_share number).pending)) = IsAscending-events_at object (enqueue_all (arrivals_of number) (left_share number).pending) up in
          let two = subst U (events_at-enqueue_all object (arrivals_of number) (left_share number).pending up) one in
          let Q : List Event → Type 0 = λ xs. IsAscending (enqueue_all (events_at object (arrivals_of number)) xs) in
          subst Q (its.pending object at) two in
          record {
            homed = to-node w.model w.terms w.homes number A p.mid is here;
            keys = subst V (sym is.model_is) keys;
            few =
                (let size = known.size in
                let whole : length (left_share number).pending ≡ length (share_of p.mid).pending = ap length its.whole in
                let less = length-filter_le (λ (e : Event). not (is_due bound cut_at e.key)) (stands.shares number).pending in
                let part : length (stands.shares number).pending ≡ length (filter (is_at home_in number) s.pending) = ap length (stands.stands.shares_of number below).pending in
                let le = length-filter_le (is_at home_in number) s.pending in
                let few = stands.stands.lawful.few in
                let count = stands.stands.lawful.count in
                let limit = w.terms.limit_in_range in
                let some = arrivals-few number below in
                omega arith);
          }

      pub parcel_is : (number : ℕ) (es : List Event) → slice_get parcel_list number ≡ Some es → number < w.homes.nodes → arrivals_of number ≡ es
      parcel_is number es at below = get_or_from_slice_get parcel_list number es [] at

      pub all-can-receive : AreKnown meaning_of mids → AllCanReceive meaning_of parcel_list mids
      all-can-receive known number n es at_mid at_parcel =
          let lt = slice_get_within parcel_list number es at_parcel in
          let below : number < w.homes.nodes = omega arith in
          let p = middle number below in
          let same : p.mid ≡ n = same-some p.mid n (sym p.at_mid ∙ at_mid) in
          let K : M → Type 0 = λ v. IsKnown (meaning_of v) p.mid in
          let P : List Event → NodeView M → Type 0 = λ fs v. CanReceive meaning_of fs v in
          let one : P (arrivals_of number) p.mid = can_receive number below (subst K (mid_is number below).model_is (known number p.mid p.at_mid)) in
          subst (λ fs. P fs n) (parcel_is number es at_parcel below) (subst (λ v. P (arrivals_of number) v) same one)

      -- so each node ends the cycle
      pub all-end : (new : List (NodeView M)) → ReceiveUpto meaning_of (length mids) parcel_list mids new → AllEnd meaning_of bound cut_at arrivals_of w.nodes new
      all-end new received = record {
        many = received.many ∙ upto.many;
        each = λ number x y at_old at_new.
            let lt = slice_get_within w.nodes number x at_old in
            let many = stands.has.nodes.many in
            let many_mid = upto.many in
            let below : number < w.homes.nodes = omega arith in
            let p = middle number below in
            let same : p.x ≡ x = same-some p.x x (sym p.at_old ∙ at_old) in
            let parcel_at = at-some parcel_list number (omega arith) in
            let r = received.each number p.mid y parcel_at.0 (omega arith) p.at_mid at_new parcel_at.1 in
            let R : M → List Event → Type 0 = λ v fs. HasReceived (meaning_of v) fs r.roomy y r.count in
            let one : R w.model parcel_at.0 = subst (λ v. R v parcel_at.0) (mid_is number below).model_is r.receives in
            let two : R w.model (arrivals_of number) = subst (λ fs. R w.model fs) (sym (parcel_is number parcel_at.0 parcel_at.1 below)) one in
            let E : NodeView M → Type 0 = λ v. NodeEnds (meaning_of v.model) bound cut_at (arrivals_of number) v y in
            let N : M → Type 0 = λ v. NodeEnds (meaning_of v) bound cut_at (arrivals_of number) p.x y in
            let here : N w.model = record { mid = p.mid; records = p.c.done.items; out = p.c.out.items; commits = p.commits; roomy = r.roomy; room = r.room; count = r.count; receives = two } in
            subst E same (subst N (sym p.is.model_is) here);
      }
