-- Where processed events are cut, from the keys and the faults of the nodes.
use Rattle.std.proofs.Common.{◌≡◌, ◌≢◌, ℕ, zero, suc, ◌+◌, ◌≤◌, Bool, true, false, cond, List, [], ◌∷◌, ◌++◌, length, drop, refl, sym, ap, ◌∙◌, subst, arith, ltb, ltb-true, ltb-false, lt-ltb, nat_lt, ◌==◌, ◌&&◌, ◌||◌, append-nil, map, le-ltb}
use Rattle.std.proofs.lemmas.Bool.{and_right}
use Rattle.std.proofs.lemmas.List.{length-append, drop_all, append_assoc}
use Rattle.std.proofs.lemmas.List.Elements.{filter-append}
use Rattle.std.proofs.lemmas.List.Sums.{sum_by-cons}
use Rattle.std.proofs.lemmas.List.Sorted.{Contains-permutation, IsPermutation-sym, IsPermutation-map}
use Rattle.std.proofs.lemmas.Option.{slice_get_within}
use Rattle.std.specs.Prelude.{slice_get, Option, Some, None, IsPermutation, filter, is_some, if◌then◌else◌}
use Rattle.std.specs.List.{AllByRecursion as Each}
use Rattle.event_key.specs.declared.key.Key.{Key}
use Rattle.event_key.specs.Keys.{key_lt}
use Rattle.event_key.proofs.Order.{key_lt-stamp, key_lt-turned}
use Rattle.model_core.specs.Meaning.{Meaning}
use Rattle.model_core.specs.declared.event.Event.{Event}
use Rattle.sim_spec.specs.declared.terms.Terms.{Terms}
use Rattle.key_order.specs.Ascending.{Ascends, key_of}
use Rattle.key_order.specs.Due.{is_uncut}
use Rattle.key_order.specs.Keys.{Differ, at_key, times}
use Rattle.key_order.specs.Pending.{in_order}
use Rattle.key_order.proofs.AscendingLemmas.{Ascends-filter, Ascends-map}
use Rattle.key_order.proofs.FilterLemmas.{filter-all, filter-passes, filter-swap, length-filter_le}
use Rattle.key_order.proofs.InOrder.{in_order-permutation, in_order-ascending}
use Rattle.key_order.proofs.KeyLemmas.{Ascends-differ, key_lt-none-trans}
use Rattle.key_order.proofs.MemberLemmas.{each-contains, filter-contains, contains-filter}
use Rattle.key_order.proofs.OrderLemmas.{by-members, differ-by-parts}
use Rattle.object_log.specs.Dones.{Done}
use Rattle.object_log.specs.Logs.{keys_of}
use Rattle.object_log.specs.Replays.{replay_of}
use Rattle.world_spec.specs.Answer.{CutData, cut_of, first_of}
use Rattle.world_spec.specs.Closed.{fault_key as key_of_fault}
use Rattle.world_spec.specs.Share.{IsHome}
use Rattle.node_core.specs.Calls.{IsLeastFaultOf}
use Rattle.node_core.specs.Homes.{HomesView, home_of}
use Rattle.node_core.specs.Nodes.{NodeView, data_of, home, log_at}
use Rattle.node_core.specs.Shares.{AreProcessedKeys}
use Rattle.cycle_core.specs.Cuts.{AreKeysIn, HomeOf, IsLeastFaultIn}
use Rattle.cycle_core.specs.Gathered.{IsFaultBelow, MayFaultBelow, fault_key, itself, keys_in, processed_in}
use Rattle.cycle_core.specs.Known.{AreKnown, IsKnown}
use Rattle.cycle_core.specs.Leasts.{IsLeastAt, IsLeastUpto, lesser_by}
use Rattle.cycle_core.specs.Worlds.{AreNodesOf}
use Rattle.cycle_core.proofs.PlaceLemmas.{at-some, drop-at, each-more, same-some}
use Rattle.cycle_core.proofs.WorldLemmas.{home-here, home-there}

abbrev part : ℕ → List Key → List Key
part object keys = filter (λ (k : Key). k.dest == object) keys

-- in a list in order the part at an object is that of any list with the same members
part-same : (object : ℕ) (xs ys : List Key) → IsPermutation xs ys → Ascends itself ys → Ascends itself (part object xs) → part object ys ≡ part object xs
part-same object xs ys moves up down =
    let p = λ (k : Key). k.dest == object in
    by-members itself (part object ys) (part object xs) (Ascends-filter itself p ys up) down
    (λ k is_in. contains-filter p k xs (each-contains (λ (k : Key). p k ≡ true) k (part object ys) (filter-passes p ys) is_in) (Contains-permutation ys xs k (IsPermutation-sym xs ys moves) (filter-contains p k ys is_in)))
    (λ k is_in. contains-filter p k ys (each-contains (λ (k : Key). p k ≡ true) k (part object xs) (filter-passes p xs) is_in) (Contains-permutation xs ys k moves (filter-contains p k xs is_in)))

-- all keys in order
abbrev pub event_at : Key → Event
event_at k = record { key = k; kind = 0; a = 0; b = 0 }

abbrev pub events : List Key → List Event
events keys = map event_at keys

abbrev pub sorted : List Key → List Key
sorted keys = map (λ (e : Event). e.key) (in_order (events keys))

keys-back : (keys : List Key) → map (λ (e : Event). e.key) (map event_at keys) ≡ keys
keys-back [] = refl
keys-back (k ∷ ks) = ap (λ xs. k ∷ xs) (keys-back ks)

times-event : (k : Key) (keys : List Key) → times key_of k (map event_at keys) ≡ times itself k keys
times-event k [] = refl
times-event k (x ∷ xs) = sum_by-cons (at_key key_of k) (event_at x) (map event_at xs) ∙ ap (λ n. at_key itself k x + n) (times-event k xs) ∙ sym (sum_by-cons (at_key itself k) x xs)

pub sorted-moves : (keys : List Key) → IsPermutation keys (sorted keys)
sorted-moves keys =
    let P : List Key → Type 0 = λ xs. IsPermutation xs (sorted keys) in
    subst P (keys-back keys) (IsPermutation-map (λ (e : Event). e.key) (events keys) (in_order (events keys)) (in_order-permutation (events keys)))

pub sorted-up : (keys : List Key) → Differ itself keys → Ascends itself (sorted keys)
sorted-up keys differ = Ascends-map itself (λ (e : Event). e.key) (in_order (events keys)) (in_order-ascending (events keys) (λ k. let same = times-event k keys in let le = differ k in omega arith))

no-keys : (ds : List Done) → length ds ≡ 0 → keys_of ds ≡ []
no-keys [] none = refl
no-keys (d ∷ ds) none = absurd (omega arith)

abbrev at_object : ℕ → Key → Bool
at_object object k = k.dest == object

abbrev below : ℕ → Key → Bool
below bound k = nat_lt k.stamp bound

module _ {M : Type 0} (bound object : ℕ) where
  -- where no node has keys of an object, there are none
  part-none : (ns : List (NodeView M)) → ((j : ℕ) (x : NodeView M) → slice_get ns j ≡ Some x → part object x.processed ≡ []) → part object (keys_in bound ns) ≡ []
  unfolding keys_in
  part-none [] none = refl
  part-none (n ∷ ns) none =
      filter-append (at_object object) (filter (below bound) n.processed) (keys_in bound ns)
      ∙ ap (λ xs. xs ++ part object (keys_in bound ns)) (filter-swap (at_object object) (below bound) n.processed ∙ ap (filter (below bound)) (none 0 n refl))
      ∙ part-none ns (λ j x at. none (suc j) x at)

  -- where only one node has, these are its own
  part-one : (ns : List (NodeView M)) (k : ℕ) (n : NodeView M) → slice_get ns k ≡ Some n → ((j : ℕ) (x : NodeView M) → j ≢ k → slice_get ns j ≡ Some x → part object x.processed ≡ []) → part object (keys_in bound ns) ≡ filter (below bound) (part object n.processed)
  unfolding keys_in
  part-one [] k n at others = absurd (cc)
  part-one (x ∷ xs) zero n at others =
      filter-append (at_object object) (filter (below bound) x.processed) (keys_in bound xs)
      ∙ ap (λ ys. filter (at_object object) (filter (below bound) x.processed) ++ ys) (part-none xs (λ j y at_j. others (suc j) y (λ same. omega arith) at_j))
      ∙ append-nil (filter (at_object object) (filter (below bound) x.processed)) ∙ filter-swap (at_object object) (below bound) x.processed ∙ ap (λ (v : NodeView M). filter (below bound) (part object v.processed)) (same-some x n at)
  part-one (x ∷ xs) (suc k) n at others =
      filter-append (at_object object) (filter (below bound) x.processed) (keys_in bound xs)
      ∙ ap (λ ys. ys ++ part object (keys_in bound xs)) (filter-swap (at_object object) (below bound) x.processed ∙ ap (filter (below bound)) (others 0 x (λ same. omega arith) refl))
      ∙ part-one xs k n at (λ j y apart at_j. others (suc j) y (λ same. apart (omega arith)) at_j)

module _ {M : Type 0} where
  pub keys_in-few : (bound : ℕ) (ns : List (NodeView M)) → length (keys_in bound ns) ≤ processed_in ns
  unfolding keys_in processed_in
  keys_in-few bound [] = omega arith
  keys_in-few bound (n ∷ ns) =
      let q = λ (k : Key). nat_lt k.stamp bound in
      let sum = length-append (filter q n.processed) (keys_in bound ns) in
      let one = length-filter_le q n.processed in
      let more = keys_in-few bound ns in
      omega arith

  pub keys_in-more : (bound place : ℕ) (ns : List (NodeView M)) (n : NodeView M) (keys more : List Key) → slice_get ns place ≡ Some n → more ≡ keys ++ filter (λ (k : Key). nat_lt k.stamp bound) n.processed
      → keys ++ keys_in bound (drop place ns) ≡ keys_in bound ns → more ++ keys_in bound (drop (suc place) ns) ≡ keys_in bound ns
  unfolding keys_in
  keys_in-more bound place ns n keys more at is so_far =
      ap (λ ks. ks ++ keys_in bound (drop (suc place) ns)) is
      ∙ append_assoc keys (filter (λ (k : Key). nat_lt k.stamp bound) n.processed) (keys_in bound (drop (suc place) ns))
      ∙ ap (λ xs. keys ++ keys_in bound xs) (sym (drop-at ns place n at)) ∙ so_far

  pub keys_in-all : (bound place : ℕ) (ns : List (NodeView M)) (keys : List Key) → length ns ≤ place → keys ++ keys_in bound (drop place ns) ≡ keys_in bound ns → keys ≡ keys_in bound ns
  unfolding keys_in
  keys_in-all bound place ns keys past so_far = sym (append-nil keys) ∙ ap (λ xs. keys ++ keys_in bound xs) (sym (drop_all place ns past)) ∙ so_far

  pub processed-more : (place : ℕ) (ns : List (NodeView M)) (n : NodeView M) → slice_get ns place ≡ Some n → processed_in (drop place ns) ≡ length n.processed + processed_in (drop (suc place) ns)
  unfolding processed_in
  processed-more place ns n at = ap processed_in (drop-at ns place n at)

  pub processed-all : (place : ℕ) (ns : List (NodeView M)) → length ns ≤ place → processed_in (drop place ns) ≡ 0
  unfolding processed_in
  processed-all place ns past = ap processed_in (drop_all place ns past)

module _ {M : Type 0} (meaning_of : M → Meaning) (bound : ℕ) (nodes : List (NodeView M)) (model : M) (terms : Terms) (homes : HomesView) (are : AreNodesOf model terms homes nodes) (known : AreKnown meaning_of nodes) where
  abbrev m : Meaning
  m = meaning_of model

  known-at : (number : ℕ) (n : NodeView M) → slice_get nodes number ≡ Some n → IsKnown m n
  known-at number n at = let K : M → Type 0 = λ v. IsKnown (meaning_of v) n in subst K (are.each number n at).model_is (known number n at)

  -- a node that isn't an object's home has no key of it
  away : (number : ℕ) (n : NodeView M) → slice_get nodes number ≡ Some n → (object : ℕ) → (IsHome m (home_of homes) number object → ⊥) → part object n.processed ≡ []
  away number n at object not_here =
      let keys = (known-at number n at).keys in
      let is = are.each number n at in
      keys.parts object ∙ no-keys (log_at n.logs object).done (keys.empty object (λ here. not_here (home-here m n model terms homes number is object here)))

  at_home : (number : ℕ) (n : NodeView M) → slice_get nodes number ≡ Some n → (object : ℕ) → IsHome m (home_of homes) number object
      → part object (keys_in bound nodes) ≡ filter (λ (k : Key). nat_lt k.stamp bound) (part object n.processed)
  at_home number n at object here = part-one bound object nodes number n at (λ j x apart at_j. away j x at_j object (λ there. apart (sym there.1 ∙ here.1)))

  part-up : (object : ℕ) → Ascends itself (part object (keys_in bound nodes))
  unfolding Ascends
  part-up object = by_place (ltb (home_of homes object) (length nodes)) refl (ltb object m.objects) refl
    where
      by_place : (a : Bool) → ltb (home_of homes object) (length nodes) ≡ a → (b : Bool) → ltb object m.objects ≡ b → Ascends itself (part object (keys_in bound nodes))
      by_place true h true k =
          let n = at-some nodes (home_of homes object) (ltb-true (home_of homes object) (length nodes) h) in
          subst (Ascends itself) (sym (at_home (home_of homes object) n.0 n.1 object (ltb-true object m.objects k, refl)))
          (Ascends-filter itself (λ (k : Key). nat_lt k.stamp bound) (part object n.0.processed) (Ascends-filter itself (λ (k : Key). k.dest == object) n.0.processed (known-at (home_of homes object) n.0 n.1).keys.ordered))
      by_place false h b k =
          subst (Ascends itself) (sym (part-none bound object nodes (λ j x at. away j x at object (λ there. let past = ltb-false (home_of homes object) (length nodes) h in let lt = slice_get_within nodes j x at in let same = there.1 in omega arith)))) tt
      by_place true h false k =
          subst (Ascends itself) (sym (part-none bound object nodes (λ j x at. away j x at object (λ there. let past = ltb-false object m.objects k in let lt = there.0 in omega arith)))) tt

  pub keys-differ : Differ itself (keys_in bound nodes)
  keys-differ = differ-by-parts itself (keys_in bound nodes) (λ object. Ascends-differ itself (part object (keys_in bound nodes)) (part-up object))

  -- what they processed, in order
  pub are-keys : (keys : List Key) → IsPermutation (keys_in bound nodes) keys → Ascends itself keys → AreKeysIn meaning_of bound nodes keys
  are-keys keys moves up = record {
    ordered = up;
    parts = λ number n at object here.
        let is = are.each number n at in
        let H : M → Type 0 = λ v. IsHome (meaning_of v) (home n) n.number object in
        part-same object (keys_in bound nodes) keys moves up (part-up object)
        ∙ at_home number n at object (home-here m n model terms homes number is object (subst H is.model_is here))
        ∙ ap (filter (λ (k : Key). nat_lt k.stamp bound)) ((known-at number n at).keys.parts object);
    others = λ object none.
        part-same object (keys_in bound nodes) keys moves up (part-up object)
        ∙ part-none bound object nodes (λ j x at. away j x at object (λ there.
        let is = are.each j x at in
        let H : M → Type 0 = λ v. IsHome (meaning_of v) (home x) x.number object in
        none j x at (subst H (sym is.model_is) (home-there m x model terms homes j is object there))));
  }

pub none-kept : (ds : List Done) → keys_of ds ≡ [] → ds ≡ []
none-kept [] none = refl
none-kept (d ∷ ds) none = absurd (cc)

no-fault : (fault : Option (Key × ℕ)) (x : Key × ℕ) → fault ≡ None → fault ≡ Some x → ⊥
no-fault fault x none some = cc

-- where nothing is processed nothing has failed
pub fault-none : {M : Type 0} (meaning_of : M → Meaning) (bound : ℕ) (n : NodeView M) → AreProcessedKeys (meaning_of n.model) n → n.processed ≡ [] → (x : Key × ℕ) → MayFaultBelow meaning_of bound n x → ⊥
unfolding replay_of
fault-none meaning_of bound n keys none x may =
    let object = may.0.0 in
    let done = none-kept (log_at n.logs object).done (sym (keys.parts object) ∙ ap (filter (λ (k : Key). k.dest == object)) none) in
    no-fault ((data_of n).log object).fault x (ap (λ ds. (replay_of (log_at n.logs object).state ds).fault) done) may.0.2

-- beside none the least stays
pub lesser-none : {X : Type 0} (key : X → Key) (found : Option X) → lesser_by key found None ≡ found
lesser-none key None = refl
lesser-none key (Some x) = refl

module _ {N X : Type 0} (key : X → Key) (Has May : N → X → Type 0) where
  pub least-more : (place : ℕ) (nodes : List N) (n : N) (found next : Option X) → slice_get nodes place ≡ Some n → IsLeastUpto key Has May place nodes found → IsLeastAt key Has May n next
      → IsLeastUpto key Has May (place + 1) nodes (lesser_by key found next)
  least-more place nodes n None None at before here =
      λ number x below at_x v may. each-more (λ number x. (v : X) → May x v → ⊥) nodes place n at before here number x below at_x v may
  least-more place nodes n None (Some y) at before here = (
    (place, n, (omega arith), at, here.0),
    λ number x below at_x v may. each-more (λ number x. (v : X) → May x v → key_lt (key v) (key y) ≡ false) nodes place n at (λ number x below at_x v may. absurd (before number x below at_x v may)) here.1 number x below at_x v may,
  )
  least-more place nodes n (Some f) None at before here = (
    (let b = before.0 in (b.0, b.1, (let lt = b.2 in omega arith), b.3, b.4)),
    λ number x below at_x v may. each-more (λ number x. (v : X) → May x v → key_lt (key v) (key f) ≡ false) nodes place n at before.1 (λ v may. absurd (here v may)) number x below at_x v may,
  )
  least-more place nodes n (Some f) (Some y) at before here = by_test (key_lt (key y) (key f)) refl
    where
      by_test : (t : Bool) → key_lt (key y) (key f) ≡ t → IsLeastUpto key Has May (place + 1) nodes (cond t (Some y) (Some f))
      by_test true is = (
        (place, n, (omega arith), at, here.0),
        λ number x below at_x v may. each-more (λ number x. (v : X) → May x v → key_lt (key v) (key y) ≡ false) nodes place n at
            (λ number x below at_x v may. key_lt-none-trans (key v) (key f) (key y) (before.1 number x below at_x v may) (key_lt-turned (key y) (key f) is)) here.1 number x below at_x v may,
      )
      by_test false is = (
        (let b = before.0 in (b.0, b.1, (let lt = b.2 in omega arith), b.3, b.4)),
        λ number x below at_x v may. each-more (λ number x. (v : X) → May x v → key_lt (key v) (key f) ≡ false) nodes place n at before.1
            (λ v may. key_lt-none-trans (key v) (key y) (key f) (here.1 v may) is) number x below at_x v may,
      )

module _ {M : Type 0} (meaning_of : M → Meaning) (bound : ℕ) where
  -- a node's least fault, where it isn't due
  pub fault-late : (n : NodeView M) (fault : Key × ℕ) → IsLeastFaultOf (meaning_of n.model) n (Some fault) → bound ≤ fault.0.stamp → IsLeastAt fault_key (IsFaultBelow meaning_of bound) (MayFaultBelow meaning_of bound) n None
  fault-late n fault is late met may =
      let low = may.1 in
      let yes = key_lt-stamp met.0 fault.0 (omega arith) in
      let no = is.2 may.0.0 may.0.1 met may.0.2 in
      absurd (cc)

  pub least-faults : (nodes : List (NodeView M)) (fault : Option (Key × ℕ)) → IsLeastUpto fault_key (IsFaultBelow meaning_of bound) (MayFaultBelow meaning_of bound) (length nodes) nodes fault → IsLeastFaultIn meaning_of bound nodes fault
  least-faults nodes None least = λ number n at object here met is. by_test number n at object here met is (ltb met.0.stamp bound) refl
    where
      by_test : (number : ℕ) (n : NodeView M) → slice_get nodes number ≡ Some n → (object : ℕ) → HomeOf meaning_of n object → (met : Key × ℕ) → ((data_of n).log object).fault ≡ Some met
          → (t : Bool) → ltb met.0.stamp bound ≡ t → bound ≤ met.0.stamp
      by_test number n at object here met is true low = absurd (least number n (slice_get_within nodes number n at) at met ((object, here, is), ltb-true met.0.stamp bound low))
      by_test number n at object here met is false high = ltb-false met.0.stamp bound high
  least-faults nodes (Some fault) least = (
    (least.0.0, least.0.1, least.0.3, least.0.4.0.0, least.0.4.0.1),
    least.0.4.1,
    λ number n at object here met is. by_test number n at object here met is (ltb met.0.stamp bound) refl,
  )
    where
      by_test : (number : ℕ) (n : NodeView M) → slice_get nodes number ≡ Some n → (object : ℕ) → HomeOf meaning_of n object → (met : Key × ℕ) → ((data_of n).log object).fault ≡ Some met
          → (t : Bool) → ltb met.0.stamp bound ≡ t → key_lt met.0 fault.0 ≡ false
      by_test number n at object here met is true low = least.1 number n (slice_get_within nodes number n at) at met ((object, here, is), ltb-true met.0.stamp bound low)
      by_test number n at object here met is false high =
          let past = ltb-false met.0.stamp bound high in
          let low = least.0.4.1 in
          key_lt-turned fault.0 met.0 (key_lt-stamp fault.0 met.0 (omega arith))

-- cuts
same-test : (t : Bool) → (t && true) ≡ t
same-test true = refl
same-test false = refl

-- more keys than are left
pub cut-short : (left : ℕ) (keys : List Key) (k : Key) (fault : Option (Key × ℕ)) → slice_get keys left ≡ Some k → record { below = Some k; fault = None; limited = true } ≡ cut_of left keys fault
unfolding cut_of
cut-short left keys k fault at =
    let F : List Key → Bool → CutData = λ rest lt. let limited = lt || (left == length keys && is_some fault) in record { below = first_of rest (key_of_fault fault); fault = if limited then None else fault; limited = limited } in
    ap (λ rest. F rest true) (sym (drop-at keys left k at)) ∙ ap (F (drop left keys)) (sym (lt-ltb left (length keys) (slice_get_within keys left k at)))

-- no fault, and all keys fit
pub cut-whole : (left : ℕ) (keys : List Key) → length keys ≤ left → record { below = None; fault = None; limited = false } ≡ cut_of left keys None
unfolding cut_of
cut-whole left keys fits =
    let F : List Key → Bool → Bool → CutData = λ rest lt full. record { below = first_of rest None; fault = if lt || full then None else None; limited = lt || full } in
    ap (λ rest. F rest false false) (sym (drop_all left keys fits)) ∙ ap (λ b. F (drop left keys) b false) (sym (le-ltb left (length keys) fits)) ∙ ap (F (drop left keys) (ltb left (length keys))) (sym (and_right (left == length keys) false refl))

-- a fault, and all keys before it fit
pub cut-fault : (left : ℕ) (keys : List Key) (fault : Key × ℕ) (full : Bool) → length keys ≤ left → (left == length keys) ≡ full
    → record { below = Some fault.0; fault = if full then None else Some fault; limited = full } ≡ cut_of left keys (Some fault)
unfolding cut_of
cut-fault left keys fault full fits is =
    let F : List Key → Bool → Bool → CutData = λ rest lt b. record { below = first_of rest (Some fault.0); fault = if lt || b then None else Some fault; limited = lt || b } in
    ap (λ rest. F rest false full) (sym (drop_all left keys fits)) ∙ ap (λ b. F (drop left keys) b full) (sym (le-ltb left (length keys) fits)) ∙ ap (F (drop left keys) (ltb left (length keys))) (sym (same-test (left == length keys) ∙ is))

each-true : (keys : List Key) → Each (λ (k : Key). is_uncut None k ≡ true) keys
each-true [] = tt
each-true (k ∷ ks) = (refl, each-true ks)

pub all-uncut : (keys : List Key) → filter (is_uncut None) keys ≡ keys
all-uncut keys = filter-all (is_uncut None) keys (each-true keys)

pub none-is : {X : Type 0} (o : Option X) → is_some o ≡ false → o ≡ None
none-is None is = refl
none-is (Some x) is = absurd (cc)
