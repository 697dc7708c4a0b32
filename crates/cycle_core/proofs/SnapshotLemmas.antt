-- What is read out of the nodes of a world is the state for which it stands.
use Rattle.std.proofs.Common.{◌≡◌, ◌≢◌, ℕ, zero, suc, ◌+◌, ◌<◌, ◌≤◌, Bool, true, false, List, [], ◌∷◌, ◌++◌, length, drop, get_or, append-nil, append_assoc, refl, sym, ap, ◌∙◌, subst, arith, ltb, ltb-true, ltb-false, le-ltb}
use Rattle.std.proofs.lemmas.List.{drop_all, get_or_default, get_or_past, same_lists, length-append}
use Rattle.std.proofs.lemmas.Option.{slice_get_within}
use Rattle.std.proofs.Math.ListN.{get_or-append}
use Rattle.std.proofs.Math.Seq.{get_or-append_seam}
use Rattle.std.specs.Prelude.{slice_get, Some, filter, nat_lt}
use Rattle.std.specs.List.{AllByRecursion as Each}
use Rattle.model_core.specs.Meaning.{Meaning}
use Rattle.model_core.specs.declared.event.Event.{Event}
use Rattle.key_order.specs.Ascending.{IsAscending, key_of}
use Rattle.key_order.specs.Keys.{KeysDiffer}
use Rattle.key_order.specs.Pending.{in_order}
use Rattle.key_order.proofs.FilterLemmas.{filter-none}
use Rattle.key_order.proofs.InOrder.{in_order-ascending, in_order-same}
use Rattle.key_order.proofs.KeyLemmas.{Ascends-differ}
use Rattle.key_order.proofs.OrderLemmas.{by-objects}
use Rattle.sim_spec.specs.Firing.{ObjectState}
use Rattle.sim_spec.specs.Replay.{events_at}
use Rattle.sim_spec.specs.State.{State, object_at, no_object}
use Rattle.sim_spec.proofs.PartLemmas.{AllSound-dest, IsAscending-events_at, KeysDiffer-objects, events_at-append, events_at-enqueue_all}
use Rattle.object_log.specs.Dones.{Done}
use Rattle.object_log.specs.Logs.{events_of, undone}
use Rattle.world_spec.specs.Share.{IsAtHome, IsHome, NodeData, Share, StandsFor}
use Rattle.world_spec.proofs.WorldFacts.{share-events}
use Rattle.node_core.specs.Calls.{HasUndoneFrom}
use Rattle.node_core.specs.Homes.{HomesView, home_of}
use Rattle.node_core.specs.Nodes.{NodeView, IsAsBefore, IsSameNode, Stands, ahead_of, base_at, data_of, home, log_at}
use Rattle.cycle_core.specs.Places.{EachPair}
use Rattle.cycle_core.specs.Snapshots.{AllUndone, AreRead, AreStatesOf, CanBeRead, IsReadOf, IsUndone, waiting_in}
use Rattle.cycle_core.specs.Worlds.{StandsAt, WorldView}
use Rattle.cycle_core.proofs.EndLemmas.{node-same, stands-as, to-world}
use Rattle.cycle_core.proofs.PlaceLemmas.{at-some, drop-at, same-some}
use Rattle.cycle_core.proofs.WholeLemmas.{none-elsewhere}
use Rattle.cycle_core.proofs.WorkLemmas.{as_before}
use Rattle.cycle_core.proofs.WorldLemmas.{data-is, home-here, home-there, node-stands}

-- no event has a stamp below 0
none-below : (ds : List Done) → filter (λ (d : Done). nat_lt d.event.key.stamp 0) ds ≡ []
none-below ds = filter-none (λ (d : Done). nat_lt d.event.key.stamp 0) ds (all ds)
  where
    all : (ds : List Done) → Each (λ (d : Done). nat_lt d.event.key.stamp 0 ≡ false) ds
    all [] = tt
    all (d ∷ ds) = (le-ltb d.event.key.stamp 0 (omega arith), all ds)

-- all that was processed is undone
pub undone-all : {M : Type 0} (m : Meaning) (old new : NodeView M) (count : ℕ) → HasUndoneFrom m 0 old new count → IsUndone m old new
undone-all m old new count is =
    let none : (object : ℕ) → (log_at new.logs object).done ≡ [] = λ object. is.kept object ∙ none-below (log_at old.logs object).done in
    let ahead : ahead_of new ≡ (λ (object : ℕ). 0) = (λ i object. length (none object i)) in
    record {
      same = is.same;
      none = none;
      stands = λ share before st. subst (Stands m new share) ahead (is.rolls share before st).stands;
    }

-- an object at home somewhere is one of those that have a home
pub home-inside : (homes : HomesView) (object : ℕ) → home_of homes object < homes.nodes → object < length homes.homes
home-inside homes object at = by_test (ltb object (length homes.homes)) refl
  where
    by_test : (b : Bool) → ltb object (length homes.homes) ≡ b → object < length homes.homes
    by_test true h = ltb-true object (length homes.homes) h
    by_test false h =
        let past = ltb-false object (length homes.homes) h in
        let none = get_or_past homes.homes object homes.nodes past in
        absurd (omega arith)

module _ {M : Type 0} where
  pub each-as-before : (ns : List (NodeView M)) → EachPair IsAsBefore ns ns
  each-as-before ns = record { many = refl; pairs = λ place x y at_x at_y. subst (IsAsBefore x) (same-some x y (sym at_x ∙ at_y)) (as_before x) }

  -- the events that wait, node by node
  pub waiting-more : (place : ℕ) (ns : List (NodeView M)) (n : NodeView M) (events more : List Event) → slice_get ns place ≡ Some n → more ≡ events ++ n.waiting
      → events ++ waiting_in (drop place ns) ≡ waiting_in ns → more ++ waiting_in (drop (suc place) ns) ≡ waiting_in ns
  unfolding waiting_in
  waiting-more place ns n events more at is so_far =
      ap (λ es. es ++ waiting_in (drop (suc place) ns)) is ∙ append_assoc events n.waiting (waiting_in (drop (suc place) ns))
      ∙ ap (λ xs. events ++ waiting_in xs) (sym (drop-at ns place n at)) ∙ so_far

  pub waiting-all : (place : ℕ) (ns : List (NodeView M)) (events : List Event) → length ns ≤ place → events ++ waiting_in (drop place ns) ≡ waiting_in ns → events ≡ waiting_in ns
  unfolding waiting_in
  waiting-all place ns events past so_far = sym (append-nil events) ∙ ap (λ xs. events ++ waiting_in xs) (sym (drop_all place ns past)) ∙ so_far

  -- where no node has events of an object, there are none
  waits-nowhere : (object : ℕ) (ns : List (NodeView M)) → ((j : ℕ) (x : NodeView M) → slice_get ns j ≡ Some x → events_at object x.waiting ≡ []) → events_at object (waiting_in ns) ≡ []
  unfolding waiting_in events_at
  waits-nowhere object [] none = refl
  waits-nowhere object (n ∷ ns) none =
      events_at-append object n.waiting (waiting_in ns) ∙ ap (λ es. es ++ events_at object (waiting_in ns)) (none 0 n refl) ∙ waits-nowhere object ns (λ j x at. none (suc j) x at)

  -- where only one node has, these are its own
  waits-there : (object : ℕ) (ns : List (NodeView M)) (k : ℕ) (n : NodeView M) → slice_get ns k ≡ Some n → ((j : ℕ) (x : NodeView M) → j ≢ k → slice_get ns j ≡ Some x → events_at object x.waiting ≡ [])
      → events_at object (waiting_in ns) ≡ events_at object n.waiting
  unfolding waiting_in
  waits-there object [] k n at others = absurd (cc)
  waits-there object (x ∷ xs) zero n at others =
      events_at-append object x.waiting (waiting_in xs) ∙ ap (λ es. events_at object x.waiting ++ es) (waits-nowhere object xs (λ j y at_j. others (suc j) y (λ same. omega arith) at_j))
      ∙ append-nil (events_at object x.waiting) ∙ ap (λ (v : NodeView M). events_at object v.waiting) (same-some x n at)
  waits-there object (x ∷ xs) (suc k) n at others =
      events_at-append object x.waiting (waiting_in xs) ∙ ap (λ es. es ++ events_at object (waiting_in xs)) (others 0 x (λ same. omega arith) refl)
      ∙ waits-there object xs k n at (λ j y apart at_j. others (suc j) y (λ same. apart (omega arith)) at_j)

  -- the state of one object more
  pub states-more : (homes : HomesView) (nodes : List (NodeView M)) (object : ℕ) (states more : List ObjectState) (state : ObjectState) (n : NodeView M) → AreStatesOf homes nodes object states
      → slice_get nodes (home_of homes object) ≡ Some n → state ≡ (log_at n.logs object).state → more ≡ states ++ state ∷ [] → AreStatesOf homes nodes (object + 1) more
  states-more homes nodes object states more state n so_far at is more_is = record {
    many = ap length more_is ∙ length-append states (state ∷ []) ∙ ap (λ k. k + 1) so_far.many;
    each = λ o x below at_x. by_place o x below at_x (ltb o object) refl;
  }
    where
      by_place : (o : ℕ) (x : NodeView M) → o < object + 1 → slice_get nodes (home_of homes o) ≡ Some x → (b : Bool) → ltb o object ≡ b → object_at more o ≡ (log_at x.logs o).state
      by_place o x below at_x true h =
          let lt = ltb-true o object h in
          let many = so_far.many in
          ap (λ ss. object_at ss o) more_is ∙ get_or-append states (state ∷ []) no_object o (omega arith) ∙ so_far.each o x lt at_x
      by_place o x below at_x false h =
          let ge = ltb-false o object h in
          let same : o ≡ object = omega arith in
          let n_is : n ≡ x = same-some n x (sym at ∙ ap (λ k. slice_get nodes (home_of homes k)) (sym same) ∙ at_x) in
          ap (λ ss. object_at ss o) more_is ∙ ap (object_at (states ++ state ∷ [])) (same ∙ sym so_far.many) ∙ get_or-append_seam states state [] no_object
          ∙ is ∙ (λ i. (log_at (n_is i).logs (sym same i)).state)

-- a world whose nodes stand for what they stood for
module _ {M : Type 0} (m : Meaning) (w : WorldView M) (s : State) (st : StandsAt m w s) (new : List (NodeView M)) (ahead : ℕ → ℕ) (many : length new ≡ length w.nodes)
    (same : (number : ℕ) (x y : NodeView M) → slice_get w.nodes number ≡ Some x → slice_get new number ≡ Some y → IsSameNode x y)
    (still : (number : ℕ) (x y : NodeView M) → slice_get w.nodes number ≡ Some x → slice_get new number ≡ Some y → (share : Share) → Stands m x share st.ahead → Stands m y share ahead) where
  record Pair (number : ℕ) (y : NodeView M) : Type 0 where
    x : NodeView M
    at_old : slice_get w.nodes number ≡ Some x

  before : (number : ℕ) (y : NodeView M) → slice_get new number ≡ Some y → Pair number y
  before number y at =
      let lt = slice_get_within new number y at in
      let x = at-some w.nodes number (omega arith) in
      record { x = x.0; at_old = x.1 }

  stands_there : (number : ℕ) (y : NodeView M) → slice_get new number ≡ Some y → Stands m y (st.shares number) ahead
  stands_there number y at = let b = before number y at in still number b.x y b.at_old at (st.shares number) (node-stands m w s st number b.x b.at_old)

  pub stands-still : StandsAt m (record w { nodes = new }) s
  stands-still = record {
    has = record {
      nodes = record {
        many = many ∙ st.has.nodes.many;
        some = (let some = st.has.nodes.some in omega arith);
        each = λ number y at. let b = before number y at in node-same w.model w.terms w.homes number b.x y (st.has.nodes.each number b.x b.at_old) (same number b.x y b.at_old at);
      };
      awake = st.has.awake;
    };
    shares = st.shares;
    ahead = ahead;
    own = λ number y at. let there = stands_there number y at in record { states = there.states; events = there.events };
    stands = record {
      lawful = st.stands.lawful;
      homes = st.stands.homes;
      made = st.stands.made;
      shares_of = st.stands.shares_of;
      stands = λ number below.
          let wide = st.has.nodes.many in
          let y = at-some new number (omega arith) in
          let b = before number y.0 y.1 in
          let is = node-same w.model w.terms w.homes number b.x y.0 (st.has.nodes.each number b.x b.at_old) (same number b.x y.0 b.at_old y.1) in
          let F : M → _ → HomesView → ℕ → Type 0 = λ v t h k. StandsFor m t (home_of h) k (st.shares number) ahead (data_of y.0) in
          let P : NodeData → Type 0 = λ d. StandsFor m w.terms (home_of w.homes) number (st.shares number) ahead d in
          subst P (sym (data-is new number y.0 y.1)) (to-world w.model w.terms w.homes number F y.0 is (stands_there number y.0 y.1).stands);
      count = st.stands.count;
      fault = st.stands.fault;
    };
  }

module _ {M : Type 0} (meaning_of : M → Meaning) (w : WorldView M) (s : State) (st : StandsAt (meaning_of w.model) w s) where
  pub stands-undone : (new : List (NodeView M)) → AllUndone meaning_of w.nodes new → StandsAt (meaning_of w.model) (record w { nodes = new }) s
  stands-undone new undone =
      stands-still (meaning_of w.model) w s st new (λ (object : ℕ). 0) undone.many (λ number x y at_x at_y. (undone.pairs number x y at_x at_y).same)
      (λ number x y at_x at_y share there.
      let U : M → Type 0 = λ v. IsUndone (meaning_of v) x y in
      (subst U (st.has.nodes.each number x at_x).model_is (undone.pairs number x y at_x at_y)).stands share st.ahead there)

  pub stands-read : (new : List (NodeView M)) → EachPair IsAsBefore w.nodes new → StandsAt (meaning_of w.model) (record w { nodes = new }) s
  stands-read new read =
      stands-still (meaning_of w.model) w s st new st.ahead read.many (λ number x y at_x at_y. (read.pairs number x y at_x at_y).same)
      (λ number x y at_x at_y share there. stands-as (meaning_of w.model) x y share st.ahead (read.pairs number x y at_x at_y) there)

-- events at objects below a number are at no other
low_homed : (m : Meaning) (es : List Event) → Each (λ (e : Event). e.key.dest < m.objects) es → Each (IsAtHome m (λ (o : ℕ). 0) 0) es
low_homed m [] dests = tt
low_homed m (e ∷ es) dests = ((dests.0, refl), low_homed m es dests.1)

none-above : (m : Meaning) (object : ℕ) (es : List Event) → Each (λ (e : Event). e.key.dest < m.objects) es → m.objects ≤ object → events_at object es ≡ []
none-above m object es dests high = none-elsewhere m (λ (o : ℕ). 0) 0 object (λ here. (let low = here.0 in omega arith)) es (low_homed m es dests)

-- where nothing is processed, the nodes show the state
module _ {M : Type 0} (m : Meaning) (w : WorldView M) (s : State) (st : StandsAt m w s) (none : (number : ℕ) (n : NodeView M) → slice_get w.nodes number ≡ Some n → (object : ℕ) → (log_at n.logs object).done ≡ []) where
  -- the node of an object
  record At (object : ℕ) : Type 0 where
    n : NodeView M
    at : slice_get w.nodes (home_of w.homes object) ≡ Some n
    below : home_of w.homes object < w.homes.nodes
    there : IsHome m (home n) n.number object

  at_home : (object : ℕ) → object < m.objects → At object
  at_home object low =
      let number = home_of w.homes object in
      let below = st.stands.homes object low in
      let wide = st.has.nodes.many in
      let n = at-some w.nodes number (omega arith) in
      record { n = n.0; at = n.1; below = below; there = home-there m n.0 w.model w.terms w.homes number (st.has.nodes.each number n.0 n.1) object (low, refl) }

  pub read-objects : (states : List ObjectState) → AreStatesOf w.homes w.nodes m.objects states → states ≡ s.objects
  unfolding undone
  read-objects states are =
      same_lists states s.objects (are.many ∙ sym st.stands.lawful.objects) (λ object d below. here object d below)
    where
      here : (object : ℕ) (d : ObjectState) → object < length states → get_or states object d ≡ get_or s.objects object d
      here object d below =
          let many = are.many in
          let same = st.stands.lawful.objects in
          let low : object < m.objects = omega arith in
          let a = at_home object low in
          let number = home_of w.homes object in
          let base : base_at a.n.logs object ≡ (log_at a.n.logs object).state = ap (undone (log_at a.n.logs object).state) (none number a.n a.at object) in
          let is : object_at states object ≡ object_at s.objects object =
          are.each object a.n low a.at ∙ sym base ∙ sym ((st.own number a.n a.at).states object a.there) ∙ (st.stands.shares_of number a.below).states object (low, refl) in
          get_or_default states object d no_object below ∙ is ∙ sym (get_or_default s.objects object d no_object (omega arith))

  away : (number : ℕ) (n : NodeView M) → slice_get w.nodes number ≡ Some n → (object : ℕ) → (IsHome m (home_of w.homes) number object → ⊥) → events_at object n.waiting ≡ []
  away number n at object far =
      let there = (node-stands m w s st number n at).stands in
      let is = st.has.nodes.each number n at in
      none-elsewhere m (home n) n.number object (λ here. far (home-here m n w.model w.terms w.homes number is object here)) n.waiting there.waiting_homed

  pub waits-at : (object : ℕ) → events_at object (waiting_in w.nodes) ≡ events_at object s.pending
  waits-at object = by_test (ltb object m.objects) refl
    where
      by_test : (b : Bool) → ltb object m.objects ≡ b → events_at object (waiting_in w.nodes) ≡ events_at object s.pending
      by_test true h =
          let low = ltb-true object m.objects h in
          let a = at_home object low in
          let number = home_of w.homes object in
          waits-there object w.nodes number a.n a.at (λ j x apart at_j. away j x at_j object (λ here. apart (sym here.1)))
          ∙ ap (λ ds. events_of ds ++ events_at object a.n.waiting) (sym (none number a.n a.at object))
          ∙ sym ((st.own number a.n a.at).events object a.there)
          ∙ share-events m (home_of w.homes) s number (st.shares number) (st.stands.shares_of number a.below) object (low, refl)
      by_test false h =
          let high = ltb-false object m.objects h in
          waits-nowhere object w.nodes (λ j x at_j. away j x at_j object (λ here. (let low = here.0 in omega arith)))
          ∙ sym (none-above m object s.pending (AllSound-dest m s.objects s.pending st.stands.lawful.sound) high)

  up-at : (object : ℕ) → IsAscending (events_at object (waiting_in w.nodes))
  up-at object = subst IsAscending (sym (waits-at object)) (IsAscending-events_at object s.pending st.stands.lawful.ordered)

  pub waiting-differ : KeysDiffer (waiting_in w.nodes)
  waiting-differ = KeysDiffer-objects (waiting_in w.nodes) (λ object. Ascends-differ key_of (events_at object (waiting_in w.nodes)) (up-at object))

  pub read-pending : in_order (waiting_in w.nodes) ≡ s.pending
  unfolding events_at
  read-pending =
      let up = in_order-ascending (waiting_in w.nodes) waiting-differ in
      by-objects key_of (in_order (waiting_in w.nodes)) s.pending up st.stands.lawful.ordered
      (λ object. events_at-enqueue_all object (waiting_in w.nodes) [] up ∙ in_order-same (events_at object (waiting_in w.nodes)) (up-at object) ∙ waits-at object)

-- nodes at which all was undone, and which were read then
module _ {M : Type 0} (meaning_of : M → Meaning) (w : WorldView M) (s : State) (st : StandsAt (meaning_of w.model) w s) (undone now : List (NodeView M)) (un : AllUndone meaning_of w.nodes undone) (read : EachPair IsAsBefore undone now) where
  abbrev m : Meaning
  m = meaning_of w.model

  then : StandsAt m (record w { nodes = undone }) s
  then = stands-undone meaning_of w s st undone un

  none_then : (number : ℕ) (n : NodeView M) → slice_get undone number ≡ Some n → (object : ℕ) → (log_at n.logs object).done ≡ []
  none_then number n at object =
      let lt = slice_get_within undone number n at in
      let many = un.many in
      let x = at-some w.nodes number (omega arith) in
      (un.pairs number x.0 n x.1 at).none object

  none_now : (number : ℕ) (n : NodeView M) → slice_get now number ≡ Some n → (object : ℕ) → (log_at n.logs object).done ≡ []
  none_now number n at object =
      let lt = slice_get_within now number n at in
      let many = read.many in
      let x = at-some undone number (omega arith) in
      ap (λ logs. (log_at logs object).done) (read.pairs number x.0 n x.1 at).logs ∙ none_then number x.0 x.1 object

  pub snap-stands : StandsAt m (record w { nodes = now }) s
  snap-stands = stands-read meaning_of (record w { nodes = undone }) s then now read

  pub snap-differ : KeysDiffer (waiting_in undone)
  snap-differ = waiting-differ m (record w { nodes = undone }) s then none_then

  pub snap-state : (states : List ObjectState) (pending : List Event) → AreStatesOf w.homes now m.objects states → pending ≡ in_order (waiting_in undone)
      → record { objects = states; pending = pending; count = w.count } ≡ s
  snap-state states pending are pending_is =
      let objects = read-objects m (record w { nodes = now }) s snap-stands none_now states are in
      let events = pending_is ∙ read-pending m (record w { nodes = undone }) s then none_then in
      let count = st.stands.count in
      (λ i. record { objects = objects i; pending = events i; count = count i })

-- a world whose nodes are read
module _ {M : Type 0} (meaning_of : M → Meaning) (w : WorldView M) (s : State) (st : StandsAt (meaning_of w.model) w s) where
  pub read-stands : (now : List (NodeView M)) → AreRead meaning_of w.nodes now → StandsAt (meaning_of w.model) (record w { nodes = now }) s
  read-stands now read = snap-stands meaning_of w s st read.mids now read.undone read.same

  pub can-be-read : CanBeRead meaning_of w.model w.homes w.nodes
  can-be-read = record {
    differ = λ mids undone. snap-differ meaning_of w s st mids mids undone (each-as-before mids);
    nodes = λ new read. (w.terms, (read-stands new read).has.nodes);
    placed = st.stands.homes;
  }

  pub read-state : (now : List (NodeView M)) (state : State) → IsReadOf meaning_of w.model w.homes w.count w.nodes now state → state ≡ s
  read-state now state is =
      let count = is.count_is in
      (λ i. record { objects = state.objects; pending = state.pending; count = count i })
      ∙ snap-state meaning_of w s st is.read.mids now is.read.undone is.read.same state.objects state.pending is.states is.pending
