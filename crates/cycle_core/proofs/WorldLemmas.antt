-- What a world stands for, node by node.
use Rattle.std.proofs.Common.{◌≡◌, ℕ, ◌<◌, ◌≤◌, Bool, true, false, List, [], length, refl, sym, ap, ◌∙◌, subst, inl, inr, arith, ltb, ltb-true, lt-ltb}
use Rattle.std.proofs.lemmas.Option.{slice_get_within}
use Rattle.std.specs.Prelude.{slice_get, Some, Contains, filter}
use Rattle.std.specs.List.{AllByRecursion as Each}
use Rattle.event_key.specs.Stamps.{end_stamp}
use Rattle.model_core.specs.Meaning.{Meaning}
use Rattle.sim_spec.specs.declared.terms.Terms.{Terms}
use Rattle.sim_spec.specs.Firing.{ObjectState}
use Rattle.sim_spec.specs.Replay.{EmitsFrom}
use Rattle.sim_spec.specs.Cut.{emissions_of}
use Rattle.sim_spec.specs.State.{State, object_at}
use Rattle.sim_spec.proofs.StampLemmas.{EmitsFrom-le}
use Rattle.key_order.proofs.FilterLemmas.{length-filter_le}
use Rattle.world_spec.specs.Share.{IsHome, is_at, NodeData, StandsFor}
use Rattle.world_spec.specs.Moves.{Steps, IsIdle}
use Rattle.world_spec.specs.World.{WorldIsClosed}
use Rattle.world_spec.specs.WorldLaws.{WorldSteps, WorldStepsLaw}
use Rattle.node_core.specs.Homes.{HomesView, home_of}
use Rattle.node_core.specs.Nodes.{NodeView, base_at, home, data_of, share_of, Stands}
use Rattle.node_core.specs.Steps.{HoldsMessageAt}
use Rattle.cycle_core.specs.Known.{IsKnown, AreKnown}
use Rattle.cycle_core.specs.Works.{IsSmall, AreSmall, AllWorkOn, IsOpened, AreIdle, IsHeldFrom}
use Rattle.cycle_core.specs.Worlds.{WorldView, no_data, data_at, IsNodeOf, AreNodesOf, HasNodes, data_of_world, HasShare, StandsAt}
use Rattle.cycle_core.proofs.PlaceLemmas.{at-some, picked}
use Rattle.cycle_core.proofs.WorkLemmas.{home-before}

module _ {M : Type 0} where
  pub data-is : (nodes : List (NodeView M)) (number : ℕ) (n : NodeView M) → slice_get nodes number ≡ Some n → data_at nodes number ≡ data_of n
  data-is nodes number n at = picked data_of nodes number n no_data at

  -- homes that are the same
  pub home-there : (m : Meaning) (n : NodeView M) (model : M) (terms : Terms) (homes : HomesView) (number : ℕ) → IsNodeOf model terms homes number n → (object : ℕ) → IsHome m (home_of homes) number object → IsHome m (home n) n.number object
  home-there m n model terms homes number is object at = (at.0, ap (λ h. home_of h object) is.homes_is ∙ at.1 ∙ sym is.number_is)

  pub home-here : (m : Meaning) (n : NodeView M) (model : M) (terms : Terms) (homes : HomesView) (number : ℕ) → IsNodeOf model terms homes number n → (object : ℕ) → IsHome m (home n) n.number object → IsHome m (home_of homes) number object
  home-here m n model terms homes number is object at = (at.0, ap (λ h. home_of h object) (sym is.homes_is) ∙ at.1 ∙ is.number_is)

  module _ (m : Meaning) (w : WorldView M) (s : State) (stands : StandsAt m w s) where
    pub inside : (number : ℕ) (n : NodeView M) → slice_get w.nodes number ≡ Some n → number < w.homes.nodes
    inside number n at = let lt = slice_get_within w.nodes number n at in let many = stands.has.nodes.many in omega arith

    pub node-stands : (number : ℕ) (n : NodeView M) → slice_get w.nodes number ≡ Some n → Stands m n (stands.shares number) stands.ahead
    node-stands number n at =
        let is = stands.has.nodes.each number n at in
        let F : Terms → HomesView → ℕ → NodeData → Type 0 = λ t h k d. StandsFor m t (home_of h) k (stands.shares number) stands.ahead d in
        let one : F w.terms w.homes number (data_of n) = subst (F w.terms w.homes number) (data-is w.nodes number n at) (stands.stands.stands number (inside number n at)) in
        let two : F n.terms w.homes number (data_of n) = subst (λ t. F t w.homes number (data_of n)) (sym is.terms_is) one in
        let three : F n.terms n.homes number (data_of n) = subst (λ h. F n.terms h number (data_of n)) (sym is.homes_is) two in
        let own = stands.own number n at in
        record { stands = subst (λ k. F n.terms n.homes k (data_of n)) (sym is.number_is) three; states = own.states; events = own.events }

    pub small-at : (number : ℕ) (n : NodeView M) → slice_get w.nodes number ≡ Some n → IsKnown m n → IsSmall m n
    small-at number n at known =
        let is = stands.has.nodes.each number n at in
        let its = known.only (stands.shares number) stands.ahead (node-stands number n at) in
        let own = stands.stands.shares_of number (inside number n at) in
        let lawful = stands.stands.lawful in
        let counted = lawful.count in
        let limit = w.terms.limit_in_range in
        record {
          sent = λ object here.
              let there = home-here m n w.model w.terms w.homes number is object here in
              let same : (base_at n.logs object).sent ≡ (object_at s.objects object).sent = ap (λ (x : ObjectState). x.sent) (sym (its.states object here) ∙ own.states object there) in
              let low = lawful.sent object here.0 in
              omega arith;
          few =
              (let size = known.size in
              let whole : length (stands.shares number).pending ≡ length (share_of n).pending = ap length its.whole in
              let part : length (stands.shares number).pending ≡ length (filter (is_at (home_of w.homes) number) s.pending) = ap length own.pending in
              let le = length-filter_le (is_at (home_of w.homes) number) s.pending in
              let few = lawful.few in
              omega arith);
        }

  -- nodes that have worked on are those of the world still
  pub nodes-after : (meaning_of : M → Meaning) (model : M) (terms : Terms) (homes : HomesView) (old new : List (NodeView M)) → AllWorkOn meaning_of old new → AreNodesOf model terms homes old → AreNodesOf model terms homes new
  nodes-after meaning_of model terms homes old new works are = record {
    many = works.many ∙ are.many;
    some = (let same = works.many in let low = are.some in omega arith);
    each = λ number y at_new.
        let lt = slice_get_within new number y at_new in
        let many = works.many in
        let x = at-some old number (omega arith) in
        let is = are.each number x.0 x.1 in
        let same = (works.pairs number x.0 y x.1 at_new).same in
        record { model_is = same.model ∙ is.model_is; terms_is = same.terms ∙ is.terms_is; homes_is = same.homes ∙ is.homes_is; number_is = same.number ∙ is.number_is };
  }

  module _ (meaning_of : M → Meaning) (w : WorldView M) (nodes : List (NodeView M)) (has : HasNodes w) (works : AllWorkOn meaning_of w.nodes nodes) where
    abbrev m : Meaning
    m = meaning_of w.model

    abbrev home_in : ℕ → ℕ
    home_in = home_of w.homes

    record StepsAt (number : ℕ) : Type 0 where
      bounds : List ℕ
      within : Each (λ (bound : ℕ). bound ≤ end_stamp w.terms.end) bounds
      steps : Steps m home_in number bounds (data_at w.nodes number) (data_at nodes number)

    steps_at : (number : ℕ) → number < w.homes.nodes → StepsAt number
    steps_at number below =
        let many = has.nodes.many in
        let many_now = works.many in
        let x = at-some w.nodes number (omega arith) in
        let y = at-some nodes number (omega arith) in
        let is = has.nodes.each number x.0 x.1 in
        let on = works.pairs number x.0 y.0 x.1 y.1 in
        let S : M → HomesView → ℕ → NodeData → NodeData → Type 0 = λ model h k a b. Steps (meaning_of model) (home_of h) k on.bounds a b in
        let one : S w.model x.0.homes x.0.number (data_of x.0) (data_of y.0) = subst (λ v. S v x.0.homes x.0.number (data_of x.0) (data_of y.0)) is.model_is on.steps in
        let two : S w.model w.homes x.0.number (data_of x.0) (data_of y.0) = subst (λ h. S w.model h x.0.number (data_of x.0) (data_of y.0)) is.homes_is one in
        let three : S w.model w.homes number (data_of x.0) (data_of y.0) = subst (λ k. S w.model w.homes k (data_of x.0) (data_of y.0)) is.number_is two in
        let four : S w.model w.homes number (data_at w.nodes number) (data_of y.0) = subst (λ a. S w.model w.homes number a (data_of y.0)) (sym (data-is w.nodes number x.0 x.1)) three in
        record {
          bounds = on.bounds;
          within = let P : Terms → Type 0 = λ t. Each (λ (bound : ℕ). bound ≤ end_stamp t.end) on.bounds in subst P is.terms_is on.within;
          steps = subst (λ b. S w.model w.homes number (data_at w.nodes number) b) (sym (data-is nodes number y.0 y.1)) four;
        }

    bounds_by : (number : ℕ) (below : Bool) → ltb number w.homes.nodes ≡ below → List ℕ
    bounds_by number true h = (steps_at number (ltb-true number w.homes.nodes h)).bounds
    bounds_by number false h = []

    within_by : (number : ℕ) (below : Bool) (h : ltb number w.homes.nodes ≡ below) → below ≡ true → Each (λ (bound : ℕ). bound ≤ end_stamp w.terms.end) (bounds_by number below h)
    unfolding bounds_by steps_at
    within_by number true h so = (steps_at number (ltb-true number w.homes.nodes h)).within
    within_by number false h so = absurd (cc)

    steps_by : (number : ℕ) (below : Bool) (h : ltb number w.homes.nodes ≡ below) → below ≡ true → Steps m home_in number (bounds_by number below h) (data_at w.nodes number) (data_at nodes number)
    unfolding bounds_by steps_at
    steps_by number true h so = (steps_at number (ltb-true number w.homes.nodes h)).steps
    steps_by number false h so = absurd (cc)

    pub world-steps : WorldSteps m w.terms home_in w.homes.nodes (data_of_world m w) (data_of_world m (record w { nodes = nodes }))
    world-steps = record {
      bounds = λ number. bounds_by number (ltb number w.homes.nodes) refl;
      within = λ number below. within_by number (ltb number w.homes.nodes) refl (lt-ltb number w.homes.nodes below);
      steps = λ number below. steps_by number (ltb number w.homes.nodes) refl (lt-ltb number w.homes.nodes below);
      made = λ number below. refl;
      count = refl;
      fault = refl;
    }

    -- a node has its share still
    own_on : (s : State) (stands : StandsAt m w s) (number : ℕ) (y : NodeView M) → slice_get nodes number ≡ Some y → HasShare m y (stands.shares number)
    own_on s stands number y at_new =
        let lt = slice_get_within nodes number y at_new in
        let many = works.many in
        let x = at-some w.nodes number (omega arith) in
        let on = works.pairs number x.0 y x.1 at_new in
        let old = stands.own number x.0 x.1 in
        record {
          states = λ object at. old.states object (home-before m x.0 y on.same object at) ∙ sym (on.base object);
          events = λ object at. old.events object (home-before m x.0 y on.same object at) ∙ sym (on.pending object);
        }

    -- the world stands for the same state
    pub stands-on : WorldStepsLaw m w.terms → (s : State) → StandsAt m w s → StandsAt m (record w { nodes = nodes }) s
    stands-on law s stands =
        let safe = law home_in w.homes.nodes s stands.shares stands.ahead (data_of_world m w) (data_of_world m (record w { nodes = nodes })) stands.stands world-steps in
        record {
          has = record { nodes = nodes-after meaning_of w.model w.terms w.homes w.nodes nodes works has.nodes; awake = has.awake };
          shares = stands.shares;
          ahead = safe.ahead_now;
          own = λ number y at_new. own_on s stands number y at_new;
          stands = safe.stands;
        }

  module _ (meaning_of : M → Meaning) (model : M) (terms : Terms) (homes : HomesView) (nodes : List (NodeView M)) (bound : ℕ) (are : AreNodesOf model terms homes nodes)
      (opened : IsOpened meaning_of (end_stamp terms.end) nodes bound) (idle : AreIdle meaning_of bound nodes) where
    node_at : (number : ℕ) → number < homes.nodes → (n : NodeView M) × (slice_get nodes number ≡ Some n)
    node_at number below = let many = are.many in at-some nodes number (omega arith)

    -- a world whose nodes are idle below the least stamp that they hold is closed there
    pub world-is-closed : WorldIsClosed (meaning_of model) terms (home_of homes) homes.nodes (data_at nodes) bound
    world-is-closed = record {
      reached = elim opened.reached [
        | inl end ↦ inl end
        | inr h ↦
            (let is = are.each h.0 h.1 h.2 in
            let lt = slice_get_within nodes h.0 h.1 h.2 in
            let many = are.many in
            let V : M → Type 0 = λ v. HoldsMessageAt (meaning_of v) h.1 bound in
            let held : HoldsMessageAt (meaning_of model) h.1 bound = subst V is.model_is h.3 in
            let P : NodeData → Type 0 = λ d. Contains (emissions_of (d.log held.0).done) held.2 in
            inr (h.0, (omega arith), held.0, home-here (meaning_of model) h.1 model terms homes h.0 is held.0 held.1, held.2, subst P (sym (data-is nodes h.0 h.1 h.2)) held.3, held.4))
      ];
      within = opened.within;
      holds = λ number object below at.
          let n = node_at number below in
          let is = are.each number n.0 n.1 in
          let from = opened.from number n.0 n.1 in
          let P : NodeData → Type 0 = λ d. EmitsFrom bound (d.log object).done in
          let Q : M → Type 0 = λ v. IsHeldFrom (meaning_of v) bound n.0 in
          let here = subst Q is.model_is from in
          subst P (sym (data-is nodes number n.0 n.1)) (EmitsFrom-le bound here.least ((data_of n.0).log object).done here.above (here.held.from object (home-there (meaning_of model) n.0 model terms homes number is object at)));
      idle = λ number below.
          let n = node_at number below in
          let is = are.each number n.0 n.1 in
          let I : M → HomesView → ℕ → NodeData → Type 0 = λ v h k d. IsIdle (meaning_of v) (home_of h) k bound d in
          let one : I model n.0.homes n.0.number (data_of n.0) = subst (λ v. I v n.0.homes n.0.number (data_of n.0)) is.model_is (idle number n.0 n.1) in
          let two : I model homes n.0.number (data_of n.0) = subst (λ h. I model h n.0.number (data_of n.0)) is.homes_is one in
          let three : I model homes number (data_of n.0) = subst (λ k. I model homes k (data_of n.0)) is.number_is two in
          subst (λ d. I model homes number d) (sym (data-is nodes number n.0 n.1)) three;
    }

  -- every node of a world that stands for a state is small
  pub all-small : (meaning_of : M → Meaning) (w : WorldView M) (s : State) → StandsAt (meaning_of w.model) w s → AreKnown meaning_of w.nodes → AreSmall meaning_of w.nodes
  all-small meaning_of w s stands known number n at =
      let is = stands.has.nodes.each number n at in
      let P : M → Type 0 = λ v. IsSmall (meaning_of v) n in
      let Q : M → Type 0 = λ v. IsKnown (meaning_of v) n in
      subst P (sym is.model_is) (small-at (meaning_of w.model) w s stands number n at (subst Q is.model_is (known number n at)))

module _ {M : Type 0} (meaning_of : M → Meaning) (w : WorldView M) (old new : List (NodeView M)) (is : w.nodes ≡ old) (works : AllWorkOn meaning_of old new) where
  works_here : AllWorkOn meaning_of w.nodes new
  works_here = let P : List (NodeView M) → Type 0 = λ ns. AllWorkOn meaning_of ns new in subst P (sym is) works

  pub close-stands : WorldStepsLaw (meaning_of w.model) w.terms → (s : State) → StandsAt (meaning_of w.model) w s → StandsAt (meaning_of w.model) (record w { nodes = new }) s
  close-stands law s stands = stands-on meaning_of w new stands.has works_here law s stands

  pub close-closed : (bound : ℕ) → HasNodes w → IsOpened meaning_of (end_stamp w.terms.end) new bound → AreIdle meaning_of bound new
      → WorldIsClosed (meaning_of w.model) w.terms (home_of w.homes) w.homes.nodes (data_at new) bound
  close-closed bound has opened idle = world-is-closed meaning_of w.model w.terms w.homes new bound (nodes-after meaning_of w.model w.terms w.homes w.nodes new works_here has.nodes) opened idle
