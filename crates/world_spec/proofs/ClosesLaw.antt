-- A world can be closed: node by node, each makes steps below the least stamp that it or a node before it holds.
use Rattle.std.proofs.Common.{◌≡◌, ◌⊎◌, ℕ, zero, suc, ◌<◌, ◌≤◌, Bool, true, false, cond, List, [], ◌∷◌, take, drop, refl, sym, ap, ◌∙◌, subst, inl, inr, arith, eqb, eqb-true, eq-eqb, ne_eqb, ltb, ltb-true, ltb-false}
use Rattle.std.proofs.lemmas.Bool.{eqb-false}
use Rattle.std.specs.Prelude.{Some}
use Rattle.std.specs.List.{AllByRecursion as Each}
use Rattle.event_key.specs.declared.key.Key.{Key}
use Rattle.event_key.specs.Keys.{key_lt}
use Rattle.event_key.specs.Stamps.{end_stamp}
use Rattle.event_key.proofs.Order.{key_lt-apart, key_lt-trans, stamp-le}
use Rattle.model_core.specs.declared.event.Event.{Event}
use Rattle.model_core.specs.Meaning.{Meaning}
use Rattle.sim_spec.specs.declared.terms.Terms.{Terms}
use Rattle.key_order.specs.Ascending.{IsAscending, key_of, Ascends}
use Rattle.sim_spec.specs.Cut.{emissions_of}
use Rattle.sim_spec.specs.Replay.{Replay, replay, events_at, EmitsFrom}
use Rattle.key_order.proofs.AscendingLemmas.{Ascends-before}
use Rattle.key_order.proofs.EachLemmas.{Each-map, Each-take}
use Rattle.sim_spec.proofs.PartLemmas.{IsAscending-events_at, events_at-dest, events_at-first}
use Rattle.sim_spec.proofs.ReplayLemmas.{replay-fault}
use Rattle.sim_spec.proofs.StampLemmas.{EmitsFrom-le}
use Rattle.world_spec.specs.Share.{Share, IsHome, IsAtHome, NodeData, StandsFor, log_of}
use Rattle.world_spec.specs.Moves.{one_more, IsBeforeFaults, IsStep, Steps, IsIdle, IsPastFaultOf, raised}
use Rattle.world_spec.specs.World.{WorldData, IsHeldIn}
use Rattle.world_spec.specs.WorldLaws.{ClosesLaw}
use Rattle.world_spec.proofs.HeldLemmas.{HasStamp, IsLeastHeld, least_held, IsPastSome, IsPastNone, past_some-or-none}
use Rattle.world_spec.proofs.StepsLaw.{next-of, step_stands}

-- steps after which a node is idle below what it holds, and below h
record NodeCloses (m : Meaning) (t : Terms) (home : ℕ → ℕ) (node h : ℕ) (held : NodeData) : Type 0 where
  new : NodeData
  bounds : List ℕ
  within : Each (λ (b : ℕ). b ≤ end_stamp t.end) bounds
  steps : Steps m home node bounds held new
  least : IsLeastHeld m home node m.objects new h
  idle : IsIdle m home node least.bound new

module _ (m : Meaning) (t : Terms) (home : ℕ → ℕ) (node h : ℕ) (share : Share) (upto : h ≤ end_stamp t.end) where
  abbrev least_of : NodeData → ℕ
  least_of held = (least_held m home node m.objects held h (omega arith)).bound

  stop : (held : NodeData) → IsIdle m home node (least_of held) held → NodeCloses m t home node h held
  unfolding Steps
  stop held idle = record { new = held; bounds = []; within = tt; steps = refl; least = least_held m home node m.objects held h (omega arith); idle = idle }

  module _ (ahead : ℕ → ℕ) (held : NodeData) (stands : StandsFor m t home node share ahead held) (e : Event) (rest : List Event) (waits : held.unprocessed ≡ e ∷ rest) where
    abbrev dest : ℕ
    dest = e.key.dest

    ordered : IsAscending (e ∷ rest)
    ordered = let P : List Event → Type 0 = IsAscending in subst P waits stands.waiting_ordered

    at_home : IsHome m home node dest
    at_home = let P : List Event → Type 0 = Each (IsAtHome m home node) in let all : P (e ∷ rest) = subst P waits stands.waiting_homed in all.0

    next : drop (ahead dest) (events_at dest share.pending) ≡ e ∷ events_at dest rest
    next = sym (stands.waiting dest at_home) ∙ ap (events_at dest) waits ∙ events_at-first e rest

    -- no fault of the node has the key of an event that waits
    fault_apart : (object : ℕ) → IsHome m home node object → (fault : Key × ℕ) → (held.log object).fault ≡ Some fault → e.key ≡ fault.0 → key_lt fault.0 e.key ≡ true
    unfolding log_of
    fault_apart object at fault is_fault same =
        let met : (replay m object (share.states object) (take (ahead object) (events_at object share.pending))).fault ≡ Some fault = ap (λ (r : Replay). r.fault) (sym (stands.logs object at)) ∙ is_fault in
        let D : Event → Type 0 = λ x. x.key.dest ≡ object in
        let there : fault.0.dest ≡ object =
        replay-fault (λ k. k.dest ≡ object) m object (share.states object) (take (ahead object) (events_at object share.pending))
        (Each-take D (ahead object) (events_at object share.pending) (events_at-dest object share.pending)) fault met in
        let here : dest ≡ object = ap (λ (k : Key). k.dest) same ∙ there in
        let split = (next-of (ahead dest) (events_at dest share.pending) e (events_at dest rest) next).2 in
        let U : List Event → Type 0 = IsAscending in
        let before : Each (λ (x : Event). key_lt x.key e.key ≡ true) (take (ahead dest) (events_at dest share.pending)) =
        Ascends-before key_of (take (ahead dest) (events_at dest share.pending)) e (events_at dest rest) (subst U split (IsAscending-events_at dest share.pending stands.ordered)) in
        let B : ℕ → Type 0 = λ o. Each (λ (x : Event). key_lt x.key e.key ≡ true) (take (ahead o) (events_at o share.pending)) in
        replay-fault (λ k. key_lt k e.key ≡ true) m object (share.states object) (take (ahead object) (events_at object share.pending)) (subst B here before) fault met

    before_faults : IsPastNone m home node held e.key m.objects → IsBeforeFaults m home node held e.key
    before_faults none object at fault is_fault = by_key (key_lt e.key fault.0) refl
      where
        by_key : (b : Bool) → key_lt e.key fault.0 ≡ b → b ≡ true
        by_key true is_b = refl
        by_key false is_b =
            let not = none object at.0 at fault is_fault in
            let same : e.key ≡ fault.0 = key_lt-apart e.key fault.0 is_b not in
            let lt = fault_apart object at fault is_fault same in
            absurd (cc)

    abbrev stepped : NodeData
    stepped = record { log = λ object. cond (eqb object dest) (one_more m dest (held.log dest) e) (held.log object); unprocessed = rest }

    step_is : (bound : ℕ) → e.key.stamp < bound → IsPastNone m home node held e.key m.objects → IsStep m home node bound held stepped
    step_is bound below none = record {
      event = e;
      waits = waits;
      below = below;
      before = before_faults none;
      log = ap (λ b. cond b (one_more m dest (held.log dest) e) (held.log dest)) (eq-eqb dest dest refl);
      others = λ object at apart. ap (λ b. cond b (one_more m dest (held.log dest) e) (held.log object)) (ne_eqb object dest apart);
    }

    -- where the first event is not to be processed, none behind it is
    idle_late : (bound : ℕ) → bound ≤ e.key.stamp → IsIdle m home node bound held
    unfolding Ascends
    idle_late bound late =
        let P : List Event → Type 0 = Each (λ (x : Event). (bound ≤ x.key.stamp) ⊎ IsPastFaultOf m home node held x.key) in
        subst P (sym waits) (
          inl late,
          Each-map (λ (x : Event). key_lt e.key x.key ≡ true) (λ (x : Event). (bound ≤ x.key.stamp) ⊎ IsPastFaultOf m home node held x.key) rest
              (λ x lt. let le = stamp-le e.key x.key lt in inl (omega arith)) ordered.0,
        )

    idle_past : (bound : ℕ) → IsPastSome m home node held e.key m.objects → IsIdle m home node bound held
    unfolding Ascends
    idle_past bound some =
        let P : List Event → Type 0 = Each (λ (x : Event). (bound ≤ x.key.stamp) ⊎ IsPastFaultOf m home node held x.key) in
        subst P (sym waits) (
          inr (some.0, some.2, some.3, some.4, some.5),
          Each-map (λ (x : Event). key_lt e.key x.key ≡ true) (λ (x : Event). (bound ≤ x.key.stamp) ⊎ IsPastFaultOf m home node held x.key) rest
              (λ x lt. inr (some.0, some.2, some.3, some.4, key_lt-trans some.3.0 e.key x.key some.5 lt)) ordered.0,
        )

    closes_with : ((further : ℕ → ℕ) → StandsFor m t home node share further stepped → NodeCloses m t home node h stepped) → NodeCloses m t home node h held
    unfolding Steps step_is
    closes_with more = by_bound (ltb e.key.stamp bound) refl (past_some-or-none m home node held e.key m.objects (omega arith))
      where
        bound : ℕ
        bound = least_of held

        within : bound ≤ end_stamp t.end
        within = let le : bound ≤ h = (least_held m home node m.objects held h (omega arith)).within in omega arith

        by_bound : (b : Bool) → ltb e.key.stamp bound ≡ b → IsPastSome m home node held e.key m.objects ⊎ IsPastNone m home node held e.key m.objects → NodeCloses m t home node h held
        by_bound false is_b faults = stop held (idle_late bound (ltb-false e.key.stamp bound is_b))
        by_bound true is_b (inl some) = stop held (idle_past bound some)
        by_bound true is_b (inr none) =
            let step = step_is bound (ltb-true e.key.stamp bound is_b) none in
            let after = more (raised ahead dest) (step_stands m t home node bound share ahead held stepped within step stands) in
            record { new = after.new; bounds = bound ∷ after.bounds; within = (within, after.within); steps = (stepped, step, after.steps); least = after.least; idle = after.idle }

  node_closes : (es : List Event) (ahead : ℕ → ℕ) (held : NodeData) → held.unprocessed ≡ es → StandsFor m t home node share ahead held → NodeCloses m t home node h held
  node_closes [] ahead held waits stands =
      let P : List Event → Type 0 = Each (λ (x : Event). (least_of held ≤ x.key.stamp) ⊎ IsPastFaultOf m home node held x.key) in
      stop held (subst P (sym waits) tt)
  node_closes (e ∷ rest) ahead held waits stands =
      closes_with ahead held stands e rest waits (λ further stands_on. node_closes rest further (stepped ahead held stands e rest waits) refl stands_on)

-- what node n has, and for each other what it had
abbrev choose : {A : Type 0} → ℕ → A → (ℕ → A) → ℕ → A
choose n x others node = cond (eqb node n) x (others node)

choose-each : {A : Type 0} (P : ℕ → A → Type 0) (n : ℕ) (x : A) (others : ℕ → A) → P n x → ((node : ℕ) → node < n → P node (others node)) → (node : ℕ) → node < suc n → P node (choose n x others node)
choose-each P n x others one each node inside = by_node (eqb node n) refl
  where
    by_node : (b : Bool) → eqb node n ≡ b → P node (cond b x (others node))
    by_node true is_b = let Q : ℕ → Type 0 = λ k. P k x in subst Q (sym (eqb-true node n is_b)) one
    by_node false is_b = let apart = eqb-false node n is_b in each node (omega arith)

module _ (m : Meaning) (t : Terms) (home : ℕ → ℕ) (world : WorldData) where
  abbrev NodeAfter : Type 0
  NodeAfter = NodeData × List ℕ

  -- a node has made its steps, and is idle below a bound that is no greater than what it holds
  record IsClosedNode (bound node : ℕ) (x : NodeAfter) : Type 0 where
    within : Each (λ (b : ℕ). b ≤ end_stamp t.end) x.1
    steps : Steps m home node x.1 (world.node node) x.0
    holds : (object : ℕ) → IsHome m home node object → EmitsFrom bound (x.0.log object).done
    idle : IsIdle m home node bound x.0

  lower : (g h node : ℕ) (x : NodeAfter) → g ≤ h → IsClosedNode h node x → IsClosedNode g node x
  lower g h node x le closed = record {
    within = closed.within;
    steps = closed.steps;
    holds = λ object at. EmitsFrom-le g h (x.0.log object).done le (closed.holds object at);
    idle = Each-map (λ (e : Event). (h ≤ e.key.stamp) ⊎ IsPastFaultOf m home node x.0 e.key) (λ (e : Event). (g ≤ e.key.stamp) ⊎ IsPastFaultOf m home node x.0 e.key) x.0.unprocessed
        (λ e waits. elim waits [ inl late ↦ inl (omega arith) | inr past ↦ inr past ]) closed.idle;
  }

  -- the first n nodes are closed at a bound
  record ClosesFirst (n : ℕ) : Type 0 where
    after : ℕ → NodeAfter
    bound : ℕ
    upto : bound ≤ end_stamp t.end
    closed : (node : ℕ) → node < n → IsClosedNode bound node (after node)
    reached : (bound ≡ end_stamp t.end) ⊎ IsHeldIn m home n (λ node. (after node).0) bound

  closes_first : (shares : ℕ → Share) (ahead : ℕ → ℕ) (n : ℕ) → ((node : ℕ) → node < n → StandsFor m t home node (shares node) ahead (world.node node)) → ClosesFirst n
  closes_first shares ahead zero stands = record {
    after = λ node. (world.node node, []);
    bound = end_stamp t.end;
    upto = omega arith;
    closed = λ node inside. absurd (omega arith);
    reached = inl refl;
  }
  closes_first shares ahead (suc n) stands = with_node (closes_first shares ahead n (λ node inside. stands node (omega arith)))
    where
      with_node : ClosesFirst n → ClosesFirst (suc n)
      with_node first = record {
        after = after;
        bound = bound;
        upto = let le : bound ≤ first.bound = closes.least.within in let far : first.bound ≤ end_stamp t.end = first.upto in omega arith;
        closed = choose-each (IsClosedNode bound) n (closes.new, closes.bounds) first.after own (λ node inside. lower bound first.bound node (first.after node) closes.least.within (first.closed node inside));
        reached = elim closes.least.found [
          | inr held ↦
              (let P : NodeAfter → Type 0 = λ x. HasStamp (emissions_of (x.0.log held.0).done) bound in
              let found = subst P (sym after_here) held.3 in
              inr (n, (omega arith), held.0, held.2, found.0, found.1, found.2))
          | inl same ↦ elim first.reached [
            | inl is_end ↦ inl (same ∙ is_end)
            | inr held ↦
                (let P : NodeAfter → Type 0 = λ x. HasStamp (emissions_of (x.0.log held.2).done) first.bound in
                let found = subst P (sym (after_there held.0 held.1)) (held.4, held.5, held.6) in
                inr (held.0, (let lt : held.0 < n = held.1 in omega arith), held.2, held.3, found.0, found.1, found.2 ∙ sym same))
          ]
        ];
      }
        where
          closes : NodeCloses m t home n first.bound (world.node n)
          closes = node_closes m t home n first.bound (shares n) first.upto (world.node n).unprocessed ahead (world.node n) refl (stands n (omega arith))

          bound : ℕ
          bound = closes.least.bound

          after : ℕ → NodeAfter
          after = choose n (closes.new, closes.bounds) first.after

          after_here : after n ≡ (closes.new, closes.bounds)
          after_here = ap (λ b. cond b (closes.new, closes.bounds) (first.after n)) (eq-eqb n n refl)

          after_there : (node : ℕ) → node < n → after node ≡ first.after node
          after_there node inside = ap (λ b. cond b (closes.new, closes.bounds) (first.after node)) (ne_eqb node n (λ same. omega arith))

          own : IsClosedNode bound n (closes.new, closes.bounds)
          own = record { within = closes.within; steps = closes.steps; holds = λ object at. closes.least.holds object at.0 at; idle = closes.idle }

pub closes_law : (m : Meaning) (t : Terms) → ClosesLaw m t
closes_law m t home nodes s shares ahead world stands =
    let first = closes_first m t home world shares ahead nodes (λ node inside. stands.stands node inside) in
    record {
      new = record world { node = λ node. (first.after node).0 };
      steps = record {
        bounds = λ node. (first.after node).1;
        within = λ node inside. (first.closed node inside).within;
        steps = λ node inside. (first.closed node inside).steps;
        made = λ node inside. refl;
        count = refl;
        fault = refl;
      };
      bound = first.bound;
      closed = record {
        reached = first.reached;
        within = first.upto;
        holds = λ node object inside at. (first.closed node inside).holds object at;
        idle = λ node inside. (first.closed node inside).idle;
      };
    }
