-- Nodes whose objects are given their states.
use Rattle.std.proofs.Common.{◌≡◌, ◌≢◌, ℕ, ◌+◌, ◌-◌, ◌<◌, ◌≤◌, Bool, true, false, List, [], ◌∷◌, ◌++◌, append_assoc, length, refl, sym, ap, ◌∙◌, subst, arith, eqb, eqb-true, slice_set}
use Rattle.std.proofs.lemmas.Bool.{eqb-false}
use Rattle.std.proofs.Math.Seq.{get_or-append_seam}
use Rattle.std.proofs.lemmas.List.{length-append, length-set}
use Rattle.std.proofs.lemmas.List.FromFn.{get_or-map-range_with_len}
use Rattle.std.proofs.lemmas.Option.{slice_get_within}
use Rattle.std.specs.Prelude.{slice_get, IsTrue, Option, Some}
use Rattle.model_core.specs.Meaning.{Meaning, MeaningLaws}
use Rattle.key_order.proofs.InOrder.{in_order-same}
use Rattle.sim_spec.specs.declared.terms.Terms.{Terms}
use Rattle.sim_spec.specs.Firing.{ObjectState}
use Rattle.sim_spec.specs.State.{Lawful, State, first_object, initial_state, no_object, object_at}
use Rattle.sim_spec.proofs.InitialLemmas.{initial_state-lawful}
use Rattle.model_core.specs.declared.event.Event.{Event}
use Rattle.object_log.specs.Logs.{LogView}
use Rattle.world_spec.specs.Share.{IsHome}
use Rattle.node_core.specs.Homes.{HomesView, home_of}
use Rattle.node_core.specs.Nodes.{NodeView, home, log_at, log_or}
use Rattle.node_core.specs.Saves.{HasObject}
use Rattle.cycle_core.specs.Starts.{AreAllNew, ArePartsOf, ArePlaced, CanBegin, CanSet, HasStatesFrom, HaveStatesFrom, first_events, world_with}
use Rattle.cycle_core.specs.Worlds.{IsNodeOf}
use Rattle.cycle_core.proofs.PlaceLemmas.{at-other, at-set, same-some}
use Rattle.cycle_core.proofs.WorldLemmas.{home-there}

-- the last of the states that are left
module _ (all left front more : List ObjectState) (x : ObjectState) (split : all ≡ left ++ more) (pops : left ≡ front ++ x ∷ []) where
  pub split-more : all ≡ front ++ (x ∷ more)
  split-more = split ∙ ap (λ xs. xs ++ more) pops ∙ append_assoc front (x ∷ []) more

  pub state-last : object_at all (length front) ≡ x
  state-last = ap (λ xs. object_at xs (length front)) split-more ∙ get_or-append_seam front x more no_object

  pub front-inside : length front + 1 ≤ length all
  front-inside =
      let parts = ap length split-more ∙ length-append front (x ∷ more) in
      omega arith

module _ {M : Type 0} (meaning_of : M → Meaning) (model : M) (terms : Terms) (homes : HomesView) where
  abbrev m : Meaning
  m = meaning_of model

  -- an object of the model is at the node that is its home
  pub home-of-node : (number : ℕ) (n : NodeView M) → IsNodeOf model terms homes number n → (object : ℕ) → object < m.objects → number ≡ home_of homes object → IsHome (meaning_of n.model) (home n) n.number object
  home-of-node number n is object low there =
      let L : M → Type 0 = λ v. object < (meaning_of v).objects in
      (subst L (sym is.model_is) low, ap (λ h. home_of h object) is.homes_is ∙ sym there ∙ sym is.number_is)

  -- what new nodes have, as far as it is said
  pub new-states : (from : ℕ) (states : List ObjectState) (nodes : List (NodeView M)) → AreAllNew meaning_of model terms homes nodes → ((object : ℕ) → object < m.objects → from ≤ object → first_object m object ≡ object_at states object)
      → HaveStatesFrom meaning_of model terms homes from states nodes
  unfolding log_at
  new-states from states nodes new same = record {
    many = new.many;
    each = λ number n at.
        let is = (new.each number n at).0 in
        let fresh = (new.each number n at).1 in (
          is,
          record {
            states_are = λ object here from_here. ap (λ (slot : Option LogView). (log_or slot).state) (fresh.here object here) ∙ same object here.0 from_here;
            none = λ object here. ap (λ (slot : Option LogView). (log_or slot).done) (fresh.here object here);
            processed = fresh.processed;
            waiting = fresh.waiting;
          },
        );
  }

  pub can-set : (states : List ObjectState) (nodes : List (NodeView M)) → AreAllNew meaning_of model terms homes nodes → ArePlaced m homes → (s : State) → Lawful m terms s → s.objects ≡ states → CanSet meaning_of model terms homes states nodes
  can-set states nodes new placed s lawful same =
      let long : length states ≡ m.objects = sym (ap length same) ∙ lawful.objects in
      record {
        placed = placed;
        objects = long;
        cells = subst (λ os. (object : ℕ) → object < m.objects → IsTrue (m.lawful object (object_at os object).cells)) same lawful.cells;
        new = new-states (length states) states nodes new (λ object low from. absurd (omega arith));
      }

  -- an object more is given its state
  module _ (states : List ObjectState) (object number : ℕ) (state : ObjectState) (nodes : List (NodeView M)) (x y : NodeView M) (so_far : HaveStatesFrom meaning_of model terms homes (object + 1) states nodes)
      (at_x : slice_get nodes number ≡ Some x) (home_is : number ≡ home_of homes object) (sets : HasObject object state x y) (state_is : state ≡ object_at states object) where
    x_is : IsNodeOf model terms homes number x
    x_is = (so_far.each number x at_x).0

    has : HasStatesFrom m (object + 1) states x
    has = (so_far.each number x at_x).1

    y_is : IsNodeOf model terms homes number y
    y_is = record {
      model_is = ap (λ (n : NodeView M). n.model) sets.rest ∙ x_is.model_is;
      terms_is = ap (λ (n : NodeView M). n.terms) sets.rest ∙ x_is.terms_is;
      homes_is = ap (λ (n : NodeView M). n.homes) sets.rest ∙ x_is.homes_is;
      number_is = ap (λ (n : NodeView M). n.number) sets.rest ∙ x_is.number_is;
    }

    home_back : (o : ℕ) → IsHome m (home y) y.number o → IsHome m (home x) x.number o
    home_back o here = (here.0, ap (λ (n : NodeView M). home n o) (sym sets.rest) ∙ here.1 ∙ ap (λ (n : NodeView M). n.number) sets.rest)

    by_object : (P : LogView → Type 0) (o : ℕ) → (o ≡ object → P (record { object = object; state = state; done = [] })) → (o ≢ object → P (log_at x.logs o)) → P (log_at y.logs o)
    unfolding log_at
    by_object P o there elsewhere = by_test (eqb o object) refl
      where
        by_test : (b : Bool) → eqb o object ≡ b → P (log_at y.logs o)
        by_test true h =
            let same = eqb-true o object h in
            subst P (sym (ap (λ k. log_at y.logs k) same ∙ ap log_or sets.put.log_is)) (there same)
        by_test false h =
            let apart = eqb-false o object h in
            subst P (sym (ap log_or (sets.put.others o apart))) (elsewhere apart)

    y_has : HasStatesFrom m object states y
    y_has = record {
      states_are = λ o here from. by_object (λ l. l.state ≡ object_at states o) o
          (λ same. state_is ∙ ap (object_at states) (sym same))
          (λ apart. has.states_are o (home_back o here) (let lt : object ≢ o = (λ same. apart (sym same)) in omega arith));
      none = λ o here. by_object (λ l. l.done ≡ []) o (λ same. refl) (λ apart. has.none o (home_back o here));
      processed = ap (λ (n : NodeView M). n.processed) sets.rest ∙ has.processed;
      waiting = ap (λ (n : NodeView M). n.waiting) sets.rest ∙ has.waiting;
    }

    pub set-more : HaveStatesFrom meaning_of model terms homes object states (slice_set nodes number y)
    set-more = record {
      many = length-set nodes number y ∙ so_far.many;
      each = λ k n at. by_place k n at (eqb k number) refl;
    }
      where
        by_place : (k : ℕ) (n : NodeView M) → slice_get (slice_set nodes number y) k ≡ Some n → (b : Bool) → eqb k number ≡ b → IsNodeOf model terms homes k n × HasStatesFrom m object states n
        by_place k n at true h =
            let same = eqb-true k number h in
            let is : y ≡ n = same-some y n (sym (at-set nodes number y (slice_get_within nodes number x at_x)) ∙ ap (slice_get (slice_set nodes number y)) (sym same) ∙ at) in
            let P : ℕ → NodeView M → Type 0 = λ j v. IsNodeOf model terms homes j v × HasStatesFrom m object states v in
            subst (λ j. P j n) (sym same) (subst (P number) is (y_is, y_has))
        by_place k n at false h =
            let apart = eqb-false k number h in
            let old = so_far.each k n (sym (at-other nodes number k y apart) ∙ at) in (
              old.0,
              record {
                states_are = λ o here from. old.1.states_are o here
                    (let lt : object ≢ o = (λ same. apart (sym old.0.number_is ∙ sym here.1 ∙ ap (λ h. home_of h o) old.0.homes_is ∙ ap (home_of homes) (sym same) ∙ sym home_is)) in omega arith);
                none = old.1.none;
                processed = old.1.processed;
                waiting = old.1.waiting;
              },
            )

  -- an object, its home, and the state that it is to have
  pub record IsNext (states : List ObjectState) (nodes : List (NodeView M)) (object number : ℕ) (state : ObjectState) (n : NodeView M) : Type 0 where
    pub so_far : HaveStatesFrom meaning_of model terms homes (object + 1) states nodes
    pub at : slice_get nodes number ≡ Some n
    pub low : object < m.objects
    pub there : number ≡ home_of homes object
    pub state_is : object_at states object ≡ state

  -- it is the last object whose state is left
  pub next-of : (all left front more : List ObjectState) (x : ObjectState) (olds nodes : List (NodeView M)) (count number : ℕ) (n : NodeView M) → all ≡ left ++ more → left ≡ front ++ x ∷ []
      → CanSet meaning_of model terms homes all olds → count ≡ length left → HaveStatesFrom meaning_of model terms homes count all nodes
      → slice_get nodes number ≡ Some n → number ≡ home_of homes (count - 1) → IsNext all nodes (count - 1) number x n
  next-of all left front more x olds nodes count number n split pops can counted so_far at there =
      let long = ap length pops ∙ length-append front (x ∷ []) in
      let one : count ≡ count - 1 + 1 = omega arith in
      let last : length front ≡ count - 1 = omega arith in
      let inside = front-inside all left front more x split pops in
      let objects = can.objects in
      let P : ℕ → Type 0 = λ k. HaveStatesFrom meaning_of model terms homes k all nodes in
      record {
        so_far = subst P one so_far;
        at = at;
        low = omega arith;
        there = there;
        state_is = ap (object_at all) (sym last) ∙ state-last all left front more x split pops;
      }

  module _ (states : List ObjectState) (nodes : List (NodeView M)) (object number : ℕ) (state : ObjectState) (n : NodeView M) (next : IsNext states nodes object number state n) where
    is : IsNodeOf model terms homes number n
    is = (next.so_far.each number n next.at).0

    pub next-here : IsHome (meaning_of n.model) (home n) n.number object
    next-here = home-of-node number n is object next.low next.there

    pub next-none : (log_at n.logs object).done ≡ []
    next-none = (next.so_far.each number n next.at).1.none object (home-there m n model terms homes number is object (next.low, sym next.there))

    pub next-lawful : ((o : ℕ) → o < m.objects → IsTrue (m.lawful o (object_at states o).cells)) → IsTrue ((meaning_of n.model).lawful object state.cells)
    next-lawful cells =
        let L : M → Type 0 = λ v. IsTrue ((meaning_of v).lawful object state.cells) in
        let S : ObjectState → Type 0 = λ s. IsTrue (m.lawful object s.cells) in
        subst L (sym is.model_is) (subst S next.state_is (cells object next.low))

    pub next-set : (y : NodeView M) → HasObject object state n y → HaveStatesFrom meaning_of model terms homes object states (slice_set nodes number y)
    next-set y sets = set-more states object number state nodes n y next.so_far next.at next.there sets (sym next.state_is)

  -- what a world begins with
  module _ (placed : ArePlaced m homes) (nodes : List (NodeView M)) (parcels : List (List Event)) where
    pub begins-first : MeaningLaws m → AreAllNew meaning_of model terms homes nodes → ArePartsOf homes (first_events m m.starts) parcels → CanBegin meaning_of (world_with model terms homes nodes 0) parcels (initial_state m)
    unfolding initial_state
    begins-first laws new parts = record {
      lawful = initial_state-lawful m terms laws;
      placed = placed;
      nodes = new-states 0 (initial_state m).objects nodes new (λ object low from. sym (get_or-map-range_with_len (first_object m) 0 m.objects object object no_object low (omega arith)));
      events = first_events m m.starts;
      pending = refl;
      parts = parts;
      count = refl;
      none = refl;
      awake = refl;
    }

    pub begins-at : (s : State) → Lawful m terms s → HaveStatesFrom meaning_of model terms homes 0 s.objects nodes → ArePartsOf homes s.pending parcels → CanBegin meaning_of (world_with model terms homes nodes s.count) parcels s
    begins-at s lawful states parts = record {
      lawful = lawful;
      placed = placed;
      nodes = states;
      events = s.pending;
      pending = sym (in_order-same s.pending lawful.ordered);
      parts = parts;
      count = refl;
      none = refl;
      awake = refl;
    }
