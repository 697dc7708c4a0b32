-- A world stands for a state where each object has at its home what the state gives it.
use Rattle.std.proofs.Common.{◌≡◌, ℕ, ◌<◌, List, ◌++◌, drop, take, map, refl, sym, ap, ◌∙◌, subst, arith}
use Rattle.std.proofs.lemmas.Option.{slice_get_within}
use Rattle.std.specs.Prelude.{slice_get, slice_index_or, Option, Some}
use Rattle.std.specs.List.{AllByRecursion as Each}
use Rattle.event_key.specs.declared.key.Key.{Key}
use Rattle.event_key.specs.Stamps.{end_stamp}
use Rattle.model_core.specs.declared.event.Event.{Event}
use Rattle.model_core.specs.Meaning.{Meaning}
use Rattle.key_order.specs.Ascending.{key_of}
use Rattle.key_order.proofs.AscendingLemmas.{Ascends-filter}
use Rattle.sim_spec.specs.declared.stop.Stop.TheVariants.{Fault}
use Rattle.sim_spec.specs.Replay.{events_at, replay, taken}
use Rattle.sim_spec.specs.Run.{next, stops}
use Rattle.sim_spec.specs.State.{State, Lawful, object_at}
use Rattle.object_log.specs.Logs.{LogView, events_of, undone}
use Rattle.world_spec.specs.Share.{IsAhead, IsHome, NodeData, StandsFor, is_at, log_of}
use Rattle.world_spec.proofs.HomeLemmas.{at-home}
use Rattle.world_spec.proofs.NextWorld.{share-homed}
use Rattle.world_spec.proofs.WorldsLaw.{share_at}
use Rattle.node_core.specs.Homes.{HomesView, home_of}
use Rattle.node_core.specs.Nodes.{NodeView, Stands, ahead_of, base_at, data_of, log_at, log_or, pending_at, share_of, slot_at}
use Rattle.cycle_core.specs.Known.{AreKnown}
use Rattle.cycle_core.specs.Moving.{IsRearranged}
use Rattle.cycle_core.specs.Worlds.{WorldView, AreNodesOf, HasNodes, IsNodeOf, StandsAt}
use Rattle.cycle_core.proofs.EndLemmas.{to-world}
use Rattle.cycle_core.proofs.PlaceLemmas.{at-some, picked}
use Rattle.cycle_core.proofs.WorldLemmas.{data-is, home-here}

module _ {M : Type 0} where
  -- what an object has at a node is what the state gives it
  pub record IsGiven (s : State) (n : NodeView M) (object : ℕ) : Type 0 where
    pub states : object_at s.objects object ≡ base_at n.logs object
    pub events : events_at object s.pending ≡ pending_at n.logs n.waiting object

  pub given-still : (s : State) (x y : NodeView M) (object : ℕ) → slot_at y.logs object ≡ slot_at x.logs object → events_at object y.waiting ≡ events_at object x.waiting → IsGiven s x object → IsGiven s y object
  unfolding log_at
  given-still s x y object logs waits given = record {
    states = given.states ∙ ap (λ (o : Option LogView). undone (log_or o).state (log_or o).done) (sym logs);
    events = given.events ∙ (λ i. events_of (log_or (sym logs i)).done ++ sym waits i);
  }

module _ {M : Type 0} (meaning_of : M → Meaning) (w : WorldView M) (s : State) (stands_so : StandsAt (meaning_of w.model) w s) where
  -- in a world that stands for a state it is so
  pub has-given : (number : ℕ) (n : NodeView M) → slice_get w.nodes number ≡ Some n → (object : ℕ) → IsHome (meaning_of w.model) (home_of w.homes) number object → IsGiven s n object
  has-given number n at object here =
      let is = stands_so.has.nodes.each number n at in
      let lt = slice_get_within w.nodes number n at in
      let many = stands_so.has.nodes.many in
      let share = stands_so.stands.shares_of number (omega arith) in
      let own = stands_so.own number n at in
      let there : IsHome (meaning_of w.model) (home_of n.homes) n.number object = (here.0, ap (λ h. home_of h object) is.homes_is ∙ here.1 ∙ sym is.number_is) in
      record {
        states = sym (share.states object here) ∙ own.states object there;
        events = sym (at-home (home_of w.homes) number object s.pending here.1) ∙ ap (events_at object) (sym share.pending) ∙ own.events object there;
      }

module _ {M : Type 0} (meaning_of : M → Meaning) (w : WorldView M) (s : State) (lawful : Lawful (meaning_of w.model) w.terms s) (has : HasNodes w)
    (placed : (object : ℕ) → object < (meaning_of w.model).objects → home_of w.homes object < w.homes.nodes) (known : AreKnown meaning_of w.nodes)
    (given : (number : ℕ) (n : NodeView M) → slice_get w.nodes number ≡ Some n → (object : ℕ) → IsHome (meaning_of w.model) (home_of w.homes) number object → IsGiven s n object) where
  abbrev m : Meaning
  m = meaning_of w.model

  abbrev home_in : ℕ → ℕ
  home_in = home_of w.homes

  nothing : ℕ → ℕ
  nothing object = 0

  -- how far each object is at its home
  abbrev ahead : ℕ → ℕ
  ahead object = (slice_index_or (map (λ (n : NodeView M). ahead_of n) w.nodes) (home_in object) nothing) object

  module _ (number : ℕ) (n : NodeView M) (at : slice_get w.nodes number ≡ Some n) where
    is : IsNodeOf w.model w.terms w.homes number n
    is = has.nodes.each number n at

    own : Stands m n (share_of n) (ahead_of n)
    own = let P : M → Type 0 = λ v. Stands (meaning_of v) n (share_of n) (ahead_of n) in subst P is.model_is (known number n at).stands

    there : StandsFor m w.terms home_in number (share_of n) (ahead_of n) (data_of n)
    there = to-world w.model w.terms w.homes number (λ v t h k. StandsFor m t (home_of h) k (share_of n) (ahead_of n) (data_of n)) n is own.stands

    module _ (object : ℕ) (here : IsHome m home_in number object) where
      ahead-is : ahead object ≡ ahead_of n object
      ahead-is =
          ap (λ k. (slice_index_or (map (λ (v : NodeView M). ahead_of v) w.nodes) k nothing) object) here.1
          ∙ ap (λ (f : ℕ → ℕ). f object) (picked (λ (v : NodeView M). ahead_of v) w.nodes number n nothing at)

      events-are : events_at object (share_at home_in s number).pending ≡ events_at object (share_of n).pending
      events-are =
          at-home home_in number object s.pending here.1 ∙ (given number n at object here).events
          ∙ sym (own.events object (here.0, ap (λ h. home_of h object) is.homes_is ∙ here.1 ∙ sym is.number_is))

      log-is : log_of m (share_at home_in s number) object (ahead object) ≡ log_of m (share_of n) object (ahead_of n object)
      unfolding log_of
      log-is = λ i. replay m object ((given number n at object here).states i) (take (ahead-is i) (events-are i))

      early : IsAhead m w.terms (share_at home_in s number) object (ahead object)
      early =
          let E : ℕ → List Event → Type 0 = λ k es. Each (λ (e : Event). e.key.stamp < end_stamp w.terms.end) (take k es) in
          let before = there.early object here in
          record {
            whole = ap taken log-is ∙ before.whole ∙ sym ahead-is;
            below = subst (λ k. E k (events_at object (share_at home_in s number).pending)) (sym ahead-is) (subst (E (ahead_of n object)) (sym events-are) before.below);
          }

    given-stands : StandsFor m w.terms home_in number (share_at home_in s number) ahead (data_of n)
    given-stands = record {
      ordered = Ascends-filter key_of (is_at home_in number) s.pending lawful.ordered;
      homed = share-homed m w.terms s home_in number lawful;
      cells = λ object here. lawful.cells object here.0;
      early = early;
      logs = λ object here. there.logs object here ∙ sym (log-is object here);
      waiting_ordered = there.waiting_ordered;
      waiting_homed = there.waiting_homed;
      waiting = λ object here. there.waiting object here ∙ (λ i. drop (sym (ahead-is object here) i) (sym (events-are object here) i));
    }

  pub stands-given : w.count ≡ s.count → ((fault : Key × ℕ) → w.fault ≡ Some fault → next m w.terms s ≡ stops (Fault fault.0 fault.1)) → StandsAt m w s
  stands-given count fault = record {
    has = has;
    shares = share_at home_in s;
    ahead = ahead;
    own = λ number n at.
        let node_is = has.nodes.each number n at in
        record {
          states = λ object here. (given number n at object (home-here m n w.model w.terms w.homes number node_is object here)).states;
          events = λ object here.
              let home = home-here m n w.model w.terms w.homes number node_is object here in
              at-home home_in number object s.pending home.1 ∙ (given number n at object home).events;
        };
    stands = record {
      lawful = lawful;
      homes = placed;
      made = λ number below. record { model = refl; terms = refl; number = refl; homes = λ object low. refl };
      shares_of = λ number below. record { states = λ object here. refl; pending = refl };
      stands = λ number below.
          let many = has.nodes.many in
          let n = at-some w.nodes number (omega arith) in
          let P : NodeData → Type 0 = λ d. StandsFor m w.terms home_in number (share_at home_in s number) ahead d in
          subst P (sym (data-is w.nodes number n.0 n.1)) (given-stands number n.0 n.1);
      count = count;
      fault = fault;
    };
  }

-- where each object keeps what it had, the world stands for the same state
pub keeps-stands : {M : Type 0} (meaning_of : M → Meaning) (w : WorldView M) (s : State) (homes' : HomesView) (new : List (NodeView M)) → StandsAt (meaning_of w.model) w s
    → AreNodesOf w.model w.terms homes' new → ((object : ℕ) → object < (meaning_of w.model).objects → home_of homes' object < homes'.nodes) → AreKnown meaning_of new
    → IsRearranged w.homes homes' w.nodes new → StandsAt (meaning_of w.model) (record w { nodes = new; homes = homes' }) s
keeps-stands meaning_of w s homes' new stands_so are placed known keep =
    stands-given meaning_of (record w { nodes = new; homes = homes' }) s stands_so.stands.lawful (record { nodes = are; awake = stands_so.has.awake }) placed known
    (λ number y at object here.
    let many = stands_so.has.nodes.many in
    let below = stands_so.stands.homes object here.0 in
    let x = at-some w.nodes (home_of w.homes object) (omega arith) in
    let at_home : slice_get new (home_of homes' object) ≡ Some y = ap (slice_get new) here.1 ∙ at in
    given-still s x.0 y object (keep.logs object x.0 y x.1 at_home) (keep.waiting object x.0 y x.1 at_home) (has-given meaning_of w s stands_so (home_of w.homes object) x.0 x.1 object (here.0, refl)))
    stands_so.stands.count stands_so.stands.fault
