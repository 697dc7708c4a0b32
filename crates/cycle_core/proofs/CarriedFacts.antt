-- What a cycle carries, node by node.
use Rattle.std.proofs.Common.{◌≡◌, ℕ, zero, suc, ◌+◌, ◌-◌, ◌<◌, ◌≤◌, ◌&&◌, Bool, true, false, cond, List, ◌++◌, length, take, drop, refl, sym, ap, ◌∙◌, arith, eqb, eqb-true}
use Rattle.std.proofs.Math.Seq.{take-append_seam}
use Rattle.std.proofs.lemmas.Bool.{eqb-false}
use Rattle.std.proofs.lemmas.List.{append-nil, length-map}
use Rattle.std.proofs.lemmas.List.Elements.{filter-append}
use Rattle.std.specs.Prelude.{slice_get, Some, filter}
use Rattle.model_core.specs.Meaning.{Meaning, MeaningLaws}
use Rattle.model_core.specs.declared.event.Event.{Event}
use Rattle.sim_spec.specs.Cut.{committed_events, events_of}
use Rattle.sim_spec.specs.Firing.{Firing}
use Rattle.sim_spec.specs.Replay.{done_at, events_at}
use Rattle.sim_spec.specs.State.{State}
use Rattle.sim_spec.proofs.PartLemmas.{Each-events_at, events_at-append, events_at-events_of, length-events_of}
use Rattle.object_log.specs.Dones.{Done}
use Rattle.object_log.specs.Logs.{events_of as log_events}
use Rattle.world_spec.specs.Closed.{IsCarried, cut_key, is_late, undone_at, undone_upto}
use Rattle.world_spec.specs.Early.{early_events, kept}
use Rattle.key_order.specs.Due.{is_due}
use Rattle.world_spec.specs.Moves.{due_count}
use Rattle.world_spec.specs.Share.{IsHome}
use Rattle.world_spec.specs.World.{WorldIsClosed}
use Rattle.world_spec.proofs.CarriedLaw.{carried_law}
use Rattle.world_spec.proofs.ClosedFacts.{left_of}
use Rattle.world_spec.proofs.ClosedLaw.{committed_processed, due_parts}
use Rattle.key_order.proofs.FilterLemmas.{filter-all, filter-none}
use Rattle.world_spec.proofs.WorldFacts.{share-events, world-runs, world-closed}
use Rattle.node_core.specs.Homes.{home_of}
use Rattle.node_core.specs.Nodes.{NodeView, log_at, home, ahead_of}
use Rattle.node_core.specs.Shares.{AreProcessedKeys, total_upto}
use Rattle.cycle_core.specs.Known.{IsKnown}
use Rattle.cycle_core.specs.Worlds.{WorldView, data_at, data_of_world, StandsAt}
use Rattle.cycle_core.proofs.WorldLemmas.{inside, node-stands, home-here}

module _ {M : Type 0} (m : Meaning) (w : WorldView M) (s : State) (stands : StandsAt m w s) where
  -- the log of an object has its early events
  pub log-early : (number : ℕ) (n : NodeView M) → slice_get w.nodes number ≡ Some n → IsKnown m n → (object : ℕ) → IsHome m (home n) n.number object
      → log_events (log_at n.logs object).done ≡ early_events s object (stands.ahead object)
  log-early number n at known object here =
      let below = inside m w s stands number n at in
      let is = stands.has.nodes.each number n at in
      let its = known.only (stands.shares number) stands.ahead (node-stands m w s stands number n at) in
      let own = stands.stands.shares_of number below in
      let there = home-here m n w.model w.terms w.homes number is object here in
      let done = log_events (log_at n.logs object).done in
      let long : stands.ahead object ≡ length done = its.ahead_is object here ∙ sym (length-map (log_at n.logs object).done (λ (d : Done). d.event)) in
      sym (ap (λ es. take (stands.ahead object) es) (sym (share-events m (home_of w.homes) s number (stands.shares number) own object there) ∙ its.pending object here)
      ∙ ap (λ k. take k (done ++ events_at object n.waiting)) long ∙ take-append_seam done (events_at object n.waiting))

  pub ahead-is : (number : ℕ) (n : NodeView M) → slice_get w.nodes number ≡ Some n → IsKnown m n → (object : ℕ) → IsHome m (home n) n.number object → stands.ahead object ≡ ahead_of n object
  ahead-is number n at known object here = (known.only (stands.shares number) stands.ahead (node-stands m w s stands number n at)).ahead_is object here

  module _ (laws : MeaningLaws m) (bound : ℕ) (closed : WorldIsClosed m w.terms (home_of w.homes) w.homes.nodes (data_at w.nodes) bound) where
    abbrev home_in : ℕ → ℕ
    home_in = home_of w.homes

    abbrev happened : List (Event × Firing)
    happened = committed_events m w.terms s

    abbrev due : Event → Bool
    due e = is_due bound (cut_key m w.terms s) e.key

    pub carried : IsCarried m w.terms s stands.ahead
    carried =
        carried_law m w.terms laws s stands.ahead bound stands.stands.lawful (world-runs m w.terms home_in w.homes.nodes s stands.shares stands.ahead (data_of_world m w) stands.stands)
        (world-closed m w.terms home_in w.homes.nodes s stands.shares stands.ahead (data_of_world m w) stands.stands bound closed)

    -- what a commit takes of an object is its part of the bucket
    pub due-count-is : (number object : ℕ) → number < w.homes.nodes → IsHome m home_in number object → due_count bound (cut_key m w.terms s) (stands.shares number) object ≡ length (done_at object happened)
    unfolding due_count
    due-count-is number object below at =
        let runs = world-runs m w.terms home_in w.homes.nodes s stands.shares stands.ahead (data_of_world m w) stands.stands in
        let idle = world-closed m w.terms home_in w.homes.nodes s stands.shares stands.ahead (data_of_world m w) stands.stands bound closed in
        let p = committed_processed m w.terms s stands.ahead bound stands.stands.lawful runs idle object at.0 in
        let parts = due_parts m w.terms s stands.ahead bound stands.stands.lawful runs idle in
        let rest = left_of m w.terms s in
        let events : events_at object (stands.shares number).pending ≡ events_at object (events_of happened) ++ events_at object rest =
        share-events m home_in s number (stands.shares number) (stands.stands.shares_of number below) object at ∙ ap (events_at object) p.goes_first.pending ∙ events_at-append object (events_of happened) rest in
        ap (λ xs. length (filter due xs)) events
        ∙ ap length (filter-append due (events_at object (events_of happened)) (events_at object rest))
        ∙ ap (λ xs. length (filter due (events_at object (events_of happened)) ++ xs)) (filter-none due (events_at object rest) (Each-events_at (λ (e : Event). due e ≡ false) object rest parts.1))
        ∙ ap length (append-nil (filter due (events_at object (events_of happened))))
        ∙ ap length (filter-all due (events_at object (events_of happened)) (Each-events_at (λ (e : Event). due e ≡ true) object (events_of happened) parts.0))
        ∙ ap length (events_at-events_of object happened) ∙ length-events_of (done_at object happened)

    -- what is left of a node's logs and isn't kept is undone
    module _ (number : ℕ) (mid y : NodeView M) (below : number < w.homes.nodes) (mid_home : (object : ℕ) → IsHome m home_in number object → IsHome m (home mid) mid.number object)
        (mid_here : (object : ℕ) → IsHome m (home mid) mid.number object → IsHome m home_in number object)
        (mid_keys : AreProcessedKeys m mid) (y_keys : AreProcessedKeys m y)
        (mid_ahead : (object : ℕ) → IsHome m home_in number object → ahead_of mid object ≡ stands.ahead object - due_count bound (cut_key m w.terms s) (stands.shares number) object)
        (y_ahead : (object : ℕ) → IsHome m home_in number object → ahead_of y object ≡ kept s happened stands.ahead object) where
      totals : (n : ℕ) → n ≤ m.objects → total_upto (ahead_of mid) n ≤ total_upto (ahead_of y) n + undone_upto m w.terms s home_in stands.ahead number n
      unfolding total_upto undone_upto
      totals zero le = omega arith
      totals (suc n) le =
          let more = totals n (omega arith) in
          let one = by_home (eqb (home_in n) number) refl in
          omega arith
        where
          by_home : (b : Bool) → eqb (home_in n) number ≡ b → ahead_of mid n ≤ ahead_of y n + cond b (undone_at m w.terms s stands.ahead n) 0
          by_home true h =
              let at : IsHome m home_in number n = ((omega arith), eqb-true (home_in n) number h) in
              let a = mid_ahead n at in
              let b = y_ahead n at in
              let d = due-count-is number n below at in
              omega arith
          by_home false h =
              let far = eqb-false (home_in n) number h in
              let none : ahead_of mid n ≡ 0 = mid_keys.empty n (λ at. far (mid_here n at).1) in
              omega arith

      pub undone-few : (count : ℕ) → length y.processed + count ≡ length mid.processed → count ≤ length (filter (λ (e : Event). is_late happened e && eqb (home_in e.key.dest) number) (drop (length happened) s.pending))
      undone-few count sum =
          let all = totals m.objects (omega arith) in
          let a = mid_keys.total in
          let b = y_keys.total in
          let upto = carried.undone_at_node home_in number in
          omega arith
