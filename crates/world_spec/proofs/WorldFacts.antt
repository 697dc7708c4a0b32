-- What the nodes of a world hold is what is ahead of its state.
use Rattle.std.proofs.Common.{List, ap, drop, inl, inr, refl, subst, sym, take, ℕ, ◌<◌, ◌∙◌, ◌≡◌, ◌≤◌, ◌⊎◌}
use Rattle.std.specs.List.{AllByRecursion as Each}
use Rattle.std.specs.Prelude.{Contains}
use Rattle.event_key.specs.Stamps.{end_stamp}
use Rattle.event_key.specs.declared.key.Key.{Key}
use Rattle.model_core.specs.Meaning.{Meaning}
use Rattle.model_core.specs.declared.event.Event.{Event}
use Rattle.sim_spec.specs.Cut.{emissions_of}
use Rattle.sim_spec.specs.Replay.{EmitsFrom, Replay, early_replay, events_at, replay, taken}
use Rattle.sim_spec.specs.State.{State}
use Rattle.sim_spec.specs.declared.terms.Terms.{Terms}
use Rattle.key_order.proofs.EachLemmas.{Each-map}
use Rattle.sim_spec.proofs.PartLemmas.{Each-events_at}
use Rattle.world_spec.specs.Early.{IsClosed, IsPastFault, RunsAhead}
use Rattle.world_spec.specs.Moves.{IsPastFaultOf}
use Rattle.world_spec.specs.Share.{IsHome, IsShareOf, Share, log_of}
use Rattle.world_spec.specs.World.{WorldData, WorldIsClosed, WorldStands}
use Rattle.world_spec.proofs.HomeLemmas.{at-home}

pub share-events : (m : Meaning) (home : ℕ → ℕ) (s : State) (node : ℕ) (share : Share) → IsShareOf m home s node share → (object : ℕ) → IsHome m home node object
    → events_at object share.pending ≡ events_at object s.pending
share-events m home s node share own object at = ap (events_at object) own.pending ∙ at-home home node object s.pending at.1

pub share-log : (m : Meaning) (home : ℕ → ℕ) (s : State) (node : ℕ) (share : Share) → IsShareOf m home s node share → (object n : ℕ) → IsHome m home node object
    → log_of m share object n ≡ early_replay m s object n
unfolding log_of early_replay
share-log m home s node share own object n at =
    ap (λ es. replay m object (share.states object) (take n es)) (share-events m home s node share own object at)
    ∙ ap (λ x. replay m object x (take n (events_at object s.pending))) (own.states object at)

module _ (m : Meaning) (t : Terms) (home : ℕ → ℕ) (nodes : ℕ) (s : State) (shares : ℕ → Share) (ahead : ℕ → ℕ) (world : WorldData) (stands : WorldStands m t home nodes s shares ahead world) where
  pub world-runs : RunsAhead m t s ahead
  world-runs object below =
      let node = home object in
      let inside : node < nodes = stands.homes object below in
      let own = stands.shares_of node inside in
      let at : IsHome m home node object = (below, refl) in
      let early_here = (stands.stands node inside).early object at in
      let P : List Event → Type 0 = λ es. Each (λ (e : Event). e.key.stamp < end_stamp t.end) (take (ahead object) es) in
      record {
        whole = ap taken (sym (share-log m home s node (shares node) own object (ahead object) at)) ∙ early_here.whole;
        below = subst P (share-events m home s node (shares node) own object at) early_here.below;
      }

  pub log_is : (node object : ℕ) → node < nodes → IsHome m home node object → (world.node node).log object ≡ early_replay m s object (ahead object)
  log_is node object inside at =
      (stands.stands node inside).logs object at ∙ share-log m home s node (shares node) (stands.shares_of node inside) object (ahead object) at

  past_is : (node : ℕ) → node < nodes → (key : Key) → IsPastFaultOf m home node (world.node node) key → IsPastFault m s ahead key
  past_is node inside key past =
      (past.0, past.1.0, past.2, ap (λ (r : Replay). r.fault) (sym (log_is node past.0 inside past.1)) ∙ past.3, past.4)

  pub world-closed : (bound : ℕ) → WorldIsClosed m t home nodes world.node bound → IsClosed m t s ahead bound
  world-closed bound closed = record {
    reached = elim closed.reached [
      | inl same ↦ inl same
      | inr h ↦ (let P : Replay → Type 0 = λ r. Contains (emissions_of r.done) h.4 in inr (h.2, h.3.0, h.4, subst P (log_is h.0 h.2 h.1 h.3) h.5, h.6))
    ];
    within = closed.within;
    held = λ object below.
        let node = home object in
        let inside : node < nodes = stands.homes object below in
        let P : Replay → Type 0 = λ r. EmitsFrom bound r.done in
        subst P (log_is node object inside (below, refl)) (closed.holds node object inside (below, refl));
    waiting = λ object below.
        let node = home object in
        let inside : node < nodes = stands.homes object below in
        let at : IsHome m home node object = (below, refl) in
        let W : Event → Type 0 = λ (e : Event). (bound ≤ e.key.stamp) ⊎ IsPastFault m s ahead e.key in
        let P : List Event → Type 0 = Each W in
        let waits : events_at object (world.node node).unprocessed ≡ drop (ahead object) (events_at object s.pending) =
        (stands.stands node inside).waiting object at ∙ ap (drop (ahead object)) (share-events m home s node (shares node) (stands.shares_of node inside) object at) in
        subst P waits (Each-events_at W object (world.node node).unprocessed (Each-map (λ (e : Event). (bound ≤ e.key.stamp) ⊎ IsPastFaultOf m home node (world.node node) e.key) W (world.node node).unprocessed
        (λ e h. elim h [ inl late ↦ inl late | inr past ↦ inr (past_is node inside e.key past) ]) (closed.idle node inside)));
  }
