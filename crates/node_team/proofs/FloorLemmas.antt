-- What a node sends is above its own events.
use Rattle.std.proofs.Common.{ℕ, suc, ◌+◌, ◌-◌, ◌<◌, ◌≤◌, List, take, sym, subst, arith}
use Rattle.std.specs.List.{AllByRecursion as Each}
use Rattle.event_key.specs.declared.stamp.TheConstants.{NO_STAMP}
use Rattle.model_core.specs.Meaning.{Meaning}
use Rattle.model_core.specs.declared.event.Event.{Event}
use Rattle.sim_spec.specs.Cut.{emissions_of}
use Rattle.sim_spec.specs.Firing.{fire}
use Rattle.key_order.specs.Stamps.{NoneBelow}
use Rattle.sim_spec.specs.Replay.{Replay, events_at, EmitsFrom}
use Rattle.key_order.proofs.EachLemmas.{Each-map, Each-take, Each-drop}
use Rattle.key_order.proofs.MemberLemmas.{each-contains}
use Rattle.key_order.proofs.StampLemmas.{least_stamp-from}
use Rattle.sim_spec.proofs.PartLemmas.{Each-events_at}
use Rattle.sim_spec.proofs.ReplayLemmas.{replay-emits}
use Rattle.sim_spec.proofs.StampLemmas.{NoneBelow-emissions_of, fire-later}
use Rattle.object_log.specs.declared.done.Verdict.{Verdict}
use Rattle.object_log.specs.declared.done.Verdict.TheVariants.{Noted, Failed}
use Rattle.object_log.specs.Logs.{LogView}
use Rattle.object_log.specs.Replays.{IsOneMore, IsTold, firing_of}
use Rattle.world_spec.specs.Share.{log_of}
use Rattle.world_spec.proofs.NodeFacts.{each-object}
use Rattle.node_core.specs.Nodes.{NodeView, home, data_of, share_of, ahead_of, Stands}
use Rattle.node_core.specs.Steps.{HoldsMessageAt}
use Rattle.node_team.specs.Advances.{AreFrom}

-- what an event sends lies after it
pub one-later : (m : Meaning) (old new : LogView) (e : Event) (least : ℕ) → IsOneMore m old new e least → e.key.stamp < NO_STAMP → suc e.key.stamp ≤ least
one-later m old new e least one low =
    let is = one.least_is in
    let le = least_stamp-from (suc e.key.stamp) NO_STAMP one.entry.sends (omega arith) (sent one.entry.verdict one.told_of) in
    omega arith
  where
    sent : (v : Verdict) → IsTold (fire m old.object old.state e) old.state new.state one.entry v → NoneBelow (suc e.key.stamp) one.entry.sends
    sent (Noted note) told = fire-later m old.object old.state e (firing_of new.state one.entry note) told
    sent (Failed code) told = let P : List Event → Type 0 = NoneBelow (suc e.key.stamp) in subst P (sym told.3) tt

module _ {M : Type 0} (m : Meaning) (n : NodeView M) (floor : ℕ) (stands : Stands m n (share_of n) (ahead_of n)) (from : AreFrom floor (share_of n).pending) where
  -- so do the events that wait
  pub floor-waits : AreFrom floor n.waiting
  floor-waits =
      each-object (λ (e : Event). floor ≤ e.key.stamp + 1) m (home n) n.number n.waiting stands.stands.waiting_homed
      (λ object at.
      let P : List Event → Type 0 = Each (λ (e : Event). floor ≤ e.key.stamp + 1) in
      subst P (sym (stands.stands.waiting object at)) (Each-drop (λ (e : Event). floor ≤ e.key.stamp + 1) (ahead_of n object) (events_at object (share_of n).pending)
      (Each-events_at (λ (e : Event). floor ≤ e.key.stamp + 1) object (share_of n).pending from)))

  -- what is held isn't below the floor
  pub floor-held : (stamp : ℕ) → HoldsMessageAt m n stamp → floor ≤ stamp
  unfolding log_of
  floor-held stamp h =
      let object = h.0 in
      let events = take (ahead_of n object) (events_at object (share_of n).pending) in
      let low : NoneBelow (floor - 1) events =
      Each-map (λ (e : Event). floor ≤ e.key.stamp + 1) (λ (e : Event). floor - 1 ≤ e.key.stamp) events (λ e le. omega arith)
      (Each-take (λ (e : Event). floor ≤ e.key.stamp + 1) (ahead_of n object) (events_at object (share_of n).pending)
      (Each-events_at (λ (e : Event). floor ≤ e.key.stamp + 1) object (share_of n).pending from)) in
      let emits : EmitsFrom (suc (floor - 1)) (log_of m (share_of n) object (ahead_of n object)).done = replay-emits m object (floor - 1) ((share_of n).states object) events low in
      let P : Replay → Type 0 = λ r. EmitsFrom (suc (floor - 1)) r.done in
      let here : P ((data_of n).log object) = subst P (sym (stands.stands.logs object h.1)) emits in
      let above = each-contains (λ (e : Event). suc (floor - 1) ≤ e.key.stamp) h.2 (emissions_of ((data_of n).log object).done) (NoneBelow-emissions_of (suc (floor - 1)) ((data_of n).log object).done here) h.3 in
      let is = h.4 in
      omega arith
