-- A rollback keeps the share.
use Rattle.std.proofs.Common.{List, ap, arith, length, length-take, min, subst, sym, take, ℕ, ◌<◌, ◌∙◌, ◌≡◌, ◌≤◌}
use Rattle.std.proofs.lemmas.List.{take-take}
use Rattle.std.specs.List.{AllByRecursion as Each}
use Rattle.event_key.specs.Stamps.{end_stamp}
use Rattle.model_core.specs.Meaning.{Meaning}
use Rattle.model_core.specs.declared.event.Event.{Event}
use Rattle.sim_spec.specs.Replay.{events_at, replay, taken}
use Rattle.sim_spec.specs.declared.terms.Terms.{Terms}
use Rattle.key_order.proofs.EachLemmas.{Each-take}
use Rattle.world_spec.specs.Moves.{IsRollback}
use Rattle.world_spec.specs.NodeLaws.{RollbackLaw}
use Rattle.world_spec.specs.Share.{IsAhead, IsHome, NodeData, Share, StandsFor, log_of}
use Rattle.sim_spec.proofs.TakenLemmas.{taken-le, taken-take}

-- an object that is less far ahead
pub less-ahead : (m : Meaning) (t : Terms) (share : Share) (object n j : ℕ) → IsAhead m t share object n → j ≤ n → IsAhead m t share object j
unfolding log_of
less-ahead m t share object n j ahead le =
    let evs = events_at object share.pending in
    let base = share.states object in
    let whole : taken (replay m object base (take n evs)) ≡ n = ahead.whole in
    let most : taken (replay m object base (take n evs)) ≤ length (take n evs) = taken-le m object base (take n evs) in
    let short : length (take n evs) ≡ min n (length evs) = length-take n evs in
    let full : taken (replay m object base (take n evs)) ≡ length (take n evs) = omega arith in
    let front = taken-take m object j base (take n evs) full in
    let cut : take j (take n evs) ≡ take j evs = take-take j n evs le in
    let long : length (take j (take n evs)) ≡ min j (length (take n evs)) = length-take j (take n evs) in
    let B : List Event → Type 0 = Each (λ (e : Event). e.key.stamp < end_stamp t.end) in
    record {
      whole = ap (λ es. taken (replay m object base es)) (sym cut) ∙ front ∙ (let same : length (take j (take n evs)) ≡ j = omega arith in same);
      below = subst B cut (Each-take (λ (e : Event). e.key.stamp < end_stamp t.end) j (take n evs) ahead.below);
    }

pub rollback-stands : (m : Meaning) (t : Terms) (home : ℕ → ℕ) (node : ℕ) (share : Share) (ahead less : ℕ → ℕ) (old new : NodeData)
    → StandsFor m t home node share ahead old → ((object : ℕ) → IsHome m home node object → less object ≤ ahead object) → IsRollback m home node share less new → StandsFor m t home node share less new
rollback-stands m t home node share ahead less old new stands le back = record {
  ordered = stands.ordered;
  homed = stands.homed;
  cells = stands.cells;
  early = λ object at. less-ahead m t share object (ahead object) (less object) (stands.early object at) (le object at);
  logs = back.logs;
  waiting_ordered = back.ordered;
  waiting_homed = back.homed;
  waiting = back.waits;
}

pub rollback_law : (m : Meaning) (t : Terms) → RollbackLaw m t
rollback_law m t home node share ahead less old new stands le back = rollback-stands m t home node share ahead less old new stands le back
