-- What a step answers and leaves.
use Rattle.std.specs.Prelude.{◌≡◌, ◌≢◌, ◌⊎◌, ℕ, ◌+◌, ◌%◌, ◌^◌, ◌≤◌, min, Contains, length, if◌then◌else◌, is_some, nat_lt}
use Rattle.event_key.specs.declared.key.Key.{Key}
use Rattle.event_key.specs.declared.stamp.TheConstants.{NO_STAMP}
use Rattle.model_core.specs.declared.event.Event.{Event}
use Rattle.model_core.specs.Meaning.{Meaning}
use Rattle.sim_spec.specs.Cut.{emissions_of}
use Rattle.sim_spec.specs.Replay.{EmitsFrom}
use Rattle.world_spec.specs.Share.{IsHome}
use Rattle.world_spec.specs.Moves.{IsStep, IsIdle}
use Rattle.object_log.specs.Replays.{IsOneMore}
use Rattle.node_core.specs.declared.step.Step.{Step}
use Rattle.node_core.specs.declared.step.Step.TheVariants.{Did, Idle}
use Rattle.node_core.specs.Nodes.{NodeView, log_at, slot_at, base_at, pending_at, home, data_of, IsSameNode}

-- one more, but for a number that stands at its last value
abbrev pub raised : ℕ → ℕ
raised n = if nat_lt n 18446744073709551615 then n + 1 else n

module _ {M : Type 0} where
  -- the node holds a message with this stamp
  abbrev pub HoldsMessageAt : Meaning → NodeView M → ℕ → Type 0
  HoldsMessageAt m n stamp = (object : ℕ) × IsHome m (home n) n.number object × (e : Event) × Contains (emissions_of ((data_of n).log object).done) e × (e.key.stamp ≡ stamp)

  -- the least stamp that the node holds, or NO_STAMP
  pub record IsHeldLeast (m : Meaning) (n : NodeView M) (stamp : ℕ) : Type 0 where
    pub from : (object : ℕ) → IsHome m (home n) n.number object → EmitsFrom stamp ((data_of n).log object).done
    pub reached : (stamp ≡ NO_STAMP) ⊎ HoldsMessageAt m n stamp

  -- a step processed the event with this key, which emitted this least stamp
  pub record HasProcessed (m : Meaning) (bound : ℕ) (old new : NodeView M) (key : Key) (least : ℕ) : Type 0 where
    pub same : IsSameNode old new
    pub step : IsStep m (home old) old.number bound (data_of old) (data_of new)
    pub key_is : step.event.key ≡ key
    pub here : IsHome m (home old) old.number key.dest
    pub log : IsOneMore m (log_at old.logs key.dest) (log_at new.logs key.dest) step.event least
    pub base : base_at new.logs key.dest ≡ base_at old.logs key.dest
    pub others : (object : ℕ) → object ≢ key.dest → slot_at new.logs object ≡ slot_at old.logs object
    pub pending : (object : ℕ) → pending_at new.logs new.waiting object ≡ pending_at old.logs old.waiting object
    pub held : (stamp : ℕ) → IsHeldLeast m old stamp → IsHeldLeast m new (min stamp least)
    pub processed : length new.processed ≡ length old.processed + 1
    pub spare : old.spare ≤ new.spare
    pub work : new.work ≡ raised old.work
    pub met : new.met ≡ (if is_some ((data_of new).log key.dest).fault then raised old.met else old.met)
    pub counts : new.counts ≡ record old.counts { processed = (old.counts.processed + 1) % 2 ^ 64 }

  -- no step is left below this bound, and nothing changed
  pub record IsLeftIdle (m : Meaning) (bound : ℕ) (old new : NodeView M) : Type 0 where
    pub unchanged : new ≡ old
    pub idle : IsIdle m (home old) old.number bound (data_of old)

  abbrev pub HasStepped : Meaning → ℕ → NodeView M → NodeView M → Step → Type 0
  HasStepped m bound old new (Did key least) = HasProcessed m bound old new key least
  HasStepped m bound old new Idle = IsLeftIdle m bound old new
