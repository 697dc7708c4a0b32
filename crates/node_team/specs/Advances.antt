-- What a node's advance needs, and what it leaves.
use Rattle.std.specs.Prelude.{◌≡◌, ◌⊎◌, ℕ, ◌+◌, ◌≤◌, min, List, ◌++◌, length, Option, Some, None}
use Rattle.std.specs.List.{AllByRecursion}
use Rattle.event_key.specs.declared.key.Key.{Key}
use Rattle.event_key.specs.Stamps.{end_stamp}
use Rattle.model_core.specs.declared.event.Event.{Event}
use Rattle.model_core.specs.Meaning.{Meaning}
use Rattle.world_spec.specs.Moves.{IsIdle}
use Rattle.horizon_word.specs.Views.{SeatView}
use Rattle.object_log.specs.Dones.{Done}
use Rattle.node_core.specs.Nodes.{NodeView, log_at, home, data_of, share_of}
use Rattle.node_core.specs.Steps.{IsHeldLeast, HasProcessed, IsLeftIdle}
use Rattle.cycle_core.specs.Works.{IsSmall}

-- a seat has offered a stamp, or has offered as little before, by one step of the word
pub record HasOffered (old : SeatView) (stamp : ℕ) (new : SeatView) : Type 0 where
  pub word : new.word ≡ old.word
  pub floor : new.floor ≡ old.floor
  pub least : new.least ≡ min old.least stamp
  pub seen : new.seen ≤ old.seen
  pub taken : new.taken ≡ old.taken + 1

-- no stamp of these is below the floor by more than one
abbrev pub AreFrom : ℕ → List Event → Type 0
AreFrom floor = AllByRecursion (λ e. floor ≤ e.key.stamp + 1)

module _ {M : Type 0} where
  -- a node can advance with a seat: what it sends isn't below the floor, and the seat has not gone past the end
  pub record CanAdvance (m : Meaning) (n : NodeView M) (seat : SeatView) : Type 0 where
    pub floor : AreFrom seat.floor (share_of n).pending
    pub least : seat.least ≤ end_stamp n.terms.end
    pub seen : seat.seen ≤ end_stamp n.terms.end
    pub small : IsSmall m n

  -- one more event was processed and offered, and the answer is the word
  pub record HasTurned (m : Meaning) (bound : ℕ) (old : NodeView M) (seat : SeatView) (answer : ℕ) (new : NodeView M)
      (later : SeatView) : Type 0 where
    pub key : Key
    pub least : ℕ
    pub did : HasProcessed m bound old new key least
    pub offered : HasOffered seat least later
    pub answer_is : answer ≡ later.seen

  -- that, or the node was idle
  abbrev pub IsTurn : Meaning → ℕ → NodeView M → SeatView → Option ℕ → NodeView M → SeatView → Type 0
  IsTurn m bound old seat (Some answer) new later = HasTurned m bound old seat answer new later
  IsTurn m bound old seat None new later = IsLeftIdle m bound old new × (later ≡ seat)

  -- each event that the node hasn't processed is at or past the bound, or comes after a fault of the node
  abbrev pub IsIdleBelow : Meaning → ℕ → NodeView M → Type 0
  IsIdleBelow m bound n = IsIdle m (home n) n.number bound (data_of n)

  -- the least stamp that the node holds was offered, and nothing less
  pub record HasOfferedHeld (m : Meaning) (seat : SeatView) (n : NodeView M) (later : SeatView) : Type 0 where
    pub held : ℕ
    pub held_is : IsHeldLeast m n held
    pub least : later.least ≡ min seat.least held

  -- so many more events are processed, or all that may be before the end
  abbrev pub IsDeep : Meaning → ℕ → NodeView M → NodeView M → Type 0
  IsDeep m ahead old new = (ahead + length old.processed ≤ length new.processed) ⊎ IsIdleBelow m (end_stamp new.terms.end) new

  -- a lawful advance, beside what the node did on its own
  pub record IsAdvanced (m : Meaning) (ahead : ℕ) (old : NodeView M) (seat : SeatView) (new : NodeView M) (later : SeatView) : Type 0 where
    pub idle : IsIdleBelow m later.seen new
    pub offered : HasOfferedHeld m seat new later
    pub taken : seat.taken + length new.processed ≤ later.taken + length old.processed
    pub deep : IsDeep m ahead old new

  -- the key of each event that the node has processed since was told
  abbrev pub HasTold : (Key → Type 0) → NodeView M → NodeView M → Type 0
  HasTold told old new = (object : ℕ) → (more : List Done) × ((log_at new.logs object).done ≡ (log_at old.logs object).done ++ more)
      × AllByRecursion (λ (d : Done). told d.event.key) more
