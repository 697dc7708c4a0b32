-- What a node stands for after each thing that it does.
use Rattle.std.specs.Prelude.{◌≡◌, ℕ, ◌≤◌, List, ◌++◌, length, Option}
use Rattle.std.specs.List.{AllByRecursion}
use Rattle.event_key.specs.declared.key.Key.{Key}
use Rattle.event_key.specs.Stamps.{end_stamp}
use Rattle.model_core.specs.declared.event.Event.{Event}
use Rattle.model_core.specs.Meaning.{Meaning}
use Rattle.sim_spec.specs.declared.terms.Terms.{Terms}
use Rattle.key_order.specs.Ascending.{IsAscending}
use Rattle.key_order.specs.Pending.{enqueue_all}
use Rattle.sim_spec.specs.Replay.{events_at}
use Rattle.world_spec.specs.Share.{Share, IsHome, IsAtHome, NodeData, StandsFor}
use Rattle.world_spec.specs.Moves.{Steps, IsAdvance, received, received_ahead, committed, committed_ahead, IsDueDone, IsCommit, IsReceipt, IsRollback}

-- the same share, with no object less far ahead: each log begins with what it held
pub record StandsOn (m : Meaning) (t : Terms) (home : ℕ → ℕ) (node : ℕ) (share : Share) (ahead : ℕ → ℕ) (held : NodeData) : Type 0 where
  pub ahead_now : ℕ → ℕ
  pub further : (object : ℕ) → ahead object ≤ ahead_now object
  pub stands : StandsFor m t home node share ahead_now held

-- any number of steps keeps the share, whatever bounds were read
abbrev pub StepsLaw : Meaning → Terms → Type 0
StepsLaw m t =
    (home : ℕ → ℕ) (node : ℕ) (bounds : List ℕ) (share : Share) (ahead : ℕ → ℕ) (old new : NodeData)
    → AllByRecursion (λ (bound : ℕ). bound ≤ end_stamp t.end) bounds → Steps m home node bounds old new
    → StandsFor m t home node share ahead old → StandsOn m t home node share ahead new

-- so does a lawful advance
abbrev pub AdvanceLaw : Meaning → Terms → Type 0
AdvanceLaw m t =
    (home : ℕ → ℕ) (node seen depth : ℕ) (share : Share) (ahead : ℕ → ℕ) (old new : NodeData)
    → IsAdvance m t home node seen depth old new → StandsFor m t home node share ahead old → StandsOn m t home node share ahead new

-- a commit of what is due and done leaves the share without it
abbrev pub CommitLaw : Meaning → Terms → Type 0
CommitLaw m t =
    (home : ℕ → ℕ) (node bound : ℕ) (cut : Option Key) (share : Share) (ahead : ℕ → ℕ) (old new : NodeData)
    → StandsFor m t home node share ahead old → IsDueDone m home node bound cut old → IsCommit m home node bound cut share old new
    → StandsFor m t home node (committed m bound cut share) (committed_ahead bound cut share ahead) new

-- a receipt leaves the share with what arrived
abbrev pub ReceiptLaw : Meaning → Terms → Type 0
ReceiptLaw m t =
    (home : ℕ → ℕ) (node : ℕ) (es : List Event) (share : Share) (ahead : ℕ → ℕ) (old new : NodeData)
    → StandsFor m t home node share ahead old → IsAscending (enqueue_all es share.pending) → AllByRecursion (IsAtHome m home node) (enqueue_all es share.pending)
    → IsReceipt m home node es share ahead old new → StandsFor m t home node (received es share) (received_ahead es share ahead) new

-- two receipts, one after the other, are one
pub record AreOneReceipt (es fs : List Event) (share : Share) (ahead : ℕ → ℕ) : Type 0 where
  pub share_of : received (es ++ fs) share ≡ received fs (received es share)
  pub ahead_of : (object : ℕ) → ahead object ≤ length (events_at object share.pending)
      → received_ahead (es ++ fs) share ahead object ≡ received_ahead fs (received es share) (received_ahead es share ahead) object

abbrev pub ReceiptsLaw : Type 0
ReceiptsLaw = (es fs : List Event) (share : Share) (ahead : ℕ → ℕ) → IsAscending (enqueue_all es share.pending) → AreOneReceipt es fs share ahead

-- a rollback keeps the share
abbrev pub RollbackLaw : Meaning → Terms → Type 0
RollbackLaw m t =
    (home : ℕ → ℕ) (node : ℕ) (share : Share) (ahead less : ℕ → ℕ) (old new : NodeData)
    → StandsFor m t home node share ahead old → ((object : ℕ) → IsHome m home node object → less object ≤ ahead object)
    → IsRollback m home node share less new → StandsFor m t home node share less new
