-- The serials of a queue's events, by which a caller that counts its events knows that a key is new.
use Rattle.std.specs.Prelude.{ℕ, ◌≤◌, length}
use Rattle.key_order.specs.Serials.{SerialsBelow}
use Rattle.tick_queue.specs.Queues.{QueueView}

-- no event has a serial from this one on, and there are no more events than serials
pub record HasSerialsBelow (serial : ℕ) (q : QueueView) : Type 0 where
  pub below : SerialsBelow 0 serial q.pending
  pub few : length q.pending ≤ serial
