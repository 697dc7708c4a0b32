use Rattle.std.proofs.Common.{◌≡◌, ℕ, ◌+◌, ◌<◌, false}
use Rattle.event_key.specs.Keys.{key_lt}
use Rattle.tick_queue.specs.Order.{event_at, shown}
use Rattle.tick_queue.proofs.order.is_in_order.Given as goal

abbrev pub invariant-loop-i : goal.invariant-loop-i
invariant-loop-i l =
    (k : ℕ) → k + 1 < l.i → key_lt (event_at (shown l.events.items l.places.items) (k + 1)).key (event_at (shown l.events.items l.places.items) k).key ≡ false
