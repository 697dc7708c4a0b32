use Rattle.std.proofs.Common.{◌≡◌, ◌+◌, ◌-◌, ◌≤◌, map, vec_len}
use Rattle.std.specs.Prelude.{vec_capacity}
use Rattle.std.specs.List.{range_with_len}
use Rattle.tick_queue.proofs.order.number.Given as goal

abbrev pub invariant-loop-i : goal.invariant-loop-i
invariant-loop-i l = record {
  have : l.places.items ≡ map (λ k. k) (range_with_len 0 l.i);
  room : vec_len l.places + (l.events - l.i) ≤ vec_capacity l.places;
}
