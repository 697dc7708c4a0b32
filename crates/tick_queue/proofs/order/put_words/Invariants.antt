use Rattle.std.proofs.Common.{◌≡◌, ◌+◌, ◌-◌, ◌≤◌, length, map, vec_len}
use Rattle.std.specs.Prelude.{vec_capacity}
use Rattle.std.specs.List.{range_with_len}
use Rattle.tick_queue.specs.Order.{place_at}
use Rattle.tick_queue.proofs.order.put_words.Given as goal

abbrev pub invariant-loop-i : goal.invariant-loop-i
invariant-loop-i l = record {
  have : map place_at l.words.items ≡ map (λ k. k) (range_with_len 0 l.i);
  room : vec_len l.words + (length l.events.items - l.i) ≤ vec_capacity l.words;
}
