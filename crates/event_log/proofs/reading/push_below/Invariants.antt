-- Those that are read are below the horizon, and stand in the list.
use Rattle.std.proofs.Common.{◌≡◌, ◌+◌, ◌-◌, ◌≤◌, ◌++◌, length, vec_len}
use Rattle.std.specs.Vec.{vec_capacity}
use Rattle.std.specs.Prelude.{filter, nat_lt}
use Rattle.key_order.specs.Ascending.{Ascends}
use Rattle.event_log.specs.Reading.{IsWithin, keys_from, own_key}
use Rattle.event_log.proofs.reading.push_below.Given as goal

abbrev pub invariant-loop-key : goal.invariant-loop-key
invariant-loop-key l = record {
  within : IsWithin l.read l.carried.items l.news.done;
  ordered : Ascends own_key (keys_from l.read l.carried.items l.news.done);
  same : l.into.items ++ filter (λ k. nat_lt k.stamp l.horizon) (keys_from l.read l.carried.items l.news.done)
      ≡ l.fn.into.items ++ filter (λ k. nat_lt k.stamp l.horizon) (keys_from (record { carried = 0; news = 0 }) l.carried.items l.news.done);
  room : vec_len l.into + length l.carried.items + length l.news.done ≤ vec_capacity l.into + l.read.carried + l.read.news;
}

abbrev pub decreases-loop-key : goal.decreases-loop-key
decreases-loop-key l = length l.carried.items + length l.news.done - (l.read.carried + l.read.news)
