-- The order of keys.
use Rattle.std.specs.Prelude.{ℕ, Bool, nat_lt, ◌==◌, ◌||◌, ◌&&◌}
use Rattle.std.specs.Ordering.{nat_cmp, on, then_cmp, is_lt, is_eq}
use Rattle.std.specs.declared.cmp.Ordering.{Ordering}
use Rattle.event_key.specs.declared.key.Key.{Key}

-- by stamp, then rank, then destination, then source, then serial
unfoldable pub key_cmp : Key → Key → Ordering
key_cmp =
    then_cmp (on (λ k. k.stamp) nat_cmp)
    (then_cmp (on (λ k. k.rank) nat_cmp)
    (then_cmp (on (λ k. k.dest) nat_cmp)
    (then_cmp (on (λ k. k.src) nat_cmp) (on (λ k. k.serial) nat_cmp))))

-- the first key comes before the second
unfoldable pub key_lt : Key → Key → Bool
key_lt a b = is_lt (key_cmp a b)

-- the same key
unfoldable pub same_key : Key → Key → Bool
same_key a b = is_eq (key_cmp a b)

-- one number before another; where they are the same, what comes after them decides
abbrev pub lt_then : ℕ → ℕ → Bool → Bool
lt_then a b more = nat_lt a b || (a == b && more)
