-- Keys below a bound and before a cut.
use Rattle.std.specs.Prelude.{ℕ, Bool, true, ◌&&◌, nat_lt, Option, Some, None}
use Rattle.event_key.specs.declared.key.Key.{Key}
use Rattle.event_key.specs.Keys.{key_lt}

-- the key comes before the cut, if there is one
abbrev pub is_uncut : Option Key → Key → Bool
is_uncut None key = true
is_uncut (Some cut) key = key_lt key cut

-- what a commit at this bound and cut takes
unfoldable pub is_due : ℕ → Option Key → Key → Bool
is_due bound cut key = nat_lt key.stamp bound && is_uncut cut key
