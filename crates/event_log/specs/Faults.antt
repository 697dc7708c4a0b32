-- The first of several faults.
use Rattle.std.specs.Prelude.{ℕ, Option, Some, None, if◌then◌else◌}
use Rattle.event_key.specs.declared.key.Key.{Key}
use Rattle.event_key.specs.Keys.{key_lt}

-- the fault with the lesser key, as far as they are there
abbrev pub lesser_fault : Option (Key × ℕ) → Option (Key × ℕ) → Option (Key × ℕ)
lesser_fault None other = other
lesser_fault (Some one) None = Some one
lesser_fault (Some one) (Some other) = if key_lt one.0 other.0 then Some one else Some other
