-- What is known of bytes that were counted.
use Rattle.std.specs.Prelude.{◌≡◌, ◌-◌, ◌^◌, ℕ, min, length, None}
use Rattle.sim_io.specs.Taken.{Taken}

-- up to its last value, the count is how many they are
abbrev pub counted : ℕ → Taken
counted count = record { known = None; holds = λ bytes. count ≡ min (length bytes) (2 ^ 64 - 1) }
