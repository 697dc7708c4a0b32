-- The digits of ticks, six bits each, and the slot in which a tick stands: by the highest digit in which it differs
-- from the tick at hand, or that tick's own slot on the lowest level.
use Rattle.std.specs.Prelude.{◌≡◌, ℕ, ◌+◌, ◌*◌, ◌/◌, ◌%◌, ◌^◌, ◌<◌, ◌≤◌}

-- a tick, this one or a later one, that agrees with now above the digit at this level, and has this digit there
pub record IsAt (now level digit tick : ℕ) : Type 0 where
  pub from : now ≤ tick
  pub above : tick / 2 ^ (6 * level + 6) ≡ now / 2 ^ (6 * level + 6)
  pub digit_is : tick / 2 ^ (6 * level) % 64 ≡ digit
  pub after : 0 < level → now / 2 ^ (6 * level) < tick / 2 ^ (6 * level)

-- the slots of all levels, from the lowest one on
abbrev pub InSlot : ℕ → ℕ → ℕ → Type 0
InSlot now slot tick = IsAt now (slot / 64) (slot % 64) tick
