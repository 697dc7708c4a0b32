-- A stamp is a tick and a step within it.
use Rattle.std.specs.Prelude.{ℕ, ◌+◌, ◌*◌, ◌/◌, ◌%◌, Option, Some, None, Bool, if◌then◌else◌, ◌==◌, ◌&&◌}
use Rattle.event_key.specs.declared.stamp.TheConstants.{STEPS}

-- the stamp of a step of a tick
abbrev pub stamp_at : ℕ → ℕ → ℕ
stamp_at time step = time * STEPS + step

-- the tick of a stamp
abbrev pub time_part : ℕ → ℕ
time_part stamp = stamp / STEPS

-- the step of a stamp
abbrev pub step_part : ℕ → ℕ
step_part stamp = stamp % STEPS

-- nothing follows without delay on the last step of a tick
unfoldable pub has_no_step : ℕ → ℕ → Bool
has_no_step stamp delay = delay == 0 && step_part stamp == 65535

-- the next step, or step 0 of a later tick
unfoldable pub next_stamp : ℕ → ℕ → ℕ
next_stamp stamp delay = if delay == 0 then stamp + 1 else (time_part stamp + delay) * STEPS

-- the stamp of what is sent at a stamp with a delay
abbrev pub later_stamp : ℕ → ℕ → Option ℕ
later_stamp stamp delay = if has_no_step stamp delay then None else Some (next_stamp stamp delay)

-- the first stamp past the last tick
abbrev pub end_stamp : ℕ → ℕ
end_stamp end = (end + 1) * STEPS
