-- When what is sent happens.
use Rattle.std.proofs.Common.{◌≡◌, ◌≢◌, ℕ, ◌+◌, ◌*◌, Bool, true, false, cond, refl, arith, eqb, eqb-true}
use Rattle.std.specs.Prelude.{◌&&◌}
use Rattle.std.proofs.lemmas.Bool.{eqb-false}
use Rattle.event_key.specs.Stamps.{time_part, step_part, next_stamp, has_no_step}

-- what is sent happens after its delay, to the tick
pub next_time : (stamp delay : ℕ) → has_no_step stamp delay ≡ false → time_part (next_stamp stamp delay) ≡ time_part stamp + delay
unfolding has_no_step next_stamp
next_time stamp delay steps = by (eqb delay 0) refl (eqb (step_part stamp) 65535) refl steps
  where
    by : (none : Bool) → eqb delay 0 ≡ none → (last : Bool) → eqb (step_part stamp) 65535 ≡ last → (none && last) ≡ false
        → time_part (cond none (stamp + 1) ((time_part stamp + delay) * 65536)) ≡ time_part stamp + delay
    by false some last ends never = omega arith
    by true none_is true ends never = absurd (cc)
    by true none_is false ends never =
        let zero : delay ≡ 0 = eqb-true delay 0 none_is in
        let apart : step_part stamp ≢ 65535 = eqb-false (step_part stamp) 65535 ends in
        omega arith
