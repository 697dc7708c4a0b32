-- The texts that were written one behind another.
use Rattle.std.proofs.Common.{◌≡◌, ℕ, [], ◌∷◌, ◌++◌, ◌∙◌, arith, append_assoc}
use Rattle.std.specs.Prelude.{codes, decimal}
use Rattle.std.proofs.lemmas.Fmt.{length-decimal-le}
use Rattle.model_core.proofs.WritingLemmas.{WritesAt-next}
use Rattle.sim_io.specs.Texts.{stamp_text}
use Rattle.sim_io.proofs.lines.head.write_stamp.Goals as goal

joined : (t s time step : ℕ) → t ≡ time → s ≡ step → ((decimal t ++ 46 ∷ []) ++ decimal s) ++ 32 ∷ [] ≡ (decimal time ++ (codes "." ++ decimal step)) ++ codes " "
joined t s time step same_time same_step = rw (same_time, same_step) (simp append_assoc)

pub returns : goal.returns
unfolding stamp_text
returns c =
    let dot = WritesAt-next _ _ _ _ _ _ _ _ c.write-dot.ensures.text c.write_byte-step.ensures in
    let space = WritesAt-next _ _ _ _ _ _ _ _ dot c.write-space.ensures.text in
    let count = WritesAt-next _ _ _ _ _ _ _ _ space c.write_byte.ensures in
    let time_digits = length-decimal-le 15 c.time_of.result (omega arith) (omega (arith, c.time_of.ensures, c.ranges.stamp.fits)) (omega (arith, c.time_of.ensures, c.ranges.stamp.fits)) in
    let step_digits = length-decimal-le 5 c.from.result (omega arith) (omega (arith, c.from.ensures, c.step_of.ensures)) (omega (arith, c.from.ensures, c.step_of.ensures)) in
    record {
      text = count.written ∙ joined _ _ _ _ c.time_of.ensures (c.from.ensures ∙ c.step_of.ensures);
      size = omega arith;
      few = omega (arith, c.write-dot.ensures.text.ends, c.write_byte-step.ensures.ends, c.write-space.ensures.text.ends, c.write_byte.ensures.ends, time_digits, step_digits);
    }
