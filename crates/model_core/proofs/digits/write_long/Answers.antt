-- A number of 64 bits has at most 20 digits.
use Rattle.std.proofs.Common.{◌≡◌, ◌+◌, ◌-◌, take, drop, ap, ◌∙◌, arith, take-take, take_at}
use Rattle.std.specs.Prelude.{decimal}
use Rattle.std.proofs.lemmas.Fmt.{length-decimal-le}
use Rattle.model_core.proofs.digits.write_long.Goals as goal

pub write_digits-start-requires : goal.write_digits-start-requires
write_digits-start-requires c = (omega (arith, length-decimal-le 20 c.args.number (omega arith) (omega arith) c.ranges.number.fits), omega arith)

pub returns : goal.returns
returns c =
    let wrote = c.write_digits-start.ensures in
    let start = c.write_digits-start.result in
    let text : take (20 - start) (take (start + 20 - start) (drop start c.write_digits-start.new.buf)) ≡ decimal c.args.number =
    take-take _ _ _ (omega arith) ∙ ap (take (20 - start)) wrote.written ∙ take_at (decimal c.args.number) _ _ (omega (arith, wrote.start)) in
    rw text at c.write_first.ensures
