-- Each digit makes the value greater, and no value on the way is above the last.
use Rattle.std.proofs.Common.{◌≡◌, take, ap, ◌∙◌, arith}
use Rattle.std.specs.Str.Parse.{digits_value}
use Rattle.std.proofs.lemmas.List.{take_all}
use Rattle.std.proofs.lemmas.Str.Parse.{digit_at}
use Rattle.run_save.proofs.RestLemmas.{value-more, value-within}
use Rattle.run_save.proofs.digits.value_of.Goals as goal

pub overflow_sub-digit : goal.overflow_sub-digit
overflow_sub-digit c = (digit_at c.args.digits.now c.loop-digit.digit-index c.requires c.loop-digit-test.true).0

pub returns-in_err-checked_mul : goal.returns-in_err-checked_mul
returns-in_err-checked_mul c =
    let within = value-within c.args.digits.now c.loop-digit.digit-index c.loop-digit.value c.loop-digit-test.true c.requires c.loop-digit.invariant.value in
    rw c.from_residual.ensures (λ fits. c.in_err-checked_mul.ensures (omega (arith, within, fits)))

pub returns-in_err-value : goal.returns-in_err-value
returns-in_err-value c =
    let within = value-within c.args.digits.now c.loop-digit.digit-index c.loop-digit.value c.loop-digit-test.true c.requires c.loop-digit.invariant.value in
    let product = c.in_ok-checked_mul.ensures.1 in
    let next = c.from-next.ensures in
    rw c.from_residual-in_err-value.ensures (λ fits. c.in_err-value.ensures (omega (arith, within, fits, product, next)))

pub loop-digit-preserved : goal.loop-digit-preserved
loop-digit-preserved c =
    let more = value-more c.args.digits.now c.loop-digit.digit-index c.loop-digit.value c.loop-digit-test.true c.requires c.loop-digit.invariant.value in
    let product = c.in_ok-checked_mul.ensures.1 in
    let sum = c.in_ok-value.ensures in
    let next = c.from-next.ensures in
    record { value = omega (arith, more, product, sum.1, next); fits = omega (arith, sum.0, sum.1) }

pub returns : goal.returns
returns c =
    let all : take c.loop-digit.digit-index c.args.digits.now ≡ c.args.digits.now = take_all c.loop-digit.digit-index c.args.digits.now c.loop-digit-test.false in
    let value = c.loop-digit.invariant.value ∙ ap (digits_value 10) all in
    let fits = c.loop-digit.invariant.fits in
    (omega (arith, value, fits), value)
