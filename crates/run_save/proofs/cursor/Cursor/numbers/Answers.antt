-- What was read, and what is still read.
use Rattle.std.proofs.Common.{◌≡◌, ◌++◌, ◌∷◌, [], None, arith}
use Rattle.std.proofs.lemmas.Result.{err_from_is_err_and}
use Rattle.run_save.specs.Rests.{in_turn, any_field}
use Rattle.run_save.specs.Views.{rest_of}
use Rattle.run_save.proofs.InTurnLemmas.{goes_on, ends, is_done}
use Rattle.run_save.proofs.cursor.Cursor.numbers.Goals as goal

pub returns-in_err-number-clause-read : goal.returns-in_err-number-clause-read
returns-in_err-number-clause-read c =
    let failed = err_from_is_err_and c.from_residual-in_err-number.result c.from_residual-in_err-number.ensures.1 in
    rw (failed.1, failed.2) (ends (λ _. any_field) c.in_err-number.field-0.0 c.loop.numbers.items c.args.count c.loop.counter (rest_of c.loop.self) (in_turn (λ _. any_field) None c.args.count (rest_of c.args.self.now)) c.loop-test.true c.in_err-number.ensures.read c.loop.invariant.read)

pub loop-preserved : goal.loop-preserved
loop-preserved c =
    let grown : c.push.new.self.items ≡ c.loop.numbers.items ++ c.in_ok-number.number ∷ [] = c.in_ok-push.ensures.items in
    record { read = rw grown (goes_on (λ _. any_field) c.loop.numbers.items c.args.count c.loop.counter (rest_of c.loop.self) c.in_ok-number.number (rest_of c.any_field.new.self) (in_turn (λ _. any_field) None c.args.count (rest_of c.args.self.now)) c.loop-test.true c.in_ok-number.ensures.read c.loop.invariant.read); few = omega (arith, c.in_ok-push.ensures.len, c.in_ok-number.ensures.shorter, c.loop.invariant.few) }

pub returns-clause-read : goal.returns-clause-read
returns-clause-read c = is_done (λ _. any_field) c.loop.numbers.items c.args.count c.loop.counter (rest_of c.loop.self) (in_turn (λ _. any_field) None c.args.count (rest_of c.args.self.now)) c.loop-test.false c.loop.invariant.read
