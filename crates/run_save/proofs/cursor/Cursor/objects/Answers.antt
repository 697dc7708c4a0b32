-- What was read, and what is still read.
use Rattle.std.proofs.Common.{None}
use Rattle.std.proofs.lemmas.Result.{err_from_is_err_and}
use Rattle.run_save.specs.Lines.{object}
use Rattle.run_save.specs.Rests.{in_turn}
use Rattle.run_save.specs.Views.{rest_of}
use Rattle.run_save.proofs.InTurnLemmas.{goes_on, ends, is_done}
use Rattle.run_save.proofs.cursor.Cursor.objects.Goals as goal

pub returns-in_err-object : goal.returns-in_err-object
returns-in_err-object c =
    let failed = err_from_is_err_and c.from_residual.result c.from_residual.ensures.1 in
    rw (failed.1, failed.2) (ends (λ _. object) c.in_err-object.field-0.0 c.loop.objects.items c.args.count c.loop.counter (rest_of c.loop.self) (in_turn (λ _. object) None c.args.count (rest_of c.args.self.now)) c.loop-test.true c.in_err-object.ensures c.loop.invariant)

pub loop-preserved : goal.loop-preserved
loop-preserved c =
    rw c.in_ok-push.ensures.items (goes_on (λ _. object) c.loop.objects.items c.args.count c.loop.counter (rest_of c.loop.self) c.in_ok-object.object (rest_of c.object.new.self) (in_turn (λ _. object) None c.args.count (rest_of c.args.self.now)) c.loop-test.true c.in_ok-object.ensures c.loop.invariant)

pub returns : goal.returns
returns c = is_done (λ _. object) c.loop.objects.items c.args.count c.loop.counter (rest_of c.loop.self) (in_turn (λ _. object) None c.args.count (rest_of c.args.self.now)) c.loop-test.false c.loop.invariant
