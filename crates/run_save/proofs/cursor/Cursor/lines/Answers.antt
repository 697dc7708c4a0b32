-- What was read, and what is still read.
use Rattle.std.proofs.Common.{◌≡◌, ◌++◌, ◌∷◌, [], None, arith}
use Rattle.std.proofs.lemmas.List.{map_push}
use Rattle.std.proofs.lemmas.Result.{err_from_is_err_and}
use Rattle.run_save.specs.Rests.{in_turn, counted}
use Rattle.run_save.specs.Views.{rest_of, lines_of}
use Rattle.run_save.proofs.InTurnLemmas.{goes_on, ends, is_done}
use Rattle.run_save.proofs.cursor.Cursor.lines.Goals as goal

pub returns-in_err-line-clause-read : goal.returns-in_err-line-clause-read
returns-in_err-line-clause-read c =
    let failed = err_from_is_err_and c.from_residual.result c.from_residual.ensures.1 in
    rw (failed.1, failed.2) (ends (λ _. counted) c.in_err-line.field-0.0 (lines_of c.loop.lines.items) c.args.count c.loop.counter (rest_of c.loop.self) (in_turn (λ _. counted) None c.args.count (rest_of c.args.self.now)) c.loop-test.true c.in_err-line.ensures.read c.loop.invariant.read)

pub loop-preserved : goal.loop-preserved
loop-preserved c =
    let grown : lines_of c.push.new.self.items ≡ lines_of c.loop.lines.items ++ c.in_ok-line.line.items ∷ [] = rw c.in_ok-push.ensures.items (map_push _ c.loop.lines.items c.in_ok-line.line) in
    record { read = rw grown (goes_on (λ _. counted) (lines_of c.loop.lines.items) c.args.count c.loop.counter (rest_of c.loop.self) c.in_ok-line.line.items (rest_of c.counted.new.self) (in_turn (λ _. counted) None c.args.count (rest_of c.args.self.now)) c.loop-test.true c.in_ok-line.ensures.read c.loop.invariant.read); few = omega (arith, c.in_ok-push.ensures.len, c.in_ok-line.ensures.few, c.loop.invariant.few) }

pub returns-clause-read : goal.returns-clause-read
returns-clause-read c = is_done (λ _. counted) (lines_of c.loop.lines.items) c.args.count c.loop.counter (rest_of c.loop.self) (in_turn (λ _. counted) None c.args.count (rest_of c.args.self.now)) c.loop-test.false c.loop.invariant.read
