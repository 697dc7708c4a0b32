-- Which bytes a read took, where it gave some and where it failed.
use Rattle.std.proofs.Common.{◌≡◌, ◌++◌, [], take, ap, ◌∙◌, arith, Result, Err, IsErrAnd}
use Rattle.std.proofs.KnownBytes.{Consumes-nil, Consumes-kept}
use Rattle.std.proofs.lemmas.List.{length-take}
use Rattle.std.proofs.lemmas.Result.{err_from_is_err_and}
use Rattle.sim_io.specs.declared.streams.reading.ReadEnd.{ReadEnd}
use Rattle.sim_io.specs.declared.streams.reading.ReadEnd.TheVariants.{Failed, OutOfMemory}
use Rattle.sim_io.proofs.AppendLemmas.{no_result}
use Rattle.sim_io.proofs.streams.reading.read_piece.Goals as goal

-- where memory ran out, no read failed
no_failure : {T : Type 0} (r : Result T ReadEnd) → IsErrAnd r (λ end. end ≡ OutOfMemory) → r ≡ Err Failed → ⊥
no_failure r short is = let refusal = err_from_is_err_and r short in let clash : ⊥ = cc in clash

pub returns-in-Err-clause-refused : goal.returns-in-Err-clause-refused
returns-in-Err-clause-refused g c =
    let old = g.S.Source.left c.args.source.now in
    ([], omega arith, Consumes-kept old old (g.S.Source.left c.read.new.self) [] (Consumes-nil old) c.in-Err.ensures.taken)

pub returns-in-Err-clause-later : goal.returns-in-Err-clause-later
returns-in-Err-clause-later g c = c.in-Err.ensures.cause.later

pub returns-in-Err-clause-failed : goal.returns-in-Err-clause-failed
returns-in-Err-clause-failed g c = λ is. c.in-Err.ensures.cause.failed

pub returns-in-Err-clause-no_memory : goal.returns-in-Err-clause-no_memory
returns-in-Err-clause-no_memory g c = λ is. absurd (let clash : ⊥ = cc in clash)

pub returns-in_err-extend_from_slice-in-Ok-clause-appended : goal.returns-in_err-extend_from_slice-in-Ok-clause-appended
returns-in_err-extend_from_slice-in-Ok-clause-appended g c = no_result c.from_residual.result _ _ c.from_residual.ensures.1

pub returns-in_err-extend_from_slice-in-Ok-clause-end : goal.returns-in_err-extend_from_slice-in-Ok-clause-end
returns-in_err-extend_from_slice-in-Ok-clause-end g c = no_result c.from_residual.result _ _ c.from_residual.ensures.1

pub returns-in_err-extend_from_slice-in-Ok-clause-ended : goal.returns-in_err-extend_from_slice-in-Ok-clause-ended
returns-in_err-extend_from_slice-in-Ok-clause-ended g c = no_result c.from_residual.result _ _ c.from_residual.ensures.1

pub returns-in_err-extend_from_slice-in-Ok-clause-short : goal.returns-in_err-extend_from_slice-in-Ok-clause-short
returns-in_err-extend_from_slice-in-Ok-clause-short g c = no_result c.from_residual.result _ _ c.from_residual.ensures.1

pub returns-in_err-extend_from_slice-in-Ok-clause-refused : goal.returns-in_err-extend_from_slice-in-Ok-clause-refused
returns-in_err-extend_from_slice-in-Ok-clause-refused g c =
    let refusal = err_from_is_err_and c.from_residual.result c.from_residual.ensures.1 in
    let piece = take c.in-Ok.count c.read.new.into in
    rw refusal.1 (piece, omega (arith, length-take c.in-Ok.count c.read.new.into), c.in-Ok.ensures.taken.0)

pub returns-in_err-extend_from_slice-in-Ok-clause-later : goal.returns-in_err-extend_from_slice-in-Ok-clause-later
returns-in_err-extend_from_slice-in-Ok-clause-later g c = c.in-Ok.ensures.cause.later

pub returns-in_err-extend_from_slice-in-Ok-clause-failed : goal.returns-in_err-extend_from_slice-in-Ok-clause-failed
returns-in_err-extend_from_slice-in-Ok-clause-failed g c = λ is. absurd (no_failure _ c.from_residual.ensures.1 is)

pub returns-in_err-extend_from_slice-in-Ok-clause-quiet : goal.returns-in_err-extend_from_slice-in-Ok-clause-quiet
returns-in_err-extend_from_slice-in-Ok-clause-quiet g c = no_result c.from_residual.result _ _ c.from_residual.ensures.1

pub returns-in_err-extend_from_slice-in-Ok-clause-no_memory : goal.returns-in_err-extend_from_slice-in-Ok-clause-no_memory
returns-in_err-extend_from_slice-in-Ok-clause-no_memory g c = λ is. c.in-Ok.ensures.quiet

pub returns-in_ok-extend_from_slice-in-Ok-clause-appended : goal.returns-in_ok-extend_from_slice-in-Ok-clause-appended
returns-in_ok-extend_from_slice-in-Ok-clause-appended g c =
    let piece = take c.in-Ok.count c.read.new.into in (
      piece,
      c.in_ok-extend_from_slice-in-Ok.ensures.items ∙ ap (λ more. c.args.bytes.now.items ++ more) c.split_at.ensures.front,
      omega (arith, length-take c.in-Ok.count c.read.new.into),
      c.in-Ok.ensures.taken.0,
      c.in-Ok.ensures.gave,
    )

pub returns-in_ok-extend_from_slice-in-Ok-clause-end : goal.returns-in_ok-extend_from_slice-in-Ok-clause-end
returns-in_ok-extend_from_slice-in-Ok-clause-end g c = λ none. c.in-Ok.ensures.taken.1 none (omega arith)

pub returns-in_ok-extend_from_slice-in-Ok-clause-ended : goal.returns-in_ok-extend_from_slice-in-Ok-clause-ended
returns-in_ok-extend_from_slice-in-Ok-clause-ended g c = λ none. c.in-Ok.ensures.end none (omega arith)

pub returns-in_ok-extend_from_slice-in-Ok-clause-short : goal.returns-in_ok-extend_from_slice-in-Ok-clause-short
returns-in_ok-extend_from_slice-in-Ok-clause-short g c = omega (arith, c.in_ok-extend_from_slice-in-Ok.ensures.len)

pub returns-in_ok-extend_from_slice-in-Ok-clause-later : goal.returns-in_ok-extend_from_slice-in-Ok-clause-later
returns-in_ok-extend_from_slice-in-Ok-clause-later g c = c.in-Ok.ensures.cause.later

pub returns-in_ok-extend_from_slice-in-Ok-clause-failed : goal.returns-in_ok-extend_from_slice-in-Ok-clause-failed
returns-in_ok-extend_from_slice-in-Ok-clause-failed g c = λ is. absurd (let clash : ⊥ = cc in clash)

pub returns-in_ok-extend_from_slice-in-Ok-clause-quiet : goal.returns-in_ok-extend_from_slice-in-Ok-clause-quiet
returns-in_ok-extend_from_slice-in-Ok-clause-quiet g c = c.in-Ok.ensures.quiet

pub returns-in_ok-extend_from_slice-in-Ok-clause-no_memory : goal.returns-in_ok-extend_from_slice-in-Ok-clause-no_memory
returns-in_ok-extend_from_slice-in-Ok-clause-no_memory g c = λ is. c.in-Ok.ensures.quiet
