-- What was gathered is handed on first; then come the bytes.
use Rattle.std.proofs.Common.{◌<◌, ◌≡◌, subst, arith, take_all, le_refl}
use Rattle.std.specs.Prelude.{IfOk}
use Rattle.model_core.proofs.Results.{on_err}
use Rattle.sim_io.specs.Causes.{CountsIdle, HasCause}
use Rattle.sim_io.proofs.AppendLemmas.{no_result}
use Rattle.sim_io.proofs.GatheringLemmas.{handed_on, failed_write, passes_write, gathers, is_empty}
use Rattle.sim_io.proofs.streams.gathering_sink.take_more.Goals as goal

pub returns-in_err-hand_on-clause-bound : goal.returns-in_err-hand_on-clause-bound
returns-in_err-hand_on-clause-bound g c = no_result c.from_residual.result _ _ c.from_residual.ensures.1

pub returns-in_err-hand_on-clause-taken : goal.returns-in_err-hand_on-clause-taken
returns-in_err-hand_on-clause-taken g c = failed_write _ _ _ c.from_residual.result _ c.from_residual.ensures.1 (handed_on _ _ _ _ c.hand_on.ensures.handed)

pub returns-in_err-hand_on-clause-cause : goal.returns-in_err-hand_on-clause-cause
returns-in_err-hand_on-clause-cause g c = record { later = c.hand_on.ensures.cause.later; failed = on_err _ c.in_err-hand_on.ensures.cause.failed }

pub returns-in_err-hand_on-clause-idle : goal.returns-in_err-hand_on-clause-idle
returns-in_err-hand_on-clause-idle g c = no_result c.from_residual.result _ _ c.from_residual.ensures.1

pub returns-in_err-hand_on-clause-quiet : goal.returns-in_err-hand_on-clause-quiet
returns-in_err-hand_on-clause-quiet g c = no_result c.from_residual.result _ _ c.from_residual.ensures.1

pub returns-then-bytes-capacity-clause-bound : goal.returns-then-bytes-capacity-clause-bound
returns-then-bytes-capacity-clause-bound g c = c.write.ensures.bound

pub returns-then-bytes-capacity-clause-taken : goal.returns-then-bytes-capacity-clause-taken
returns-then-bytes-capacity-clause-taken g c =
    passes_write _ _ _ _ _ _ (handed_on _ _ _ _ c.hand_on.ensures.handed) (is_empty c.hand_on.new.gathered.items (omega (arith, c.in_ok-hand_on.ensures.all))) c.write.ensures.taken

pub returns-then-bytes-capacity-clause-cause : goal.returns-then-bytes-capacity-clause-cause
returns-then-bytes-capacity-clause-cause g c = subst (λ n. HasCause n (g.K.Sink.faults c.write.new.self) c.write.result) c.in_ok-hand_on.ensures.quiet c.write.ensures.cause

pub returns-then-bytes-capacity-clause-idle : goal.returns-then-bytes-capacity-clause-idle
returns-then-bytes-capacity-clause-idle g c = subst (λ n. CountsIdle n (g.K.Sink.faults c.write.new.self) c.args.bytes.now c.write.result) c.in_ok-hand_on.ensures.quiet c.write.ensures.idle

pub returns-then-bytes-capacity-clause-quiet : goal.returns-then-bytes-capacity-clause-quiet
returns-then-bytes-capacity-clause-quiet g c =
    subst (λ n. IfOk c.write.result (λ count. 0 < count → g.K.Sink.faults c.write.new.self ≡ n)) c.in_ok-hand_on.ensures.quiet c.write.ensures.quiet

pub returns-clause-taken : goal.returns-clause-taken
returns-clause-taken g c =
    rw (take_all _ _ (le_refl _)) (gathers _ _ _ _ _ (handed_on _ _ _ _ c.hand_on.ensures.handed) c.append.ensures)

pub returns-clause-cause : goal.returns-clause-cause
returns-clause-cause g c = record { later = c.hand_on.ensures.cause.later; failed = tt }

pub returns-clause-idle : goal.returns-clause-idle
returns-clause-idle g c = λ none some. absurd (omega arith)

pub returns-clause-quiet : goal.returns-clause-quiet
returns-clause-quiet g c = λ some. c.in_ok-hand_on.ensures.quiet
