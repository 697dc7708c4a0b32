-- What was written stays written, and is handed on unless that fails.
use Rattle.std.proofs.Common.{refl}
use Rattle.model_program.proofs.HandedLemmas.{on_ok, written_kept, written_back}
use Rattle.model_program.proofs.run.handing.hand_on.Goals as goal

pub returns-in_err-flush-clause-written : goal.returns-in_err-flush-clause-written
returns-in_err-flush-clause-written g c = λ before bytes written.
    written_back _ before _ _ c.args.outcome bytes written _ c.from_residual.ensures.1 c.flush.ensures.taken c.flush.ensures.cause.later c.in_err-flush.ensures.cause.failed

pub returns-clause-written : goal.returns-clause-written
returns-clause-written g c = λ before bytes written. written_kept _ before _ _ c.args.outcome bytes written c.flush.ensures.taken c.in_ok-flush.ensures.quiet

pub returns-clause-handed : goal.returns-clause-handed
returns-clause-handed g c = record { whole = on_ok _ c.in_ok-flush.ensures.all; no_memory = λ _. c.in_ok-flush.ensures.all }

pub returns-clause-same : goal.returns-clause-same
returns-clause-same g c = on_ok _ refl
