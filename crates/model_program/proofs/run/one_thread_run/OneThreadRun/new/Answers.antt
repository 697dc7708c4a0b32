-- The run tells what its engine tells at the start.
use Rattle.model_program.proofs.RunLemmas.{tells}
use Rattle.model_program.proofs.run.one_thread_run.OneThreadRun.new.Goals as goal

pub returns-clause-begins : goal.returns-clause-begins
returns-clause-begins g c = (
  c.in_ok-engine.ensures.standing,
  tells _ _ c.in_ok-engine.engine.standing _ c.new-told.result _ _ c.in_ok-engine.ensures.standing c.new-told.ensures.ended c.ended.ensures c.new-told.ensures.count c.count.ensures.standing,
)
