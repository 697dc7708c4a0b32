-- The status of the process is that of its streams.
use Rattle.program_answers.proofs.ProcessLemmas.{process_ends}
use Rattle.shop_program.proofs.process.run_process.Goals as goal

pub returns-clause-ends : goal.returns-clause-ends
returns-clause-ends g c =
    process_ends _ _ _ _ (λ list. list.items) _ _ _ _ c.from.ensures c.run_streams-ended.ensures.read c.run_streams-ended.ensures.unread
