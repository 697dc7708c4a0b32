-- What is answered over the adapters of the streams is answered over the streams.
use Rattle.program_answers.proofs.ProcessLemmas.{err_map, ok_map, streams_answered, streams_left}
use Rattle.replicate_program.proofs.process.run_streams.Goals as goal

pub returns-clause-read : goal.returns-clause-read
returns-clause-read g c =
    ok_map c.args.words (λ list. streams_answered _ _ _ _ _ _ _ _ _ _ _ c.new-io.ensures c.end.ensures _) c.replicate-status.ensures.read

pub returns-clause-unread : goal.returns-clause-unread
returns-clause-unread g c = err_map c.args.words (streams_left _ _ _ _ _ _ _ _ _ _ _ c.new-io.ensures c.end.ensures) c.replicate-status.ensures.unread
