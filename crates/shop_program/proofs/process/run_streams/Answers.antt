-- What is answered over the adapters of the streams is answered over the streams.
use Rattle.sim_io.specs.Words.{model_settings, texts_of}
use Rattle.program_answers.proofs.ProcessLemmas.{err_map, ok_map, said_of_input, streams_answered, streams_left}
use Rattle.shop_text.specs.ShopTexts.{shop_text}
use Rattle.model_program.specs.SavedRuns.{IsSavedSo}
use Rattle.shop_program.proofs.process.run_streams.Goals as goal

pub returns-clause-read : goal.returns-clause-read
returns-clause-read g c =
    ok_map c.args.words (λ list. streams_answered _ _ _ _ _ _ _ _ _ _ _ c.new-io.ensures c.end.ensures _) c.run_program-status.ensures.read

pub returns-clause-unread : goal.returns-clause-unread
returns-clause-unread g c =
    err_map c.args.words (streams_left _ _ _ _ _ _ _ _ _ _ _ c.new-io.ensures c.end.ensures) c.run_program-status.ensures.unread

pub returns-clause-saved : goal.returns-clause-saved
returns-clause-saved g c =
    ok_map c.args.words (λ list. said_of_input _ _ _ _ _ _ _ _ _ _ _ c.new-io.ensures c.end.ensures (IsSavedSo shop_text (model_settings (texts_of list.items)))) c.run_program-status.ensures.saved
