-- A call that is refused answers no place.
use Rattle.sim_io.proofs.AppendLemmas.{no_result}
use Rattle.sim_io.proofs.lines.line_writer.LineWriter.put_word.Goals as goal

pub returns-in_err-put_spaced_word-clause-text : goal.returns-in_err-put_spaced_word-clause-text
returns-in_err-put_spaced_word-clause-text g c = no_result c.from_residual.result _ _ c.from_residual.ensures.1

pub returns-in_err-put_spaced_word-clause-room : goal.returns-in_err-put_spaced_word-clause-room
returns-in_err-put_spaced_word-clause-room g c = no_result c.from_residual.result _ _ c.from_residual.ensures.1
