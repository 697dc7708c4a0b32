-- A call that is refused answers no place.
use Rattle.sim_io.proofs.AppendLemmas.{no_result}
use Rattle.sim_io.proofs.lines.line_writer.LineWriter.put_name.Goals as goal

pub returns-in_err-put_name-clause-text : goal.returns-in_err-put_name-clause-text
returns-in_err-put_name-clause-text g c = no_result c.from_residual.result _ _ c.from_residual.ensures.1

pub returns-in_err-put_name-clause-room : goal.returns-in_err-put_name-clause-room
returns-in_err-put_name-clause-room g c = no_result c.from_residual.result _ _ c.from_residual.ensures.1
