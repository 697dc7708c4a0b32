-- What is there after each part of the line, in front of the room that is left.
use Rattle.sim_io.proofs.AppendLemmas.{appended, no_result, still_first}
use Rattle.sim_io.proofs.lines.line_writer.LineWriter.put_line.Goals as goal

pub returns-in_err-name-clause-ok : goal.returns-in_err-name-clause-ok
returns-in_err-name-clause-ok g c = no_result c.from_residual.result _ _ c.from_residual.ensures.1

pub returns-in_err-name-clause-prefix : goal.returns-in_err-name-clause-prefix
returns-in_err-name-clause-prefix g c = c.in_err-name.ensures.prefix

pub returns-in_err-word-clause-ok : goal.returns-in_err-word-clause-ok
returns-in_err-word-clause-ok g c = no_result c.from_residual-in_err-word.result _ _ c.from_residual-in_err-word.ensures.1

pub returns-in_err-word-clause-prefix : goal.returns-in_err-word-clause-prefix
returns-in_err-word-clause-prefix g c = still_first _ _ _ _ c.in_ok-name.ensures.text c.in_err-word.ensures.prefix

pub returns-in_err-numbers-clause-ok : goal.returns-in_err-numbers-clause-ok
returns-in_err-numbers-clause-ok g c = no_result c.from_residual-in_err-numbers.result _ _ c.from_residual-in_err-numbers.ensures.1

pub returns-in_err-numbers-clause-prefix : goal.returns-in_err-numbers-clause-prefix
returns-in_err-numbers-clause-prefix g c = still_first _ _ _ _ (appended c.args.into.now.items _ _ _ _ c.in_ok-name.ensures.text c.in_ok-word.ensures.text) c.in_err-numbers.ensures.prefix
