-- A table that couldn't be handed on was written in part.
use Rattle.replications.proofs.PrefixLemmas.{cut_back}
use Rattle.replications.proofs.table.write_table.Goals as goal

pub returns-in_err-flush-clause-text : goal.returns-in_err-flush-clause-text
returns-in_err-flush-clause-text g c =
    cut_back g.K.Sink _ _ _ _ c.flush.ensures.taken _ c.write_lines-outcome.result c.from_residual.result c.from_residual.ensures.1 c.write_lines-outcome.ensures.text
