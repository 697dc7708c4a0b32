-- The words and the lines.
use Rattle.run_save.proofs.ResultLemmas.{both_fit}
use Rattle.run_save.proofs.writing_lines.put_cells.Goals as goal

pub returns-clause-fits : goal.returns-clause-fits
returns-clause-fits c = both_fit _ c.args.cells.now.contents c.in_ok-put_words.ensures.fits c.put_lines.ensures.few c.put_lines.ensures.fits
