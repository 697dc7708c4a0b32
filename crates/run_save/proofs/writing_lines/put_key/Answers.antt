-- Each number is one of the type.
use Rattle.std.proofs.Common.{arith}
use Rattle.run_save.proofs.ResultLemmas.{key_fits}
use Rattle.run_save.proofs.writing_lines.put_key.Goals as goal

pub returns-clause-fits : goal.returns-clause-fits
returns-clause-fits c = key_fits _ c.args.key.now (omega arith) (omega arith) (omega arith) c.put_field-4.ensures.fits
