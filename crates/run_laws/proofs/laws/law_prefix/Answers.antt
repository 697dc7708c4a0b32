-- A longer run begins with the shorter one.
use Rattle.run_laws.proofs.PrefixLaw.{longer_run_goes_on}
use Rattle.run_laws.proofs.laws.law_prefix.Goals as goal

pub returns : goal.returns
returns g c = longer_run_goes_on (g.M.Model.meaning c.args.model.now)
