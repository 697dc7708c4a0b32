use Rattle.model_program.proofs.SavedRunsLaw.{saved_runs}
use Rattle.model_program.proofs.laws.law_saved_runs.Goals as goal

pub returns : goal.returns
returns g c totals = saved_runs g.T.ModelReader.reading.read g.met.T.ModelReader.laws (record { meaning = g.M.Model.meaning c.args.model.now; terms = c.args.terms.now; totals = totals }) c.keeps_laws.ensures c.law_initial.ensures c.law_goes_on.ensures c.law_written.ensures
