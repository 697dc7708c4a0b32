use Rattle.sim_text.proofs.GoesOnLaw.{goes_on}
use Rattle.sim_text.proofs.laws.law_goes_on.Goals as goal

pub returns : goal.returns
returns g c = goes_on (g.M.Model.meaning c.args.model.now) c.args.terms.now c.law_bucket.ensures.next_of_run c.law_bucket.ensures.whole_run
