use Rattle.sim_io.proofs.CycleTextLemmas.{plain_text}
use Rattle.sim_io.proofs.laws.law_plain_text.Goals as goal

pub returns : goal.returns
returns g c = plain_text (g.M.Model.meaning c.args.model.now) c.args.terms.now c.law_bucket.ensures.whole_run
