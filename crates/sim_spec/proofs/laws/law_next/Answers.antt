-- An event leaves a lawful state.
use Rattle.sim_spec.proofs.LawfulLemmas.{next-lawful}
use Rattle.sim_spec.proofs.laws.law_next.Goals as goal

pub returns : goal.returns
returns g c = λ s told after lawful is_next. next-lawful (g.M.Model.meaning c.args.model.now) c.args.terms.now s told after c.keeps_laws.ensures lawful is_next
