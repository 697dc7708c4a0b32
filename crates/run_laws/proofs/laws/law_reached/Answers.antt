-- The run is reached, and each reached state is lawful.
use Rattle.run_laws.proofs.ReachedLemmas.{reached-lawful, run_is_reached}
use Rattle.run_laws.proofs.laws.law_reached.Goals as goal

pub returns : goal.returns
returns g c =
    let m = g.M.Model.meaning c.args.model.now in
    let t = c.args.terms.now in
    record { run = run_is_reached m t; lawful = λ s. reached-lawful m t s c.keeps_laws.ensures }
