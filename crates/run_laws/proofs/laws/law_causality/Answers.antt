-- Each event has a cause, and none is forgotten.
use Rattle.run_laws.proofs.CausalityLaw.{causality_law, nothing_is_forgotten}
use Rattle.run_laws.proofs.laws.law_causality.Goals as goal

pub returns : goal.returns
returns g c =
    let m = g.M.Model.meaning c.args.model.now in
    let t = c.args.terms.now in
    record { causes = causality_law m t; none_forgotten = nothing_is_forgotten m t }
