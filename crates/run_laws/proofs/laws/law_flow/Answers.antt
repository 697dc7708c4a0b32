-- Events are neither lost nor doubled.
use Rattle.run_laws.proofs.FlowLaw.{events_balance}
use Rattle.run_laws.proofs.laws.law_flow.Goals as goal

pub returns : goal.returns
returns g c = events_balance (g.M.Model.meaning c.args.model.now) c.args.terms.now
