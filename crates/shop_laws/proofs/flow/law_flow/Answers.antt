-- What comes to a station is accounted for.
use Rattle.shop_laws.proofs.FlowLaw.{flow_law}
use Rattle.shop_laws.proofs.flow.law_flow.Goals as goal

pub returns : goal.returns
returns c = flow_law
