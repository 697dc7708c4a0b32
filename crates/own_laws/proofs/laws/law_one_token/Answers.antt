use Rattle.own_laws.proofs.OneTokenLemmas.{one_token}
use Rattle.own_laws.proofs.laws.law_one_token.Goals as goal

pub returns : goal.returns
returns c = one_token
