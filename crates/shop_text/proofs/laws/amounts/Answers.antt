use Rattle.shop_text.proofs.LawLemmas.{values-small}
use Rattle.shop_text.proofs.laws.amounts.Goals as goal

pub returns-clause-values : goal.returns-clause-values
returns-clause-values c = rw c.new.ensures (values-small _ c.in_ok-numbers_of.ensures.small)
