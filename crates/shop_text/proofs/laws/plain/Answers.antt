use Rattle.random_streams.specs.Delays.{is_delay_law}
use Rattle.random_streams.proofs.Bounds.{is_drawable-delay}
use Rattle.shop_text.proofs.laws.plain.Goals as goal

pub new-requires : goal.new-requires
new-requires c = is_drawable-delay c.args.law c.requires

pub returns-clause-delay : goal.returns-clause-delay
unfolding is_delay_law
returns-clause-delay c = rw c.new.ensures c.requires
