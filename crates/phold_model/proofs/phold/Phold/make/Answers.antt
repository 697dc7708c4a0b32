use Rattle.random_streams.proofs.Bounds.{is_drawable-delay}
use Rattle.phold_model.proofs.phold.Phold.make.Goals as goal

pub new-requires : goal.new-requires
new-requires c = is_drawable-delay c.args.delay c.requires.delay
