use Rattle.std.proofs.Common.{arith}
use Rattle.phold_model.specs.Meaning.{phold_meaning}
use Rattle.phold_model.specs.Starts.{length-starts_of}
use Rattle.phold_model.specs.Views.{parts_of}
use Rattle.phold_model.proofs.phold.PholdSimulationModel.starts.Goals as goal

pub returns : goal.returns
unfolding phold_meaning
returns c = omega (arith, length-starts_of (parts_of c.args.self.now), c.len.ensures)
