use Rattle.std.proofs.Common.{length, ap, arith}
use Rattle.queue_models.specs.Meaning.{network_meaning}
use Rattle.queue_models.specs.Starts.{length-source_numbers}
use Rattle.queue_models.proofs.network.NetworkSimulationModel.starts.Goals as goal

pub overflow_cast-result : goal.overflow_cast-result
overflow_cast-result c =
    omega (
      arith,
      ap length c.args.self.now.listed,
      length-source_numbers c.args.self.now.objects.items,
      c.args.self.now.in_range.few_objects,
      c.args.self.now.in_range.few_jobs,
    )

pub returns : goal.returns
unfolding network_meaning
returns c = omega (arith, ap length c.args.self.now.listed)
