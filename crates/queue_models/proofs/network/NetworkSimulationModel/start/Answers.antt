use Rattle.std.proofs.Common.{◌≡◌, ◌-◌, ◌∙◌, length, ap, arith}
use Rattle.queue_models.specs.Meaning.{network_meaning, job_start}
use Rattle.queue_models.specs.Starts.{length-source_numbers, start_of-source, start_of-job}
use Rattle.queue_models.specs.Views.{parts_of}
use Rattle.queue_models.proofs.network.NetworkSimulationModel.start.Goals as goal

pub overflow_cast-from : goal.overflow_cast-from
overflow_cast-from c =
    omega (arith, ap length c.args.self.now.listed, length-source_numbers c.args.self.now.objects.items, c.args.self.now.in_range.few_objects)

pub source_start-requires : goal.source_start-requires
source_start-requires c =
    (start_of-source (parts_of c.args.self.now) c.args.self.now.sources.items c.args.i _ _ c.args.self.now.listed (omega arith) c.index-number.ensures).0

pub returns-then-i-from : goal.returns-then-i-from
unfolding network_meaning
returns-then-i-from c =
    c.source_start.ensures
    ∙ (start_of-source (parts_of c.args.self.now) c.args.self.now.sources.items c.args.i _ _ c.args.self.now.listed (omega arith) c.index-number.ensures).1

pub job_start-requires : goal.job_start-requires
unfolding network_meaning
job_start-requires c = omega (arith, ap length c.args.self.now.listed, c.requires)

pub returns : goal.returns
unfolding network_meaning
returns c =
    let from : c.len-from.result ≡ length c.args.self.now.sources.items = omega arith in
    c.job_start.ensures
    ∙ ap (λ n. job_start (parts_of c.args.self.now) (c.args.i - n)) from
    ∙ start_of-job (parts_of c.args.self.now) c.args.self.now.sources.items c.args.i c.args.self.now.listed (omega arith)
