use Rattle.std.proofs.Common.{◌≡◌, ◌+◌, ◌<◌, ◌^◌, length}
use Rattle.std.specs.Prelude.{All, None}
use Rattle.replications.specs.declared.job.Job.{Job}
use Rattle.replications.specs.Studies.{AreToDo}
use Rattle.replications.proofs.batch.Batch.jobs.Given as goal

abbrev pub invariant-loop-number : goal.invariant-loop-number
invariant-loop-number l = record {
  jobs : AreToDo l.first_seed l.fn.self.begin l.jobs.items;
  ready : All (λ (job : Job). (job.seed < 2 ^ 63) × (job.stop ≡ None)) l.jobs.items;
  many : l.fn.self.begin + length l.jobs.items ≡ l.number;
}
