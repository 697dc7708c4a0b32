-- A bucket is the next events of the run, and the buckets are the whole run.
use Rattle.sim_spec.proofs.BucketLaw.{bucket_law}
use Rattle.sim_spec.proofs.CyclesLaw.{cycles_law}
use Rattle.sim_spec.proofs.laws.law_bucket.Goals as goal

pub returns-clause-next_of_run : goal.returns-clause-next_of_run
returns-clause-next_of_run g c = bucket_law (g.M.Model.meaning c.args.model.now) c.args.terms.now c.keeps_laws.ensures

pub returns-clause-whole_run : goal.returns-clause-whole_run
returns-clause-whole_run g c = cycles_law (g.M.Model.meaning c.args.model.now) c.args.terms.now c.keeps_laws.ensures
