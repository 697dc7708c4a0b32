use Rattle.std.proofs.Common.{subst, arith}
use Rattle.std.proofs.lemmas.Slice.Zip.{AllZip-long}
use Rattle.replications.specs.declared.job.Job.{Job}
use Rattle.replications.specs.Families.{study_of}
use Rattle.replications.specs.Studies.{Does}
use Rattle.replications.proofs.JobLemmas.{all_done, zip-into}
use Rattle.replications.proofs.batch.Batch.run.Goals as goal

pub returns-clause-done : goal.returns-clause-done
returns-clause-done g c =
    let s = study_of g.S.Seeds.seeded g.S.Seeds.rows c.args.study.now in
    let R : Job → Job → Type 0 = Does s in
    all_done s c.args.self.begin c.in_ok-jobs.jobs.items c.in_ok-done.done.items c.in_ok-jobs.ensures.jobs
    (zip-into _ R (λ old new change. subst (R old) change.left (subst (λ x. R x change.after_call.now) change.argument_is change.call)) c.in_ok-jobs.jobs.items c.in_ok-done.done.items c.in_ok-done.ensures)

pub returns-clause-many : goal.returns-clause-many
returns-clause-many g c =
    let long = AllZip-long _ c.in_ok-jobs.jobs.items c.in_ok-done.done.items c.in_ok-done.ensures in
    omega (arith, long, c.in_ok-jobs.ensures.many)
