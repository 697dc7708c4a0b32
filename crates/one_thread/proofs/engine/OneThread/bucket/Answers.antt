-- What is told into a list is the bucket.
use Rattle.std.proofs.Common.{Ok, ap, ◌∙◌, subst}
use Rattle.sim_spec.specs.Standing.{CycleGives}
use Rattle.one_thread.specs.Ends.{bucket_of}
use Rattle.one_thread.specs.Engines.{EngineView}
use Rattle.one_thread.proofs.EngineLemmas.{bucket_given, cycle_refused}
use Rattle.one_thread.proofs.engine.OneThread.bucket.Goals as goal

pub returns-in_err-end-clause-gives : goal.returns-in_err-end-clause-gives
returns-in_err-end-clause-gives g c = cycle_refused _ _ _ _ _ c.from_residual.result c.from_residual.ensures.1 c.in_err-end.ensures.refused

pub returns-clause-gives : goal.returns-clause-gives
returns-clause-gives g c =
    let P : EngineView g.row.M.Denot → Type 0 = λ e. CycleGives (g.M.Model.meaning e.model) e.terms e.standing (Ok c.bucket.result) c.tell_bucket.new.self.standing in
    let is = c.bucket.ensures ∙ ap (λ done. bucket_of done c.in_ok-end.end) c.new.ensures in
    subst P c.take_spare-done.ensures.same (bucket_given _ _ _ _ c.take_spare-done.result c.tell_bucket.new.into c.in_ok-end.end c.bucket.result c.take_spare-done.ensures.empty c.in_ok-end.ensures.told is)
