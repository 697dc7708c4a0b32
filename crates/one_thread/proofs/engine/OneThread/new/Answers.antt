-- A simulation begins in a lawful state.
use Rattle.std.specs.Arc.{arc_value}
use Rattle.one_thread.proofs.EngineLemmas.{begins_lawful}
use Rattle.one_thread.proofs.engine.OneThread.new.Goals as goal

pub invariant_of-result : goal.invariant_of-result
invariant_of-result g c = (
  begins_lawful g.M.Model.meaning (arc_value c.args.model) c.deref.result.now c.deref-2.result.now c.args.terms c.in_ok-course.course c.deref.ensures c.deref-2.ensures c.law_initial.ensures c.in_ok-course.ensures.state,
  c.in_ok-course.ensures.settled,
)
