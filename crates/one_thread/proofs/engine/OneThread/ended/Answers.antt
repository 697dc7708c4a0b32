-- The fault of the last bucket, or what comes next.
use Rattle.std.proofs.Common.{Option, subst}
use Rattle.std.specs.Arc.{arc_value}
use Rattle.one_thread.specs.Engines.{Course, IsReady}
use Rattle.one_thread.proofs.EngineLemmas.{ended_spent, ended_fault, ended_next}
use Rattle.one_thread.proofs.engine.OneThread.ended.Goals as goal

pub returns-in_default : goal.returns-in_default
returns-in_default g c = ended_spent g.M.Model.meaning c.args.self.now (arc_value c.self.inside.model) c.self.inside.terms c.self.inside.course c.self.inside.fault c.self.view_is c.in_default.is

pub returns-in-Some-fault : goal.returns-in-Some-fault
returns-in-Some-fault g c =
    ended_fault g.M.Model.meaning c.args.self.now (arc_value c.self.inside.model) c.self.inside.terms c.self.inside.course c.self.inside.fault c.in-Some.course c.in-Some-fault.key c.in-Some-fault.code
    c.self.view_is c.in-Some.is c.in-Some-fault.is

pub returns-in-None : goal.returns-in-None
returns-in-None g c =
    ended_next g.M.Model.meaning c.args.self.now (arc_value c.self.inside.model) c.deref.result.now c.self.inside.terms c.self.inside.course c.self.inside.fault c.in-Some.course _
    c.self.view_is c.in-Some.is c.in-None.is c.deref.ensures c.end_or_limit.ensures

pub end_or_limit-requires-after_bounds : goal.end_or_limit-requires-after_bounds
end_or_limit-requires-after_bounds g c lives lasts = let P : Option Course → Type 0 = IsReady in subst P c.in-Some.is c.self.invariant.1
