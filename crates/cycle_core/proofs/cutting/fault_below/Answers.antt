use Rattle.std.proofs.Common.{subst, arith}
use Rattle.node_core.specs.Calls.{IsLeastFaultOf}
use Rattle.cycle_core.proofs.CutLemmas.{fault-late}
use Rattle.cycle_core.proofs.cutting.fault_below.Goals as goal

pub returns-in_default : goal.returns-in_default
returns-in_default g c =
    fault-late (g.M.Model.meaning) c.args.bound c.args.node.now c.in-Some.fault
    (subst (λ o. IsLeastFaultOf (g.M.Model.meaning c.args.node.now.model) c.args.node.now o) c.in-Some.is c.faulted.ensures) (omega arith)
