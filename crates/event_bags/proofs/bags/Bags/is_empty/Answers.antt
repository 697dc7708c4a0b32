use Rattle.event_bags.proofs.Calls.{there, sees, none_if, empty_test}
use Rattle.event_bags.proofs.bags.Bags.is_empty.Goals as goal

pub returns : goal.returns
returns g c =
    let held = c.self.invariant.1 in
    let within = there held c.args.bag c.self.view_is c.requires in
    rw (sees held c.self.view_is) (empty_test _ c.index.result.now (none_if held c.args.bag c.index.result.now within c.index.ensures))
