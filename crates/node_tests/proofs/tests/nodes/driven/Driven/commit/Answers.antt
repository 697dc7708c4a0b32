-- What is due is committed.
use Rattle.std.proofs.Common.{ap, sym, ◌∙◌, arith}
use Rattle.std.specs.Arc.{arc_value}
use Rattle.event_key.specs.Stamps.{end_stamp}
use Rattle.sim_spec.specs.declared.terms.Terms.{Terms}
use Rattle.node_tests.proofs.DriveFacts.{idle-now, keeps-committed, may-commit}
use Rattle.node_tests.proofs.tests.nodes.driven.Driven.commit.Goals as goal

pub commit-requires-clause-done : goal.commit-requires-clause-done
commit-requires-clause-done g c lifetimes within =
    let node = c.self.inside.node in
    let idle = idle-now g.M.Model.meaning c.args.self.now c.next_step.new.self node c.in_ok-step.step c.in-Idle.is c.in_ok-step.ensures (sym c.self.view_is) in
    let bound = c.end_bound.ensures ∙ ap (λ (t : Terms). end_stamp t.end) c.terms.ensures in
    may-commit (g.M.Model.meaning node.model) node c.args.horizon (end_stamp node.terms.end) c.args.cut c.faulted-fault.result c.faulted-fault.ensures (sym c.is_due.ensures ∙ c.if-is_due.false) idle (omega (arith, bound))

pub invariant_of-self-2 : goal.invariant_of-self-2
invariant_of-self-2 g c =
    let done = c.commit.new.into in
    keeps-committed g.M.Model.meaning c.self.inside.node c.commit.new.self (arc_value c.self.inside.homes) c.self.inside.keys.items c.self.inside.sent c.self.invariant c.args.horizon c.args.cut done.done.items done.out.items
    c.in_ok-commit.ensures.ok c.tells_sent.ensures c.tells_keys.ensures (omega arith)
