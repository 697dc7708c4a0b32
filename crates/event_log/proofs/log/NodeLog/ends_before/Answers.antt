-- The items have the events.
use Rattle.std.proofs.Common.{◌≡◌, true, subst}
use Rattle.std.specs.List.{AllByRecursion as Each}
use Rattle.event_key.specs.Keys.{key_lt}
use Rattle.object_log.specs.Dones.{Done}
use Rattle.event_log.specs.NodeLogs.{NodeLogView}
use Rattle.event_log.proofs.EndFacts.{dones-before}
use Rattle.event_log.proofs.log.NodeLog.ends_before.Goals as goal

pub returns : goal.returns
returns c = λ yes.
    let V : NodeLogView → Type 0 = λ v. Each (λ (d : Done). key_lt d.event.key c.args.key.now ≡ true) v.log.done in
    subst V c.self.view_is (dones-before c.args.key.now c.self.inside.events.items (c.ends_before.ensures yes))
