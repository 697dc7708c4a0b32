-- The keys of the items are those of the events.
use Rattle.std.proofs.Common.{◌≡◌, ◌++◌, List, ap, ◌∙◌, subst}
use Rattle.std.specs.Prelude.{OnOk, filter, nat_lt}
use Rattle.event_key.specs.declared.key.Key.{Key}
use Rattle.object_log.specs.Logs.{keys_of}
use Rattle.event_log.specs.NodeLogs.{NodeLogView}
use Rattle.event_log.proofs.FirstFacts.{keys-placed}
use Rattle.event_log.proofs.log.NodeLog.push_below.Goals as goal

pub push_below-requires : goal.push_below-requires
push_below-requires c = c.self.invariant.0.few

pub returns-clause-ok : goal.returns-clause-ok
returns-clause-ok c =
    let all = keys-placed c.self.inside.events.items ∙ ap (λ (v : NodeLogView). keys_of v.log.done) c.self.view_is in
    let R : List Key → Type 0 = λ ks. OnOk c.push_below.result (c.push_below.new.into.items ≡ c.args.into.now.items ++ filter (λ (k : Key). nat_lt k.stamp c.args.horizon) ks) in
    subst R all c.push_below.ensures.ok
