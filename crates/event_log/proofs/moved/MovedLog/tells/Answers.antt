-- It is a log of one object.
use Rattle.std.proofs.Common.{◌≡◌, length, ap, subst, arith}
use Rattle.std.proofs.lemmas.List.{length-map}
use Rattle.key_order.specs.Ascending.{Ascends}
use Rattle.key_order.proofs.AscendingLemmas.{Ascends-map}
use Rattle.object_log.specs.Carrying.{Placed}
use Rattle.object_log.specs.EventLogs.{done_key, dones_at}
use Rattle.object_log.specs.Keeping.{OnlyLastFailed}
use Rattle.event_log.specs.Items.{placed}
use Rattle.event_log.specs.Moves.{MovedLogView}
use Rattle.event_log.proofs.PutFacts.{moved-last, moved-own}
use Rattle.event_log.proofs.moved.MovedLog.tells.Goals as goal

pub returns-clause-own : goal.returns-clause-own
returns-clause-own c =
    let P : MovedLogView → Type 0 = λ m. dones_at m.log.object m.log.done ≡ m.log.done in
    subst P c.self.view_is (moved-own c.self.inside.object (placed c.self.inside.items.items) c.self.invariant.0)

pub returns-clause-ordered : goal.returns-clause-ordered
returns-clause-ordered c =
    let P : MovedLogView → Type 0 = λ m. Ascends done_key m.log.done in
    subst P c.self.view_is (Ascends-map done_key (λ (p : Placed). p.done) (placed c.self.inside.items.items) c.self.invariant.0.ordered)

pub returns-clause-last : goal.returns-clause-last
returns-clause-last c =
    let P : MovedLogView → Type 0 = λ m. OnlyLastFailed m.log.done in
    subst P c.self.view_is (moved-last c.self.inside.object (placed c.self.inside.items.items) c.self.invariant.0)

pub returns-clause-few : goal.returns-clause-few
returns-clause-few c =
    let few = c.self.invariant.0.few in
    let long = length-map (placed c.self.inside.items.items) (λ (p : Placed). p.done) in
    let view = ap (λ (m : MovedLogView). length m.log.done) c.self.view_is in
    omega arith
