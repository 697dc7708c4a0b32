-- A store without events.
use Rattle.std.proofs.Common.{◌≡◌, List, [], length, map, subst, sym, ap, ◌∙◌}
use Rattle.model_core.specs.declared.event.Event.{Event}
use Rattle.object_log.specs.EventLogs.{logs_upto}
use Rattle.key_order.specs.Pending.{enqueue_all}
use Rattle.node_core.specs.Homes.{HomesView}
use Rattle.node_core.specs.Marks.{mark_of}
use Rattle.node_core.specs.Sound.{IsStore}
use Rattle.node_core.specs.Stores.{shown_logs, shown_marks}
use Rattle.node_core.proofs.NewFacts.{new-store}
use Rattle.node_core.proofs.store.Store.new.Goals as goal

pub returns-clause-homes : goal.returns-clause-homes
returns-clause-homes g c = c.in_ok-logs.ensures.homes

pub returns-clause-logs : goal.returns-clause-logs
returns-clause-logs g c =
    let long = ap (λ (h : HomesView). length h.homes) c.in_ok-logs.ensures.homes ∙ c.requires in
    ap (logs_upto c.in_ok-logs.logs.log) long ∙ c.in_ok-logs.ensures.logs

pub returns-clause-marks : goal.returns-clause-marks
returns-clause-marks g c = ap (map mark_of) c.in_ok-logs.ensures.done

pub returns-clause-waiting : goal.returns-clause-waiting
unfolding enqueue_all
returns-clause-waiting g c = λ i. enqueue_all (c.new-3.ensures.fresh i) (c.new-3.ensures.primary i)

pub invariant_of-result : goal.invariant_of-result
unfolding enqueue_all
invariant_of-result g c =
    let l = c.in_ok-logs.logs in
    let W : List Event → Type 0 = λ waiting. IsStore (shown_logs l) (shown_marks l) waiting in
    let none : enqueue_all c.new-3.result.fresh c.new-3.result.primary ≡ [] = λ i. enqueue_all (c.new-3.ensures.fresh i) (c.new-3.ensures.primary i) in
    subst W (sym none) (new-store l c.tells.ensures.sound c.tells.ensures.inside c.in_ok-logs.ensures.done)
