-- There is nothing.
use Rattle.std.proofs.Common.{List, [], ap, sym, subst}
use Rattle.object_log.specs.Objects.{KeptObject}
use Rattle.object_log.specs.Whole.{IsEventLog}
use Rattle.object_log.proofs.EventLogLemmas.{no-log}
use Rattle.event_log.specs.Processing.{ProcessedView}
use Rattle.event_log.specs.Latest.{AreBounded}
use Rattle.event_log.proofs.log.NodeLog.new.Goals as goal

pub invariant_of-result : goal.invariant_of-result
invariant_of-result c =
    let P : List KeptObject → Type 0 = λ objects. IsEventLog objects c.new-2.result.items in (
      subst P (sym c.new.ensures.items) (subst (IsEventLog []) (sym (ap (λ (v : ProcessedView). v.items) c.new-2.ensures)) no-log),
      subst (AreBounded c.new-3.result) (sym (ap (λ (v : ProcessedView). v.items) c.new-2.ensures)) tt,
    )
