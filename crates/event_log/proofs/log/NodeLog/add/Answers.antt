-- The object stands behind the others.
use Rattle.std.proofs.Common.{◌≡◌, List, [], ◌∷◌, ◌++◌, None, map, sym, ap, ◌∙◌, subst}
use Rattle.std.proofs.lemmas.List.{map-append}
use Rattle.object_log.specs.EventLogs.{EventLogView, state_in}
use Rattle.object_log.specs.Objects.{KeptObject}
use Rattle.object_log.specs.Whole.{IsEventLog, object_view}
use Rattle.object_log.proofs.AddLemmas.{one-more-object}
use Rattle.event_log.specs.NodeLogs.{NodeLogView}
use Rattle.event_log.proofs.log.NodeLog.add.Goals as goal

pub invariant_of-self-2 : goal.invariant_of-self-2
invariant_of-self-2 c =
    let objects = c.self.inside.objects.items in
    let items = c.self.inside.events.items in
    let o = c.new.result in
    let V : EventLogView → Type 0 = λ v. state_in v.objects c.args.number ≡ None in
    let away = ap (λ (k : KeptObject). state_in (map object_view objects) k.object) c.new.ensures ∙ subst V (sym (ap (λ (v : NodeLogView). v.log) c.self.view_is)) c.requires in
    let L : List KeptObject → Type 0 = λ os. IsEventLog os items in
    (subst L (sym (c.push_reserved.ensures.items ∙ ap (λ os. os ++ o ∷ []) c.make_place.ensures.objects)) (one-more-object objects items o c.self.invariant.0 away), c.make_place.ensures.bounded)

pub returns : goal.returns
returns c =
    let objects = c.self.inside.objects.items in
    let o = c.new.result in
    record {
      ok = ap (map object_view) (c.push_reserved.ensures.items ∙ ap (λ os. os ++ o ∷ []) c.make_place.ensures.objects)
          ∙ map-append object_view objects (o ∷ [])
          ∙ (λ i. (ap (λ (v : EventLogView). v.objects) (ap (λ (v : NodeLogView). v.log) c.self.view_is)) i ++ object_view (c.new.ensures i) ∷ []);
      same = (λ i. record (c.self.view_is i) { log = record ((c.self.view_is i).log) { objects = map object_view c.push_reserved.new.self.items } });
      err = tt;
    }
