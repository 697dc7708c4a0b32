-- All objects of the node are in its log.
use Rattle.std.proofs.Common.{length, ap, refl, subst, sym, ◌∙◌}
use Rattle.node_core.specs.NewLogs.{AreFirst}
use Rattle.node_core.proofs.FirstLogFacts.{first-logged, first-none}
use Rattle.node_core.proofs.logs.Logs.new.Goals as goal

pub first_places-requires-clause-known : goal.first_places-requires-clause-known
first_places-requires-clause-known g c κs lives = ap (λ h. length h.homes) c.deref-2.ensures ∙ c.requires

pub first_places-requires-clause-none : goal.first_places-requires-clause-none
first_places-requires-clause-none g c κs lives =
    first-none (g.M.Model.meaning c.args.model.now) c.deref-2.result.now c.args.number c.new-log.result c.new-log.ensures.log c.new-log.ensures.chained
    (c.new-log.ensures.nodes ∙ c.in_ok-parcels.ensures.many ∙ c.nodes.ensures.value ∙ ap (λ h. h.nodes) (c.deref.ensures ∙ sym c.deref-2.ensures))

pub returns-clause-done : goal.returns-clause-done
returns-clause-done g c = c.in_ok-places.ensures.done

pub invariant_of-result : goal.invariant_of-result
invariant_of-result g c =
    let m = g.M.Model.meaning c.args.model.now in
    let are = subst (λ h. AreFirst m h c.args.number m.objects c.first_places.new.log c.in_ok-places.places.items (length c.first_places.new.log.log.objects)) c.deref-2.ensures c.in_ok-places.ensures in
    first-logged m c.args.homes.value c.args.number c.first_places.new.log c.in_ok-places.places.items (length c.first_places.new.log.log.objects) c.requires are

pub returns-clause-homes : goal.returns-clause-homes
returns-clause-homes g c = refl

pub returns-clause-logs : goal.returns-clause-logs
returns-clause-logs g c =
    let m = g.M.Model.meaning c.args.model.now in
    let are = subst (λ h. AreFirst m h c.args.number m.objects c.first_places.new.log c.in_ok-places.places.items (length c.first_places.new.log.log.objects)) c.deref-2.ensures c.in_ok-places.ensures in
    are.logs
