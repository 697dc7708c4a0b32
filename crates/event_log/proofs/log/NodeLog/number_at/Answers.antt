-- What stands at a place of the objects is seen there.
use Rattle.std.proofs.Common.{◌≡◌, List, Some, length, ltb-true, map, sym, subst}
use Rattle.std.specs.Prelude.{slice_get}
use Rattle.object_log.specs.Objects.{KeptObject}
use Rattle.object_log.specs.Whole.{object_view}
use Rattle.object_log.proofs.CarriedLemmas.{read-map}
use Rattle.event_log.specs.NodeLogs.{NodeLogView}
use Rattle.event_log.proofs.log.NodeLog.number_at.Goals as goal

pub returns-clause-some : goal.returns-clause-some
returns-clause-some c =
    let o = c.in_ok-object.object.now in
    let os = c.deref.result.now in
    let lookup = c.in_ok-object.ensures.lookup in
    let L : List KeptObject → Type 0 = λ ks. slice_get (map object_view ks) c.args.place ≡ Some (object_view o) in
    let P : NodeLogView → Type 0 = λ v. slice_get v.log.objects c.args.place ≡ Some (object_view o) in
    (object_view o, subst P c.self.view_is (subst L c.deref.ensures.value (read-map object_view os c.args.place o (ltb-true c.args.place (length os) (sym lookup.0)) lookup.1)), sym c.number.ensures)
