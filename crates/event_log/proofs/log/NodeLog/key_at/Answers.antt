-- The item has the event's key.
use Rattle.std.proofs.Common.{◌≡◌, Some, sym, ap, ◌∙◌, subst}
use Rattle.std.specs.Prelude.{slice_get}
use Rattle.object_log.specs.Carrying.{Placed}
use Rattle.object_log.specs.Dones.{Done}
use Rattle.object_log.specs.EventLogs.{EventLogView}
use Rattle.object_log.specs.Logs.{keys_of}
use Rattle.object_log.specs.Whole.{dones_in}
use Rattle.object_log.proofs.UndoLemmas.{get-map}
use Rattle.event_log.specs.NodeLogs.{NodeLogView}
use Rattle.event_log.proofs.log.NodeLog.key_at.Goals as goal

pub returns : goal.returns
returns c =
    let items = c.self.inside.events.items in
    let at = c.at-place.ensures in
    let P : EventLogView → Type 0 = λ v. slice_get (keys_of v.done) c.args.index ≡ Some at.0.done.event.key in
    subst P (ap (λ (v : NodeLogView). v.log) c.self.view_is) (get-map (λ (d : Done). d.event.key) (dones_in items) c.args.index at.0.done (get-map (λ (p : Placed). p.done) items c.args.index at.0 at.1)) ∙ ap Some (sym at.2)
