-- Up to the first object that isn't lawful.
use Rattle.std.proofs.Common.{◌≡◌, ◌+◌, ◌<◌, false, true, length, sym, ap, ◌∙◌, arith}
use Rattle.std.proofs.lemmas.List.{get_or_read}
use Rattle.sim_spec.specs.Firing.{ObjectState}
use Rattle.sim_spec.specs.State.{no_object}
use Rattle.run_save.specs.declared.refusal.StateCause.TheVariants.{Unlawful}
use Rattle.run_save.specs.Checks.{refusal}
use Rattle.run_save.specs.LawfulChecks.{is_lawful_object, objects_check}
use Rattle.run_save.proofs.LawfulLoops.{objects_go_on, objects_end, objects_done, sent_too_much, cells_unlawful, object_lawful}
use Rattle.run_save.proofs.reading_checks.check_objects.Goals as goal
use Rattle.run_save.proofs.reading_checks.check_objects.Goals.{then-object-count-via-then-object-count, then-object-count-via-else-object-count+then-not-is_lawful}

pub returns-then-object-count : goal.returns-then-object-count
returns-then-object-count g c =
    let m = g.M.Model.meaning c.args.model.now in
    let objects = c.args.objects.now in
    let o : ObjectState = record { cells = c.object.inside.cells.contents; sent = c.object.inside.sent } in
    let inside : c.loop-i.i < length c.args.objects.now = omega (arith, c.requires.all, c.objects-i-end.ensures) in
    let at = sym (get_or_read objects c.loop-i.i c.index-objects-i.result inside c.index-objects-i.is no_object) ∙ sym c.object.view_is in
    let unlawful : is_lawful_object m c.args.count c.loop-i.i o ≡ false =
    elim c.then-object-count.branch [
      | then-object-count-via-then-object-count w ↦ sent_too_much m c.args.count c.loop-i.i o (omega (arith, w.if-object-count.true))
      | then-object-count-via-else-object-count+then-not-is_lawful w ↦ cells_unlawful m c.args.count c.loop-i.i o (sym w.if-not-is_lawful.ensures)
    ] in
    let at_line : c.loop-i.i + 4 ≡ 4 + c.from.result = omega (arith, c.from.ensures) in
    rw c.at.ensures (objects_end m c.args.count c.loop-i.i objects (objects_check m c.args.count 0 objects) (omega (arith, inside))
    (ap (is_lawful_object m c.args.count c.loop-i.i) at ∙ unlawful) c.loop-i.invariant
    ∙ ap (λ n. refusal Unlawful n) at_line)

pub loop-i-preserved : goal.loop-i-preserved
loop-i-preserved g c =
    let m = g.M.Model.meaning c.args.model.now in
    let objects = c.args.objects.now in
    let o : ObjectState = record { cells = c.object.inside.cells.contents; sent = c.object.inside.sent } in
    let inside : c.loop-i.i < length c.args.objects.now = omega (arith, c.requires.all, c.objects-i-end.ensures) in
    let at = sym (get_or_read objects c.loop-i.i c.index-objects-i.result inside c.index-objects-i.is no_object) ∙ sym c.object.view_is in
    let lawful : is_lawful_object m c.args.count c.loop-i.i o ≡ true =
    object_lawful m c.args.count c.loop-i.i o (omega (arith, c.if-object-count.false)) (sym c.if-not-is_lawful.ensures) in
    objects_go_on m c.args.count c.loop-i.i objects (objects_check m c.args.count 0 objects) (omega (arith, inside))
    (ap (is_lawful_object m c.args.count c.loop-i.i) at ∙ lawful) c.loop-i.invariant

pub returns : goal.returns
returns g c =
    let m = g.M.Model.meaning c.args.model.now in
    let objects = c.args.objects.now in
    objects_done m c.args.count c.loop-i.i objects (objects_check m c.args.count 0 objects) (omega (arith, c.requires.all, c.objects-i-end.ensures)) c.loop-i.invariant
