-- The event that is due is fired as the definition fires it.
use Rattle.key_order.specs.Stamps.{least_stamp}
use Rattle.std.proofs.Common.{◌≡◌, ◌+◌, length, refl, ap, ◌∙◌, subst, arith}
use Rattle.std.specs.Prelude.{slice_set}
use Rattle.sim_spec.specs.Firing.{ObjectState, has_endless_chain, emissions}
use Rattle.sim_spec.specs.State.{object_at}
use Rattle.model_core.specs.declared.effect.Ending.{Ending}
use Rattle.model_core.specs.declared.effect.Ending.TheVariants.{Fails}
use Rattle.event_firing.specs.Reactions.{IsReaction, IsSending}
use Rattle.one_thread.specs.Engines.{Course}
use Rattle.one_thread.specs.Turns.{IsDone, IsFailed}
use Rattle.one_thread.proofs.FireLemmas.{IsTaken, course_of, taken_in, first_gone, none_at_hand, object_read, lawful_read, serials_read, put_back, done, failed, ranged_as}
use Rattle.one_thread.proofs.course.Course.fire.Given.{Over}
use Rattle.one_thread.proofs.course.Course.fire.Goals as goal
use Rattle.one_thread.proofs.course.Course.fire.Goals.{In-Some, After-index_mut-object, After-drop_first}

-- what is known of the event, of its object, and of both once the event is no more pending
taken : (g : Over) (c : In-Some g) → IsTaken (g.M.Model.meaning c.args.model.now) c.args.terms.now (course_of c.self.inside.objects.items c.self.inside.queue c.self.inside.count) c.in-Some.event.now c.in-Some.ensures.some.0
taken g c = taken_in _ c.args.terms.now c.args.self.now c.self.inside.objects.items c.self.inside.queue c.self.inside.count c.in-Some.event.now c.in-Some.ensures.some.0
    c.self.view_is c.keeps_laws.ensures c.requires.lawful c.requires.due c.in-Some.ensures.some.1

object : (g : Over) (c : After-index_mut-object g) → c.index_mut-object.result.now ≡ object_at c.self.inside.objects.items c.in-Some.event.now.key.dest
object g c = object_read c.self.inside.objects.items c.in-Some.event.now.key.dest c.index_mut-object.result.now (taken g (goal.at.After-index_mut-object g c).In-Some).within c.index_mut-object.ensures.value

gone : (g : Over) (c : After-drop_first g) → IsTaken (g.M.Model.meaning c.args.model.now) c.args.terms.now (course_of c.self.inside.objects.items c.self.inside.queue c.self.inside.count) c.in-Some.event.now c.drop_first.new.self.pending
gone g c = taken_in _ c.args.terms.now c.args.self.now c.self.inside.objects.items c.self.inside.queue c.self.inside.count c.in-Some.event.now c.drop_first.new.self.pending
    c.self.view_is c.keeps_laws.ensures c.requires.lawful c.requires.due (first_gone c.self.inside.queue.pending c.drop_first.new.self.pending c.in-Some.event.now c.in-Some.ensures.some c.drop_first.ensures.pending)

sending : (g : Over) (c : After-drop_first g) → IsSending (g.M.Model.meaning c.args.model.now) c.index_mut-object.result.now c.in-Some.event.now c.fire.new.sheet c.fire.new.self
sending g c =
    let P : Ending → Type 0 = λ ending. IsReaction (g.M.Model.meaning c.args.model.now) c.index_mut-object.result.now c.in-Some.event.now c.fire.new.sheet ending c.fire.new.self in
    subst P c.in-Goes.is c.in_ok-fire.ensures.ok

pub overflow_cast-key : goal.overflow_cast-key
overflow_cast-key g c =
    let it = taken g (goal.at.overflow_cast-key g c).In-Some in
    omega (arith, it.below, it.few_objects)

pub index_mut-object-requires : goal.index_mut-object-requires
index_mut-object-requires g c =
    omega (arith, (taken g (goal.at.index_mut-object-requires g c).In-Some).within, c.self.inside.objects.ok.0)

pub fire-requires-clause-object : goal.fire-requires-clause-object
fire-requires-clause-object g c lives lasts = (taken g (goal.at.fire-requires-clause-object g c).In-Some).below

pub fire-requires-clause-lawful : goal.fire-requires-clause-lawful
fire-requires-clause-lawful g c lives lasts =
    let at = goal.at.fire-requires-clause-lawful g c in
    lawful_read (g.M.Model.meaning c.args.model.now) c.in-Some.event.now.key.dest c.self.inside.objects.items _ (object g at.After-index_mut-object) (taken g at.In-Some).lawful

pub fire-requires-clause-time : goal.fire-requires-clause-time
fire-requires-clause-time g c lives lasts = (taken g (goal.at.fire-requires-clause-time g c).In-Some).time

pub fire-requires-clause-sent : goal.fire-requires-clause-sent
fire-requires-clause-sent g c lives lasts =
    let at = goal.at.fire-requires-clause-sent g c in
    let same = ap (λ (o : ObjectState). o.sent) (object g at.After-index_mut-object) in
    omega (arith, same, (taken g at.In-Some).sent)

pub send_all-requires-clause-time : goal.send_all-requires-clause-time
send_all-requires-clause-time g c = (gone g (goal.at.send_all-requires-clause-time g c).After-drop_first).time

pub send_all-requires-clause-stepping : goal.send_all-requires-clause-stepping
send_all-requires-clause-stepping g c =
    ap (has_endless_chain c.in-Some.event.now.key.stamp) c.as_slice.ensures ∙ (sending g (goal.at.send_all-requires-clause-stepping g c).After-drop_first).stepping

pub send_all-requires-clause-ranged : goal.send_all-requires-clause-ranged
send_all-requires-clause-ranged g c =
    ((g.M.Model.meaning c.args.model.now).objects, ranged_as _ _ _ c.as_slice.ensures (sending g (goal.at.send_all-requires-clause-ranged g c).After-drop_first).ranged)

pub send_all-requires-clause-serials : goal.send_all-requires-clause-serials
send_all-requires-clause-serials g c =
    let at = goal.at.send_all-requires-clause-serials g c in
    let same = ap (λ (o : ObjectState). o.sent) (object g at.After-index_mut-object) in
    let long = ap length c.as_slice.ensures in
    omega (arith, same, long, (gone g at.After-drop_first).sent, (sending g at.After-drop_first).few, c.sent-serial.ensures)

pub send_all-requires-clause-pending : goal.send_all-requires-clause-pending
send_all-requires-clause-pending g c =
    let at = goal.at.send_all-requires-clause-pending g c in
    serials_read _ _ c.self.inside.objects.items _ _ (object g at.After-index_mut-object) c.sent-serial.ensures (gone g at.After-drop_first).serials

pub send_all-requires-clause-room : goal.send_all-requires-clause-room
send_all-requires-clause-room g c =
    let here = (goal.at.send_all-requires-clause-room g c).After-drop_first in
    let long = ap length c.as_slice.ensures in
    omega (arith, long, (gone g here).room, (sending g here).few)

pub returns-in_ok-send_all-in-Goes : goal.returns-in_ok-send_all-in-Goes
returns-in_ok-send_all-in-Goes g c =
    let at = goal.at.returns-in_ok-send_all-in-Goes g c in
    let e = c.in-Some.event.now in
    let m = g.M.Model.meaning c.args.model.now in
    let after = course_of (slice_set c.self.inside.objects.items e.key.dest c.fire.new.self) c.send_all.new.queue (c.self.inside.count + 1) in
    let D : Course → Type 0 = λ old. IsDone m c.args.terms.now old e.key c.fire.new.sheet.note after in
    let same = ap (λ (v : Course). v.count) c.self.view_is in
    subst D c.self.view_is
    (done m c.args.terms.now (course_of c.self.inside.objects.items c.self.inside.queue c.self.inside.count) after e c.drop_first.new.self.pending c.index_mut-object.result.now c.fire.new.self c.fire.new.sheet c.sent-serial.result c.as_slice.result.now
    (gone g at.After-drop_first) (omega (arith, c.requires.free)) (object g at.After-index_mut-object) (sending g at.After-drop_first) c.sent-serial.ensures c.as_slice.ensures refl c.in_ok-send_all-in-Goes.ensures.pending
    (c.in_ok-send_all-in-Goes.ensures.fresh_least ∙ ap (λ n. least_stamp n (emissions e.key.stamp e.key.dest c.sent-serial.result c.as_slice.result.now)) c.drop_first.ensures.fresh_least) refl)

pub returns-in-Fails : goal.returns-in-Fails
returns-in-Fails g c =
    let at = goal.at.returns-in-Fails g c in
    let o = object g at.After-index_mut-object in
    let e = c.in-Some.event.now in
    let m = g.M.Model.meaning c.args.model.now in
    let P : Ending → Type 0 = λ ending. IsReaction m c.index_mut-object.result.now e c.fire.new.sheet ending c.fire.new.self in
    let fails : P (Fails c.in-Fails.code) = subst P c.in-Fails.is c.in_ok-fire.ensures.ok in
    let D : Course → Type 0 = λ old. IsFailed m c.args.terms.now old e.key c.in-Fails.code in
    let same = ap (λ (v : Course). v.count) c.self.view_is in
    let objects = put_back c.self.inside.objects.items e.key.dest c.index_mut-object.result.now c.fire.new.self o fails.1 in (
      subst D c.self.view_is (failed m c.args.terms.now (course_of c.self.inside.objects.items c.self.inside.queue c.self.inside.count) e c.in-Some.ensures.some.0 c.index_mut-object.result.now c.in-Fails.code (taken g at.In-Some) (omega (arith, c.requires.free)) o fails.0),
      (λ i. record { objects = objects i; queue = c.self.inside.queue; count = c.self.inside.count }) ∙ c.self.view_is,
    )

pub unreachable-requires : goal.unreachable-requires
unreachable-requires g c =
    none_at_hand c.args.terms.now c.args.self.now c.self.inside.objects.items c.self.inside.queue c.self.inside.count c.self.view_is c.requires.due c.requires.settled c.in_default.ensures.none
