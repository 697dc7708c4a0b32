-- The first event is below the horizon, or nothing is.
use Rattle.std.proofs.Common.{refl, sym, ap, ◌∙◌, arith}
use Rattle.one_thread.specs.Engines.{Course}
use Rattle.one_thread.proofs.TurnLemmas.{horizon_read, starts_read, none_read, nothing_due, late_due, is_due, is_full}
use Rattle.one_thread.proofs.course.Course.turn.Goals as goal

pub returns-in_default : goal.returns-in_default
returns-in_default g c = (
  (
    horizon_read c.args.terms.now c.args.self.now c.self.inside.objects.items c.self.inside.queue c.self.inside.count _ _ _ c.self.view_is c.min-horizon.ensures c.fresh_least.ensures c.end_bound.ensures,
    nothing_due c.min-horizon.result c.args.self.now.queue.pending
        (none_read c.args.self.now c.self.inside.objects.items c.self.inside.queue c.self.inside.count c.self.view_is c.in_default.ensures.none c.requires.settled),
  ),
  refl,
)

pub returns-then-event-horizon : goal.returns-then-event-horizon
returns-then-event-horizon g c = (
  (
    horizon_read c.args.terms.now c.args.self.now c.self.inside.objects.items c.self.inside.queue c.self.inside.count _ _ _ c.self.view_is c.min-horizon.ensures c.fresh_least.ensures c.end_bound.ensures,
    late_due c.min-horizon.result c.args.self.now.queue.pending c.in-Some.event.now
        (starts_read c.args.self.now c.self.inside.objects.items c.self.inside.queue c.self.inside.count c.in-Some.event.now c.self.view_is c.in-Some.ensures.some) c.if-event-horizon.true,
  ),
  refl,
)

pub returns-then-self-terms : goal.returns-then-self-terms
returns-then-self-terms g c =
    let h = horizon_read c.args.terms.now c.args.self.now c.self.inside.objects.items c.self.inside.queue c.self.inside.count _ _ _ c.self.view_is c.min-horizon.ensures c.fresh_least.ensures c.end_bound.ensures in (
      is_full c.args.terms.now c.args.self.now
          (is_due c.args.terms.now c.args.self.now c.min-horizon.result c.in-Some.event.now h
          (starts_read c.args.self.now c.self.inside.objects.items c.self.inside.queue c.self.inside.count c.in-Some.event.now c.self.view_is c.in-Some.ensures.some) (omega arith))
          (sym (ap (λ (v : Course). v.count) c.self.view_is) ∙ c.if-self-terms.true),
      refl,
    )

pub fire-requires-after_bounds : goal.fire-requires-after_bounds
fire-requires-after_bounds g c lives lasts =
    let h = horizon_read c.args.terms.now c.args.self.now c.self.inside.objects.items c.self.inside.queue c.self.inside.count _ _ _ c.self.view_is c.min-horizon.ensures c.fresh_least.ensures c.end_bound.ensures in
    record {
      lawful = c.requires.lawful;
      settled = c.requires.settled;
      due = is_due c.args.terms.now c.args.self.now c.min-horizon.result c.in-Some.event.now h
          (starts_read c.args.self.now c.self.inside.objects.items c.self.inside.queue c.self.inside.count c.in-Some.event.now c.self.view_is c.in-Some.ensures.some) (omega arith);
      free = (let count = ap (λ (v : Course). v.count) c.self.view_is in let few = c.requires.lawful.count in omega arith);
    }
