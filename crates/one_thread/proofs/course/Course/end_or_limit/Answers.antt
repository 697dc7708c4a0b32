-- The first pending event says what comes next.
use Rattle.std.proofs.Common.{arith, sym, ap, ◌∙◌}
use Rattle.one_thread.specs.Engines.{Course, state_of}
use Rattle.sim_spec.proofs.NextLemmas.{stops-none, stops-late, stops-full, goes-on}
use Rattle.one_thread.proofs.TurnLemmas.{first_read, no_first}
use Rattle.one_thread.proofs.course.Course.end_or_limit.Goals as goal

pub returns-in_default : goal.returns-in_default
returns-in_default g c =
    stops-none (g.M.Model.meaning c.args.model.now) c.args.terms.now (state_of c.args.self.now)
    (no_first c.args.self.now c.self.inside.objects.items c.self.inside.queue c.self.inside.count c.self.view_is c.in_default.ensures.none c.requires)

pub returns-then-event-end_bound : goal.returns-then-event-end_bound
returns-then-event-end_bound g c =
    stops-late (g.M.Model.meaning c.args.model.now) c.args.terms.now (state_of c.args.self.now) c.in-Some.event.now.key
    (first_read c.args.self.now c.self.inside.objects.items c.self.inside.queue c.self.inside.count c.in-Some.event.now c.self.view_is c.in-Some.ensures.some)
    (omega (arith, c.end_bound.ensures))

pub returns-then-self-terms : goal.returns-then-self-terms
returns-then-self-terms g c =
    stops-full (g.M.Model.meaning c.args.model.now) c.args.terms.now (state_of c.args.self.now) c.in-Some.event.now.key
    (first_read c.args.self.now c.self.inside.objects.items c.self.inside.queue c.self.inside.count c.in-Some.event.now c.self.view_is c.in-Some.ensures.some)
    (omega (arith, c.end_bound.ensures)) (sym (ap (λ (v : Course). v.count) c.self.view_is) ∙ c.if-self-terms.true)

pub returns : goal.returns
returns g c =
    goes-on (g.M.Model.meaning c.args.model.now) c.args.terms.now (state_of c.args.self.now) c.in-Some.event.now.key
    (first_read c.args.self.now c.self.inside.objects.items c.self.inside.queue c.self.inside.count c.in-Some.event.now c.self.view_is c.in-Some.ensures.some)
    (omega (arith, c.end_bound.ensures)) (λ full. c.if-self-terms.false (ap (λ (v : Course). v.count) c.self.view_is ∙ full))
