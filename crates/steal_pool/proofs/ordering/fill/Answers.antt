use Rattle.std.proofs.Common.{All, ◌<◌, ◌∷◌, ◌++◌, ◌∙◌, ap, arith, length, refl, subst, sym}
use Rattle.std.proofs.lemmas.List.Elements.{All-head}
use Rattle.steal_pool.specs.declared.task.Task.{Task}
use Rattle.steal_pool.specs.Turns.{IsDoneOf, times}
use Rattle.steal_pool.proofs.RuleLemmas.{last-part}
use Rattle.steal_pool.proofs.OrderLemmas.{filling-next, nothing-left}
use Rattle.steal_pool.proofs.ordering.fill.Goals as goal

pub loop-task-preserved-in-Some : goal.loop-task-preserved-in-Some
loop-task-preserved-in-Some g c =
    let whole = ap (λ l. c.loop-task.yielded ++ l) (sym c.in-Some.ensures.steps.0) ∙ c.loop-task.invariant.whole in
    let next = filling-next g.T.Turn.turned c.loop-task.yielded c.next.new.self.rest.items _ _ _ c.in-Some.task c.loop-task.invariant.filling whole c.requires in
    record { whole = next.0; filling = next.1 }

pub loop-task-preserved : goal.loop-task-preserved
loop-task-preserved g c =
    let whole = ap (λ l. c.loop-task.yielded ++ l) (sym c.in-Some.ensures.steps.0) ∙ c.loop-task.invariant.whole in
    let next = filling-next g.T.Turn.turned c.loop-task.yielded c.next.new.self.rest.items _ _ _ c.in-Some.task c.loop-task.invariant.filling whole c.requires in
    record { whole = next.0; filling = next.1 }

pub loop-task-init : goal.loop-task-init
loop-task-init g c = record {
  whole = c.into_iter-task-iterator.ensures.into_iter_gives.0;
  filling = record { many = refl; stay = λ number there. there; filled = λ number some. absurd (omega arith); right = λ turns before done. before };
}

pub index_mut-requires : goal.index_mut-requires
index_mut-requires g c =
    let whole = ap (λ l. c.loop-task.yielded ++ l) (sym c.in-Some.ensures.steps.0) ∙ c.loop-task.invariant.whole in
    let P : Task _ → Type 0 = λ task. task.number < length c.args.places.now.items in
    let here = All-head P c.in-Some.task c.next.new.self.rest.items (last-part P c.loop-task.yielded (c.in-Some.task ∷ c.next.new.self.rest.items) (subst (All P) (sym whole) c.requires)) in
    omega (arith, c.loop-task.places.ok.0, c.loop-task.invariant.filling.many)

pub returns-clause-many : goal.returns-clause-many
returns-clause-many g c = c.loop-task.invariant.filling.many

pub returns-clause-stay : goal.returns-clause-stay
returns-clause-stay g c number there = c.loop-task.invariant.filling.stay number there

pub returns-clause-filled : goal.returns-clause-filled
returns-clause-filled g c number some =
    let none = c.in-None.ensures.steps.0 in
    let all = nothing-left c.loop-task.yielded c.loop-task.task-iterator.rest.items c.args.tasks.items c.loop-task.invariant.whole (omega (arith, c.loop-task.task-iterator.rest.ok.0)) in
    c.loop-task.invariant.filling.filled number (subst (λ tasks. 0 < times number tasks) (sym all) some)

pub returns-clause-right : goal.returns-clause-right
returns-clause-right g c turns before done =
    let none = c.in-None.ensures.steps.0 in
    let all = nothing-left c.loop-task.yielded c.loop-task.task-iterator.rest.items c.args.tasks.items c.loop-task.invariant.whole (omega (arith, c.loop-task.task-iterator.rest.ok.0)) in
    c.loop-task.invariant.filling.right turns before (subst (All (IsDoneOf g.T.Turn.turned turns)) (sym all) done)
