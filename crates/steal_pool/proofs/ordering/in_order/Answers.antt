use Rattle.std.proofs.Common.{All, ◌+◌, ◌<◌, ◌∷◌, ◌++◌, [], ◌∙◌, ap, append_assoc, arith, subst, sym, ⊎_elim}
use Rattle.std.specs.Prelude.{IsNone, Some, sum_by}
use Rattle.std.proofs.lemmas.List.Elements.{All-head}
use Rattle.std.proofs.lemmas.List.Sums.{sum_by_push}
use Rattle.std.proofs.lemmas.Option.{get_or_from_slice_get, slice_get_within}
use Rattle.steal_pool.specs.declared.worker.Worker.{Worker}
use Rattle.steal_pool.specs.Turns.{IsDoneOf}
use Rattle.steal_pool.specs.Workers.{done_by}
use Rattle.steal_pool.proofs.RuleLemmas.{first-part, last-part}
use Rattle.steal_pool.proofs.OrderLemmas.{nothing-left, positive, all-right}
use Rattle.steal_pool.proofs.ordering.in_order.Goals as goal

pub loop-worker-preserved : goal.loop-worker-preserved
loop-worker-preserved g c =
    let before = c.loop-worker.invariant in
    let worker = c.in-Some.worker in record {
      whole = append_assoc c.loop-worker.yielded (worker ∷ []) c.next.new.self.rest.items ∙ ap (λ l. c.loop-worker.yielded ++ l) (sym c.in-Some.ensures.steps.0) ∙ before.whole;
      many = c.fill.ensures.many ∙ before.many;
      filled = λ number some.
          let sum = sum_by_push (done_by number) c.loop-worker.yielded worker in
          let more : 0 < sum_by (done_by number) c.loop-worker.yielded + done_by number worker = omega arith in
          ⊎_elim (λ (one : 0 < sum_by (done_by number) c.loop-worker.yielded). c.fill.ensures.stay number (before.filled number one))
          (λ (other : 0 < done_by number worker). c.fill.ensures.filled number other) (positive (sum_by (done_by number) c.loop-worker.yielded) (done_by number worker) more);
      right = λ turns done.
          let P = λ (each : Worker _). All (IsDoneOf g.T.Turn.turned turns) each.done.items in
          c.fill.ensures.right turns (before.right turns (first-part P c.loop-worker.yielded (worker ∷ []) done)) (last-part P c.loop-worker.yielded (worker ∷ []) done 0 worker (omega arith));
    }

pub returns : goal.returns
returns g c turns many done =
    let before = c.loop-worker.invariant in
    let none = c.in-None.ensures.steps.0 in
    let whole = nothing-left c.loop-worker.yielded c.loop-worker.worker-iterator.rest.items c.args.workers.items before.whole (omega (arith, c.loop-worker.worker-iterator.rest.ok.0)) in
    let P = λ (each : Worker _). All (IsDoneOf g.T.Turn.turned turns) each.done.items in
    all-right g.T.Turn.turned turns c.loop-worker.places.items c.filled.result c.filled.ensures (omega (arith, before.many)) (before.right turns (subst (All P) (sym whole) done))

pub loop-worker-init : goal.loop-worker-init
loop-worker-init g c = record {
  whole = c.into_iter-worker-iterator.ensures.into_iter_gives.0;
  many = c.in_ok-places.ensures.many;
  filled = λ number some. absurd (omega arith);
  right = λ turns done number turn at.
      let places = c.in_ok-places.places.items in
      let none = c.in_ok-places.ensures.empty number (Some turn) (slice_get_within places number (Some turn) at) in
      let is : IsNone (Some turn) = subst (λ place. IsNone place) (get_or_from_slice_get places number (Some turn) (Some turn) at) none in
      absurd (let clash : ⊥ = cc in clash);
}

pub fill-requires-after_bounds : goal.fill-requires-after_bounds
fill-requires-after_bounds g c κs within =
    let before = c.loop-worker.invariant in
    let worker = c.in-Some.worker in
    let rest = c.next.new.self.rest.items in
    let whole = ap (λ l. c.loop-worker.yielded ++ l) (sym c.in-Some.ensures.steps.0) ∙ before.whole in
    let P : Worker _ → Type 0 = λ each. All (λ task. task.number < c.args.count) each.done.items in
    let here = All-head P worker rest (last-part P c.loop-worker.yielded (worker ∷ rest) (subst (All P) (sym whole) c.requires.within)) in
    subst (λ many. All (λ task. task.number < many) worker.done.items) (sym before.many) here

pub filled-requires-after_bounds : goal.filled-requires-after_bounds
filled-requires-after_bounds g c κs within number inside =
    let before = c.loop-worker.invariant in
    let none = c.in-None.ensures.steps.0 in
    let whole = nothing-left c.loop-worker.yielded c.loop-worker.worker-iterator.rest.items c.args.workers.items before.whole (omega (arith, c.loop-worker.worker-iterator.rest.ok.0)) in
    before.filled number (subst (λ workers. 0 < sum_by (done_by number) workers) (sym whole) (c.requires.all number (omega (arith, before.many))))
