use Rattle.std.proofs.Common.{All, ◌<◌, ◌∙◌, ℕ, ap, map, subst, sym}
use Rattle.std.specs.Prelude.{sum_by}
use Rattle.steal_pool.specs.Ends.{mark}
use Rattle.steal_pool.specs.Workers.{AreReady, HaveEnded, done_by, own_mark}
use Rattle.steal_pool.proofs.RunLemmas.{dealt-of, dealt-ready, done-all, done-within, same-marks}
use Rattle.steal_pool.proofs.running.run_turns.Goals as goal

pub work_together-requires-clause-ready : goal.work_together-requires-clause-ready
work_together-requires-clause-ready g c κs within =
    let deques = c.in_ok-deques.deques.items in
    let marks = ap (map own_mark) c.as_mut_slice.ensures.value ∙ c.in_ok-workers.ensures.marks_are in
    subst (AreReady g.T.Turn.ready) (sym marks) (dealt-ready g.T.Turn.ready c.args.turns.items (map mark deques) c.requires.ready (dealt-of c.args.turns.items deques c.in_ok-deques.ensures.of))

pub gather-requires-clause-ready : goal.gather-requires-clause-ready
gather-requires-clause-ready g c κs within =
    let deques = c.in_ok-deques.deques.items in
    let marks = same-marks (map mark deques) c.in_ok-workers.workers c.as_mut_slice.result.now c.work_together.new.workers c.as_mut_slice.ensures.value c.in_ok-workers.ensures.marks_are c.in_ok-work_together.ensures.marks_are in
    subst (AreReady g.T.Turn.ready) (sym marks) (dealt-ready g.T.Turn.ready c.args.turns.items (map mark deques) c.requires.ready (dealt-of c.args.turns.items deques c.in_ok-deques.ensures.of))

pub in_order-requires-clause-within : goal.in_order-requires-clause-within
in_order-requires-clause-within g c κs within =
    let deques = c.in_ok-deques.deques.items in
    let of = dealt-of c.args.turns.items deques c.in_ok-deques.ensures.of in
    let marks = same-marks (map mark deques) c.in_ok-workers.workers c.as_mut_slice.result.now c.work_together.new.workers c.as_mut_slice.ensures.value c.in_ok-workers.ensures.marks_are c.in_ok-work_together.ensures.marks_are in
    let ended = subst (λ these. HaveEnded g.T.Turn.turned these c.gather.new.workers.items) marks c.in_ok-gather.ensures in
    subst (λ many. All (λ worker. All (λ task. task.number < many) worker.done.items) c.gather.new.workers.items) (sym (c.len-count.ensures ∙ c.args.turns.ok.0))
    (done-within g.T.Turn.turned c.args.turns.items c.gather.new.workers.items (ended.of c.args.turns.items of))

pub in_order-requires-clause-all : goal.in_order-requires-clause-all
in_order-requires-clause-all g c κs within =
    let deques = c.in_ok-deques.deques.items in
    let marks = same-marks (map mark deques) c.in_ok-workers.workers c.as_mut_slice.result.now c.work_together.new.workers c.as_mut_slice.ensures.value c.in_ok-workers.ensures.marks_are c.in_ok-work_together.ensures.marks_are in
    let ended = subst (λ these. HaveEnded g.T.Turn.turned these c.gather.new.workers.items) marks c.in_ok-gather.ensures in
    subst (λ many. (number : ℕ) → number < many → 0 < sum_by (done_by number) c.gather.new.workers.items) (sym (c.len-count.ensures ∙ c.args.turns.ok.0))
    (done-all g.T.Turn.turned c.args.turns.items deques c.gather.new.workers.items ended c.in_ok-deques.ensures.once)

pub returns : goal.returns
returns g c =
    let deques = c.in_ok-deques.deques.items in
    let of = dealt-of c.args.turns.items deques c.in_ok-deques.ensures.of in
    let marks = same-marks (map mark deques) c.in_ok-workers.workers c.as_mut_slice.result.now c.work_together.new.workers c.as_mut_slice.ensures.value c.in_ok-workers.ensures.marks_are c.in_ok-work_together.ensures.marks_are in
    let ended = subst (λ these. HaveEnded g.T.Turn.turned these c.gather.new.workers.items) marks c.in_ok-gather.ensures in
    c.in_order.ensures c.args.turns.items (sym (c.len-count.ensures ∙ c.args.turns.ok.0)) (ended.of c.args.turns.items of)
