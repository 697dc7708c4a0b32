use Rattle.std.proofs.Common.{◌≡◌, ◌∙◌, arith, rules, sym}
use Rattle.std.specs.Prelude.{All}
use Rattle.std.proofs.lemmas.List.{length-set}
use Rattle.steal_pool.specs.Ends.{mark, parts}
use Rattle.steal_pool.proofs.WorkerLemmas.{at-place, can-kept, ready-kept, worked-more, worked-own}
use Rattle.steal_pool.proofs.worker.Worker.work.Goals as goal

pub loop-step-init : goal.loop-step-init
loop-step-init g c = record {
  worked = worked-own g.T.Turn.turned c.args.self.now c.empty.new.self c.empty.new.done c.in_ok-empty.ensures.deque c.in_ok-empty.ensures.does;
  count = search rules;
}

pub rob-requires-clause-part : goal.rob-requires-clause-part
rob-requires-clause-part g c κs within =
    let can = can-kept g.T.Turn.turned c.args.self.now c.loop-step.self c.loop-step.invariant.worked c.requires.can in
    let one = at-place parts (λ many. many ≡ 1) c.loop-step.self.victims.items c.other_in_round-other.result c.index_mut.result.now (omega arith) c.index_mut.ensures.value can.thief in
    omega arith

pub rob-requires-clause-ready : goal.rob-requires-clause-ready
rob-requires-clause-ready g c κs within =
    let all = ready-kept g.T.Turn.turned g.T.Turn.ready c.args.self.now c.loop-step.self c.loop-step.invariant.worked c.requires.ready in
    at-place mark (λ one. All (λ task. g.T.Turn.ready task.turn) one.put) c.loop-step.self.victims.items c.other_in_round-other.result c.index_mut.result.now (omega arith) c.index_mut.ensures.value all.others

pub loop-step-preserved : goal.loop-step-preserved
loop-step-preserved g c = record {
  worked = worked-more g.T.Turn.turned c.args.self.now c.loop-step.self c.other_in_round-other.result c.index_mut.result.now c.rob.new.self c.rob.new.done c.loop-step.invariant.worked (omega arith) c.index_mut.ensures.value
      c.in_ok-rob.ensures.deque c.in_ok-rob.ensures.does;
  count = c.loop-step.invariant.count ∙ sym (length-set c.loop-step.self.victims.items c.other_in_round-other.result c.rob.new.self);
}
