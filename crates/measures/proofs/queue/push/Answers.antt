use Rattle.std.proofs.Common.{◌∙◌, ap}
use Rattle.model_core.specs.declared.event.Event.{Event}
use Rattle.speedes_queue.proofs.SerialLemmas.{below_pushed, below_same, new_below}
use Rattle.measures.proofs.queue.push.Goals as goal

pub push-requires-clause-new_key : goal.push-requires-clause-new_key
push-requires-clause-new_key c =
    new_below c.args.serial c.reserve.new.self c.in-Ok.cell
    (below_same c.args.serial c.args.queue.now c.reserve.new.self c.requires.below c.in_ok-reserve.ensures.primary c.in_ok-reserve.ensures.fresh)
    (ap (λ (e : Event). e.key.serial) c.in-Ok.ensures.ok ∙ c.event.ensures)

pub returns : goal.returns
returns c =
    below_pushed c.args.serial c.reserve.new.self c.push.new.self c.in-Ok.cell
    (below_same c.args.serial c.args.queue.now c.reserve.new.self c.requires.below c.in_ok-reserve.ensures.primary c.in_ok-reserve.ensures.fresh)
    (ap (λ (e : Event). e.key.serial) c.in-Ok.ensures.ok ∙ c.event.ensures)
    c.push.ensures.primary c.push.ensures.fresh
