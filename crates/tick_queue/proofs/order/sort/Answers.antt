use Rattle.std.proofs.Common.{◌≡◌, length, sym, arith}
use Rattle.key_order.specs.Pending.{in_order}
use Rattle.tick_queue.proofs.OrderLemmas.{numbered_if, lone_order}
use Rattle.tick_queue.proofs.order.sort.Goals as goal

pub returns-then-len-eq1 : goal.returns-then-len-eq1
returns-then-len-eq1 c =
    let es = c.args.events.now.items in
    let one : length es ≡ 1 = omega (arith, c.len.ensures, c.if-len-eq1.true) in
    numbered_if c.number.result es (in_order es) c.number.new.places.items 1 (sym one) (lone_order es c.requires one) c.number.ensures
