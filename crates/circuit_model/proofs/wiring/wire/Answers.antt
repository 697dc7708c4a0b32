use Rattle.circuit_model.specs.Wiring.{pins_below}
use Rattle.circuit_model.proofs.wiring.wire.Goals as goal

pub loop-number-init : goal.loop-number-init
unfolding pins_below
loop-number-init c = c.in_ok-feeds.ensures
