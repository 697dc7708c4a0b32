use Rattle.tick_queue.proofs.FirstLemmas.{first_is, small_too}
use Rattle.tick_queue.proofs.digits.first_tick.Goals as goal

pub returns : goal.returns
returns c = λ t at. first_is c.args.now c.args.slot t at (small_too c.args.now c.args.slot c.requires.some.0 t c.requires.slot c.requires.some.2 c.requires.some.1 at)
