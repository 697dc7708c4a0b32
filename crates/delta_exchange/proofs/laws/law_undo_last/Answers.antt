use Rattle.delta_exchange.proofs.Undoing.{undoing_the_last_restores}
use Rattle.delta_exchange.proofs.laws.law_undo_last.Goals as goal

pub returns : goal.returns
returns c = undoing_the_last_restores
