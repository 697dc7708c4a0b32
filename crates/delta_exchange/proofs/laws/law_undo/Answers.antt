use Rattle.delta_exchange.proofs.Undoing.{undoing_restores}
use Rattle.delta_exchange.proofs.laws.law_undo.Goals as goal

pub returns : goal.returns
returns c = undoing_restores
