-- Breaks and repairs in turn.
use Rattle.shop_laws.proofs.TurnLaw.{breaks_in_turn}
use Rattle.shop_laws.proofs.turns.law_turns.Goals as goal

pub returns : goal.returns
returns c = breaks_in_turn
