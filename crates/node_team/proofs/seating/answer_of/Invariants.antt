use Rattle.std.proofs.Common.{take}
use Rattle.std.specs.Prelude.{All, IsOk}
use Rattle.node_team.proofs.seating.answer_of.Given as goal

abbrev pub invariant-loop-seated : goal.invariant-loop-seated
invariant-loop-seated g l = All (λ seated. IsOk seated.answer) (take l.seated-index l.all)
