use Rattle.std.proofs.Common.{All, arith, subst}
use Rattle.std.specs.Prelude.{IsOk}
use Rattle.std.proofs.lemmas.List.{take_all}
use Rattle.node_team.proofs.seating.answer_of.Goals as goal

pub returns : goal.returns
returns g c = subst (All (λ seated. IsOk seated.answer)) (take_all c.loop-seated.seated-index c.args.all.now (omega arith)) c.loop-seated.invariant
