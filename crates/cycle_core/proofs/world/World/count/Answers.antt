use Rattle.std.proofs.Common.{ap, sym, subst}
use Rattle.sim_spec.specs.Standing.{IsCountAt}
use Rattle.cycle_core.proofs.StandingLemmas.{count-at}
use Rattle.cycle_core.proofs.world.World.count.Goals as goal

pub returns-clause-at : goal.returns-clause-at
returns-clause-at g c at there = subst (IsCountAt at) (sym (ap (λ v. v.count) c.self.view_is)) (count-at (g.M.Model.meaning) c.args.self.now at there)
