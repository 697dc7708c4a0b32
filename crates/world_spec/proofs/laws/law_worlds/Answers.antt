-- The premises are never vacuous.
use Rattle.world_spec.proofs.ClosesLaw.{closes_law}
use Rattle.world_spec.proofs.EndsLaw.{ends_law}
use Rattle.world_spec.proofs.WorldsLaw.{placement_law, worlds_law}
use Rattle.world_spec.proofs.laws.law_worlds.Goals as goal

pub returns-clause-worlds : goal.returns-clause-worlds
returns-clause-worlds g c = worlds_law (g.M.Model.meaning c.args.model.now) c.args.terms.now

pub returns-clause-closes : goal.returns-clause-closes
returns-clause-closes g c = closes_law (g.M.Model.meaning c.args.model.now) c.args.terms.now

pub returns-clause-ends : goal.returns-clause-ends
returns-clause-ends g c = ends_law (g.M.Model.meaning c.args.model.now) c.args.terms.now c.keeps_laws.ensures

pub returns-clause-placed : goal.returns-clause-placed
returns-clause-placed g c = placement_law
