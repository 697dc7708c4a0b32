-- An object's part of a bucket is its own replay.
use Rattle.sim_spec.proofs.ObjectsLaw.{objects_law}
use Rattle.sim_spec.proofs.laws.law_objects.Goals as goal

pub returns : goal.returns
returns g c = objects_law (g.M.Model.meaning c.args.model.now) c.args.terms.now
