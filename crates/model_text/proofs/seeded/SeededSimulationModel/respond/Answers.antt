use Rattle.std.proofs.Common.{◌<◌, subst}
use Rattle.std.specs.Prelude.{IsTrue}
use Rattle.std.specs.Arc.{arc_value}
use Rattle.model_text.proofs.SeededLemmas.{alike}
use Rattle.model_text.proofs.seeded.SeededSimulationModel.respond.Goals as goal

pub respond_under-requires-clause-object : goal.respond_under-requires-clause-object
respond_under-requires-clause-object c = subst (λ n. c.args.object < n) (alike c.args.self.now.seed (arc_value c.args.self.now.model) c.deref.result.now c.deref.ensures).objects c.requires.object

pub respond_under-requires-clause-lawful : goal.respond_under-requires-clause-lawful
respond_under-requires-clause-lawful c = subst (λ b. IsTrue b) ((alike c.args.self.now.seed (arc_value c.args.self.now.model) c.deref.result.now c.deref.ensures).lawful c.args.object c.args.cells.now.contents) c.requires.lawful
