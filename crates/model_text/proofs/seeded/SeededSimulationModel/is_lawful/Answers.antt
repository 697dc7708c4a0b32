use Rattle.std.proofs.Common.{◌<◌, subst, sym, ◌∙◌}
use Rattle.std.specs.Arc.{arc_value}
use Rattle.model_text.proofs.SeededLemmas.{alike}
use Rattle.model_text.proofs.seeded.SeededSimulationModel.is_lawful.Goals as goal

pub is_lawful-requires : goal.is_lawful-requires
is_lawful-requires c = subst (λ n. c.args.object < n) (alike c.args.self.now.seed (arc_value c.args.self.now.model) c.deref.result.now c.deref.ensures).objects c.requires

pub returns : goal.returns
returns c = c.is_lawful.ensures ∙ sym ((alike c.args.self.now.seed (arc_value c.args.self.now.model) c.deref.result.now c.deref.ensures).lawful c.args.object c.args.cells.now.contents)
