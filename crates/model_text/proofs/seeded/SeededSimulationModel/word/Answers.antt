use Rattle.std.proofs.Common.{sym, ◌∙◌}
use Rattle.std.specs.Arc.{arc_value}
use Rattle.model_text.proofs.SeededLemmas.{alike}
use Rattle.model_text.proofs.seeded.SeededSimulationModel.word.Goals as goal

pub returns : goal.returns
returns c = c.word.ensures ∙ sym ((alike c.args.self.now.seed (arc_value c.args.self.now.model) c.deref.result.now c.deref.ensures).word c.args.number)
