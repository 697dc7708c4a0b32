use Rattle.std.proofs.Common.{◌<◌, subst, sym, ◌∙◌}
use Rattle.std.specs.Arc.{arc_value}
use Rattle.model_text.proofs.SeededLemmas.{alike}
use Rattle.model_text.proofs.seeded.SeededSimulationModel.start.Goals as goal

pub start-requires : goal.start-requires
start-requires c = subst (λ n. c.args.i < n) (alike c.args.self.now.seed (arc_value c.args.self.now.model) c.deref.result.now c.deref.ensures).starts c.requires

pub returns : goal.returns
returns c = c.start.ensures ∙ sym ((alike c.args.self.now.seed (arc_value c.args.self.now.model) c.deref.result.now c.deref.ensures).start_at c.args.i)
