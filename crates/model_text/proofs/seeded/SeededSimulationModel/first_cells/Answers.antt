use Rattle.std.proofs.Common.{◌≡◌, ◌<◌, subst, sym}
use Rattle.std.specs.Prelude.{IfOk}
use Rattle.std.specs.Arc.{arc_value}
use Rattle.delta_exchange.specs.Changes.{CellData}
use Rattle.model_text.proofs.SeededLemmas.{alike}
use Rattle.model_text.proofs.seeded.SeededSimulationModel.first_cells.Goals as goal

pub first_cells-requires : goal.first_cells-requires
first_cells-requires c = subst (λ n. c.args.object < n) (alike c.args.self.now.seed (arc_value c.args.self.now.model) c.deref.result.now c.deref.ensures).objects c.requires

pub returns : goal.returns
returns c =
    subst (λ (first : CellData). IfOk c.first_cells.result (λ cells. cells.contents ≡ first)) (sym ((alike c.args.self.now.seed (arc_value c.args.self.now.model) c.deref.result.now c.deref.ensures).first c.args.object)) c.first_cells.ensures
