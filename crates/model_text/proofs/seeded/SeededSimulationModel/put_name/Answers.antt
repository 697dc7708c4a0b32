use Rattle.std.proofs.Common.{◌≡◌, ◌<◌, ◌++◌, ℕ, List, subst, sym}
use Rattle.std.specs.Prelude.{OnOk}
use Rattle.std.specs.Arc.{arc_value}
use Rattle.model_text.proofs.SeededLemmas.{alike}
use Rattle.model_text.proofs.seeded.SeededSimulationModel.put_name.Goals as goal

pub put_name-requires : goal.put_name-requires
put_name-requires c = subst (λ n. c.args.object < n) (alike c.args.self.now.seed (arc_value c.args.self.now.model) c.deref.result.now c.deref.ensures).objects c.requires

pub returns-clause-ok : goal.returns-clause-ok
returns-clause-ok c =
    subst (λ (name : List ℕ). OnOk c.put_name.result (c.put_name.new.into.items ≡ c.args.into.now.items ++ name)) (sym ((alike c.args.self.now.seed (arc_value c.args.self.now.model) c.deref.result.now c.deref.ensures).label c.args.object)) c.put_name.ensures.ok
