-- Each node is small.
use Rattle.std.proofs.Common.{◌≡◌, ap, sym, ◌∙◌, subst, arith}
use Rattle.cycle_core.specs.Inside.{nodes_in}
use Rattle.cycle_core.specs.Known.{AreKnown}
use Rattle.cycle_core.specs.Works.{AreSmall}
use Rattle.cycle_core.proofs.WorldLemmas.{all-small}
use Rattle.cycle_core.proofs.world.World.processed.Goals as goal

pub processed_at-requires-clause-few : goal.processed_at-requires-clause-few
processed_at-requires-clause-few g c κs within =
    let slice : c.args.self.now.nodes ≡ c.as_slice-nodes.result.now = ap (λ w. w.nodes) (sym c.self.view_is) ∙ ap nodes_in c.in-Some.is ∙ sym c.as_slice-nodes.ensures.value in
    let known = subst (AreKnown (g.M.Model.meaning)) (sym slice) (λ place x at. c.know_all.ensures place x at) in
    let small = subst (AreSmall (g.M.Model.meaning)) slice (all-small (g.M.Model.meaning) c.args.self.now c.requires.0 c.requires.1 known) in
    λ place x at. (let few = (small place x at).few in omega arith)
