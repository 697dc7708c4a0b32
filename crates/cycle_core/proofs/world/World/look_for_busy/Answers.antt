use Rattle.std.proofs.Common.{◌≡◌, ◌∙◌, List, ap, sym, subst}
use Rattle.std.specs.Prelude.{OnOk}
use Rattle.node_core.specs.Nodes.{NodeView}
use Rattle.cycle_core.specs.Busy.{NamesBusy}
use Rattle.cycle_core.specs.Inside.{nodes_in}
use Rattle.cycle_core.proofs.world.World.look_for_busy.Goals as goal

pub returns : goal.returns
returns g c =
    let slice : c.args.self.now.nodes ≡ c.as_slice.result.now = ap (λ v. v.nodes) (sym c.self.view_is) ∙ ap nodes_in c.in-Some.is ∙ sym c.as_slice.ensures.value in
    let B : List (NodeView _) → Type 0 = λ ns. OnOk c.find_busy.result (NamesBusy ns c.find_busy.new.busy.items) in
    subst B (sym slice) c.find_busy.ensures
