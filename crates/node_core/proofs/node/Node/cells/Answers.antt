-- What the store has.
use Rattle.std.proofs.Common.{sym, ap, ◌∙◌, subst}
use Rattle.world_spec.specs.Share.{IsHome}
use Rattle.node_core.specs.Nodes.{NodeView, home, log_at}
use Rattle.node_core.proofs.node.Node.cells.Goals as goal

pub cells-requires : goal.cells-requires
cells-requires g c =
    let H : NodeView g.row.M.Denot → Type 0 = λ n. IsHome (g.M.Model.meaning n.model) (home n) n.number c.args.object in
    c.self.invariant.here c.args.object (subst H (sym c.self.view_is) c.requires)

pub returns : goal.returns
returns g c = c.cells.ensures ∙ ap (λ (n : NodeView g.row.M.Denot). (log_at n.logs c.args.object).state.cells) c.self.view_is
