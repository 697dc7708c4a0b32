-- The share that a node stands for.
use Rattle.std.proofs.Common.{◌≡◌, ◌<◌, ◌^◌, ℕ, ◌+◌, length, subst, ap, ◌∙◌, arith}
use Rattle.std.proofs.lemmas.List.{length-map}
use Rattle.std.specs.Arc.{arc_value}
use Rattle.world_spec.specs.Share.{Share}
use Rattle.node_core.specs.Marks.{MarkView}
use Rattle.node_core.specs.Nodes.{NodeView, Stands, ahead_of, share_of}
use Rattle.node_core.specs.Shares.{IsOwnShare}
use Rattle.node_core.proofs.NodeViews.{node_of, counts_of}
use Rattle.node_core.proofs.ShareFacts.{own-only, own-size, own-stands}
use Rattle.node_core.proofs.node.Node.tells_share.Goals as goal

pub returns-clause-stands : goal.returns-clause-stands
returns-clause-stands g c =
    let i = c.self.inside in
    let v = node_of (arc_value i.model) i.terms i.number i.store.homes i.store i.work i.met (counts_of i.processed i.undone i.committed) in
    let P : NodeView g.row.M.Denot → Type 0 = λ n. Stands (g.M.Model.meaning n.model) n (share_of n) (ahead_of n) in
    subst P c.self.view_is (own-stands (g.M.Model.meaning (arc_value i.model)) v i.store.marks c.self.invariant c.tells.ensures)

pub returns-clause-only : goal.returns-clause-only
returns-clause-only g c =
    let i = c.self.inside in
    let v = node_of (arc_value i.model) i.terms i.number i.store.homes i.store i.work i.met (counts_of i.processed i.undone i.committed) in
    let P : NodeView g.row.M.Denot → Type 0 = λ n. (share : Share) (ahead : ℕ → ℕ) → Stands (g.M.Model.meaning n.model) n share ahead → IsOwnShare (g.M.Model.meaning n.model) n share ahead in
    subst P c.self.view_is (own-only (g.M.Model.meaning (arc_value i.model)) v i.store.marks c.self.invariant c.tells.ensures)

pub returns-clause-size : goal.returns-clause-size
returns-clause-size g c =
    let i = c.self.inside in
    let v = node_of (arc_value i.model) i.terms i.number i.store.homes i.store i.work i.met (counts_of i.processed i.undone i.committed) in
    let P : NodeView g.row.M.Denot → Type 0 = λ n. length n.processed + length n.waiting ≡ length (share_of n).pending in
    subst P c.self.view_is
    (ap (λ k. k + length i.store.waiting) (length-map i.store.marks (λ (k : MarkView). k.key)) ∙ own-size (g.M.Model.meaning (arc_value i.model)) v i.store.marks c.self.invariant c.tells.ensures)

pub returns-clause-few : goal.returns-clause-few
returns-clause-few g c =
    let i = c.self.inside in
    let P : NodeView g.row.M.Denot → Type 0 = λ n. length n.processed + length n.waiting < 2 ^ 60 in
    let long = length-map i.store.marks (λ (k : MarkView). k.key) in
    let few = c.tells.ensures.few in
    subst P c.self.view_is (omega arith)
