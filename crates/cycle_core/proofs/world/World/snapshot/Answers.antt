-- What was read out of the nodes is the state for which the world stands.
use Rattle.std.proofs.Common.{◌≡◌, ◌∙◌, List, length, sym, ap, subst, arith, refl}
use Rattle.std.proofs.lemmas.List.{with_items_is}
use Rattle.std.proofs.lemmas.Result.{IfOk-weaker}
use Rattle.node_core.specs.Homes.{HomesView}
use Rattle.node_core.specs.Nodes.{NodeView}
use Rattle.cycle_core.specs.Inside.{nodes_in}
use Rattle.cycle_core.specs.Snapshots.{AreRead, CanBeRead, IsReadOf}
use Rattle.cycle_core.specs.Worlds.{StandsAt, WorldView}
use Rattle.cycle_core.proofs.SnapshotLemmas.{can-be-read, read-stands, read-state}
use Rattle.cycle_core.proofs.ChangedNodes.{nodes-alone}
use Rattle.cycle_core.proofs.world.World.snapshot.Goals as goal

pub unreachable-requires : goal.unreachable-requires
unreachable-requires g c =
    let none : length c.args.self.now.nodes ≡ 0 = ap (λ w. length w.nodes) (sym c.self.view_is) ∙ ap (λ o. length (nodes_in o)) c.in_default.is in
    let some = c.requires.1.has.nodes.some in
    omega arith

pub state_of-requires-after_bounds : goal.state_of-requires-after_bounds
state_of-requires-after_bounds g c lifetimes outlives =
    let of = g.M.Model.meaning in
    let w : WorldView _ = record { model = c.self.inside.model.value; terms = c.self.inside.terms; homes = c.self.inside.homes.value; nodes = nodes_in c.self.inside.nodes; count = c.self.inside.count; fault = c.self.inside.fault; is_spent = c.self.inside.is_spent } in
    let slice : w.nodes ≡ c.as_mut_slice-nodes.result.now = ap nodes_in c.in-Some.is ∙ sym c.as_mut_slice-nodes.ensures.value in
    let here = subst (λ v. StandsAt (of v.model) v c.requires.0) (sym c.self.view_is) c.requires.1 in
    let can = subst (CanBeRead of w.model w.homes) slice (can-be-read of w c.requires.0 here) in
    let H : HomesView → Type 0 = λ h. CanBeRead of c.deref.result.now h c.as_mut_slice-nodes.result.now in
    subst H (sym c.deref-2.ensures) (subst (λ v. CanBeRead of v w.homes c.as_mut_slice-nodes.result.now) (sym c.deref.ensures) can)

pub returns-clause-state : goal.returns-clause-state
returns-clause-state g c s st =
    let of = g.M.Model.meaning in
    let w : WorldView _ = record { model = c.self.inside.model.value; terms = c.self.inside.terms; homes = c.self.inside.homes.value; nodes = nodes_in c.self.inside.nodes; count = c.self.inside.count; fault = c.self.inside.fault; is_spent = c.self.inside.is_spent } in
    let slice : w.nodes ≡ c.as_mut_slice-nodes.result.now = ap nodes_in c.in-Some.is ∙ sym c.as_mut_slice-nodes.ensures.value in
    let here = subst (λ v. StandsAt (of v.model) v s) (sym c.self.view_is) st in
    let now = c.state_of.new.nodes in
    IfOk-weaker c.state_of.result (IsReadOf of c.deref.result.now c.deref-2.result.now w.count c.as_mut_slice-nodes.result.now now) (λ state. state ≡ s)
    (λ state is.
    (let at_homes = subst (λ h. IsReadOf of c.deref.result.now h w.count c.as_mut_slice-nodes.result.now now state) c.deref-2.ensures is in
    let at_model = subst (λ v. IsReadOf of v w.homes w.count c.as_mut_slice-nodes.result.now now state) c.deref.ensures at_homes in
    read-state of w s here now state (subst (λ ns. IsReadOf of w.model w.homes w.count ns now state) (sym slice) at_model)))
    c.state_of.ensures.state

pub returns-clause-stands : goal.returns-clause-stands
returns-clause-stands g c s st =
    let of = g.M.Model.meaning in
    let w : WorldView _ = record { model = c.self.inside.model.value; terms = c.self.inside.terms; homes = c.self.inside.homes.value; nodes = nodes_in c.self.inside.nodes; count = c.self.inside.count; fault = c.self.inside.fault; is_spent = c.self.inside.is_spent } in
    let slice : w.nodes ≡ c.as_mut_slice-nodes.result.now = ap nodes_in c.in-Some.is ∙ sym c.as_mut_slice-nodes.ensures.value in
    let here = subst (λ v. StandsAt (of v.model) v s) (sym c.self.view_is) st in
    let now = c.state_of.new.nodes in
    let read = subst (λ ns. AreRead of ns now) (sym slice) c.state_of.ensures.read in
    let P : List (NodeView _) → Type 0 = λ ns. StandsAt (of w.model) (record w { nodes = ns }) s in
    subst P (sym (with_items_is c.in-Some.nodes now (read.same.many ∙ read.undone.many ∙ ap length (slice ∙ c.as_mut_slice-nodes.ensures.value) ∙ sym c.in-Some.nodes.ok.0)))
    (read-stands of w s here now read)

pub returns-clause-world : goal.returns-clause-world
returns-clause-world g c = nodes-alone c.args.self.now _ _ _ c.self.view_is refl
