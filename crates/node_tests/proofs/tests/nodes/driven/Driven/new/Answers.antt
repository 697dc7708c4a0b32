-- A new node.
use Rattle.std.proofs.Common.{List, sym, ◌∙◌, subst}
use Rattle.event_key.specs.declared.key.Key.{Key}
use Rattle.node_core.specs.Calls.{IsNewNode}
use Rattle.node_tests.specs.Drives.{IsDriven}
use Rattle.node_tests.proofs.DriveFacts.{driven-new}
use Rattle.node_tests.proofs.tests.nodes.driven.Driven.new.Goals as goal

pub invariant_of-result : goal.invariant_of-result
invariant_of-result g c =
    let node = c.in_ok-node.node in
    let N : g.row.M.Denot → Type 0 = λ model. IsNewNode (g.M.Model.meaning model) node in
    let new = subst N (sym c.in_ok-node.ensures.model) c.in_ok-node.ensures.new in
    let driven = driven-new (g.M.Model.meaning node.model) node new c.tells_keys.ensures in
    let D : List Key → Type 0 = λ keys. IsDriven (g.M.Model.meaning node.model) node keys 0 in
    (c.in_ok-node.ensures.homes ∙ c.in_ok-shared.ensures.cases, subst D (sym c.new-5.ensures.items) driven)
