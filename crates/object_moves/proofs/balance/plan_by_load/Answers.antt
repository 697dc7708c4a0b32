-- The plan is one move or none.
use Rattle.std.proofs.Common.{inl, inr, ◌++◌, [], ◌∷◌, ℕ, List, sym, ap, ◌∙◌, subst, arith}
use Rattle.std.specs.Prelude.{Option, Some, None}
use Rattle.std.specs.List.{AllByRecursion}
use Rattle.std.proofs.lemmas.Option.{slice_get_within}
use Rattle.node_core.specs.Homes.{HomesView, IsLeastObject, objects_of}
use Rattle.node_core.specs.Nodes.{NodeView}
use Rattle.cycle_core.proofs.PlaceLemmas.{same-some}
use Rattle.object_moves.specs.declared.moves.Move.{Move}
use Rattle.object_moves.specs.Loads.{load}
use Rattle.object_moves.specs.Moves.{Exists}
use Rattle.object_moves.proofs.LoadLemmas.{no_plan, some-object}
use Rattle.object_moves.proofs.balance.plan_by_load.Goals as goal

pub returns-then-more-lt2 : goal.returns-then-more-lt2
returns-then-more-lt2 g c =
    let w = c.args.world.now in
    let full = ap (λ (n : NodeView g.row.M.Denot). load n) (same-some c.fullest.ensures.node c.node-from.result.now (sym c.fullest.ensures.at ∙ c.node-from.ensures)) in
    let empty = ap (λ (n : NodeView g.row.M.Denot). load n) (same-some c.emptiest-node.ensures.node c.node.result.now (sym c.emptiest-node.ensures.at ∙ c.node.ensures)) in
    let a = c.pending.ensures in let b = c.pending-2.ensures in let d = c.saturating_sub-more.ensures in let low = c.if-more-lt2.true in
    no_plan w c.fullest.result c.emptiest-node.result c.new.result.items c.fullest.ensures c.emptiest-node.ensures c.new.ensures.items (λ more two. omega arith)

pub returns-then-objects-lt2 : goal.returns-then-objects-lt2
returns-then-objects-lt2 g c =
    let w = c.args.world.now in
    let is = c.requires.nodes.each c.fullest.result c.node-from.result.now c.node-from.ensures in
    let at = c.objects.ensures ∙ (λ i. objects_of (is.homes_is i) (is.number_is i)) in
    let low = c.if-objects-lt2.true in
    no_plan w c.fullest.result c.emptiest-node.result c.new-then-objects-lt2.result.items c.fullest.ensures c.emptiest-node.ensures c.new-then-objects-lt2.ensures.items (λ more two. omega arith)

pub unreachable-requires : goal.unreachable-requires
unreachable-requires g c =
    let n = c.node-from.result.now in
    let P : Option ℕ → Type 0 = λ o. IsLeastObject n.homes n.number o in
    let none : P None = subst P c.in_default.is c.least_object.ensures in
    some-object n.homes n.number none (let two = c.if-objects-lt2.false in let at = c.objects.ensures in omega arith)

pub returns : goal.returns
returns g c =
    let w = c.args.world.now in
    let n = c.node-from.result.now in
    let is = c.requires.nodes.each c.fullest.result n c.node-from.ensures in
    let at = c.objects.ensures ∙ (λ i. objects_of (is.homes_is i) (is.number_is i)) in
    let full = ap (λ (n : NodeView g.row.M.Denot). load n) (same-some c.fullest.ensures.node n (sym c.fullest.ensures.at ∙ c.node-from.ensures)) in
    let empty = ap (λ (n : NodeView g.row.M.Denot). load n) (same-some c.emptiest-node.ensures.node c.node.result.now (sym c.emptiest-node.ensures.at ∙ c.node.ensures)) in
    let a = c.pending.ensures in let b = c.pending-2.ensures in let d = c.saturating_sub-more.ensures in let high = c.if-more-lt2.false in let two = c.if-objects-lt2.false in
    let P : Option ℕ → Type 0 = λ o. IsLeastObject n.homes n.number o in
    let some : P (Some c.in-Some.object) = subst P c.in-Some.is c.least_object.ensures in
    let H : HomesView → Type 0 = λ h. IsLeastObject h n.number (Some c.in-Some.object) in
    let N : ℕ → Type 0 = λ k. IsLeastObject w.homes k (Some c.in-Some.object) in
    let least : N c.fullest.result = subst N is.number_is (subst H is.homes_is some) in
    let move : Move = record { object = c.in-Some.object; node = c.emptiest-node.result } in
    let planned = c.in_ok-push.ensures.items ∙ ap (λ (xs : List Move). xs ++ move ∷ []) c.new-plan.ensures.items in
    let there = slice_get_within w.nodes c.emptiest-node.result c.emptiest-node.ensures.node c.emptiest-node.ensures.at in
    let many = c.requires.nodes.many in
    let E : List Move → Type 0 = AllByRecursion (Exists w.homes) in
    record {
      full = c.fullest.result;
      empty = c.emptiest-node.result;
      full_is = c.fullest.ensures;
      empty_is = c.emptiest-node.ensures;
      none = λ so. absurd (elim so [ inl few ↦ omega arith | inr lone ↦ omega arith ]);
      one = λ more both. (c.in-Some.object, least, planned);
      exist = subst E (sym planned) ((least.0, omega arith), tt);
    }
