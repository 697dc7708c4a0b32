-- One node more has the homes.
use Rattle.std.proofs.Common.{◌≡◌, ℕ, ◌+◌, suc, sym, ap, ◌∙◌, subst, arith}
use Rattle.std.specs.Prelude.{slice_index_or, slice_set}
use Rattle.std.proofs.lemmas.Option.{slice_get-get_or}
use Rattle.node_core.specs.Homes.{HomesView}
use Rattle.node_core.specs.Moving.{KeepObjects}
use Rattle.node_core.specs.Nodes.{NodeView}
use Rattle.cycle_core.proofs.PlaceLemmas.{IsUpto, upto-all, upto-more}
use Rattle.object_moves.proofs.step.rehome.Goals as goal

pub set_homes-requires-after_bounds : goal.set_homes-requires-after_bounds
set_homes-requires-after_bounds g c κs within =
    let i = c.loop-i.i in
    let many = c.loop-i.invariant.nodes.many in
    let x = slice_index_or c.loop-i.nodes i c.index-nodes-i.result in
    let here = slice_get-get_or c.loop-i.nodes i c.index-nodes-i.result (omega arith) in
    let P : HomesView → Type 0 = λ h. KeepObjects x.number x.homes h in
    subst P (sym (c.take.ensures.value ∙ c.loop-i.invariant.homes)) (c.requires.keep i x (sym (c.loop-i.invariant.nodes.rest i (omega arith)) ∙ here))

pub loop-i-preserved : goal.loop-i-preserved
loop-i-preserved g c =
    let i = c.loop-i.i in
    let many = c.loop-i.invariant.nodes.many in
    let x = slice_index_or c.loop-i.nodes i c.index-nodes-i.result in
    let here = slice_get-get_or c.loop-i.nodes i c.index-nodes-i.result (omega arith) in
    let is : c.set_homes.new.self ≡ record x { homes = c.args.copies.now.homes } = c.set_homes.ensures ∙ ap (λ (h : HomesView). record x { homes = h }) (c.take.ensures.value ∙ c.loop-i.invariant.homes) in
    let P : ℕ → Type 0 = λ k. IsUpto (λ (x y : NodeView _). y ≡ record x { homes = c.args.copies.now.homes }) k c.args.nodes.now (slice_set c.loop-i.nodes i c.set_homes.new.self) in
    let step : suc i ≡ i + 1 = omega arith in
    record {
      nodes = subst P step (upto-more (λ x y. y ≡ record x { homes = c.args.copies.now.homes }) i c.args.nodes.now c.loop-i.nodes x c.set_homes.new.self c.loop-i.invariant.nodes here is);
      homes = c.take.ensures.same ∙ c.loop-i.invariant.homes;
      left = omega (arith, c.loop-i.invariant.left, c.take.ensures.left);
    }

pub returns-clause-nodes : goal.returns-clause-nodes
returns-clause-nodes g c =
    let many = c.loop-i.invariant.nodes.many in
    upto-all (λ x y. y ≡ record x { homes = c.args.copies.now.homes }) c.loop-i.i c.args.nodes.now c.loop-i.nodes (omega arith) c.loop-i.invariant.nodes
