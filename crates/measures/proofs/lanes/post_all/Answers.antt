use Rattle.std.proofs.Common.{◌<◌, length, sym, ap, subst, refl, ◌∙◌, arith}
use Rattle.std.proofs.lemmas.List.{get_or-set_other, get_or_default}
use Rattle.std.proofs.lemmas.List.Elements.{length_all_zip}
use Rattle.release_lanes.proofs.Numbers.{AllZip-first, AllZip-set, numbered_length, numbered_at}
use Rattle.measures.proofs.lanes.post_all.Goals as goal

pub loop-from-init : goal.loop-from-init
loop-from-init g c =
    let met = g.met.E.NodeEnd g.world.𝓛 g.world.𝓜 g.world.𝓡 ((λ s x. x), (λ x. x), (λ x. x), λ x. x) in
    (AllZip-first g.E.NodeEnd.is_same met.same_first c.args.ends.now.items, λ k d above. refl)

pub index_mut-requires : goal.index_mut-requires
index_mut-requires g c =
    let long = numbered_length g.E.NodeEnd.number c.args.ends.now.items c.args.nodes c.requires.numbers in
    let same = length_all_zip g.E.NodeEnd.is_same c.args.ends.now.items c.loop-from.ends.items c.loop-from.invariant.0 in
    omega (arith, c.loop-from.ends.ok.0)

pub post_to_all-requires-clause-number : goal.post_to_all-requires-clause-number
post_to_all-requires-clause-number g c κs within =
    let e = c.index_mut.result.now in
    ap g.E.NodeEnd.number (c.index_mut.ensures.value ∙ c.loop-from.invariant.1 c.loop-from.from e (omega arith))
    ∙ numbered_at g.E.NodeEnd.number c.args.ends.now.items c.args.nodes c.loop-from.from e c.requires.numbers (omega arith)

pub post_to_all-requires-clause-nodes : goal.post_to_all-requires-clause-nodes
post_to_all-requires-clause-nodes g c κs within =
    let e = c.index_mut.result.now in
    let long = numbered_length g.E.NodeEnd.number c.args.ends.now.items c.args.nodes c.requires.numbers in
    ap g.E.NodeEnd.nodes (c.index_mut.ensures.value ∙ c.loop-from.invariant.1 c.loop-from.from e (omega arith))
    ∙ c.requires.nodes c.loop-from.from e (omega arith)

pub post_to_all-requires-clause-free : goal.post_to_all-requires-clause-free
post_to_all-requires-clause-free g c κs within = λ to less.
    let e = c.index_mut.result.now in
    let long = numbered_length g.E.NodeEnd.number c.args.ends.now.items c.args.nodes c.requires.numbers in
    let P : g.row.E.Denot → Type 0 = λ x. g.E.NodeEnd.is_free x to in
    subst P (sym (c.index_mut.ensures.value ∙ c.loop-from.invariant.1 c.loop-from.from e (omega arith)))
    (c.requires.free c.loop-from.from e (omega arith) to less)

pub loop-from-preserved : goal.loop-from-preserved
loop-from-preserved g c =
    let e = c.index_mut.result.now in
    let from = c.loop-from.from in
    let new = c.post_to_all.new.end in
    let ends = c.args.ends.now.items in
    let long = numbered_length g.E.NodeEnd.number ends c.args.nodes c.requires.numbers in
    let within : from < length ends = omega arith in
    let P : g.row.E.Denot → Type 0 = λ x. g.E.NodeEnd.is_same x new in (
      AllZip-set g.E.NodeEnd.is_same ends c.loop-from.ends.items from new c.loop-from.invariant.0
          (subst P (c.index_mut.ensures.value ∙ c.loop-from.invariant.1 from e (omega arith) ∙ get_or_default ends from e new within) c.post_to_all.ensures),
      λ k d above. get_or-set_other c.loop-from.ends.items from k new d (λ same. absurd (omega arith)) ∙ c.loop-from.invariant.1 k d (omega arith),
    )
