use Rattle.std.proofs.Common.{◌≡◌, ◌<◌, List, All, map, ap, sym, subst, get_or, length, take, drop, ◌∙◌, ◌+◌, ◌++◌, arith, refl, set}
use Rattle.std.proofs.lemmas.List.{take_at, length-map}
use Rattle.std.proofs.lemmas.List.Elements.{All-set}
use Rattle.release_lanes.specs.declared.rings.RingEnd.{RingEnd}
use Rattle.release_lanes.specs.Rings.{ring_out, outline, IsNew}
use Rattle.release_lanes.specs.Woven.{IsWoven, Grows}
use Rattle.release_lanes.proofs.RingLemmas.{ends_more}
use Rattle.release_lanes.proofs.rings.new_ends.Goals as goal

pub loop-from-preserved : goal.loop-from-preserved
loop-from-preserved c =
    let ends = c.loop-from.ends.items in
    let from = c.loop-from.from in
    let mid = c.rings_to.new.ends in
    let outs = c.in_ok-outs.outs in
    let end = c.index_mut.result.now in
    let same = c.as_mut_slice.ensures.value in
    let woven = c.loop-from.invariant.0 in
    let G : List RingEnd → Type 0 = λ l. Grows (map outline l) (map ring_out outs.items) (map outline mid) in
    let grows = subst G same c.in_ok-outs.ensures.ends in
    let grown = grows.count in
    let count = woven.count in
    let before = length-map ends outline in
    let after = length-map mid outline in
    let senders = c.in_ok-outs.ensures.count ∙ ap length same in
    let ok = c.loop-from.ends.ok.0 in
    let whole : take c.loop-from.ends.len (mid ++ drop (length mid) ends) ≡ mid = take_at mid (drop (length mid) ends) c.loop-from.ends.len (omega arith) in
    let at = c.index_mut.ensures.value ∙ ap (λ l. get_or l from end) whole in
    let new : RingEnd = record { number = end.number; outs = outs; ins = end.ins } in
    let within : from < length mid = omega arith in
    let P : List RingEnd → Type 0 = λ l. IsWoven c.args.nodes (from + 1) (map outline (set l from new)) in
    let N : List RingEnd → Type 0 = λ l. All IsNew (set l from new) in
    let had : IsNew (get_or mid from end) = c.in_ok-outs.ensures.new from end within in
    let Q : RingEnd → Type 0 = λ e. IsNew e in
    let now = subst Q (sym at) had in (
      subst P (sym whole) (ends_more c.args.nodes from ends mid outs.items end new woven (omega arith) grows (omega arith) within at refl),
      subst N (sym whole) (All-set IsNew mid from new (c.in_ok-outs.ensures.outs, now.1) c.in_ok-outs.ensures.new),
    )

pub rings_to-requires : goal.rings_to-requires
rings_to-requires c = subst (All IsNew) (sym c.as_mut_slice.ensures.value) c.loop-from.invariant.1

pub index_mut-requires : goal.index_mut-requires
index_mut-requires c =
    let count = c.loop-from.invariant.0.count in
    let long = length-map c.loop-from.ends.items outline in
    let ok = c.loop-from.ends.ok.0 in
    omega arith
