use Rattle.std.proofs.Common.{ℕ, ◌<◌, [], List, length, get_or, slice_index, sym, subst, refl, arith}
use Rattle.std.proofs.lemmas.List.{get_or-map, length-map}
use Rattle.std.proofs.lemmas.List.Elements.{All-map}
use Rattle.rtrb.specs.Ring.{known_free}
use Rattle.release_lanes.specs.Rings.{free_row}
use Rattle.release_lanes.proofs.RingEnds.{woven_outs}
use Rattle.release_lanes.proofs.rings.free.Goals as goal

pub returns-then-knows_free-clause-free : goal.returns-then-knows_free-clause-free
returns-then-knows_free-clause-free c = λ to less.
    let ends = c.args.ends.now in
    let inside = c.requires.within in
    let end = get_or ends c.args.from c.index-ends-from.result in
    let row = get_or-map free_row ends c.args.from c.index-ends-from.result [] inside in
    let wide = woven_outs (length ends) ends c.args.from c.index-ends-from.result c.requires.connected.woven inside in
    let free = All-map (λ (n : ℕ). 0 < n) known_free end.outs.items (c.if-knows_free.ensures.0 refl) to 0 (omega (arith, length-map end.outs.items known_free)) in
    let P : List ℕ → Type 0 = λ r. 0 < slice_index r to in
    subst P (sym row) free
