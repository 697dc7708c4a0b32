-- The chain at that place has the cell at its end.
use Rattle.std.proofs.Common.{◌∷◌, ◌++◌, [], length, slice_set, ap, ◌∙◌, arith}
use Rattle.std.proofs.lemmas.List.{get_or_read}
use Rattle.cycle_core.proofs.beginning.add_at.Goals as goal

pub push_back-requires : goal.push_back-requires
push_back-requires c =
    let was = ap length (get_or_read c.args.parcels.now.items c.args.place c.index_mut.result.now c.requires.place c.index_mut.ensures.value []) in
    let few = c.requires.few in
    omega arith

pub returns : goal.returns
returns c =
    let was = get_or_read c.args.parcels.now.items c.args.place c.index_mut.result.now c.requires.place c.index_mut.ensures.value [] in
    ap (slice_set c.args.parcels.now.items c.args.place) (c.push_back.ensures ∙ ap (λ es. es ++ c.args.cell ∷ []) was)
