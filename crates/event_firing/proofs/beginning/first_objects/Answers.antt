-- One object more.
use Rattle.std.specs.List.{range_with_len}
use Rattle.std.proofs.Common.{map, ◌++◌, ◌∷◌, [], sym, ap, ◌∙◌, arith, List}
use Rattle.std.proofs.lemmas.List.FromFn.{map-range_with_len_more}
use Rattle.delta_exchange.specs.Changes.{CellData}
use Rattle.sim_spec.specs.Firing.{ObjectState}
use Rattle.sim_spec.specs.State.{first_object}
use Rattle.event_firing.proofs.beginning.first_objects.Goals as goal

pub loop-object-preserved : goal.loop-object-preserved
loop-object-preserved g c =
    let m = g.M.Model.meaning c.args.model.now in
    let so_far = map (first_object m) (range_with_len 0 c.loop-object.object) in
    c.in_ok-push.ensures.items
    ∙ ap (λ (xs : List ObjectState). xs ++ c.new.result ∷ []) c.loop-object.invariant
    ∙ ap (λ (o : ObjectState). so_far ++ o ∷ []) c.new.ensures
    ∙ ap (λ (cells : CellData). so_far ++ record { cells = cells; sent = 0 } ∷ []) c.in_ok-first_cells.ensures
    ∙ sym (map-range_with_len_more (first_object m) 0 c.loop-object.object c.loop-object.object (omega arith))
