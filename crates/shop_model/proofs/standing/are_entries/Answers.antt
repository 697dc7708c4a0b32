use Rattle.std.proofs.Common.{◌≡◌, true, sym, arith}
use Rattle.std.proofs.lemmas.List.Elements.{All-from_get_or}
use Rattle.std.proofs.lemmas.List.Sums.{list_all-from_AllPass}
use Rattle.delta_exchange.specs.Changes.{line_of}
use Rattle.shop_model.specs.Stations.{is_entry}
use Rattle.shop_model.proofs.standing.are_entries.Goals as goal

pub returns : goal.returns
returns c =
    let jobs = line_of c.args.cells.now.contents c.args.line in
    sym (list_all-from_AllPass (λ a. is_entry c.args.object c.args.routes.now a) jobs
    (All-from_get_or (λ a. is_entry c.args.object c.args.routes.now a ≡ true) jobs 0
    (λ k h. c.loop-place.invariant k (omega (arith, c.line_len-place-end.ensures)))))
