use Rattle.std.proofs.Common.{◌≡◌, true, sym, arith}
use Rattle.std.specs.Prelude.{nat_lt}
use Rattle.std.proofs.lemmas.List.Elements.{All-from_get_or}
use Rattle.std.proofs.lemmas.List.Sums.{list_all-from_AllPass}
use Rattle.delta_exchange.specs.Changes.{line_of}
use Rattle.shop_model.proofs.standing.are_below.Goals as goal

pub returns : goal.returns
returns c =
    let values = line_of c.args.cells.now.contents c.args.line in
    sym (list_all-from_AllPass (λ value. nat_lt value c.args.bound) values
    (All-from_get_or (λ value. nat_lt value c.args.bound ≡ true) values 0
    (λ k h. c.loop-place.invariant k (omega (arith, c.line_len-place-end.ensures)))))
