use Rattle.std.proofs.Common.{◌≡◌, ◌∙◌, ◌≤◌, [], length, replicate, ap, sym, refl}
use Rattle.std.proofs.lemmas.List.Elements.{All-nil}
use Rattle.shop_model.specs.Views.{parts_of, counted_from}
use Rattle.shop_totals.specs.Summed.{SumsUpClass}
use Rattle.shop_totals.specs.Sums.{class_sums_of}
use Rattle.shop_totals.specs.Told.{TimedPart}
use Rattle.shop_totals.proofs.ShopLemmas.{shop-new}
use Rattle.shop_totals.proofs.shop_totals.ShopTotalsTallyShop.new.Goals as goal

pub returns : goal.returns
returns c =
    let p = parts_of c.args.model.now in
    let first = counted_from c.args.model.now in
    let none = c.new-none.result in
    let many : length c.classes.result.now ≡ length p.classes = ap length c.classes.ensures in
    let is_first = c.new-none.ensures.first ∙ c.counted_from.ensures in
    let sums : SumsUpClass first [] 0 none = record {
      since = is_first;
      by = All-nil (λ (one : TimedPart). one.time ≤ none.clock);
      sums = c.new-none.ensures.sums ∙ ap (λ first. class_sums_of first [] 0) c.counted_from.ensures ∙ ap (λ clock. class_sums_of first [] clock) (sym c.new-none.ensures.clock);
      within = c.new-none.ensures.within;
    } in
    shop-new p first (record { stations = c.in_ok-stations.stations; classes = c.in_ok-classes.classes; last = 0 }) none c.in_ok-stations.ensures
    (c.in_ok-classes.ensures.items_if_clones_equal (λ y same. same) ∙ ap (λ n. replicate n none) many)
    sums c.new-none.ensures.clock refl
