use Rattle.std.proofs.Common.{◌≡◌, ◌+◌, ◌++◌, List, length}
use Rattle.std.specs.List.{flat_map, range_with_len}
use Rattle.event_key.specs.declared.key.Key.{Key}
use Rattle.model_core.specs.declared.note.Note.{Note}
use Rattle.shop_model.specs.Views.{parts_of, counted_from}
use Rattle.shop_totals.specs.Records.{told_at}
use Rattle.shop_totals.specs.ShopLines.{class_line}
use Rattle.shop_totals.specs.Summed.{SumsUp}
use Rattle.shop_totals.proofs.shop_totals.ShopTotals.put_classes.Given as goal

abbrev pub invariant-loop-number : goal.invariant-loop-number
invariant-loop-number g l =
    let form = g.F.LineForm.form l.listing.form.now in
    let p = parts_of l.listing.shop.now in
    let from = counted_from l.listing.shop.now in
    (records : List (Key × Note)) → SumsUp l.listing.shop.now l.self records
    → l.into.items ≡ l.fn.into.items
    ++ flat_map (λ class. class_line form p from l.listing.clock (told_at (length p.stations + class) records) class) (range_with_len 0 l.number)
