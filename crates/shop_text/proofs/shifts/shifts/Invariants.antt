use Rattle.std.proofs.Common.{◌≡◌, ◌<◌, drop, length}
use Rattle.std.specs.Prelude.{All, AllPairs}
use Rattle.toml.specs.View.{items_view}
use Rattle.shop_model.specs.declared.station.Shift.{Shift}
use Rattle.text_fields.specs.Fields.{each_with}
use Rattle.text_fields.proofs.Known.{with_known}
use Rattle.shop_text.specs.Ranges.{IsShift}
use Rattle.shop_text.specs.StationTexts.{shift, shifts_from}
use Rattle.shop_text.proofs.shifts.shifts.Given as goal

abbrev pub invariant-loop-value : goal.invariant-loop-value
invariant-loop-value l =
    record {
      count : length l.shifts.items ≡ l.value-index;
      in_range : All IsShift l.shifts.items;
      rising : AllPairs (λ (a b : Shift). a.at < b.at) l.shifts.items;
      before : All (λ (shift : Shift). shift.at < l.next) l.shifts.items;
      so_far : with_known l.shifts.items (each_with (λ k. shift l.item) l.value-index l.next (items_view (drop l.value-index l.values)))
          ≡ shifts_from l.item (items_view l.values);
    }
