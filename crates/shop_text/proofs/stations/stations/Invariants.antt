use Rattle.std.proofs.Common.{◌≡◌, ◌+◌, drop, length}
use Rattle.std.specs.Prelude.{All}
use Rattle.toml.specs.View.{items_view}
use Rattle.text_fields.specs.Directories.{finder}
use Rattle.text_fields.specs.Fields.{each_with}
use Rattle.text_fields.proofs.Known.{with_known}
use Rattle.shop_text.specs.Ranges.{IsStationText, LinksBelow}
use Rattle.shop_text.specs.StationTexts.{station, stations}
use Rattle.shop_text.proofs.stations.stations.Given as goal

abbrev pub invariant-loop-value : goal.invariant-loop-value
invariant-loop-value l =
    record {
      count : length l.stations.items ≡ l.value-index;
      in_range : All IsStationText l.stations.items;
      links : LinksBelow l.value-index (finder l.directory);
      so_far : with_known l.stations.items (each_with station (l.value-index + 1) (finder l.directory) (items_view (drop l.value-index l.values)))
          ≡ stations (items_view l.values);
    }
