use Rattle.std.proofs.Common.{◌≡◌, ◌+◌, drop, length}
use Rattle.std.specs.Prelude.{All}
use Rattle.toml.specs.View.{items_view}
use Rattle.text_fields.specs.Directories.{finder}
use Rattle.text_fields.specs.Fields.{each_with}
use Rattle.text_fields.proofs.Known.{with_known}
use Rattle.shop_text.specs.Ranges.{IsNamedStep, LinksBelow}
use Rattle.shop_text.specs.StepTexts.{step, steps}
use Rattle.shop_text.proofs.routes.steps.Given as goal

abbrev pub invariant-loop-value : goal.invariant-loop-value
invariant-loop-value l =
    record {
      count : length l.steps.items ≡ l.value-index;
      in_range : All IsNamedStep l.steps.items;
      links : LinksBelow (length l.values + 2) (finder l.labels);
      so_far : with_known l.steps.items (each_with (step l.item) l.value-index (finder l.labels) (items_view (drop l.value-index l.values)))
          ≡ steps l.item (items_view l.values);
    }
