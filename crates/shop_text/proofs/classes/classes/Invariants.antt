use Rattle.std.proofs.Common.{◌≡◌, ℕ, ◌+◌, ◌≤◌, drop, length}
use Rattle.std.specs.Prelude.{All, sum_by}
use Rattle.toml.specs.View.{items_view}
use Rattle.text_fields.specs.Directories.{finder}
use Rattle.text_fields.specs.Fields.{each_with}
use Rattle.text_fields.proofs.Known.{with_known}
use Rattle.shop_text.specs.declared.named.NamedClass.{NamedClass}
use Rattle.shop_text.specs.ClassTexts.{class, classes}
use Rattle.shop_text.specs.Ranges.{IsClassText, LinksBelow}
use Rattle.shop_text.specs.Views.{class_text, class_texts}
use Rattle.shop_text.proofs.classes.classes.Given as goal

abbrev pub invariant-loop-value : goal.invariant-loop-value
invariant-loop-value l =
    record {
      count : length l.classes.items ≡ l.value-index;
      in_range : All (λ (named : NamedClass). IsClassText (class_text named)) l.classes.items;
      times : l.times ≡ sum_by (λ (named : NamedClass). length named.class.times) l.classes.items;
      few_times : l.times ≤ 250000;
      links : (most : ℕ) → LinksBelow most (finder l.fn.directory) → LinksBelow most (finder l.directory);
      so_far : with_known (class_texts l.classes.items) (each_with class (l.first + l.value-index) (record { find = finder l.directory; times = l.times }) (items_view (drop l.value-index l.values)))
          ≡ classes l.first (finder l.fn.directory) (items_view l.values);
    }
