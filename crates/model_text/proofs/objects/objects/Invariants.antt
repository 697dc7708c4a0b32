use Rattle.std.proofs.Common.{◌≡◌, ◌≢◌, drop, length}
use Rattle.std.specs.Prelude.{All, AllPairs}
use Rattle.toml.specs.View.{items_view}
use Rattle.text_fields.specs.Directories.{finder}
use Rattle.model_text.specs.NamedItems.{IsNamedItem}
use Rattle.model_text.specs.Names.{NamedItem, place_in}
use Rattle.model_text.specs.Objects.{objects_after, objects}
use Rattle.model_text.proofs.objects.objects.Given as goal

abbrev pub invariant-loop-value : goal.invariant-loop-value
invariant-loop-value l =
    record {
      count : length l.objects.items ≡ l.value-index;
      found : finder l.directory ≡ place_in l.objects.items;
      in_range : All IsNamedItem l.objects.items;
      names_differ : AllPairs (λ (a b : NamedItem). a.name ≢ b.name) l.objects.items;
      so_far : objects_after l.format l.objects.items (items_view (drop l.value-index l.values)) ≡ objects l.format (items_view l.values);
    }
