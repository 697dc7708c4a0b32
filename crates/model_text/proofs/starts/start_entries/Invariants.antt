use Rattle.std.proofs.Common.{◌≡◌, ◌+◌, drop, length}
use Rattle.std.specs.Prelude.{All}
use Rattle.toml.specs.View.{items_view}
use Rattle.phold_model.specs.Parts.{IsEntry}
use Rattle.text_fields.specs.Fields.{each_from}
use Rattle.model_text.specs.Starts.{start_entry, start_entries}
use Rattle.text_fields.proofs.Each.{with_front}
use Rattle.model_text.proofs.starts.start_entries.Given as goal

abbrev pub invariant-loop-value : goal.invariant-loop-value
invariant-loop-value l =
    record {
      place : l.item ≡ l.value-index + 1;
      count : length l.entries.items ≡ l.value-index;
      entries : All (IsEntry l.objects) l.entries.items;
      so_far : with_front l.entries.items (each_from (start_entry l.format l.objects) l.item (items_view (drop l.value-index l.values))) ≡ start_entries l.format l.objects (items_view l.values);
    }
