use Rattle.std.proofs.Common.{◌≡◌, drop, length}
use Rattle.toml.specs.View.{items_view}
use Rattle.text_fields.specs.Fields.{each, each_from, text}
use Rattle.text_fields.proofs.Each.{with_front}
use Rattle.text_fields.proofs.names.names_of.Given as goal

abbrev pub invariant-loop-value : goal.invariant-loop-value
invariant-loop-value l =
    record {
      count : length l.names.items ≡ l.value-index;
      so_far : with_front l.names.items (each_from (λ k. text l.item) l.value-index (items_view (drop l.value-index l.values))) ≡ each (text l.item) (items_view l.values);
    }
