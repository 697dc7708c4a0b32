use Rattle.std.proofs.Common.{◌≡◌, drop, length}
use Rattle.std.specs.Prelude.{IsTrue, nat_le}
use Rattle.std.specs.List.{list_all}
use Rattle.random_streams.specs.declared.weights.TheConstants.{MOST_WEIGHT}
use Rattle.toml.specs.View.{items_view}
use Rattle.text_fields.specs.Fields.{each, each_from, number}
use Rattle.text_fields.proofs.Each.{with_front}
use Rattle.text_fields.proofs.weights.numbers.Given as goal

abbrev pub invariant-loop-value : goal.invariant-loop-value
invariant-loop-value l =
    record {
      count : length l.numbers.items ≡ l.value-index;
      small : IsTrue (list_all (λ n. nat_le n MOST_WEIGHT) l.numbers.items);
      so_far : with_front l.numbers.items (each_from (λ k. number l.item 0 MOST_WEIGHT) l.value-index (items_view (drop l.value-index l.values)))
          ≡ each (number l.item 0 MOST_WEIGHT) (items_view l.values);
    }
