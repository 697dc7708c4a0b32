use Rattle.std.proofs.Common.{◌≡◌, ◌≤◌, drop, length}
use Rattle.std.specs.Prelude.{All}
use Rattle.toml.specs.View.{items_view}
use Rattle.text_fields.specs.Fields.{each, each_from, number}
use Rattle.text_fields.proofs.Each.{with_front}
use Rattle.text_fields.proofs.numbers.numbers_of.Given as goal

abbrev pub invariant-loop-value : goal.invariant-loop-value
invariant-loop-value l =
    record {
      count : length l.numbers.items ≡ l.value-index;
      small : All (λ n. n ≤ l.most) l.numbers.items;
      so_far : with_front l.numbers.items (each_from (λ k. number l.item 0 l.most) l.value-index (items_view (drop l.value-index l.values)))
          ≡ each (number l.item 0 l.most) (items_view l.values);
    }
