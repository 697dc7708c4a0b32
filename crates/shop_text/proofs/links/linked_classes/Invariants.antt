use Rattle.std.proofs.Common.{◌≡◌, ◌+◌, drop, length}
use Rattle.text_fields.specs.Directories.{finder}
use Rattle.text_fields.proofs.Each.{with_front}
use Rattle.shop_text.specs.Views.{linked_named}
use Rattle.shop_text.proofs.links.linked_classes.Given as goal

abbrev pub invariant-loop-class : goal.invariant-loop-class
invariant-loop-class l =
    record {
      count : length l.linked.items ≡ length l.yielded;
      so_far : with_front l.linked.items (linked_named (finder l.stations) (l.first + length l.yielded) (drop (length l.yielded) l.fn.classes.items))
          ≡ linked_named (finder l.stations) l.first l.fn.classes.items;
    }
