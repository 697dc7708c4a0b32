use Rattle.std.proofs.Common.{◌≡◌, ◌+◌, drop, length}
use Rattle.text_fields.specs.Directories.{finder}
use Rattle.text_fields.specs.Fields.{each_of}
use Rattle.model_text.specs.Objects.{linked_item, linked_from}
use Rattle.text_fields.proofs.Each.{with_front}
use Rattle.model_text.proofs.links.linked_items.Given as goal

abbrev pub invariant-loop-object : goal.invariant-loop-object
invariant-loop-object l =
    record {
      count : length l.items.items ≡ length l.yielded;
      so_far : with_front (l.items.items) (each_of (linked_item (finder l.directory)) (length l.yielded + 1) (drop (length l.yielded) l.fn.objects.items))
          ≡ linked_from (finder l.directory) 1 l.fn.objects.items;
    }
