use Rattle.std.proofs.Common.{◌≡◌, drop, length}
use Rattle.text_fields.specs.Directories.{finder}
use Rattle.text_fields.specs.Fields.{each_of}
use Rattle.text_fields.proofs.Each.{with_front}
use Rattle.shop_text.specs.LinkedRoutes.{linked_step, linked_steps}
use Rattle.shop_text.proofs.links.linked_steps.Given as goal

abbrev pub invariant-loop-step : goal.invariant-loop-step
invariant-loop-step l =
    record {
      count : length l.steps.items ≡ length l.yielded;
      so_far : with_front l.steps.items (each_of (λ k. linked_step (finder l.stations) (finder l.labels) l.item) (length l.yielded) (drop (length l.yielded) l.fn.route.items))
          ≡ linked_steps (finder l.stations) (finder l.labels) l.item l.fn.route.items;
    }
