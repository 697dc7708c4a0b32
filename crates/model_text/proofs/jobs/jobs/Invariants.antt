use Rattle.std.proofs.Common.{◌≡◌, ◌+◌, drop, length}
use Rattle.std.specs.Prelude.{All}
use Rattle.toml.specs.View.{items_view}
use Rattle.text_fields.specs.Directories.{finder}
use Rattle.text_fields.specs.Fields.{each_from}
use Rattle.model_text.specs.Jobs.{job, jobs_from}
use Rattle.model_text.specs.Linked.{IsLinkedJob}
use Rattle.text_fields.proofs.Each.{with_front}
use Rattle.model_text.proofs.jobs.jobs.Given as goal

abbrev pub invariant-loop-value : goal.invariant-loop-value
invariant-loop-value l =
    record {
      place : l.item ≡ l.first_item + l.value-index;
      count : length l.jobs.items ≡ l.value-index;
      linked : All (IsLinkedJob (finder l.directory)) l.jobs.items;
      so_far : with_front l.jobs.items (each_from (job l.format (finder l.directory)) l.item (items_view (drop l.value-index l.values))) ≡ jobs_from l.format (finder l.directory) l.first_item (items_view l.values);
    }
