-- What is known of a job whose link was found.
use Rattle.std.specs.Prelude.{◌^◌, ◌<◌, ◌≤◌}
use Rattle.event_key.specs.declared.key.TheConstants.{MOST_RANK}
use Rattle.model_core.specs.declared.entry.Entry.{Entry}
use Rattle.text_fields.specs.Links.{IsFound}
use Rattle.text_fields.specs.Names.{Finder}

pub record IsLinkedJob (find : Finder) (job : Entry) : Type 0 where
  pub time : job.time < 2 ^ 46
  pub at : IsFound find job.at
  pub rank : job.rank ≤ MOST_RANK
