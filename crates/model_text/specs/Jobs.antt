-- Pass three: the jobs one after another.
use Rattle.std.specs.Prelude.{ℕ, List, Ok, codes}
use Rattle.toml.specs.Data.{Data, Items}
use Rattle.event_key.specs.declared.stamp.TheConstants.{LAST_TICK}
use Rattle.model_core.specs.declared.entry.Entry.{Entry}
use Rattle.model_text.specs.declared.formats.Format.{Format}
use Rattle.model_text.specs.Additions.{rank, entry_keys}
use Rattle.text_fields.specs.Checks.{Checked, ◌>>=◌}
use Rattle.text_fields.specs.Fields.{number, text, table_of, required, only, each_from}
use Rattle.text_fields.specs.Links.{link}
use Rattle.text_fields.specs.Names.{Finder}

unfoldable pub job : Format → Finder → ℕ → Data → Checked Entry
job format find at d = do
  ms ← table_of at d
  time ← required at (codes "time") ms >>= number at 0 LAST_TICK
  name ← required at (codes "at") ms >>= text at
  rank ← rank format at ms
  known ← only at (entry_keys format) ms
  number ← link find at name
  Ok (record { time = time; at = number; rank = rank })

-- the jobs one after another, with items from k on
abbrev pub jobs_from : Format → Finder → ℕ → Items → Checked (List Entry)
jobs_from format find k ds = each_from (job format find) k ds
