-- The check of the entries of `start`.
use Rattle.std.specs.Prelude.{ℕ, ◌-◌, List, Ok, codes, not, nat_lt}
use Rattle.toml.specs.Data.{Data, Items}
use Rattle.event_key.specs.declared.stamp.TheConstants.{LAST_TICK}
use Rattle.model_core.specs.declared.entry.Entry.{Entry}
use Rattle.model_core.specs.declared.limits.TheConstants.{MOST_OBJECTS}
use Rattle.model_text.specs.declared.formats.Format.{Format}
use Rattle.text_fields.specs.declared.refusal.Cause.TheVariants.{BadLink}
use Rattle.model_text.specs.Additions.{rank, entry_keys}
use Rattle.text_fields.specs.Checks.{Checked, refusal_where, ◌>>=◌}
use Rattle.text_fields.specs.Fields.{number, table_of, required, only, each_from}

-- an entry, in a model of so many objects
unfoldable pub start_entry : Format → ℕ → ℕ → Data → Checked Entry
start_entry format objects at d = do
  ms ← table_of at d
  time ← required at (codes "time") ms >>= number at 0 LAST_TICK
  object ← required at (codes "at") ms >>= number at 0 (MOST_OBJECTS - 1)
  rank ← rank format at ms
  known ← only at (entry_keys format) ms
  linked ← refusal_where (not (nat_lt object objects)) BadLink at
  Ok (record { time = time; at = object; rank = rank })

-- the entries one after another, the first with item 1
abbrev pub start_entries : Format → ℕ → Items → Checked (List Entry)
start_entries format objects ds = each_from (start_entry format objects) 1 ds
