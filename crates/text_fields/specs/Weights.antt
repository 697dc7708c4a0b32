-- The check of a router's arrays: the objects to which it sends, and their weights.
use Rattle.std.specs.Prelude.{ℕ, ◌==◌, not, List, sum, replicate, Option, Some, None, Ok}
use Rattle.random_streams.specs.declared.weights.TheConstants.{MOST_WEIGHT, MOST_WEIGHTS}
use Rattle.toml.specs.Data.{Data}
use Rattle.text_fields.specs.declared.refusal.Cause.TheVariants.{BadValue}
use Rattle.text_fields.specs.Checks.{Checked, refusal_where, ◌>>=◌}
use Rattle.text_fields.specs.Fields.{number, text, item_count, entries_of, array_of, each}

-- 1 to 64 texts
unfoldable pub ways : ℕ → Data → Checked (List (List ℕ))
ways at d = do
  ds ← array_of at MOST_WEIGHTS d
  some ← refusal_where (item_count ds == 0) BadValue at
  each (text at) ds

-- so many numbers, not all of them 0
unfoldable pub weights : ℕ → ℕ → Data → Checked (List ℕ)
weights at count d = do
  ds ← entries_of at d
  matched ← refusal_where (not (item_count ds == count)) BadValue at
  numbers ← each (number at 0 MOST_WEIGHT) ds
  some ← refusal_where (sum numbers == 0) BadValue at
  Ok numbers

-- all 1 where they are absent
abbrev pub weights_or_ones : ℕ → ℕ → Option Data → Checked (List ℕ)
weights_or_ones at count None = Ok (replicate count 1)
weights_or_ones at count (Some d) = weights at count d
