-- The check of the body of a PHOLD model, which gives what the model means under each seed.
use Rattle.std.specs.Prelude.{ℕ, pos, Bool, true, false, List, [], ◌∷◌, Ok, codes, if◌then◌else◌}
use Rattle.std.specs.Str.{bytes_eq}
use Rattle.toml.specs.Data.{Data, integer, array, no_items}
use Rattle.model_core.specs.declared.limits.TheConstants.{MOST_ENTRIES, MOST_OBJECTS}
use Rattle.model_core.specs.Meaning.{Meaning}
use Rattle.phold_model.specs.Parts.{phold_parts}
use Rattle.phold_model.specs.Meaning.{phold_meaning}
use Rattle.model_text.specs.declared.formats.Format.{Format}
use Rattle.text_fields.specs.declared.refusal.Cause.TheVariants.{BadValue}
use Rattle.model_text.specs.Additions.{added, rank}
use Rattle.text_fields.specs.Checks.{Checked, refusal, ◌>>=◌}
use Rattle.text_fields.specs.Fields.{number, text, table_of, array_of, required, optional, only}
use Rattle.text_fields.specs.LawTexts.{law}
use Rattle.model_text.specs.Starts.{start_entries}

abbrev pub named_destination : ℕ → List ℕ → Checked Bool
named_destination at name =
    if bytes_eq name (codes "next") then Ok false
    else if bytes_eq name (codes "uniform") then Ok true
    else refusal BadValue at

-- whether destinations are drawn evenly
unfoldable pub destination : ℕ → Data → Checked Bool
destination at d = do
  name ← text at d
  named_destination at name

-- the keys of the table `phold`
abbrev pub phold_keys : Format → List (List ℕ)
phold_keys format = codes "objects" ∷ codes "delay" ∷ codes "to" ∷ codes "each" ∷ codes "start" ∷ added format (codes "rank" ∷ [])

-- the table `phold`: its fields in their order, unknown keys, and then the entries of `start`
unfoldable pub phold : Format → Data → Checked (ℕ → Meaning)
phold format d = do
  ms ← table_of 0 d
  objects ← required 0 (codes "objects") ms >>= number 0 0 MOST_OBJECTS
  delay ← required 0 (codes "delay") ms >>= law 0
  uniform ← required 0 (codes "to") ms >>= destination 0
  each ← number 0 0 4 (optional (integer (pos 0)) (codes "each") ms)
  entries ← array_of 0 MOST_ENTRIES (optional (array no_items) (codes "start") ms)
  rank ← rank format 0 ms
  known ← only 0 (phold_keys format) ms
  start ← start_entries format objects entries
  Ok (λ seed. phold_meaning (phold_parts seed objects delay uniform each start rank))
