-- The texts of token rings: which is which ring, and why others are refused.
use Rattle.std.specs.Prelude.{◌≡◌, ℕ, List, [], ◌∷◌, Ok, codes}
use Rattle.std.specs.Str.{is_utf8, chars}
use Rattle.toml.specs.Data.{Members}
use Rattle.toml.specs.Parse.{parse_document, lines, skip_bom}
use Rattle.toml_parser.specs.Lexical.{skip_from, skip_ws}
use Rattle.event_key.specs.declared.stamp.TheConstants.{LAST_TICK}
use Rattle.model_core.specs.declared.limits.TheConstants.{MOST_EVENTS, MOST_OBJECTS}
use Rattle.model_core.specs.Meaning.{Meaning}
use Rattle.model_reader.specs.Checks.{Checked, ◌>>=◌}
use Rattle.model_reader.specs.Readings.{ModelOf, Reading, ReadingLaws, if_short, if_short-laws}
use Rattle.own_model.specs.Rings.{ring_meaning}
use Rattle.sim_spec.specs.declared.terms.Terms.{Terms}
use Rattle.own_text.specs.RingTotals.{ring_totals}
use Rattle.text_fields.specs.Causes.{code_name}
use Rattle.text_fields.specs.Documents.{tree}
use Rattle.text_fields.specs.Fields.{only, required_number}
use Rattle.text_fields.specs.LawTexts.{required_law}
use Rattle.text_fields.specs.TermsOf.{terms_of}

-- a ring with its terms and its totals
abbrev pub ring_read : Meaning → Terms → ModelOf
ring_read meaning terms = record { meaning = meaning; terms = terms; totals = ring_totals }

-- the fields in their order, and then unknown keys
unfoldable pub ring_of : Members → Checked ModelOf
ring_of ms = do
  stations ← required_number 0 1 MOST_OBJECTS (codes "stations") ms
  hold ← required_law 0 (codes "hold") ms
  patience ← required_number 0 0 LAST_TICK (codes "patience") ms
  end ← required_number 0 0 LAST_TICK (codes "end") ms
  seed ← required_number 0 0 9223372036854775807 (codes "seed") ms
  known ← only 0 (codes "stations" ∷ codes "hold" ∷ codes "patience" ∷ codes "end" ∷ codes "seed" ∷ []) ms
  Ok (ring_read (ring_meaning seed stations hold patience) (terms_of end MOST_EVENTS))

-- what the bytes say, if they are not too many
unfoldable pub said : List ℕ → Checked ModelOf
said bytes = tree bytes >>= ring_of

abbrev pub ring_texts : Reading
ring_texts = record { read = if_short (record { code = 1; item = 0 }) said; code_name = code_name }

-- the text without bytes has no field
none : (model : ModelOf) → said [] ≡ Ok model → ⊥
unfolding said ring_of is_utf8 chars parse_document lines skip_bom skip_from skip_ws
none model reads = cc

pub ring_texts_laws : ReadingLaws (if_short (record { code = 1; item = 0 }) said)
ring_texts_laws = if_short-laws _ said none
