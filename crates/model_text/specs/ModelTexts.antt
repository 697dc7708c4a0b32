-- The model of a text: the checks in the order in which the first refusal counts.
use Rattle.std.specs.Prelude.{ℕ, pos, List, [], ◌∷◌, length, Ok, codes, nat_lt, ◌&&◌, if◌then◌else◌}
use Rattle.std.specs.Str.{bytes_eq}
use Rattle.toml.specs.Data.{integer, Members}
use Rattle.model_core.specs.Meaning.{Meaning}
use Rattle.sim_spec.specs.declared.terms.Terms.{Terms}
use Rattle.event_key.specs.declared.stamp.TheConstants.{LAST_TICK}
use Rattle.model_core.specs.declared.limits.TheConstants.{MOST_EVENTS, MOST_TEXT_BYTES}
use Rattle.model_reader.specs.Readings.{ModelOf}
use Rattle.sim_stats.specs.Totals.{told_by_objects}
use Rattle.model_text.specs.declared.formats.Format.{Format}
use Rattle.model_text.specs.declared.top.ModelKind.{ModelKind}
use Rattle.model_text.specs.declared.top.ModelKind.TheVariants.{Phold, Network, Circuit}
use Rattle.text_fields.specs.declared.refusal.Cause.TheVariants.{TooLong, BadValue}
use Rattle.text_fields.specs.Checks.{Checked, refusal, refusal_where, ◌>>=◌}
use Rattle.model_text.specs.Circuits.{circuit}
use Rattle.text_fields.specs.Fields.{number, text, required, optional, only}
use Rattle.model_text.specs.Formats.{format_of, has_circuits}
use Rattle.model_text.specs.Networks.{network}
use Rattle.model_text.specs.Phold.{phold}
use Rattle.text_fields.specs.TermsOf.{terms_of}
use Rattle.text_fields.specs.Documents.{tree}

-- what a text describes: what its model means under each seed, the seed that it gives, and how far the simulation goes
pub record FamilyOf : Type 0 where
  pub under : ℕ → Meaning
  pub seed : ℕ
  pub terms : Terms

abbrev pub kind_of : Format → List ℕ → Checked ModelKind
kind_of format name =
    if bytes_eq name (codes "phold") then Ok Phold
    else if bytes_eq name (codes "network") then Ok Network
    else if has_circuits format && bytes_eq name (codes "circuit") then Ok Circuit
    else refusal BadValue 0

-- the keys of the body
abbrev pub body_keys : ModelKind → List (List ℕ)
body_keys Phold = codes "phold" ∷ []
body_keys Network = codes "object" ∷ codes "job" ∷ []
body_keys Circuit = codes "gate" ∷ []

-- the keys of the top table
abbrev pub top_keys : ModelKind → List (List ℕ)
top_keys kind = codes "format" ∷ codes "model" ∷ codes "end" ∷ codes "seed" ∷ codes "limit" ∷ body_keys kind

-- what the model means under each seed: a circuit draws nothing
abbrev pub body : Format → ModelKind → Members → Checked (ℕ → Meaning)
body format Phold ms = required 0 (codes "phold") ms >>= phold format
body format Network ms = network format ms
body format Circuit ms = circuit ms >>= (λ meaning. Ok (λ _. meaning))

-- the top table, and then the body of the model
unfoldable pub top : Members → Checked FamilyOf
top ms = do
  format ← required 0 (codes "format") ms >>= format_of
  name ← required 0 (codes "model") ms >>= text 0
  kind ← kind_of format name
  end ← required 0 (codes "end") ms >>= number 0 0 LAST_TICK
  seed ← number 0 0 9223372036854775807 (optional (integer (pos 0)) (codes "seed") ms)
  limit ← number 0 1 MOST_EVENTS (optional (integer (pos 10000000)) (codes "limit") ms)
  known ← only 0 (top_keys kind) ms
  under ← body format kind ms
  Ok (record { under = under; seed = seed; terms = terms_of end limit })

-- what a text describes, or the code and the item of the first check that fails
unfoldable pub family_of : List ℕ → Checked FamilyOf
family_of bytes = do
  short ← refusal_where (nat_lt MOST_TEXT_BYTES (length bytes)) TooLong 0
  ms ← tree bytes
  top ms

-- a model with these terms, of which totals are told object by object
abbrev pub model_with : Meaning → Terms → ModelOf
model_with m t = record { meaning = m; terms = t; totals = told_by_objects m }

-- the model under the seed that the text gives
abbrev pub own_model : FamilyOf → ModelOf
own_model family = model_with (family.under family.seed) family.terms

abbrev pub own_models : Checked FamilyOf → Checked ModelOf
own_models read = read >>= (λ family. Ok (own_model family))

-- the model of a text
unfoldable pub model_of : List ℕ → Checked ModelOf
model_of bytes = own_models (family_of bytes)
