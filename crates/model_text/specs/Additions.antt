-- Fields that came with the second format: a text of the first format has none of them, and they are as if absent.
use Rattle.std.specs.Prelude.{ℕ, pos, Bool, false, List, [], ◌∷◌, Ok, codes, if◌then◌else◌}
use Rattle.event_key.specs.declared.key.TheConstants.{MOST_RANK}
use Rattle.toml.specs.Data.{integer, boolean, Members}
use Rattle.queue_models.specs.Kinds.{is_station}
use Rattle.model_text.specs.declared.formats.Format.{Format}
use Rattle.model_text.specs.declared.formats.Format.TheVariants.{One, Two}
use Rattle.text_fields.specs.Checks.{Checked}
use Rattle.text_fields.specs.Fields.{number, truth, optional}
use Rattle.model_text.specs.Names.{NamedKind}

-- keys that came with the second format
abbrev pub added : Format → List (List ℕ) → List (List ℕ)
added One keys = []
added Two keys = keys

abbrev pub rank : Format → ℕ → Members → Checked ℕ
rank One at ms = Ok 0
rank Two at ms = number at 0 MOST_RANK (optional (integer (pos 0)) (codes "rank") ms)

-- a truth value
abbrev pub flag : Format → ℕ → List ℕ → Members → Checked Bool
flag One at key ms = Ok false
flag Two at key ms = truth at (optional (boolean false) key ms)

-- whether an object of this kind is traced, which only a station can be
abbrev pub trace : Format → NamedKind → ℕ → Members → Checked Bool
trace format kind at ms = if is_station kind then flag format at (codes "trace") ms else Ok false

-- the keys that a job may have, and an entry of `start`
abbrev pub entry_keys : Format → List (List ℕ)
entry_keys format = codes "time" ∷ codes "at" ∷ added format (codes "rank" ∷ [])
