-- The document of a text.
use Rattle.std.specs.Prelude.{ℕ, List, length, Option, Some, None, Ok, nat_lt, if◌then◌else◌}
use Rattle.std.specs.Str.{is_utf8}
use Rattle.toml.specs.Data.{Members}
use Rattle.toml.specs.Parse.{parse_document}
use Rattle.model_core.specs.declared.limits.TheConstants.{MOST_TEXT_BYTES}
use Rattle.text_fields.specs.declared.refusal.Cause.TheVariants.{TooLong, NotToml}
use Rattle.text_fields.specs.Checks.{Checked, refusal}

-- what TOML makes of the bytes, where they are a document
abbrev pub tree_of : List ℕ → Option Members
tree_of bytes = if is_utf8 bytes then parse_document bytes else None

abbrev pub found_tree : Option Members → Checked Members
found_tree (Some ms) = Ok ms
found_tree None = refusal NotToml 0

abbrev pub tree : List ℕ → Checked Members
tree bytes = found_tree (tree_of bytes)

-- a text that is too long is refused before it is read
abbrev pub document : List ℕ → Checked Members
document bytes = if nat_lt MOST_TEXT_BYTES (length bytes) then refusal TooLong 0 else tree bytes
