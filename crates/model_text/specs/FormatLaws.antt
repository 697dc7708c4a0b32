-- A text of the first format is one of the second.
use Rattle.std.specs.Prelude.{◌≡◌, ℕ, pos, Some, Ok, codes, if◌then◌else◌}
use Rattle.std.specs.Str.{bytes_eq}
use Rattle.toml.specs.Data.{integer, Members, no_members, member, get_member}
use Rattle.model_text.specs.ModelTexts.{FamilyOf, top}

-- the document with this number as its format
abbrev pub with_format : ℕ → Members → Members
with_format n no_members = no_members
with_format n (member k d ms) = member k (if bytes_eq k (codes "format") then integer (pos n) else d) (with_format n ms)

-- what is a model in the first format is the same model under each seed, with the same terms, in the second
abbrev pub FirstIsSecond : Type 0
FirstIsSecond =
    (document : Members) (model : FamilyOf) → get_member (codes "format") document ≡ Some (integer (pos 1)) → top document ≡ Ok model
    → top (with_format 2 document) ≡ Ok model
