-- The tree of bytes, by whether they are text.
use Rattle.std.proofs.Common.{◌≡◌, ℕ, List, Bool, true, false, Option, None, refl}
use Rattle.std.proofs.lemmas.Str.{is_utf8-from_IsUtf8, IsUtf8-from_is_utf8}
use Rattle.std.specs.Str.{IsUtf8, is_utf8}
use Rattle.toml.specs.Data.{Members}
use Rattle.toml.specs.Parse.{parse_document}
use Rattle.text_fields.specs.Documents.{tree, found_tree}

test_false : (b : Bool) (P : Type 0) → (b ≡ true → P) → (P → ⊥) → b ≡ false
test_false true P f n = absurd (n (f refl))
test_false false P f n = refl

pub tree-no_text : (bytes : List ℕ) → (IsUtf8 bytes → ⊥) → tree bytes ≡ found_tree None
tree-no_text bytes apart = rw (test_false (is_utf8 bytes) (IsUtf8 bytes) (IsUtf8-from_is_utf8 bytes) apart)

pub tree-text : (bytes text : List ℕ) (found : Option Members) → (text ≡ bytes) × IsUtf8 bytes → parse_document text ≡ found → tree bytes ≡ found_tree found
tree-text bytes text found is parsed = rw (is_utf8-from_IsUtf8 bytes is.1, ← is.0, parsed)
