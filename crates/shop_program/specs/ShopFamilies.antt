-- The texts of shops, each under any seed, and the rows of their totals.
use Rattle.std.specs.Prelude.{◌≡◌, ℕ, ◌+◌, List, take, Ok}
use Rattle.std.proofs.Common.{ap}
use Rattle.model_core.specs.declared.limits.TheConstants.{MOST_TEXT_BYTES}
use Rattle.replications.specs.declared.words.WindowStart.{WindowStart}
use Rattle.shop_model.specs.Meaning.{shop_meaning}
use Rattle.shop_model.specs.ShopParts.{shop_under}
use Rattle.shop_text.specs.Readers.{shop_of_text-take}
use Rattle.shop_text.specs.ShopTexts.{ShopOf, shop_of_text}
use Rattle.table_program.specs.Families.{FamilyOf, FamilyLaws, FamilyReading}
use Rattle.text_fields.specs.Causes.{code_name}
use Rattle.text_fields.specs.Checks.{Checked, ◌>>=◌}
use Rattle.shop_program.specs.RowForms.{shop_head, shop_rows}

-- a shop with the rows of its totals
abbrev pub family_of_shop : ShopOf → FamilyOf
family_of_shop shop = record {
  under = λ seed. shop_meaning (shop_under seed shop.parts);
  rows = λ _. shop_rows shop.parts shop.from;
  seed = shop.parts.seed;
  terms = shop.terms;
}

abbrev pub families : Checked ShopOf → Checked FamilyOf
families read = read >>= (λ shop. Ok (family_of_shop shop))

unfoldable pub family_of_text : List ℕ → Checked FamilyOf
family_of_text bytes = families (shop_of_text bytes)

-- the texts say by `from` from which tick on is counted
abbrev pub shop_tables : FamilyReading
shop_tables = record { read = family_of_text; code_name = code_name; head = shop_head; start = WindowStart.Model }

family_of_text-take : (bytes : List ℕ) → family_of_text (take (MOST_TEXT_BYTES + 1) bytes) ≡ family_of_text bytes
unfolding family_of_text
family_of_text-take bytes = ap families (shop_of_text-take bytes)

pub shop_tables_laws : FamilyLaws family_of_text
shop_tables_laws = record { first_bytes = family_of_text-take }
