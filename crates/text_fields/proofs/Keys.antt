-- The keys of a table beside the members that it stands for.
use Rattle.std.proofs.Common.{◌≡◌, ℕ, List, [], ◌∷◌, map, String, Global, Bor, string_bytes, refl}
use Rattle.std.specs.List.{list_any, list_all}
use Rattle.std.specs.Map.{keys_of}
use Rattle.std.specs.Str.{bytes_eq}
use Rattle.toml.specs.View.{members_view}
use Rattle.toml.specs.declared.value.Value.{Value}
use Rattle.text_fields.specs.Fields.{has_only}

known_names : (known : List (Bor (List ℕ))) (key : List ℕ) → list_any (λ name. bytes_eq name.now key) known ≡ list_any (λ name. bytes_eq name key) (map (λ name. name.now) known)
known_names [] key = refl
known_names (k ∷ ks) key = rw (known_names ks key)

pub has_only-keys : (known : List (Bor (List ℕ))) (es : List (String Global × Value))
    → list_all (λ key. list_any (λ name. bytes_eq name.now (string_bytes key)) known) (keys_of es) ≡ has_only (map (λ name. name.now) known) (members_view es)
has_only-keys known [] = refl
has_only-keys known (e ∷ es) = rw (known_names known (string_bytes e.0), has_only-keys known es)
