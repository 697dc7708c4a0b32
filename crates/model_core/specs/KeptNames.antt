-- A name, as it is kept.
use Rattle.std.specs.Prelude.{◌≡◌, ℕ, ◌≤◌, List, take, length}
use Rattle.model_core.specs.declared.name.Kept.{Kept}
use Rattle.model_core.specs.declared.name.Kept.TheVariants.{InPlace, Apart}

abbrev pub bytes_of : Kept → List ℕ
bytes_of (InPlace count bytes) = take count bytes
bytes_of (Apart bytes) = bytes.items

-- as many bytes as are counted stand in place
abbrev pub IsCounted : Kept → Type 0
IsCounted (InPlace count bytes) = (count ≤ 16) × (length bytes ≡ 16)
IsCounted (Apart bytes) = Unit {0}
