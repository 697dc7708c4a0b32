-- The check of a name, and what stands at it.
use Rattle.std.specs.Prelude.{◌≡◌, ℕ, ◌+◌, Bool, not, ◌&&◌, nat_le, List, [], ◌∷◌, length, Option, Some, None, is_some, Ok, codes, if◌then◌else◌}
use Rattle.std.specs.List.{list_all}
use Rattle.std.specs.Str.{bytes_eq}
use Rattle.toml.specs.Data.{Data, Members}
use Rattle.queue_models.specs.Parts.{is_name_byte}
use Rattle.text_fields.specs.declared.directory.Place.{Place}
use Rattle.text_fields.specs.declared.refusal.Cause.TheVariants.{BadValue}
use Rattle.text_fields.specs.Checks.{Checked, refusal_where, ◌>>=◌}
use Rattle.text_fields.specs.Fields.{required, text}

-- 1 to 16 bytes, each an ASCII letter, a digit, '_' or '-'
abbrev pub is_name : List ℕ → Bool
is_name name = nat_le 1 (length name) && nat_le (length name) 16 && list_all is_name_byte name

-- what has a name, if anything has
abbrev pub Finder : Type 0
Finder = List ℕ → Option Place

-- nothing has a name
abbrev pub nothing : Finder
nothing name = None

-- what has names, with one more
abbrev pub taken_in : Finder → List ℕ → Place → Finder
taken_in find name place other = if bytes_eq name other then Some place else find other

-- the other finder has this element besides
abbrev pub TakesIn : Finder → Finder → List ℕ → Place → Type 0
TakesIn find more name place = (other : List ℕ) → more other ≡ (if bytes_eq name other then Some place else find other)

-- the place of the first element with the name, where elements are numbered from k on
abbrev pub place_from : {A : Type 0} → (A → List ℕ) → (ℕ → A → Place) → ℕ → List A → Finder
place_from name place k [] wanted = None
place_from name place k (x ∷ xs) wanted = if bytes_eq wanted (name x) then Some (place k x) else place_from name place (k + 1) xs wanted

-- a name that nothing before has
unfoldable pub new_name : Finder → ℕ → Data → Checked (List ℕ)
new_name find at d = do
  name ← text at d
  named ← refusal_where (not (is_name name)) BadValue at
  new ← refusal_where (is_some (find name)) BadValue at
  Ok name

-- the name that a table gives
abbrev pub required_name : Finder → ℕ → Members → Checked (List ℕ)
required_name find at ms = required at (codes "name") ms >>= new_name find at
