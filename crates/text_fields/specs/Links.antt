-- Links: the numbers of those that names stand for.
use Rattle.std.specs.Prelude.{◌≡◌, ℕ, true, List, Option, Some, None, Ok, if◌then◌else◌}
use Rattle.text_fields.specs.declared.directory.Place.{Place}
use Rattle.text_fields.specs.declared.refusal.Cause.TheVariants.{BadLink}
use Rattle.text_fields.specs.Checks.{Checked, refusal}
use Rattle.text_fields.specs.Fields.{each_of}
use Rattle.text_fields.specs.Names.{Finder}

abbrev pub found_link : Option Place → ℕ → Checked ℕ
found_link None at = refusal BadLink at
found_link (Some place) at = if place.takes_links then Ok place.number else refusal BadLink at

-- the number of what has this name, which is no source
abbrev pub link : Finder → ℕ → List ℕ → Checked ℕ
link find at name = found_link (find name) at

abbrev pub links : Finder → ℕ → List (List ℕ) → Checked (List ℕ)
links find at names = each_of (λ k. link find at) 0 names

-- some name stands for this number, and others may name it
abbrev pub IsFound : Finder → ℕ → Type 0
IsFound find number = (name : List ℕ) × (find name ≡ Some (record { number = number; takes_links = true }))
