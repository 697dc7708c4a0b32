-- The objects. Pass one: one after another, each with its name, its kind, the fields of its kind, and then unknown keys. Pass
-- two: each with the objects that it names.
use Rattle.std.specs.Prelude.{ℕ, ◌+◌, List, [], ◌∷◌, ◌++◌, length, Ok, codes, if◌then◌else◌}
use Rattle.toml.specs.Data.{Data, Items, Members, no_items, item}
use Rattle.queue_models.specs.Kinds.{is_station}
use Rattle.queue_models.specs.Objects.{Item}
use Rattle.model_text.specs.declared.formats.Format.{Format}
use Rattle.model_text.specs.declared.objects.CommonFields.{CommonFields}
use Rattle.model_text.specs.Additions.{added, rank, flag, trace}
use Rattle.text_fields.specs.Checks.{Checked, ◌>>=◌}
use Rattle.text_fields.specs.Fields.{text, table_of, required, only, each_of}
use Rattle.model_text.specs.Kinds.{named_kind, kind_keys, linked_kind}
use Rattle.text_fields.specs.Names.{Finder, new_name}
use Rattle.model_text.specs.Names.{NamedItem, NamedKind, place_in}

-- the keys that the second format adds
abbrev pub added_keys : NamedKind → List (List ℕ)
added_keys kind = if is_station kind then codes "rank" ∷ codes "quiet" ∷ codes "trace" ∷ [] else codes "rank" ∷ codes "quiet" ∷ []

-- the keys that an object of each kind may have
abbrev pub known_keys : Format → NamedKind → List (List ℕ)
known_keys format kind = codes "name" ∷ codes "kind" ∷ kind_keys kind ++ added format (added_keys kind)

-- what an object of this kind has as all do, and then unknown keys
unfoldable pub common_fields : Format → NamedKind → ℕ → Members → Checked CommonFields
common_fields format kind at ms = do
  rank ← rank format at ms
  quiet ← flag format at (codes "quiet") ms
  trace ← trace format kind at ms
  known ← only at (known_keys format kind) ms
  Ok (record { rank = rank; quiet = quiet; trace = trace })

-- an object with this name
unfoldable pub object_named : Format → ℕ → List ℕ → Members → Checked NamedItem
object_named format at name ms = do
  word ← required at (codes "kind") ms >>= text at
  kind ← named_kind at ms word
  fields ← common_fields format kind at ms
  Ok (record { name = name; kind = kind; rank = fields.rank; quiet = fields.quiet; trace = fields.trace })

-- an object, where the names before it are found so
unfoldable pub object : Format → Finder → ℕ → Data → Checked NamedItem
object format find at d = do
  ms ← table_of at d
  name ← required at (codes "name") ms >>= new_name find at
  object_named format at name ms

-- each further object, whose item is the number of those before it and 1
abbrev pub objects_after : Format → List NamedItem → Items → Checked (List NamedItem)
objects_after format before no_items = Ok before
objects_after format before (item d ds) =
    object format (place_in before) (length before + 1) d >>= (λ next. objects_after format (before ++ next ∷ []) ds)

abbrev pub objects : Format → Items → Checked (List NamedItem)
objects format ds = objects_after format [] ds

abbrev pub linked_item : Finder → ℕ → NamedItem → Checked Item
linked_item find at object = linked_kind find at object.kind >>= (λ kind. Ok (record { name = object.name; kind = kind; rank = object.rank; quiet = object.quiet; trace = object.trace }))

-- the objects one after another, with items from k on
abbrev pub linked_from : Finder → ℕ → List NamedItem → Checked (List Item)
linked_from find k objects = each_of (linked_item find) k objects
