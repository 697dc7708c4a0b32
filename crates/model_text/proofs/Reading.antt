-- Reading the objects one after the other, as a loop does.
use Rattle.std.proofs.Common.{◌≡◌, ℕ, ◌+◌, ◌<◌, List, [], ◌∷◌, ◌++◌, length, drop, get_or, Ok, refl, sym, ap, ◌∙◌}
use Rattle.toml.specs.Data.{item}
use Rattle.toml.specs.View.{view, items_view}
use Rattle.toml.specs.declared.value.Value.{Value}
use Rattle.toml.proofs.Views.{items_view-drop}
use Rattle.model_reader.specs.declared.refusal.Refusal.{Refusal}
use Rattle.model_reader.specs.declared.refusal.Refusal.TheVariants.{At, OutOfMemory}
use Rattle.model_text.specs.declared.formats.Format.{Format}
use Rattle.text_fields.specs.Checks.{Checked, Fails, ◌>>=◌}
use Rattle.text_fields.specs.Names.{Finder}
use Rattle.model_text.specs.Names.{NamedItem, place_in}
use Rattle.model_text.specs.Objects.{object, objects_after}

next_object : (format : Format) (before : List NamedItem) (find : Finder) (k i : ℕ) (vs : List Value) (v : Value) → i < length vs → v ≡ get_or vs i v → find ≡ place_in before → k ≡ length before + 1
    → objects_after format before (items_view (drop i vs)) ≡ (object format find k (view v) >>= (λ next. objects_after format (before ++ next ∷ []) (items_view (drop (i + 1) vs))))
next_object format before find k i vs v lt same found at =
    let split : items_view (drop i vs) ≡ item (view v) (items_view (drop (i + 1) vs)) = items_view-drop vs i v lt ∙ ap (λ w. item (view w) (items_view (drop (i + 1) vs))) (sym same) in
    rw (split, found, at) refl

pub objects_go_on : (format : Format) (before : List NamedItem) (find : Finder) (k i : ℕ) (vs : List Value) (v : Value) (o : NamedItem) (total : Checked (List NamedItem))
    → i < length vs → v ≡ get_or vs i v → find ≡ place_in before → k ≡ length before + 1 → object format find k (view v) ≡ Ok o
    → objects_after format before (items_view (drop i vs)) ≡ total → objects_after format (before ++ o ∷ []) (items_view (drop (i + 1) vs)) ≡ total
objects_go_on format before find k i vs v o total lt same found at read so_far =
    sym (next_object format before find k i vs v lt same found at ∙ ap (λ check. check >>= (λ next. objects_after format (before ++ next ∷ []) (items_view (drop (i + 1) vs)))) read) ∙ so_far

pub objects_end : (format : Format) (before : List NamedItem) (find : Finder) (e : Refusal) (k i : ℕ) (vs : List Value) (v : Value) (total : Checked (List NamedItem))
    → i < length vs → v ≡ get_or vs i v → find ≡ place_in before → k ≡ length before + 1 → Fails e (object format find k (view v))
    → objects_after format before (items_view (drop i vs)) ≡ total → Fails e total
objects_end format before find OutOfMemory k i vs v total lt same found at read so_far = tt
objects_end format before find (At code place) k i vs v total lt same found at read so_far =
    sym so_far ∙ next_object format before find k i vs v lt same found at ∙ ap (λ check. check >>= (λ next. objects_after format (before ++ next ∷ []) (items_view (drop (i + 1) vs)))) read
