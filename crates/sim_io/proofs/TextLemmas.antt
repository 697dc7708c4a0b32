-- The text of an event by its parts, and of records one after another.
use Rattle.std.proofs.Common.{◌≡◌, ℕ, ◌+◌, ◌≤◌, ◌<◌, List, [], ◌∷◌, ◌++◌, length, drop, get_or, refl, sym, ap, ◌∙◌, append_assoc, add-one}
use Rattle.std.proofs.Math.Seq.{drop-cons}
use Rattle.std.proofs.Math.ListN.{drop_of_length-le}
use Rattle.event_key.specs.declared.key.Key.{Key}
use Rattle.model_core.specs.declared.note.Note.{Note}
use Rattle.model_core.specs.declared.note.Part.{Part}
use Rattle.model_core.specs.Meaning.{Meaning}
use Rattle.sim_io.specs.Texts.{part_line, event_lines, record_lines}

-- the lines from a part on, by that part
pub event_lines-drop : (m : Meaning) (key : Key) (parts : List Part) (i : ℕ) (d : Part) → i < length parts
    → event_lines m key (drop i parts) ≡ part_line m key (get_or parts i d) ++ event_lines m key (drop (i + 1) parts)
unfolding event_lines
event_lines-drop m key parts i d inside = rw (add-one, drop-cons parts i d inside)

-- no line comes after the last part
pub event_lines-past : (m : Meaning) (key : Key) (parts : List Part) (i : ℕ) → length parts ≤ i → event_lines m key (drop i parts) ≡ []
unfolding event_lines
event_lines-past m key parts i past = ap (event_lines m key) (drop_of_length-le parts past)

-- the lines of more records come after those of the first
pub record_lines-append : (m : Meaning) (records more : List (Key × Note)) → record_lines m (records ++ more) ≡ record_lines m records ++ record_lines m more
unfolding record_lines
record_lines-append m [] more = refl
record_lines-append m (told ∷ records) more =
    ap (λ text. event_lines m told.0 told.1 ++ text) (record_lines-append m records more) ∙ sym (append_assoc (event_lines m told.0 told.1) (record_lines m records) (record_lines m more))
