-- The rule of a horizon word, which holds between any two steps, whichever threads take them.
use Rattle.std.specs.Prelude.{◌≡◌, ℕ, ◌+◌, ◌≤◌, min, List, [], length, slice_index, slice_index_or}
use mathlib.Core.Option.{some}
use lib.ListN.{get_elem?}
use Rattle.atomic_table.specs.Table.{State}
use Rattle.horizon_word.specs.declared.note.Note.{Note}
use Rattle.horizon_word.specs.declared.note.Opening.{Opening}
use Rattle.horizon_word.specs.declared.note.Progress.{Progress}

-- the word, and a note for each seat
abbrev pub WordState : Type 0
WordState = State (Unit {0}) Note

abbrev pub word_of : WordState → ℕ
word_of s = slice_index s.words 0

abbrev pub HasNote : WordState → ℕ → Note → Type 0
HasNote s seat note = get_elem? s.views seat ≡ some note

abbrev pub AllNotes : WordState → (ℕ → Note → Type 0) → Type 0
AllNotes s P = (seat : ℕ) (note : Note) → HasNote s seat note → P seat note

abbrev pub SomeNote : WordState → (ℕ → Note → Type 0) → Type 0
SomeNote s P = (seat : ℕ) × (note : Note) × HasNote s seat note × P seat note

-- a seat that took no step, and was answered the start
abbrev pub beginning : Opening → Progress
beginning o = record { taken = 0; seen = o.start }

-- how far a seat had come as far as the note knows
abbrev pub known_progress : Opening → Note → ℕ → Progress
known_progress o note seat = slice_index_or note.known seat (beginning o)

-- it has come further since, or stands where it was
abbrev pub HasComeFrom : Progress → Progress → Type 0
HasComeFrom before now = (before.taken ≤ now.taken) × (before.taken ≡ now.taken → before ≡ now)

-- What a note knows is how far each seat has come, or had come before
abbrev pub KnowsPast : Opening → WordState → Note → Type 0
KnowsPast o s knower = AllNotes s (λ seat note. HasComeFrom (known_progress o knower seat) note.own)

-- It took the last step of all: it was answered the word, and knows how far each seat has come
abbrev pub IsLast : Opening → WordState → Note → Type 0
IsLast o s last = (last.own.seen ≡ word_of s) × AllNotes s (λ seat note. known_progress o last seat ≡ note.own)

-- The floors are equal, and at most the word. The word is the least of all that was offered, and at most each last answer.
-- Some seat took the last step, and its answer is the word. For that the notes know of one another: nothing of seats that
-- are not there, and of each other one how far it has come, or had come before
pub record WordRule (o : Opening) (s : WordState) : Type 0 where
  pub one_word : length s.words ≡ 1
  pub floors : AllNotes s (λ seat note. note.floor ≡ o.floor)
  pub above_floor : o.floor ≤ word_of s
  pub below_offers : AllNotes s (λ seat note. word_of s ≤ note.least)
  pub offered : SomeNote s (λ seat note. note.least ≡ word_of s)
  pub below_answers : AllNotes s (λ seat note. word_of s ≤ note.own.seen)
  pub in_reach : AllNotes s (λ seat note. length note.known ≤ length s.views)
  pub past : AllNotes s (λ seat note. KnowsPast o s note)
  pub last_step : SomeNote s (λ seat note. IsLast o s note)

-- the note that each seat begins with
abbrev pub first_note : Opening → Note
first_note o = record { floor = o.floor; least = o.start; own = beginning o; known = [] }

-- one step more, with this answer
abbrev pub next_progress : Progress → ℕ → Progress
next_progress own answer = record { taken = own.taken + 1; seen = answer }

-- a word that a seat can find
abbrev pub CanFind : Note → ℕ → Type 0
CanFind note word = (note.floor ≤ word) × (word ≤ note.least) × (word ≤ note.own.seen)

-- the note once the seat has offered a stamp and got an answer
abbrev pub note_after_lower : Note → ℕ → ℕ → List Progress → Note
note_after_lower note stamp answer known = record { floor = note.floor; least = min note.least stamp; own = next_progress note.own answer; known = known }

-- the note once the seat has read the word
abbrev pub note_after_read : Note → ℕ → List Progress → Note
note_after_read note answer known = record { floor = note.floor; least = note.least; own = next_progress note.own answer; known = known }

-- what a step tells: the word that it found, and the note that it left, up to what it knows of other seats
abbrev pub Finds : Note → ℕ → (List Progress → Note) → Note → Type 0
Finds before word note_with after = CanFind before word × ((known : List Progress) × (after ≡ note_with known))
