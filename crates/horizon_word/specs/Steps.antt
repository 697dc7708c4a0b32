-- What the rule of a horizon word says of steps.
use Rattle.std.specs.Prelude.{◌≡◌, ◌≢◌, ℕ, ◌<◌, ◌≤◌, min, ◌⊎◌, List, [], ◌∷◌, ◌++◌, map, slice_set}
use Rattle.horizon_word.specs.declared.note.Note.{Note}
use Rattle.horizon_word.specs.declared.note.Opening.{Opening}
use Rattle.horizon_word.specs.declared.note.Progress.{Progress}
use Rattle.horizon_word.specs.Rule.{WordState, WordRule, HasNote, word_of, next_progress, first_note, note_after_lower, note_after_read}

-- a word with its first seat
abbrev pub first_state : Opening → WordState
first_state o = record { words = o.start ∷ []; homes = []; views = first_note o ∷ [] }

-- the state with one more seat
abbrev pub with_seat : WordState → Note → WordState
with_seat s note = record s { views = s.views ++ note ∷ [] }

-- the state after a step of a seat: another word, and another note of that seat alone
abbrev pub after_step : WordState → ℕ → ℕ → Note → WordState
after_step s seat word note = record s { words = slice_set s.words 0 word; views = slice_set s.views seat note }

-- how far each seat has come once this one got an answer
abbrev pub all_progress : WordState → ℕ → Note → ℕ → List Progress
all_progress s seat note answer = slice_set (map (λ (each : Note). each.own) s.views) seat (next_progress note.own answer)

-- a word begins under the rule
abbrev pub OpeningKeepsRule : Type 0
OpeningKeepsRule = (o : Opening) → o.floor ≤ o.start → WordRule o (first_state o)

-- one more seat, with the note that each seat begins with, keeps the rule while one that has it still is there
abbrev pub SplitKeepsRule : Type 0
SplitKeepsRule = (o : Opening) (s : WordState) (seat : ℕ) → WordRule o s → HasNote s seat (first_note o) → WordRule o (with_seat s (first_note o))

-- the fetch-min keeps the rule: the word becomes the lesser of itself and the stamp
abbrev pub LowerKeepsRule : Type 0
LowerKeepsRule = (o : Opening) (s : WordState) (seat : ℕ) (note : Note) (stamp : ℕ) → WordRule o s → HasNote s seat note → o.floor ≤ stamp
    → let word = min (word_of s) stamp in WordRule o (after_step s seat word (note_after_lower note stamp word (all_progress s seat note word)))

-- the load keeps the rule: the word stays
abbrev pub ReadKeepsRule : Type 0
ReadKeepsRule = (o : Opening) (s : WordState) (seat : ℕ) (note : Note) → WordRule o s → HasNote s seat note
    → let word = word_of s in WordRule o (after_step s seat word (note_after_read note word (all_progress s seat note word)))

-- the notes of the other seats stay
abbrev pub OthersStay : Type 0
OthersStay = (s : WordState) (seat word other : ℕ) (after note : Note) → other ≢ seat → HasNote s other note → HasNote (after_step s seat word after) other note

-- whatever step it is: where it keeps the rule and counts for its seat, the seat's answer is the word that it left
abbrev pub AnswersItsWord : Type 0
AnswersItsWord = (o : Opening) (s : WordState) (seat word : ℕ) (before after : Note) → WordRule o s → HasNote s seat before
    → WordRule o (after_step s seat word after) → before.own.taken < after.own.taken → after.own.seen ≡ word

-- whatever step it is: where it keeps the rule and does not count, the seat's answer stays, or is the word that it left
abbrev pub KeepsItsAnswer : Type 0
KeepsItsAnswer = (o : Opening) (s : WordState) (seat word : ℕ) (before after : Note) → WordRule o s → HasNote s seat before
    → WordRule o (after_step s seat word after) → before.own.taken ≡ after.own.taken → (after.own.seen ≡ before.own.seen) ⊎ (after.own.seen ≡ word)

-- whatever step it is: where it keeps the rule, the word falls as far as the seat offers, and no further
abbrev pub FallsToOffer : Type 0
FallsToOffer = (o : Opening) (s : WordState) (seat word stamp : ℕ) (before after : Note) → WordRule o s → HasNote s seat before
    → WordRule o (after_step s seat word after) → after.least ≡ min before.least stamp → word ≡ min (word_of s) stamp
