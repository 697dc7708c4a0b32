-- What contracts see of a horizon word and of a seat of it.
use Rattle.std.specs.Prelude.{◌≡◌, ℕ, ◌+◌, min}
use Rattle.atomic_table.specs.Seated.{TableId}

-- which word it is
abbrev pub WordId : Type 0
WordId = TableId

-- which word the seat is of, and its view: the number that the word was made with, the least stamp that the seat has offered, the last answer that it got, and how many steps it took
pub record SeatView : Type 0 where
  pub word : WordId
  pub floor : ℕ
  pub least : ℕ
  pub seen : ℕ
  pub taken : ℕ

abbrev pub IsSeatOf : WordId → SeatView → Type 0
IsSeatOf word seat = seat.word ≡ word

-- a seat that has taken no step
abbrev pub new_seat : WordId → ℕ → ℕ → SeatView
new_seat word floor start = record { word = word; floor = floor; least = start; seen = start; taken = 0 }

-- the seat once it has offered a stamp and got an answer
abbrev pub seat_after_lower : SeatView → ℕ → ℕ → SeatView
seat_after_lower seat stamp answer = record seat { least = min seat.least stamp; seen = answer; taken = seat.taken + 1 }

-- the seat once it has read the word
abbrev pub seat_after_read : SeatView → ℕ → SeatView
seat_after_read seat answer = record seat { seen = answer; taken = seat.taken + 1 }
