-- Where a job can stand, and where it stands after an event.
use Rattle.std.specs.Prelude.{ℕ, zero, suc, ◌==◌, ◌&&◌, if◌then◌else◌, List, [], ◌∷◌, slice_index_or}
use Rattle.event_key.specs.declared.key.Key.{Key}
use Rattle.event_key.specs.Keys.{same_key}
use Rattle.model_core.specs.declared.event.Event.{Event}
use Rattle.model_core.specs.declared.note.Note.{Note}

-- a job stands at a pending event, which is its arrival or the end of its service; or in the line of a station, behind so
-- many others; or it has left by a sink; or it was turned away
pub data Place : Type 0 where
  at_event : Key → Place
  in_line : ℕ → ℕ → Place
  has_left : Place
  was_lost : Place

-- the word that a note tells, and the job of which it tells
abbrev pub word_told : Note → ℕ
word_told [] = 0
word_told (part ∷ rest) = part.word

abbrev pub job_told : Note → ℕ
job_told [] = 0
job_told (part ∷ rest) = part.a

-- the key of an event of a list
abbrev pub key_number : List Event → ℕ → Key
key_number sent k =
    let none : Event = record { key = record { stamp = 0; rank = 0; dest = 0; src = 0; serial = 0 }; kind = 0; a = 0; b = 0 } in
    (slice_index_or sent k none).key

-- where the job of an event goes: out by `leave`, away by `lose`, to the end of the line by `wait`, and else to the first
-- event that is sent
abbrev pub own_place : ℕ → ℕ → ℕ → List Event → Place
own_place word object waiting sent =
    if word == 9 then has_left
    else if word == 5 then was_lost
    else if word == 4 then in_line object waiting
    else at_event (key_number sent 0)

-- a service is done: the first of the line goes to the second event that is sent, the end of its own, and the others move up
abbrev pub moved_up : List Event → ℕ → ℕ → Place
moved_up sent i zero = at_event (key_number sent 1)
moved_up sent i (suc k) = in_line i k

-- where a job stands after the event of this key, which tells this word and sends these events, while so many wait there
abbrev pub place_after : Key → ℕ → ℕ → List Event → Place → Place
place_after key word waiting sent (at_event k) = if same_key k key then own_place word key.dest waiting sent else at_event k
place_after key word waiting sent (in_line i k) = if (word == 6 && i == key.dest) then moved_up sent i k else in_line i k
place_after key word waiting sent has_left = has_left
place_after key word waiting sent was_lost = was_lost
