-- The events that an object sends to itself, or begins with, as their kinds and two numbers.
use Rattle.std.specs.Prelude.{ℕ}
use Rattle.shop_model.specs.declared.kinds.TheConstants.{MAKE, DONE, CALL, TIRE, SHIFT, BREAK, MEND}
use Rattle.shop_model.specs.declared.own_event.OwnEvent.{OwnEvent}
use Rattle.shop_model.specs.declared.own_event.OwnEvent.TheVariants.{Arrive, ArriveInTurn, MakeRest, Done, Call, Tire, Shift, Break, Mend}

abbrev pub kind_of : OwnEvent → ℕ
kind_of Arrive = MAKE
kind_of ArriveInTurn = MAKE
kind_of (MakeRest jobs) = MAKE
kind_of (Done job birth) = DONE
kind_of Call = CALL
kind_of (Tire entry level) = TIRE
kind_of (Shift number) = SHIFT
kind_of Break = BREAK
kind_of Mend = MEND

abbrev pub first_word : OwnEvent → ℕ
first_word Arrive = 0
first_word ArriveInTurn = 0
first_word (MakeRest jobs) = jobs
first_word (Done job birth) = job.word
first_word Call = 0
first_word (Tire entry level) = entry
first_word (Shift number) = number
first_word Break = 0
first_word Mend = 0

-- the next arrival is drawn where the second number is odd
abbrev pub second_word : OwnEvent → ℕ
second_word Arrive = 0
second_word ArriveInTurn = 1
second_word (MakeRest jobs) = 0
second_word (Done job birth) = birth.word
second_word Call = 0
second_word (Tire entry level) = level
second_word (Shift number) = 0
second_word Break = 0
second_word Mend = 0
