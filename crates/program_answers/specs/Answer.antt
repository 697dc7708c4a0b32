-- What a program writes, what it notes, and the status with which it ends.
use Rattle.std.specs.Prelude.{◌≡◌, ◌⊎◌, ℕ, Bool, true, false, List, [], ◌++◌, Option, Some, IfSome, codes, decimal}
use Rattle.std.specs.Io.KnownBytes.{Appends as AppendsKnown}
use Rattle.sim_io.specs.Taken.{Taken, Appends}
use Rattle.sim_spec.specs.declared.stop.Stop.{Stop}
use Rattle.sim_spec.specs.declared.stop.Stop.TheVariants.{End, Limit, Fault}
use Rattle.sim_io.specs.declared.words.WordFault.{WordFault}
use Rattle.sim_io.specs.Words.{fault_name}
use Rattle.sim_io.specs.Transfers.{AppendsPrefix}
use Rattle.program_answers.specs.declared.status.TheConstants.{END, EVENT_FAULT, WORDS, MODEL, EVENT_LIMIT}

pub record Answer : Type 0 where
  pub output : List ℕ
  pub notes : List ℕ
  pub status : ℕ

abbrev pub status_of_stop : Stop → ℕ
status_of_stop End = END
status_of_stop (Fault key code) = EVENT_FAULT
status_of_stop Limit = EVENT_LIMIT

-- the line for words that are refused
abbrev pub words_line : WordFault → List ℕ
words_line fault = codes "words: " ++ (fault_name fault ++ codes "\n")

-- the line for a model that is refused: the code and what it is called, and the item where it was met
unfoldable pub refusal_line : ℕ → List ℕ → ℕ → List ℕ
refusal_line code name item = codes "model: " ++ (decimal code ++ (codes " " ++ (name ++ (codes " item " ++ (decimal item ++ codes "\n")))))

-- the answer to words that are refused
abbrev pub answer_to_fault : WordFault → Answer
answer_to_fault fault = record { output = []; notes = words_line fault; status = WORDS }

-- the answer to a model that is refused with a code of this name at this item
abbrev pub answer_to_refusal : ℕ → List ℕ → ℕ → Answer
answer_to_refusal code name item = record { output = []; notes = refusal_line code name item; status = MODEL }

-- what words ask for: whether they are refused, whether the input is read, how many bytes of it at most, which input is
-- accepted, and what is answered to the input
pub record Asked : Type 0 where
  pub refused : Bool
  pub takes : Bool
  pub most : ℕ
  pub accepts : List ℕ → Bool
  pub answer : List ℕ → Answer

-- these bytes are what is left to be read, or it plays no part what is left
abbrev pub IsInput : Asked → Option (List ℕ) → List ℕ → Type 0
IsInput asked left bytes = (left ≡ Some bytes) ⊎ (asked.takes ≡ false)

-- this holds of the answer to what is left to be read: where that is known, or plays no part
abbrev pub OfAnswer : Asked → Option (List ℕ) → (Answer → Type 0) → Type 0
OfAnswer asked left P = (bytes : List ℕ) → IsInput asked left bytes → P (asked.answer bytes)

-- the same of the answer where the words and the input are accepted
abbrev pub OfAccepted : Asked → Option (List ℕ) → (Answer → Type 0) → Type 0
OfAccepted asked left P = (bytes : List ℕ) → IsInput asked left bytes → asked.accepts bytes ≡ true → P (asked.answer bytes)

-- the output of the answer was written, or a prefix of it
abbrev pub WritesOutput : Taken → Taken → Answer → Type 0
WritesOutput old new a = Appends old new a.output

abbrev pub WritesPrefix : Taken → Taken → Answer → Type 0
WritesPrefix old new a = AppendsPrefix old new a.output

-- all that was handed on is a prefix of what had been taken before and the output
abbrev pub HandsOnPrefix : Option (List ℕ) → Option (List ℕ) → Answer → Type 0
HandsOnPrefix taken handed a = IfSome taken (λ before. (rest : List ℕ) × AppendsKnown handed (Some (before ++ a.output)) rest)
