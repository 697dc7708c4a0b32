-- Each job keeps its birth, and is as old as it is told when it leaves.
use Rattle.std.specs.Prelude.{◌≡◌, ℕ, ◌-◌, ◌<◌, ◌≤◌, Some, All, [], ◌∷◌, length, slice_index, slice_index_or}
use Rattle.event_key.specs.declared.key.Key.{Key}
use Rattle.event_key.specs.Stamps.{time_part}
use Rattle.model_core.specs.declared.note.Note.{Note}
use Rattle.model_core.specs.declared.note.Part.{Part}
use Rattle.model_core.specs.declared.words.TheConstants.{LEFT_WORD}
use Rattle.sim_spec.specs.declared.terms.Terms.{Terms}
use Rattle.sim_spec.specs.State.{State}
use Rattle.sim_spec.specs.Run.{does, next}
use Rattle.queue_models.specs.declared.sink.Sink.{Sink as SinkOver}
use Rattle.queue_models.specs.Meaning.{plain_meaning, network_meaning}
use Rattle.queue_models.specs.Objects.{NetworkParts}
use Rattle.queue_models.specs.Parts.{IsNetwork}
use Rattle.run_laws.specs.Reached.{after_events, first_records}
use Rattle.subject_laws.specs.Births.{births, AreKept}
use Rattle.subject_laws.specs.Jobs.{Job, whereabouts}
use Rattle.subject_laws.specs.LossLaws.{IsSinkAt}
use Rattle.subject_laws.specs.Places.{at_event, has_left, word_told}

abbrev pub EachJobKeepsItsBirth : Type 0
EachJobKeepsItsBirth =
    (p : NetworkParts) (t : Terms) (n : ℕ) → IsNetwork p
    → AreKept p (after_events n (network_meaning p) t) (whereabouts p t n) (births p t n)

-- the second number that a note tells
abbrev pub age_told : Note → ℕ
age_told [] = 0
age_told (part ∷ rest) = part.b

-- a job stands at the event of this key, and this is how old it is then
pub record IsOfAge (p : NetworkParts) (t : Terms) (n : ℕ) (key : Key) (age : ℕ) : Type 0 where
  pub number : ℕ
  pub job : Job
  pub within : number < length (whereabouts p t n)
  pub stands : slice_index_or (whereabouts p t n) number (job, has_left) ≡ (job, at_event key)
  pub old : age ≡ time_part key.stamp - slice_index (births p t n) number

-- if a job leaves next, what is told is the age of one that stands at this event
abbrev pub AgesAreTold : Type 0
AgesAreTold =
    (p : NetworkParts) (t : Terms) (n : ℕ) (told : Key × Note) (after : State) → IsNetwork p
    → next (plain_meaning p) t (after_events n (plain_meaning p) t) ≡ does told after → word_told told.1 ≡ LEFT_WORD
    → IsOfAge p t n told.0 (age_told told.1)

-- what is told of an object tells of no job that leaves it at a greater age
abbrev pub NoneIsOlder : ℕ → ℕ → Key × Note → Type 0
NoneIsOlder i due told = told.0.dest ≡ i → All (λ (part : Part). part.word ≡ LEFT_WORD → part.b ≤ due) told.1

-- a sink with a due tells of no job that is older
abbrev pub NoneLeavesLate : Type 0
NoneLeavesLate =
    (p : NetworkParts) (t : Terms) (i n due : ℕ) (sink : SinkOver) → IsSinkAt p i sink → sink.due ≡ Some due
    → All (NoneIsOlder i due) (first_records n (network_meaning p) t)
