-- The words of `replicate`: what they set, or what is wrong with them.
use Rattle.std.specs.Prelude.{◌≤◌, ◌&&◌, ℕ, Bool, true, false, List, [], ◌∷◌, Option, Some, None, is_some, unwrap_or, IfSome, Result, Ok, Err, if◌then◌else◌, codes, bytes_eq}
use Rattle.event_key.specs.declared.stamp.TheConstants.{LAST_TICK}
use Rattle.sim_io.specs.declared.words.WordFault.{WordFault}
use Rattle.sim_io.specs.declared.words.WordFault.TheVariants.{RepeatedOption, MissingValue}
use Rattle.sim_io.specs.Words.{and_then, number_within, stray_word}
use Rattle.replications.specs.declared.words.Choice.{Choice}
use Rattle.replications.specs.declared.words.Choice.TheVariants.{FirstSeed, FirstTick, Workers}
use Rattle.replications.specs.declared.words.Given.{Given}
use Rattle.replications.specs.declared.words.Replicate.{Replicate}
use Rattle.replications.specs.declared.words.WindowStart.{WindowStart}
use Rattle.replications.specs.declared.words.TheConstants.{MOST_REPLICATIONS, LAST_SEED, MOST_WORKERS, DEFAULT_WORKERS}

-- `--from` is an option unless the model says from which tick on is counted
abbrev pub is_in_words : WindowStart → Bool
is_in_words WindowStart.Words = true
is_in_words WindowStart.Model = false

abbrev pub choice_named : WindowStart → List ℕ → Option Choice
choice_named start word =
    if bytes_eq word (codes "--first") then Some FirstSeed
    else if is_in_words start && bytes_eq word (codes "--from") then Some FirstTick
    else if bytes_eq word (codes "--workers") then Some Workers
    else None

abbrev pub value_of : Choice → List ℕ → Result ℕ WordFault
value_of FirstSeed word = number_within 0 LAST_SEED word
value_of FirstTick word = number_within 0 LAST_TICK word
value_of Workers word = number_within 1 MOST_WORKERS word

abbrev pub has_value : Given → Choice → Bool
has_value given FirstSeed = is_some given.first_seed
has_value given FirstTick = is_some given.first_tick
has_value given Workers = is_some given.workers

abbrev pub with_number : Given → Choice → ℕ → Given
with_number given FirstSeed n = record { first_seed = Some n; first_tick = given.first_tick; workers = given.workers }
with_number given FirstTick n = record { first_seed = given.first_seed; first_tick = Some n; workers = given.workers }
with_number given Workers n = record { first_seed = given.first_seed; first_tick = given.first_tick; workers = Some n }

-- the option that a word names, where it wasn't given before
abbrev pub chosen_if : Given → List ℕ → Option Choice → Result Choice WordFault
chosen_if given word None = Err (stray_word word)
chosen_if given word (Some choice) = if has_value given choice then Err RepeatedOption else Ok choice

abbrev pub chosen : WindowStart → Given → List ℕ → Result Choice WordFault
chosen start given word = chosen_if given word (choice_named start word)

-- with what a word gives an option
abbrev pub given_with : Given → Choice → List ℕ → Result Given WordFault
given_with given choice word = and_then (value_of choice word) (λ n. Ok (with_number given choice n))

-- options are walked in turn, each a word and its value
unfoldable pub walked : WindowStart → Given → List (List ℕ) → Result Given WordFault
walked start given [] = Ok given
walked start given (word ∷ []) = and_then (chosen start given word) (λ _. Err MissingValue)
walked start given (word ∷ value ∷ rest) =
    and_then (chosen start given word) (λ choice. and_then (given_with given choice value) (λ next. walked start next rest))

abbrev pub no_options : Given
no_options = record { first_seed = None; first_tick = None; workers = None }

abbrev pub settings_of : ℕ → Given → Replicate
settings_of count given = record {
  count = count;
  first_seed = given.first_seed;
  first_tick = unwrap_or given.first_tick 0;
  workers = unwrap_or given.workers DEFAULT_WORKERS;
}

-- the first word is how many replications there are, and the others are options
unfoldable pub replicate_settings : WindowStart → List (List ℕ) → Result Replicate WordFault
replicate_settings start [] = Err MissingValue
replicate_settings start (word ∷ rest) =
    and_then (number_within 1 MOST_REPLICATIONS word) (λ count. and_then (walked start no_options rest) (λ given. Ok (settings_of count given)))

-- a number lies between two where it is there
abbrev pub IsGivenWithin : ℕ → ℕ → Option ℕ → Type 0
IsGivenWithin least most given = IfSome given (λ n. (least ≤ n) × (n ≤ most))

-- what options gave lies within its bounds
pub record AreGivenInBounds (given : Given) : Type 0 where
  pub first_seed : IsGivenWithin 0 LAST_SEED given.first_seed
  pub first_tick : IsGivenWithin 0 LAST_TICK given.first_tick
  pub workers : IsGivenWithin 1 MOST_WORKERS given.workers

-- what is asked for lies within its bounds
pub record AreInBounds (asked : Replicate) : Type 0 where
  pub count : (1 ≤ asked.count) × (asked.count ≤ MOST_REPLICATIONS)
  pub first_seed : IsGivenWithin 0 LAST_SEED asked.first_seed
  pub first_tick : asked.first_tick ≤ LAST_TICK
  pub workers : (1 ≤ asked.workers) × (asked.workers ≤ MOST_WORKERS)
