-- What words give lies within its bounds.
use Rattle.std.proofs.Common.{◌≡◌, ◌≤◌, ℕ, Bool, true, false, List, [], ◌∷◌, Option, Some, None, Result, Ok, Err, refl, subst, arith}
use Rattle.std.specs.Prelude.{◌&&◌, if◌then◌else◌, nat_le, unwrap_or}
use Rattle.std.specs.Str.Parse.{digits_value}
use Rattle.std.proofs.lemmas.Grind.{common_steps}
use Rattle.event_key.specs.declared.stamp.TheConstants.{LAST_TICK}
use Rattle.sim_io.specs.declared.words.WordFault.{WordFault}
use Rattle.sim_io.specs.declared.words.WordFault.TheVariants.{BadValue}
use Rattle.sim_io.specs.Words.{and_then, is_number, number_within}
use Rattle.replications.specs.declared.words.Choice.{Choice}
use Rattle.replications.specs.declared.words.Choice.TheVariants.{FirstSeed, FirstTick, Workers}
use Rattle.replications.specs.declared.words.Given.{Given}
use Rattle.replications.specs.declared.words.WindowStart.{WindowStart}
use Rattle.replications.specs.declared.words.TheConstants.{LAST_SEED, MOST_WORKERS}
use Rattle.replications.specs.ReplicateWords.{value_of, with_number, given_with, chosen, walked, IsGivenWithin, AreGivenInBounds}

pub number_within-bounds : (least most : ℕ) (word : List ℕ) (n : ℕ) → number_within least most word ≡ Ok n → (least ≤ n) × (n ≤ most)
number_within-bounds least most word n is = by (is_number word && nat_le least (digits_value 10 word) && nat_le (digits_value 10 word) most) refl is
  where
    value : ℕ
    value = digits_value 10 word

    by : (b : Bool) → (is_number word && nat_le least value && nat_le value most) ≡ b → (if b then Ok value else Err BadValue) ≡ Ok n → (least ≤ n) × (n ≤ most)
    by true tested gives =
        let same : value ≡ n = cc in
        let low : least ≤ value = grind (arith, common_steps, tested) in
        let high : value ≤ most = grind (arith, common_steps, tested) in
        subst (λ n. (least ≤ n) × (n ≤ most)) same (low, high)
    by false tested gives = absurd (cc)

-- the bounds of an option's number
abbrev IsNumberOf : Choice → ℕ → Type 0
IsNumberOf FirstSeed n = (0 ≤ n) × (n ≤ LAST_SEED)
IsNumberOf FirstTick n = (0 ≤ n) × (n ≤ LAST_TICK)
IsNumberOf Workers n = (1 ≤ n) × (n ≤ MOST_WORKERS)

value-bounds : (choice : Choice) (word : List ℕ) (n : ℕ) → value_of choice word ≡ Ok n → IsNumberOf choice n
value-bounds FirstSeed word n read = number_within-bounds 0 LAST_SEED word n read
value-bounds FirstTick word n read = number_within-bounds 0 LAST_TICK word n read
value-bounds Workers word n read = number_within-bounds 1 MOST_WORKERS word n read

with-bounds : (given : Given) (choice : Choice) (n : ℕ) → AreGivenInBounds given → IsNumberOf choice n → AreGivenInBounds (with_number given choice n)
with-bounds given FirstSeed n fine is = record { first_seed = is; first_tick = fine.first_tick; workers = fine.workers }
with-bounds given FirstTick n fine is = record { first_seed = fine.first_seed; first_tick = is; workers = fine.workers }
with-bounds given Workers n fine is = record { first_seed = fine.first_seed; first_tick = fine.first_tick; workers = is }

-- one option more
given-bounds : (given next : Given) (choice : Choice) (word : List ℕ) → given_with given choice word ≡ Ok next → AreGivenInBounds given → AreGivenInBounds next
given-bounds given next choice word is fine = by (value_of choice word) refl is
  where
    by : (r : Result ℕ WordFault) → value_of choice word ≡ r → and_then r (λ n. Ok (with_number given choice n)) ≡ Ok next → AreGivenInBounds next
    by (Err fault) read gives = absurd (cc)
    by (Ok n) read gives =
        let same : with_number given choice n ≡ next = cc in
        subst AreGivenInBounds same (with-bounds given choice n fine (value-bounds choice word n read))

-- what comes behind an option and its value
behind : (start : WindowStart) (out given : Given) (choice : Choice) (value : List ℕ) (rest : List (List ℕ)) → AreGivenInBounds given
    → ((next : Given) → walked start next rest ≡ Ok out → AreGivenInBounds next → AreGivenInBounds out)
    → and_then (given_with given choice value) (λ (next : Given). walked start next rest) ≡ Ok out → AreGivenInBounds out
behind start out given choice value rest fine again is = by (given_with given choice value) refl is
  where
    by : (r : Result Given WordFault) → given_with given choice value ≡ r → and_then r (λ (next : Given). walked start next rest) ≡ Ok out → AreGivenInBounds out
    by (Err fault) read gives = absurd (cc)
    by (Ok next) read gives = again next gives (given-bounds given next choice value read fine)

pub walked-bounds : (start : WindowStart) (out given : Given) (words : List (List ℕ)) → walked start given words ≡ Ok out → AreGivenInBounds given → AreGivenInBounds out
unfolding walked
walked-bounds start out given [] is fine = (let same : given ≡ out = cc in subst AreGivenInBounds same fine)
walked-bounds start out given (word ∷ []) is fine = by (chosen start given word) is
  where
    by : (r : Result Choice WordFault) → and_then {U = Given} r (λ _. Err WordFault.MissingValue) ≡ Ok out → AreGivenInBounds out
    by (Ok choice) gives = absurd (cc)
    by (Err fault) gives = absurd (cc)
walked-bounds start out given (word ∷ value ∷ rest) is fine = by (chosen start given word) (λ next gives fine. walked-bounds start out next rest gives fine) is
  where
    by : (r : Result Choice WordFault) → ((next : Given) → walked start next rest ≡ Ok out → AreGivenInBounds next → AreGivenInBounds out)
        → and_then r (λ (choice : Choice). and_then (given_with given choice value) (λ (next : Given). walked start next rest)) ≡ Ok out → AreGivenInBounds out
    by (Ok choice) again gives = behind start out given choice value rest fine again gives
    by (Err fault) again gives = absurd (cc)

pub or_else : (least most default : ℕ) (o : Option ℕ) → IsGivenWithin least most o → least ≤ default → default ≤ most → (least ≤ unwrap_or o default) × (unwrap_or o default ≤ most)
or_else least most default None fine low high = (low, high)
or_else least most default (Some n) fine low high = fine
