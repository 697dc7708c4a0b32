-- A record's line begins with a digit.
use Rattle.std.proofs.Common.{◌≡◌, ℕ, ◌<◌, ◌+◌, ◌%◌, ◌^◌, List, [], ◌∷◌, ◌++◌, get_or, refl, ap, subst, arith}
use Rattle.std.specs.Prelude.{codes, decimal}
use Rattle.std.proofs.lemmas.Fmt.{decimal_by_steps}
use Rattle.event_key.specs.Stamps.{time_part, step_part}
use Rattle.sim_io.specs.Texts.{stamp_text, part_text, place_text, part_line}
use Rattle.model_program.specs.SavedRuns.{RecordsAreNoStates}

-- a first byte that is a digit or less
abbrev BeginsLow : ℕ → List ℕ → Type 0
BeginsLow n bytes = (first : ℕ) × (rest : List ℕ) × (bytes ≡ first ∷ rest) × (first < 58)

begins_low : (n : ℕ) → n < 2 ^ 64 → BeginsLow n (decimal n)
begins_low = decimal_by_steps BeginsLow (λ n few. (48 + n, [], refl, omega arith)) (λ n ds many begins. (begins.0, begins.1 ++ ((48 + n % 10) ∷ []), ap (λ xs. xs ++ ((48 + n % 10) ∷ [])) begins.2, begins.3))

pub records_are_no_states : RecordsAreNoStates
unfolding stamp_text place_text part_line
records_are_no_states m key part fits is =
    let start = begins_low (time_part key.stamp) (omega arith) in
    let line : (((start.0 ∷ start.1) ++ (codes "." ++ decimal (step_part key.stamp))) ++ (codes " " ++ m.label key.dest)) ++ (codes " " ++ (part_text m part ++ codes "\n")) ≡ codes "state 1\n" =
    subst (λ (time : List ℕ). ((time ++ (codes "." ++ decimal (step_part key.stamp))) ++ (codes " " ++ m.label key.dest)) ++ (codes " " ++ (part_text m part ++ codes "\n")) ≡ codes "state 1\n") start.2 is in
    let head : start.0 ≡ 115 = ap (λ xs. get_or xs 0 0) line in
    omega (arith, head, start.3)
