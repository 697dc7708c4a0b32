-- Options that are walked, two words at a time.
use Rattle.std.proofs.Common.{◌≡◌, ◌≤◌, ℕ, List, [], ◌∷◌, Ok, String, string_bytes, length, get_or, drop, ap, ◌∙◌, arith}
use Rattle.std.specs.declared.alloc.Global.{Global}
use Rattle.sim_io.specs.Words.{and_then, texts_of}
use Rattle.replications.specs.declared.words.Choice.{Choice}
use Rattle.replications.specs.declared.words.Given.{Given}
use Rattle.replications.specs.declared.words.WindowStart.{WindowStart}
use Rattle.replications.specs.ReplicateWords.{chosen, given_with, walked}

pub two_words : (words : List (String Global)) (word value : String Global) → 2 ≤ length words → word ≡ get_or words 0 word → value ≡ get_or words 1 value
    → texts_of words ≡ string_bytes word ∷ string_bytes value ∷ texts_of (drop 2 words)
two_words [] word value many first second = absurd (omega arith)
two_words (a ∷ []) word value many first second = absurd (omega arith)
two_words (a ∷ b ∷ rest) word value many first second =
    let is_a : a ≡ word = cc in
    let is_b : b ≡ value = cc in
    ap (λ (w : String Global). string_bytes w ∷ string_bytes b ∷ texts_of rest) is_a ∙ ap (λ (v : String Global). string_bytes word ∷ string_bytes v ∷ texts_of rest) is_b

pub walks : (start : WindowStart) (given next : Given) (choice : Choice) (word value : List ℕ) (rest : List (List ℕ)) → chosen start given word ≡ Ok choice → given_with given choice value ≡ Ok next
    → walked start given (word ∷ value ∷ rest) ≡ walked start next rest
unfolding walked
walks start given next choice word value rest is_chosen is_given =
    ap (λ r. and_then r (λ (choice : Choice). and_then (given_with given choice value) (λ (next : Given). walked start next rest))) is_chosen
    ∙ ap (λ r. and_then r (λ (next : Given). walked start next rest)) is_given
