-- A refusal among the elements of a list.
use Rattle.std.proofs.Common.{◌≡◌, ℕ, ◌+◌, ◌<◌, List, ◌∷◌, length, drop, get_or, Ok, sym, ap, ◌∙◌}
use Rattle.std.proofs.lemmas.List.{drop_more}
use Rattle.model_reader.specs.declared.refusal.Refusal.{Refusal}
use Rattle.model_reader.specs.declared.refusal.Refusal.TheVariants.{At, OutOfMemory}
use Rattle.text_fields.specs.Checks.{Checked, Fails, ◌>>=◌}
use Rattle.text_fields.specs.Fields.{each_of}
use Rattle.text_fields.proofs.Each.{with_front}

-- the first element that is refused is the answer
pub list_ends : {X A : Type 0} (read : ℕ → X → Checked A) (front : List A) (e : Refusal) (k i : ℕ) (xs : List X) (x : X) (total : Checked (List A))
    → i < length xs → x ≡ get_or xs i x → Fails e (read k x) → with_front front (each_of read k (drop i xs)) ≡ total → Fails e total
list_ends read front OutOfMemory k i xs x total lt same fails so_far = tt
list_ends read front (At code place) k i xs x total lt same fails so_far =
    let split : drop i xs ≡ x ∷ drop (i + 1) xs = drop_more xs i x lt ∙ ap (λ y. y ∷ drop (i + 1) xs) (sym same) in
    sym so_far
    ∙ ap (λ ys. with_front front (each_of read k ys)) split
    ∙ ap (λ check. with_front front (check >>= (λ first. each_of read (k + 1) (drop (i + 1) xs) >>= (λ others. Ok (first ∷ others))))) fails
