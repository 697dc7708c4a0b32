-- What stands at a place of a row of two piles.
use Rattle.std.proofs.Common.{◌≡◌, ℕ, zero, suc, ◌-◌, ◌<◌, ◌≤◌, List, [], ◌∷◌, ◌++◌, length, sym, ap, ◌∙◌, arith}
use Rattle.std.proofs.lemmas.List.{length-append, length-reverse, get_or-reverse, get_or_append_left}
use Rattle.std.proofs.lemmas.Option.{slice_get-get_or}
use Rattle.std.specs.Prelude.{Some, reverse, slice_get}
use Rattle.object_log.specs.Dones.{Done}

pub turned-early : (early late : List Done) (place : ℕ) → place < length early → slice_get (reverse early ++ late) place ≡ slice_get early (length early - 1 - place)
turned-early [] late place below = absurd (omega arith)
turned-early (d ∷ ds) late place below =
    let early = d ∷ ds in
    let long = length-reverse early in
    let all = length-append (reverse early) late in
    slice_get-get_or (reverse early ++ late) place d (omega arith)
    ∙ ap Some (get_or_append_left (reverse early) late d place (omega arith) ∙ get_or-reverse early place d below)
    ∙ sym (slice_get-get_or early (length early - 1 - place) d (omega arith))

pub behind-front : {X : Type 0} (xs ys : List X) (place : ℕ) → length xs ≤ place → slice_get (xs ++ ys) place ≡ slice_get ys (place - length xs)
behind-front [] ys place from = let same : place ≡ place - 0 = omega arith in ap (slice_get ys) same
behind-front (x ∷ xs) ys zero from = absurd (omega arith)
behind-front (x ∷ xs) ys (suc place) from = let same : place - length xs ≡ suc place - length (x ∷ xs) = omega arith in behind-front xs ys place (omega arith) ∙ ap (slice_get ys) same

pub turned-late : (early late : List Done) (place : ℕ) → length early ≤ place → slice_get (reverse early ++ late) place ≡ slice_get late (place - length early)
turned-late early late place from =
    let long = length-reverse early in
    behind-front (reverse early) late place (omega arith) ∙ ap (λ n. slice_get late (place - n)) long
