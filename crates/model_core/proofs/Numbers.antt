-- Numbers from one on.
use Rattle.std.proofs.Common.{◌≡◌, ◌∙◌, ℕ, ◌+◌, ◌<◌, List, [], ◌∷◌, ◌++◌, sym, ap, append-nil, arith}
use Rattle.std.specs.Prelude.{flat_map}
use Rattle.std.specs.List.{All, range_with_len}
use Rattle.std.proofs.lemmas.Grind.{flat_map-append}
use Rattle.std.proofs.lemmas.List.{map-id}
use Rattle.std.proofs.lemmas.List.FromFn.{get_or-range_with_len, length-range_with_len, map-range_with_len_more}

pub numbers-more : (a n j : ℕ) → a + n ≡ j → range_with_len a (n + 1) ≡ range_with_len a n ++ j ∷ []
numbers-more a n j at = sym (map-id (range_with_len a (n + 1))) ∙ map-range_with_len_more (λ i. i) a n j at ∙ ap (λ ns. ns ++ j ∷ []) (map-id (range_with_len a n))

-- what is listed for each number, and for a number more
pub flat_map-numbers-more : {X : Type 0} (f : ℕ → List X) (n : ℕ) → flat_map f (range_with_len 0 (n + 1)) ≡ flat_map f (range_with_len 0 n) ++ f n
flat_map-numbers-more f n =
    ap (flat_map f) (numbers-more 0 n n (omega arith))
    ∙ flat_map-append f (range_with_len 0 n) (n ∷ [])
    ∙ ap (λ rest. flat_map f (range_with_len 0 n) ++ rest) (append-nil (f n))

pub numbers_below : (n : ℕ) → All (λ number. number < n) (range_with_len 0 n)
numbers_below n i d within = let below : i < n = omega (arith, length-range_with_len 0 n) in omega (arith, get_or-range_with_len 0 n i d below)
