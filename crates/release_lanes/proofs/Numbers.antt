-- Ends in the order of the nodes, and what rests on a lane.
use Rattle.std.proofs.Common.{◌≡◌, ℕ, zero, suc, ◌+◌, ◌<◌, List, [], ◌∷◌, ◌++◌, map, length, get_or, set, sym, ap, refl, ◌∙◌, arith}
use Rattle.std.specs.List.{AllZip, range_with_len}
use Rattle.std.proofs.lemmas.List.{append_cancel_left, get_or-map, length-map}
use Rattle.std.proofs.lemmas.List.FromFn.{length-range_with_len, get_or-range_with_len}

-- each is related to the one in its place
module _ {A : Type 0} (R : A → A → Type 0) where
  pub AllZip-first : ((x : A) → R x x) → (xs : List A) → AllZip R xs xs
  AllZip-first first [] = tt
  AllZip-first first (x ∷ xs) = (first x, AllZip-first first xs)

  pub AllZip-set : (xs ys : List A) (k : ℕ) (y : A) → AllZip R xs ys → R (get_or xs k y) y → AllZip R xs (set ys k y)
  AllZip-set [] [] k y same now = tt
  AllZip-set [] (z ∷ ys) k y same now = absurd same
  AllZip-set (x ∷ xs) [] k y same now = absurd same
  AllZip-set (x ∷ xs) (z ∷ ys) zero y same now = (now, same.1)
  AllZip-set (x ∷ xs) (z ∷ ys) (suc k) y same now = (same.0, AllZip-set xs ys k y same.1 now)

-- what related elements agree on, the lists agree on
pub mapped_alike : {A B : Type 0} (R : A → A → Type 0) (f : A → B) → ((x y : A) → R x y → f y ≡ f x) → (xs ys : List A) → AllZip R xs ys → map f ys ≡ map f xs
mapped_alike R f agree [] [] same = refl
mapped_alike R f agree [] (y ∷ ys) same = absurd same
mapped_alike R f agree (x ∷ xs) [] same = absurd same
mapped_alike R f agree (x ∷ xs) (y ∷ ys) same = let head = agree x y same.0 in let tail = mapped_alike R f agree xs ys same.1 in cc

-- elements that are numbered from 0 on
pub numbered_length : {A : Type 0} (number : A → ℕ) (xs : List A) (n : ℕ) → map number xs ≡ range_with_len 0 n → length xs ≡ n
numbered_length number xs n numbers = sym (length-map xs number) ∙ ap length numbers ∙ length-range_with_len 0 n

pub numbered_at : {A : Type 0} (number : A → ℕ) (xs : List A) (n k : ℕ) (d : A) → map number xs ≡ range_with_len 0 n → k < n → number (get_or xs k d) ≡ k
numbered_at number xs n k d numbers less =
    let long = numbered_length number xs n numbers in
    let at : get_or (range_with_len 0 n) k 0 ≡ 0 + k = get_or-range_with_len 0 n k 0 less in
    let plain : 0 + k ≡ k = omega arith in
    sym (get_or-map number xs k d 0 (omega arith)) ∙ ap (λ l. get_or l k 0) numbers ∙ at ∙ plain

-- what rests is what was sent and not received
pub rest_kept : {T : Type 0} (received sent rest received' sent' rest' : List T) → received' ≡ received → sent' ≡ sent → received ++ rest ≡ sent → received' ++ rest' ≡ sent' → rest' ≡ rest
rest_kept received sent rest received' sent' rest' same_received same_sent law law' =
    append_cancel_left received rest' rest (ap (λ l. l ++ rest') (sym same_received) ∙ law' ∙ same_sent ∙ sym law)
