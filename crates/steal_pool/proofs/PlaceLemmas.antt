-- Lists that change place by place.
use Rattle.std.proofs.Common.{◌≡◌, ◌+◌, ◌<◌, ◌≤◌, ℕ, zero, suc, List, [], ◌∷◌, ◌++◌, length, map, take, drop, get_or, set, refl, sym, ap, ◌∙◌, subst, arith}
use Rattle.std.specs.List.{AllZip}
use Rattle.std.proofs.lemmas.List.{get_or-map, length-drop, length-map, map-append, take_more}

module _ {A : Type 0} (R : A → A → Type 0) where
  -- the first places have changed, and the others stand
  abbrev pub Upto : ℕ → List A → List A → Type 0
  Upto zero old now = now ≡ old
  Upto (suc i) [] [] = Unit {0}
  Upto (suc i) [] (y ∷ ys) = ⊥
  Upto (suc i) (x ∷ xs) [] = ⊥
  Upto (suc i) (x ∷ xs) (y ∷ ys) = R x y × Upto i xs ys

  pub upto-more : (i : ℕ) (old now : List A) (x y : A) → Upto i old now → i < length now → R (get_or now i x) y → Upto (suc i) old (set now i y)
  upto-more zero [] now x y same inside one = absurd (let short = ap length same in omega arith)
  upto-more zero (z ∷ zs) now x y same inside one =
      let here : R z y = subst (λ (l : List A). R (get_or l 0 x) y) same one in
      subst (λ (l : List A). Upto 1 (z ∷ zs) (set l 0 y)) (sym same) (here, refl)
  upto-more (suc i) [] [] x y upto inside one = tt
  upto-more (suc i) [] (w ∷ ws) x y upto inside one = absurd upto
  upto-more (suc i) (z ∷ zs) [] x y upto inside one = absurd upto
  upto-more (suc i) (z ∷ zs) (w ∷ ws) x y upto inside one = (upto.0, upto-more i zs ws x y upto.1 (omega arith) one)

  -- the place that comes next stands
  pub upto-next : (i : ℕ) (old now : List A) (x : A) → Upto i old now → get_or now i x ≡ get_or old i x
  upto-next zero old now x same = ap (λ l. get_or l 0 x) same
  upto-next (suc i) [] [] x upto = refl
  upto-next (suc i) [] (w ∷ ws) x upto = absurd upto
  upto-next (suc i) (z ∷ zs) [] x upto = absurd upto
  upto-next (suc i) (z ∷ zs) (w ∷ ws) x upto = upto-next i zs ws x upto.1

  pub upto-length : (i : ℕ) (old now : List A) → Upto i old now → length now ≡ length old
  upto-length zero old now same = ap length same
  upto-length (suc i) [] [] upto = refl
  upto-length (suc i) [] (w ∷ ws) upto = absurd upto
  upto-length (suc i) (z ∷ zs) [] upto = absurd upto
  upto-length (suc i) (z ∷ zs) (w ∷ ws) upto = ap suc (upto-length i zs ws upto.1)

  pub upto-all : (i : ℕ) (old now : List A) → length old ≤ i → Upto i old now → AllZip R old now
  upto-all zero [] now short same = subst (AllZip R []) (sym same) tt
  upto-all zero (z ∷ zs) now short same = absurd (omega arith)
  upto-all (suc i) [] [] short upto = tt
  upto-all (suc i) [] (w ∷ ws) short upto = absurd upto
  upto-all (suc i) (z ∷ zs) [] short upto = absurd upto
  upto-all (suc i) (z ∷ zs) (w ∷ ws) short upto = (upto.0, upto-all i zs ws (omega arith) upto.1)

  -- what is said of each pair of two lists makes a function of them equal
  pub zip-map : {B : Type 0} (f : A → B) → ((x y : A) → R x y → f y ≡ f x) → (xs ys : List A) → AllZip R xs ys → map f ys ≡ map f xs
  zip-map f same [] [] zip = refl
  zip-map f same [] (y ∷ ys) zip = absurd zip
  zip-map f same (x ∷ xs) [] zip = absurd zip
  zip-map f same (x ∷ xs) (y ∷ ys) zip = ap (λ z. z ∷ map f ys) (same x y zip.0) ∙ ap (λ l. f x ∷ l) (zip-map f same xs ys zip.1)

module _ {A B : Type 0} (f : A → B) where
  -- what is made of one place after the other
  pub more-taken : (xs : List A) (i : ℕ) (x : A) (ys zs : List A) (y : A) → i < length xs → map f ys ≡ take i (map f xs) → f y ≡ f (get_or xs i x) → zs ≡ ys ++ y ∷ []
      → map f zs ≡ take (i + 1) (map f xs)
  more-taken xs i x ys zs y inside before here is =
      ap (map f) is ∙ map-append f ys (y ∷ []) ∙ ap (λ l. l ++ f y ∷ []) before ∙ ap (λ z. take i (map f xs) ++ z ∷ []) (here ∙ sym (get_or-map f xs i x (f x) inside))
      ∙ sym (take_more (map f xs) i (f x) (omega (arith, length-map xs f)))

module _ {A : Type 0} where
  -- what stands from a place on begins with what stands there
  pub from-place : (xs : List A) (i : ℕ) (y : A) (ys : List A) → y ∷ ys ≡ drop i xs → (i < length xs) × (ys ≡ drop (i + 1) xs) × (get_or xs i y ≡ y)
  from-place [] i y ys is = absurd (let none = ap length is in omega (arith, length-drop {A = A} i []))
  from-place (x ∷ xs) zero y ys is = (omega arith, cc, cc)
  from-place (x ∷ xs) (suc i) y ys is = let rest = from-place xs i y ys is in (omega (arith, rest.0), rest.1 ∙ ap (λ k. drop k (x ∷ xs)) (let later : suc (i + 1) ≡ suc i + 1 = omega arith in later), rest.2)
