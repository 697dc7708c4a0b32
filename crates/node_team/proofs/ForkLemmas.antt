-- What is said of each place of two lists.
use Rattle.std.proofs.Common.{◌≡◌, ℕ, suc, ◌<◌, List, [], ◌∷◌, length, get_or, refl, subst, sym, arith}
use Rattle.std.specs.Result.{result_and}
use Rattle.std.specs.Prelude.{Result, Ok, Err, IsErr, IfOk, OnOk}
use Rattle.std.specs.List.{AllZip}
use Rattle.cycle_core.specs.Places.{EachPair}

pub each-zip : {A : Type 0} (R : A → A → Type 0) (xs ys : List A) → length ys ≡ length xs → ((i : ℕ) (d : A) → i < length xs → R (get_or xs i d) (get_or ys i d)) → AllZip R xs ys
each-zip R [] [] many each = tt
each-zip R [] (y ∷ ys) many each = absurd (omega arith)
each-zip R (x ∷ xs) [] many each = absurd (omega arith)
each-zip R (x ∷ xs) (y ∷ ys) many each = (each 0 x (omega arith), each-zip R xs ys (omega arith) (λ i d below. each (suc i) d (omega arith)))

-- what relates two lists place by place follows from what relates them so
pub zip-into : {A : Type 0} (Q R : A → A → Type 0) → ((x y : A) → Q x y → R x y) → (xs ys : List A) → AllZip Q xs ys → AllZip R xs ys
zip-into Q R into [] [] all = tt
zip-into Q R into [] (y ∷ ys) all = absurd all
zip-into Q R into (x ∷ xs) [] all = absurd all
zip-into Q R into (x ∷ xs) (y ∷ ys) all = (into x y all.0, zip-into Q R into xs ys all.1)

pub if-ok : {A E : Type 0} {P Q : A → Type 0} (r : Result A E) → ((x : A) → P x → Q x) → IfOk r P → IfOk r Q
if-ok (Ok x) into is = into x is
if-ok (Err e) into is = tt

pub on-ok-both : {A E : Type 0} {P Q R : Type 0} (r : Result A E) → (P → Q → R) → OnOk r P → OnOk r Q → OnOk r R
on-ok-both (Ok x) both p q = both p q
on-ok-both (Err e) both p q = tt

-- what holds unless a part was refused holds unless the whole was
pub and-first : {A E : Type 0} (P : Type 0) (a b r : Result A E) → r ≡ result_and a b → OnOk a P → OnOk r P
and-first P (Ok x) (Ok y) r is holds = subst (λ v. OnOk v P) (sym is) holds
and-first P (Ok x) (Err e) r is holds = subst (λ v. OnOk v P) (sym is) tt
and-first P (Err e) b r is holds = subst (λ v. OnOk v P) (sym is) tt

pub and-second : {A E : Type 0} (P : Type 0) (a b r : Result A E) → r ≡ result_and a b → OnOk b P → OnOk r P
and-second P (Ok x) b r is holds = subst (λ v. OnOk v P) (sym is) holds
and-second P (Err e) b r is holds = subst (λ v. OnOk v P) (sym is) tt

-- a refusal says nothing
pub err-on : {A E : Type 0} (P : Type 0) (r : Result A E) → IsErr r → OnOk r P
err-on P (Ok x) err = absurd (cc)
err-on P (Err e) err = tt

module _ {A : Type 0} (R : A → A → Type 0) where
  -- what is said of each pair is said of the pairs in turn
  pub pairs-zip : (xs ys : List A) → EachPair R xs ys → AllZip R xs ys
  pairs-zip [] [] pairs = tt
  pairs-zip [] (y ∷ ys) pairs = absurd (let many = pairs.many in omega arith)
  pairs-zip (x ∷ xs) [] pairs = absurd (let many = pairs.many in omega arith)
  pairs-zip (x ∷ xs) (y ∷ ys) pairs =
      (pairs.pairs 0 x y refl refl, pairs-zip xs ys (record { many = (let many = pairs.many in omega arith); pairs = λ k a b at_a at_b. pairs.pairs (suc k) a b at_a at_b }))
