-- The laws of lanes, for slots.
use Rattle.std.specs.Prelude.{◌≡◌, ◌⊎◌, ℕ, ◌-◌, List, [], ◌∷◌, ◌++◌, map, length, take, refl}
use Rattle.std.specs.List.{AllZip}
use Rattle.std.proofs.Common.{inl, inr, ◌∙◌, arith}
use Rattle.std.proofs.lemmas.List.{append-nil, take_all}
use Rattle.release_lanes.specs.declared.plain.PlainEnd.{PlainEnd}
use Rattle.release_lanes.specs.Plain.{outline, standing, delivered, IsTeam, AreBack}

-- a list of which all is left, or nothing
pub front_and_rest : {T : Type 0} (all rest : List T) → (rest ≡ []) ⊎ (rest ≡ all) → take (length all - length rest) all ++ rest ≡ all
front_and_rest all rest (inl e) = rw e (append-nil _ ∙ take_all _ all (omega arith))
front_and_rest all rest (inr e) = let none : length all - length all ≡ 0 = omega arith in rw (e, none) refl

-- what each pair agrees on, the lists agree on
pub same_map : {A B : Type 0} (f : A → B) (xs ys : List A) → AllZip (λ x y. f y ≡ f x) xs ys → map f ys ≡ map f xs
same_map f [] [] same = refl
same_map f [] (y ∷ ys) same = absurd same
same_map f (x ∷ xs) [] same = absurd same
same_map f (x ∷ xs) (y ∷ ys) same = let head = same.0 in let tail = same_map f xs ys same.1 in cc

pub plain_lane : (nodes served next : ℕ) (sent ends : List PlainEnd) (from to : ℕ) → AreBack nodes served next sent ends
    → delivered sent ends from to ++ standing ends from to ≡ standing sent from to
plain_lane nodes served next sent ends from to back = front_and_rest (standing sent from to) (standing ends from to) (back.left from to)

pub plain_stay : (nodes : ℕ) (before after : List PlainEnd) → IsTeam nodes before → AllZip (λ x y. outline y ≡ outline x) before after
    → IsTeam nodes after
plain_stay nodes before after team same = same_map outline before after same ∙ team
