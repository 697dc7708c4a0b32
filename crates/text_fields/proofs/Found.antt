-- What is known where a row of checks gives something: each of them does, and each link is found.
use Rattle.std.proofs.Common.{◌≡◌, ℕ, suc, ◌+◌, Bool, true, false, List, [], ◌∷◌, length, Option, Some, None, Ok, Err, refl, ap, subst, ◌∙◌}
use Rattle.std.specs.Prelude.{All}
use Rattle.std.proofs.lemmas.List.Elements.{All-nil, All-cons}
use Rattle.text_fields.specs.declared.directory.Place.{Place}
use Rattle.text_fields.specs.Checks.{Checked, ◌>>=◌}
use Rattle.text_fields.specs.Fields.{each_of}
use Rattle.text_fields.specs.Links.{found_link, link, links, IsFound}
use Rattle.text_fields.specs.Names.{Finder}

-- where two checks in a row give something, each does
pub bound : {A B : Type 0} (check : Checked A) (next : A → Checked B) (b : B) → check >>= next ≡ Ok b → (a : A) × (check ≡ Ok a) × (next a ≡ Ok b)
bound (Ok a) next b gives = (a, refl, gives)
bound (Err e) next b gives = cc

-- and where it is a check and a view of it
pub seen : {A B : Type 0} (check : Checked A) (view : A → B) (b : B) → check >>= (λ a. Ok (view a)) ≡ Ok b → (a : A) × (check ≡ Ok a) × (view a ≡ b)
seen (Ok a) view b gives = (a, refl, cc)
seen (Err e) view b gives = cc

abbrev pub placed : ℕ → Bool → Place
placed number takes = record { number = number; takes_links = takes }

by_place : (number : ℕ) (takes : Bool) (at n : ℕ) → found_link (Some (placed number takes)) at ≡ Ok n → Some (placed number takes) ≡ Some (placed n true)
by_place number true at n gives = let same : number ≡ n = cc in ap (λ m. Some (placed m true)) same
by_place number false at n gives = cc

by_found : (place : Option Place) (at n : ℕ) → found_link place at ≡ Ok n → place ≡ Some (placed n true)
by_found None at n gives = cc
by_found (Some place) at n gives = by_place place.number place.takes_links at n gives

pub link-found : (find : Finder) (at : ℕ) (name : List ℕ) (n : ℕ) → link find at name ≡ Ok n → IsFound find n
link-found find at name n gives = (name, by_found (find name) at n gives)

pub links-found : (find : Finder) (at k : ℕ) (names : List (List ℕ)) (ns : List ℕ) → each_of (λ i. link find at) k names ≡ Ok ns → All (IsFound find) ns × (length names ≡ length ns)
links-found find at k [] ns gives =
    let none : [] ≡ ns = cc in
    (subst (All (IsFound find)) none (All-nil (IsFound find)), ap length none)
links-found find at k (name ∷ names) ns gives =
    let first = bound (link find at name) _ ns gives in
    let others = seen (each_of (λ i. link find at) (k + 1) names) (λ ns. first.0 ∷ ns) ns first.2 in
    let rest = links-found find at (k + 1) names others.0 others.1 in (
      subst (All (IsFound find)) others.2 (All-cons (IsFound find) first.0 others.0 (link-found find at name first.0 first.1) rest.0),
      ap suc rest.1 ∙ ap length others.2,
    )
