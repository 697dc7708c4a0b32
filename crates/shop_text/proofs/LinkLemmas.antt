-- Numbers of links stay below a bound, as more is taken in.
use Rattle.std.proofs.Common.{◌≡◌, ℕ, ◌<◌, ◌≤◌, Bool, true, false, List, Some, refl, sym, subst, arith}
use Rattle.std.specs.Prelude.{if◌then◌else◌}
use Rattle.std.specs.Str.{bytes_eq}
use Rattle.text_fields.specs.declared.directory.Place.{Place}
use Rattle.text_fields.specs.Links.{IsFound}
use Rattle.text_fields.specs.Names.{Finder, nothing, taken_in}
use Rattle.shop_text.specs.Ranges.{LinksBelow}

pub below_nothing : (n : ℕ) → LinksBelow n nothing
below_nothing n name place found takes = cc

pub below_more : (n m : ℕ) (find : Finder) → n ≤ m → LinksBelow n find → LinksBelow m find
below_more n m find le below name place found takes = omega (arith, below name place found takes)

by_name : (n : ℕ) (find : Finder) (at : Place) (name : List ℕ) (place : Place) (b : Bool)
    → LinksBelow n find → (at.takes_links ≡ true → at.number < n)
    → (if b then Some at else find name) ≡ Some place → place.takes_links ≡ true → place.number < n
by_name n find at name place true below here found takes =
    let same : at ≡ place = cc in
    subst (λ (p : Place). p.number < n) same (here (subst (λ (p : Place). p.takes_links ≡ true) (sym same) takes))
by_name n find at name place false below here found takes = below name place found takes

pub below_taken : (n : ℕ) (find : Finder) (new : List ℕ) (at : Place) → LinksBelow n find → (at.takes_links ≡ true → at.number < n)
    → LinksBelow n (taken_in find new at)
below_taken n find new at below here name place found takes = by_name n find at name place (bytes_eq new name) below here found takes

pub below_found : (n k : ℕ) (find : Finder) → LinksBelow n find → IsFound find k → k < n
below_found n k find below found = below found.0 _ found.1 refl
