-- The classes that visit a station: the first ones of a shop, and one more.
use Rattle.std.proofs.Common.{◌≡◌, ◌∙◌, ℕ, ◌+◌, ◌<◌, Bool, cond, List, [], ◌∷◌, ◌++◌, length, get_or, ap, sym, arith}
use Rattle.std.specs.Prelude.{All}
use Rattle.std.specs.List.{AllPairs, filter, range_with_len}
use Rattle.std.proofs.lemmas.List.{get_or_read}
use Rattle.std.proofs.lemmas.List.Elements.{filter-append, All-filter}
use Rattle.std.proofs.lemmas.List.FromFn.{get_or-range_with_len, length-range_with_len}
use Rattle.std.proofs.lemmas.List.Kept.{AllPairs-filter}
use Rattle.model_core.proofs.Numbers.{numbers-more}
use Rattle.shop_model.specs.declared.class.Class.{Class}
use Rattle.shop_model.specs.Routes.{class_at, no_class}
use Rattle.shop_model.specs.ShopParts.{ShopParts, routes_of}
use Rattle.shop_totals.specs.Visits.{has_visit, classes_at}

-- those of the first n classes
abbrev pub visitors : ShopParts → ℕ → ℕ → List ℕ
visitors p station n = filter (λ class. has_visit station (class_at (routes_of p) class)) (range_with_len 0 n)

pub visitors-more : (p : ShopParts) (station n : ℕ) (classes : List Class) (class : Class) → classes ≡ p.classes → n < length classes
    → class ≡ get_or classes n class
    → visitors p station (n + 1) ≡ visitors p station n ++ cond (has_visit station class) (n ∷ []) []
visitors-more p station n classes class are within is =
    let visits : ℕ → Bool = λ class. has_visit station (class_at (routes_of p) class) in
    let read : class_at (routes_of p) n ≡ class =
    ap (λ (classes : List Class). get_or classes n no_class) (sym are) ∙ sym (get_or_read classes n class within is no_class) in
    ap (λ (numbers : List ℕ). filter visits numbers) (numbers-more 0 n n (omega arith))
    ∙ filter-append visits (range_with_len 0 n) (n ∷ [])
    ∙ ap (λ (class : Class). visitors p station n ++ cond (has_visit station class) (n ∷ []) []) read

pub visitors-rise : (p : ShopParts) (station : ℕ) → AllPairs (λ (a b : ℕ). a < b) (classes_at p station)
unfolding classes_at
visitors-rise p station =
    AllPairs-filter (λ (a b : ℕ). a < b) (λ class. has_visit station (class_at (routes_of p) class)) (range_with_len 0 (length p.classes))
    (λ i j d less within.
    let many = length-range_with_len 0 (length p.classes) in
    let a = get_or-range_with_len 0 (length p.classes) i d (omega arith) in
    let b = get_or-range_with_len 0 (length p.classes) j d (omega arith) in
    omega arith)

pub visitors-exist : (p : ShopParts) (station : ℕ) → All (λ (class : ℕ). class < length p.classes) (classes_at p station)
unfolding classes_at
visitors-exist p station =
    All-filter (λ class. has_visit station (class_at (routes_of p) class)) (λ (class : ℕ). class < length p.classes)
    (range_with_len 0 (length p.classes))
    (λ i d within.
    let many = length-range_with_len 0 (length p.classes) in
    let a = get_or-range_with_len 0 (length p.classes) i d (omega arith) in
    omega arith)
