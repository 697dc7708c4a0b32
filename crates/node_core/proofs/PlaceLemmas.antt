-- The places of objects.
use Rattle.std.proofs.Common.{◌≡◌, ◌≢◌, ℕ, zero, suc, ◌<◌, ◌≤◌, Bool, true, false, cond, not, List, [], ◌∷◌, length, eqb, eqb-true, ltb, ltb-true, ltb-false, refl, ap, subst, arith}
use Rattle.std.proofs.lemmas.Bool.{eqb-false}
use Rattle.std.specs.Prelude.{filter, ◌==◌}
use Rattle.std.specs.List.{AllByRecursion as Each}
use Rattle.object_log.specs.EventLogs.{ObjectView}
use Rattle.object_log.specs.Objects.{AreApart}

abbrev isn't : ℕ → ObjectView → Bool
isn't n o = not (o.object == n)

each-kept : (P : ObjectView → Type 0) (n : ℕ) (os : List ObjectView) → Each P os → Each P (filter (isn't n) os)
each-kept P n [] all = tt
each-kept P n (o ∷ os) all = by_test (isn't n o) (each-kept P n os all.1)
  where
    by_test : (b : Bool) → Each P (filter (isn't n) os) → Each P (cond b (o ∷ filter (isn't n) os) (filter (isn't n) os))
    by_test true more = (all.0, more)
    by_test false more = more

apart-kept : (n : ℕ) (os : List ObjectView) → AreApart os → AreApart (filter (isn't n) os)
unfolding AreApart
apart-kept n [] apart = tt
apart-kept n (o ∷ os) apart = by_test (isn't n o) (apart-kept n os apart.1)
  where
    by_test : (b : Bool) → AreApart (filter (isn't n) os) → AreApart (cond b (o ∷ filter (isn't n) os) (filter (isn't n) os))
    by_test true more = (each-kept (λ (p : ObjectView). p.object ≢ o.object) n os apart.0, more)
    by_test false more = more

-- at most one of them has a number
none-dropped : (n : ℕ) (os : List ObjectView) → Each (λ (p : ObjectView). p.object ≢ n) os → length (filter (isn't n) os) ≡ length os
none-dropped n [] all = refl
none-dropped n (o ∷ os) all = by_test (eqb o.object n) refl (none-dropped n os all.1)
  where
    by_test : (b : Bool) → eqb o.object n ≡ b → length (filter (isn't n) os) ≡ length os → length (cond (not b) (o ∷ filter (isn't n) os) (filter (isn't n) os)) ≡ suc (length os)
    by_test true h more = absurd (all.0 (eqb-true o.object n h))
    by_test false h more = ap suc more

one-dropped : (n : ℕ) (os : List ObjectView) → AreApart os → length os ≤ suc (length (filter (isn't n) os))
unfolding AreApart
one-dropped n [] apart = omega arith
one-dropped n (o ∷ os) apart = by_test (eqb o.object n) refl (one-dropped n os apart.1)
  where
    by_test : (b : Bool) → eqb o.object n ≡ b → length os ≤ suc (length (filter (isn't n) os)) → suc (length os) ≤ suc (length (cond (not b) (o ∷ filter (isn't n) os) (filter (isn't n) os)))
    by_test true h more =
        let same : o.object ≡ n = eqb-true o.object n h in
        let all = subst (λ k. Each (λ (p : ObjectView). p.object ≢ k) os) same apart.0 in
        let long = none-dropped n os all in omega arith
    by_test false h more = omega arith

stays-below : (a n : ℕ) → a < suc n → a ≢ n → a < n
stays-below a n lt apart = by_order (ltb a n) refl
  where
    by_order : (b : Bool) → ltb a n ≡ b → a < n
    by_order true h = ltb-true a n h
    by_order false h = (let ge = ltb-false a n h in let same : a ≡ n = omega arith in absurd (apart same))

below-kept : (n : ℕ) (os : List ObjectView) → Each (λ (o : ObjectView). o.object < suc n) os → Each (λ (o : ObjectView). o.object < n) (filter (isn't n) os)
below-kept n [] all = tt
below-kept n (o ∷ os) all = by_test (eqb o.object n) refl (below-kept n os all.1)
  where
    by_test : (b : Bool) → eqb o.object n ≡ b → Each (λ (o : ObjectView). o.object < n) (filter (isn't n) os) → Each (λ (o : ObjectView). o.object < n) (cond (not b) (o ∷ filter (isn't n) os) (filter (isn't n) os))
    by_test true h more = more
    by_test false h more = (stays-below o.object n all.0 (eqb-false o.object n h), more)

-- so many objects with numbers of their own below n are at most n
pub apart-few : (n : ℕ) (os : List ObjectView) → AreApart os → Each (λ (o : ObjectView). o.object < n) os → length os ≤ n
apart-few zero [] apart all = omega arith
apart-few zero (o ∷ os) apart all = absurd (let lt = all.0 in omega arith)
apart-few (suc n) os apart all =
    let less = apart-few n (filter (isn't n) os) (apart-kept n os apart) (below-kept n os all) in
    let one = one-dropped n os apart in omega arith
