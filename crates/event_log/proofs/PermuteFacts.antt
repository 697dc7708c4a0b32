-- Objects in another order.
use Rattle.std.proofs.Common.{◌≡◌, ◌≢◌, ℕ, Bool, true, false, Option, Some, None, List, [], ◌∷◌, eq-eqb, refl, sym, ap, ◌∙◌, arith}
use Rattle.std.proofs.lemmas.Bool.{eqb-true, false_from_ne_true}
use Rattle.std.proofs.lemmas.List.Sorted.{IsPermutation-sym}
use Rattle.std.proofs.lemmas.Map.Keys.{IsDistinct-IsPermutation, IsDistinct-cons, IsDistinct-from_apart, IsDistinct-head, IsDistinct-tail}
use Rattle.std.specs.Prelude.{◌==◌, IsPermutation}
use Rattle.std.specs.List.{AllByRecursion as Each, IsDistinct}
use Rattle.key_order.proofs.EachLemmas.{Each-map}
use Rattle.key_order.proofs.MemberLemmas.{Each-permutation}
use Rattle.sim_spec.specs.Firing.{ObjectState}
use Rattle.object_log.specs.EventLogs.{ObjectView, or_else, state_in}
use Rattle.object_log.specs.Objects.{AreApart}

-- none has the number of one that isn't found
pub none-here : (os : List ObjectView) (n : ℕ) → state_in os n ≡ None → Each (λ (o : ObjectView). o.object ≢ n) os
unfolding state_in
none-here [] n none = tt
none-here (o ∷ os) n none = by_test (o.object == n) refl (none-here os n) none
  where
    by_test : (b : Bool) → (o.object == n) ≡ b → (state_in os n ≡ None → Each (λ (p : ObjectView). p.object ≢ n) os) → or_else b o.state (state_in os n) ≡ None → Each (λ (p : ObjectView). p.object ≢ n) (o ∷ os)
    by_test true h more none = absurd (cc)
    by_test false h more none = ((λ same. let yes = eq-eqb o.object n same in absurd (cc)), more none)

pub not-here : (os : List ObjectView) (n : ℕ) → Each (λ (o : ObjectView). o.object ≢ n) os → state_in os n ≡ None
unfolding state_in
not-here [] n away = refl
not-here (o ∷ os) n away =
    ap (λ b. or_else b o.state (state_in os n)) (false_from_ne_true (o.object == n) (λ yes. away.0 (eqb-true o.object n yes)))
    ∙ not-here os n away.1

-- each with this number has this state
abbrev HasState : ℕ → ObjectState → ObjectView → Type 0
HasState n s o = o.object ≡ n → o.state ≡ s

has-state : (os : List ObjectView) (n : ℕ) (s : ObjectState) → AreApart os → state_in os n ≡ Some s → Each (HasState n s) os
unfolding AreApart state_in
has-state [] n s apart found = tt
has-state (o ∷ os) n s apart found = by_test (o.object == n) refl (has-state os n s apart.1) found
  where
    by_test : (b : Bool) → (o.object == n) ≡ b → (state_in os n ≡ Some s → Each (HasState n s) os) → or_else b o.state (state_in os n) ≡ Some s → Each (HasState n s) (o ∷ os)
    by_test true h more found =
        let is = eqb-true o.object n h in (
          (λ same. cc),
          Each-map (λ (p : ObjectView). p.object ≢ o.object) (HasState n s) os (λ p there same. absurd (there (same ∙ sym is))) apart.0,
        )
    by_test false h more found = ((λ same. let yes = eq-eqb o.object n same in absurd (cc)), more found)

only-state : (os : List ObjectView) (n : ℕ) (s t : ObjectState) → Each (HasState n s) os → state_in os n ≡ Some t → t ≡ s
unfolding state_in
only-state [] n s t all found = absurd (cc)
only-state (o ∷ os) n s t all found = by_test (o.object == n) refl (only-state os n s t all.1) found
  where
    by_test : (b : Bool) → (o.object == n) ≡ b → (state_in os n ≡ Some t → t ≡ s) → or_else b o.state (state_in os n) ≡ Some t → t ≡ s
    by_test true h more found = (let is = all.0 (eqb-true o.object n h) in cc)
    by_test false h more found = more found

-- an object is found in whatever order
pub state-permutation : (os ps : List ObjectView) (n : ℕ) → AreApart os → IsPermutation os ps → state_in ps n ≡ state_in os n
state-permutation os ps n apart moves = by_state (state_in os n) (state_in ps n) refl refl
  where
    by_state : (was now : Option ObjectState) → state_in os n ≡ was → state_in ps n ≡ now → now ≡ was
    by_state None now h k = (let none = not-here ps n (Each-permutation (λ (o : ObjectView). o.object ≢ n) os ps moves (none-here os n h)) in cc)
    by_state (Some s) None h k = (let none = not-here os n (Each-permutation (λ (o : ObjectView). o.object ≢ n) ps os (IsPermutation-sym os ps moves) (none-here ps n k)) in absurd (cc))
    by_state (Some s) (Some t) h k = ap Some (only-state ps n s t (Each-permutation (HasState n s) os ps moves (has-state os n s apart h)) k)

abbrev same_number : ObjectView → ObjectView → Bool
same_number o p = p.object == o.object

apart-distinct : (os : List ObjectView) → AreApart os → IsDistinct same_number os
unfolding AreApart
apart-distinct [] apart = IsDistinct-from_apart same_number [] (λ i j d lt within. absurd (omega arith))
apart-distinct (o ∷ os) apart =
    IsDistinct-cons same_number o os
    (Each-map (λ (p : ObjectView). p.object ≢ o.object) (λ (p : ObjectView). same_number o p ≡ false) os (λ p there. false_from_ne_true (p.object == o.object) (λ yes. there (eqb-true p.object o.object yes))) apart.0)
    (apart-distinct os apart.1)

distinct-apart : (os : List ObjectView) → IsDistinct same_number os → AreApart os
unfolding AreApart
distinct-apart [] apart = tt
distinct-apart (o ∷ os) apart = (
  Each-map (λ (p : ObjectView). same_number o p ≡ false) (λ (p : ObjectView). p.object ≢ o.object) os (λ p there same. let yes = eq-eqb p.object o.object same in absurd (cc)) (IsDistinct-head same_number o os apart),
  distinct-apart os (IsDistinct-tail same_number o os apart),
)

flips : (o p : ObjectView) → same_number o p ≡ same_number p o
flips o p = by_test (p.object == o.object) refl
  where
    by_test : (b : Bool) → (p.object == o.object) ≡ b → (p.object == o.object) ≡ (o.object == p.object)
    by_test true h = h ∙ sym (eq-eqb o.object p.object (sym (eqb-true p.object o.object h)))
    by_test false h = h ∙ sym (false_from_ne_true (o.object == p.object) (λ yes. let back = eq-eqb p.object o.object (sym (eqb-true o.object p.object yes)) in absurd (cc)))

-- no two have one number, in whatever order
pub apart-permutation : (os ps : List ObjectView) → AreApart os → IsPermutation os ps → AreApart ps
apart-permutation os ps apart moves = distinct-apart ps (IsDistinct-IsPermutation same_number flips os ps moves (apart-distinct os apart))

pub apart-first : (o : ObjectView) (os : List ObjectView) → AreApart (o ∷ os) → Each (λ (p : ObjectView). p.object ≢ o.object) os × AreApart os
unfolding AreApart
apart-first o os apart = apart
