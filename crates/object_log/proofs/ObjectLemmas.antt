-- One object among others.
use Rattle.std.proofs.Common.{◌≡◌, ◌≢◌, ℕ, ◌<◌, zero, suc, false, List, [], ◌∷◌, length, get_or, eq-eqb, Some, refl, sym, ap, ◌∙◌, subst, arith}
use Rattle.std.proofs.lemmas.Bool.{eqb-true, false_from_ne_true}
use Rattle.std.specs.Prelude.{slice_set, ◌==◌}
use Rattle.std.specs.List.{AllByRecursion as Each}
use Rattle.object_log.specs.EventLogs.{ObjectView, or_else, state_in}
use Rattle.object_log.specs.Objects.{AreApart}

apart_test : (a b : ℕ) → (a ≡ b → ⊥) → (a == b) ≡ false
apart_test a b apart = false_from_ne_true (a == b) (λ yes. apart (eqb-true a b yes))

each-at : (P : ObjectView → Type 0) (os : List ObjectView) (i : ℕ) (d : ObjectView) → i < length os → Each P os → P (get_or os i d)
each-at P [] i d lt all = absurd (omega arith)
each-at P (o ∷ os) zero d lt all = all.0
each-at P (o ∷ os) (suc i) d lt all = each-at P os i d (omega arith) all.1

-- an object is found at its place
pub state-at : (os : List ObjectView) (i : ℕ) (d : ObjectView) → AreApart os → i < length os → state_in os (get_or os i d).object ≡ Some (get_or os i d).state
unfolding AreApart state_in
state-at [] i d apart lt = absurd (omega arith)
state-at (o ∷ os) zero d apart lt = ap (λ b. or_else b o.state (state_in os o.object)) (eq-eqb o.object o.object refl)
state-at (o ∷ os) (suc i) d apart lt =
    let there = each-at (λ (p : ObjectView). p.object ≢ o.object) os i d (omega arith) apart.0 in
    ap (λ b. or_else b o.state (state_in os (get_or os i d).object)) (apart_test o.object (get_or os i d).object (λ same. there (sym same)))
    ∙ state-at os i d apart.1 (omega arith)

-- an object changes at its place
pub state-set : (os : List ObjectView) (i : ℕ) (x : ObjectView) → AreApart os → i < length os → (get_or os i x).object ≡ x.object → state_in (slice_set os i x) x.object ≡ Some x.state
unfolding AreApart state_in
state-set [] i x apart lt is = absurd (omega arith)
state-set (o ∷ os) zero x apart lt is = ap (λ b. or_else b x.state (state_in os x.object)) (eq-eqb x.object x.object refl)
state-set (o ∷ os) (suc i) x apart lt is =
    let there = each-at (λ (p : ObjectView). p.object ≢ o.object) os i x (omega arith) apart.0 in
    ap (λ b. or_else b o.state (state_in (slice_set os i x) x.object)) (apart_test o.object x.object (λ same. there (is ∙ sym same)))
    ∙ state-set os i x apart.1 (omega arith) is

-- and the others stay
pub state-other : (os : List ObjectView) (i : ℕ) (x : ObjectView) (other : ℕ) → i < length os → (get_or os i x).object ≡ x.object → other ≢ x.object → state_in (slice_set os i x) other ≡ state_in os other
unfolding state_in
state-other [] i x other lt is apart = absurd (omega arith)
state-other (o ∷ os) zero x other lt is apart =
    ap (λ b. or_else b x.state (state_in os other)) (apart_test x.object other (λ same. apart (sym same)))
    ∙ sym (ap (λ b. or_else b o.state (state_in os other)) (apart_test o.object other (λ same. apart (sym same ∙ is))))
state-other (o ∷ os) (suc i) x other lt is apart = ap (or_else (o.object == other) o.state) (state-other os i x other (omega arith) is apart)

each_set : (P : ObjectView → Type 0) (os : List ObjectView) (i : ℕ) (x : ObjectView) → P x → Each P os → Each P (slice_set os i x)
each_set P [] i x one all = all
each_set P (o ∷ os) zero x one all = (one, all.1)
each_set P (o ∷ os) (suc i) x one all = (all.0, each_set P os i x one all.1)

pub apart-set : (os : List ObjectView) (i : ℕ) (x : ObjectView) → i < length os → (get_or os i x).object ≡ x.object → AreApart os → AreApart (slice_set os i x)
unfolding AreApart
apart-set [] i x lt is apart = absurd (omega arith)
apart-set (o ∷ os) zero x lt is apart = let P : ℕ → Type 0 = λ n. Each (λ (p : ObjectView). p.object ≢ n) os in (subst P is apart.0, apart.1)
apart-set (o ∷ os) (suc i) x lt is apart =
    let there = each-at (λ (p : ObjectView). p.object ≢ o.object) os i x (omega arith) apart.0 in
    (each_set (λ (p : ObjectView). p.object ≢ o.object) os i x (λ same. there (is ∙ same)) apart.0, apart-set os i x (omega arith) is apart.1)

-- what is true of each object is true of each once one changes: it must hold of that one, and stay true of those with other numbers
pub each-but : (P Q : ObjectView → Type 0) (os : List ObjectView) (i : ℕ) (x : ObjectView) → i < length os → (get_or os i x).object ≡ x.object → AreApart os
    → ((y : ObjectView) → y.object ≢ x.object → P y → Q y) → Q x → Each P os → Each Q (slice_set os i x)
unfolding AreApart
each-but P Q [] i x lt is apart stay one all = absurd (omega arith)
each-but P Q (o ∷ os) zero x lt is apart stay one all = (one, keep os apart.0 all.1)
  where
    keep : (ps : List ObjectView) → Each (λ (p : ObjectView). p.object ≢ o.object) ps → Each P ps → Each Q ps
    keep [] apart all = tt
    keep (p ∷ ps) apart all = (stay p (λ same. apart.0 (same ∙ sym is)) all.0, keep ps apart.1 all.1)
each-but P Q (o ∷ os) (suc i) x lt is apart stay one all =
    let there = each-at (λ (p : ObjectView). p.object ≢ o.object) os i x (omega arith) apart.0 in
    (stay o (λ same. there (is ∙ sym same)) all.0, each-but P Q os i x (omega arith) is apart.1 stay one all.1)
