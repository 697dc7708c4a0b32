-- The events at the front of a list that come before messages, which stay where they are when the messages are put at their places.
use Rattle.std.proofs.Common.{Bool, List, [], ap, arith, cond, drop, eqb, false, inl, inr, length, refl, subst, suc, sym, take, true, zero, ℕ, ◌&&◌, ◌++◌, ◌+◌, ◌∙◌, ◌∷◌, ◌≡◌, ◌≤◌}
use Rattle.std.proofs.lemmas.Bool.{and_from, and_parts}
use Rattle.std.proofs.lemmas.List.Folds.{list_all-append}
use Rattle.std.proofs.lemmas.List.Sorted.{sum_by-IsPermutation}
use Rattle.std.proofs.lemmas.List.Sums.{sum_by-cons}
use Rattle.std.specs.List.{AllByRecursion as Each, list_all, sum_by}
use Rattle.std.specs.Prelude.{Contains, IsPermutation}
use Rattle.event_key.proofs.Order.{key_lt-trans, key_lt-turned}
use Rattle.event_key.specs.Keys.{key_lt}
use Rattle.model_core.specs.declared.event.Event.{Event}
use Rattle.key_order.specs.Ascending.{IsAscending, Ascends}
use Rattle.key_order.specs.Pending.{enqueue, enqueue_all}
use Rattle.sim_spec.specs.Replay.{events_at}
use Rattle.key_order.proofs.EachLemmas.{Each-map}
use Rattle.key_order.proofs.EnqueueLemmas.{length-enqueue}
use Rattle.world_spec.specs.Early.{is_before_all, leading}
use Rattle.key_order.proofs.MemberLemmas.{each-contains, first-or-later, is-first, is-later}

-- those at the front are some of all, and each of them passes
pub leading-le : (p : Event → Bool) (es : List Event) → leading p es ≤ length es
unfolding leading
leading-le p [] = omega arith
leading-le p (e ∷ es) = let le = leading-le p es in
    elim (p e) as (λ b. cond b (1 + leading p es) 0 ≤ suc (length es)) [ true ↦ omega arith | false ↦ omega arith ]

pub leading-pass : (p : Event → Bool) (es : List Event) → Each (λ (e : Event). p e ≡ true) (take (leading p es) es)
unfolding leading
leading-pass p [] = tt
leading-pass p (e ∷ es) = by_test (leading-pass p es) (p e) refl
  where
    by_test : Each (λ (e : Event). p e ≡ true) (take (leading p es) es) → (b : Bool) → p e ≡ b → Each (λ (e : Event). p e ≡ true) (take (cond b (1 + leading p es) 0) (e ∷ es))
    by_test more true h = let P : ℕ → Type 0 = λ n. Each (λ (e : Event). p e ≡ true) (take n (e ∷ es)) in subst P (let same : suc (leading p es) ≡ 1 + leading p es = omega arith in same) (h, more)
    by_test more false h = tt

pub leading-same : (p q : Event → Bool) (es : List Event) → ((e : Event) → p e ≡ q e) → leading p es ≡ leading q es
unfolding leading
leading-same p q [] same = refl
leading-same p q (e ∷ es) same = ap (λ b. cond b (1 + leading p es) 0) (same e) ∙ ap (λ n. cond (q e) (1 + n) 0) (leading-same p q es same)

pub leading-both : (p q r : Event → Bool) (es : List Event) → ((e : Event) → r e ≡ (p e && q e)) → leading r es ≡ leading q (take (leading p es) es)
unfolding leading
leading-both p q r [] same = refl
leading-both p q r (e ∷ es) same = ap (λ b. cond b (1 + leading r es) 0) (same e) ∙ by_test (p e) (leading-both p q r es same)
  where
    by_test : (b : Bool) → leading r es ≡ leading q (take (leading p es) es)
        → cond (b && q e) (1 + leading r es) 0 ≡ leading q (take (cond b (1 + leading p es) 0) (e ∷ es))
    by_test true more =
        ap (λ n. cond (q e) (1 + n) 0) more
        ∙ ap (λ n. leading q (take n (e ∷ es))) (let one : suc (leading p es) ≡ 1 + leading p es = omega arith in one)
    by_test false more = refl

-- before the messages of two lists
pub before_all-append : (xs ys : List Event) (e : Event) → is_before_all (xs ++ ys) e ≡ (is_before_all xs e && is_before_all ys e)
unfolding is_before_all
before_all-append xs ys e = list_all-append (λ (x : Event). key_lt e.key x.key) xs ys

-- an event before one that comes before all of them does so too
pub before_all-trans : (messages : List Event) (x y : Event) → key_lt x.key y.key ≡ true → is_before_all messages y ≡ true → is_before_all messages x ≡ true
unfolding is_before_all
before_all-trans [] x y lt all = refl
before_all-trans (m ∷ ms) x y lt all =
    let first = and_parts (key_lt y.key m.key) (list_all (λ z. key_lt y.key z.key) ms) all in
    and_from (key_lt x.key m.key) (list_all (λ z. key_lt x.key z.key) ms) (key_lt-trans x.key y.key m.key lt first.0) (before_all-trans ms x y lt first.1)

-- in a list in order, what comes before all messages stays at the front
pub leading-keeps : (messages xs : List Event) (x : Event) → IsAscending xs → Contains xs x → is_before_all messages x ≡ true → Contains (take (leading (is_before_all messages) xs) xs) x
unfolding Ascends leading
leading-keeps messages [] x up is_in before = is_in
leading-keeps messages (y ∷ ys) x up is_in before =
    let n = leading (is_before_all messages) ys in
    let passes : is_before_all messages y ≡ true =
    elim (first-or-later x y ys is_in) [
      | inl same ↦ (let P : Event → Type 0 = λ e. is_before_all messages e ≡ true in subst P (sym same) before)
      | inr more ↦ before_all-trans messages y x (each-contains (λ (e : Event). key_lt y.key e.key ≡ true) x ys up.0 more) before
    ] in
    let Q : ℕ → Type 0 = λ n. Contains (take n (y ∷ ys)) x in
    let there : Q (suc n) =
    elim (first-or-later x y ys is_in) [
      | inl same ↦ is-first x y (take n ys) same
      | inr more ↦ is-later x y (take n ys) (leading-keeps messages ys x up.1 more before)
    ] in
    let R : Bool → Type 0 = λ b. Q (cond b (1 + n) 0) in
    let one : suc n ≡ 1 + n = omega arith in
    subst R (sym passes) (subst Q one there)

-- a front that comes before a message, or before all of them, stays, and so does what is behind it
front_on : (k : ℕ) (m : Event) (xs : List Event) → k ≤ length xs → Each (λ (x : Event). key_lt x.key m.key ≡ true) (take k xs)
    → (take k (enqueue m xs) ≡ take k xs) × (drop k (enqueue m xs) ≡ enqueue m (drop k xs))
unfolding enqueue
front_on zero m xs few first = (refl, refl)
front_on (suc k) m [] few first = absurd (omega arith)
front_on (suc k) m (x ∷ xs) few first =
    let more = front_on k m xs (omega arith) first.1 in
    let later = key_lt-turned x.key m.key first.0 in (
      ap (λ b. take (suc k) (cond b (m ∷ x ∷ xs) (x ∷ enqueue m xs))) later ∙ ap (λ ys. x ∷ ys) more.0,
      ap (λ b. drop (suc k) (cond b (m ∷ x ∷ xs) (x ∷ enqueue m xs))) later ∙ more.1,
    )

pub front-enqueue_all : (k : ℕ) (messages xs : List Event) → k ≤ length xs → Each (λ (x : Event). is_before_all messages x ≡ true) (take k xs)
    → (take k (enqueue_all messages xs) ≡ take k xs) × (drop k (enqueue_all messages xs) ≡ enqueue_all messages (drop k xs))
unfolding enqueue_all is_before_all
front-enqueue_all k [] xs few first = (refl, refl)
front-enqueue_all k (m ∷ ms) xs few first =
    let B : Event → Type 0 = λ x. list_all (λ y. key_lt x.key y.key) (m ∷ ms) ≡ true in
    let R : Event → Type 0 = λ x. list_all (λ y. key_lt x.key y.key) ms ≡ true in
    let own = Each-map B (λ (x : Event). key_lt x.key m.key ≡ true) (take k xs) (λ x all. (and_parts (key_lt x.key m.key) (list_all (λ y. key_lt x.key y.key) ms) all).0) first in
    let rest : Each R (take k xs) = Each-map B R (take k xs) (λ x all. (and_parts (key_lt x.key m.key) (list_all (λ y. key_lt x.key y.key) ms) all).1) first in
    let one = front_on k m xs few own in
    let P : List Event → Type 0 = Each R in
    let long = length-enqueue m xs in
    let more = front-enqueue_all k ms (enqueue m xs) (omega arith) (subst P (sym one.0) rest) in
    (more.0 ∙ one.0, more.1 ∙ ap (enqueue_all ms) one.1)

-- how many of an object's messages an event does not come before
abbrev fails_at : ℕ → Event → Event → ℕ
fails_at object x e = cond (eqb e.key.dest object) (cond (key_lt x.key e.key) 0 1) 0

before_sum : (object : ℕ) (x : Event) (es : List Event) → (is_before_all (events_at object es) x ≡ true → sum_by (fails_at object x) es ≡ 0) × (sum_by (fails_at object x) es ≡ 0 → is_before_all (events_at object es) x ≡ true)
unfolding is_before_all events_at
before_sum object x [] = (λ h. refl, λ h. refl)
before_sum object x (e ∷ es) = by_tests (eqb e.key.dest object) (key_lt x.key e.key) refl refl (before_sum object x es)
  where
    sum : sum_by (fails_at object x) (e ∷ es) ≡ fails_at object x e + sum_by (fails_at object x) es
    sum = sum_by-cons (fails_at object x) e es

    fails_is : (a b : Bool) → eqb e.key.dest object ≡ a → key_lt x.key e.key ≡ b → fails_at object x e ≡ cond a (cond b 0 1) 0
    fails_is a b h g = ap (λ c. cond c (cond (key_lt x.key e.key) 0 1) 0) h ∙ ap (λ c. cond a (cond c 0 1) 0) g

    by_tests : (a b : Bool) → eqb e.key.dest object ≡ a → key_lt x.key e.key ≡ b
        → (list_all (λ y. key_lt x.key y.key) (events_at object es) ≡ true → sum_by (fails_at object x) es ≡ 0) × (sum_by (fails_at object x) es ≡ 0 → list_all (λ y. key_lt x.key y.key) (events_at object es) ≡ true)
        → (list_all (λ y. key_lt x.key y.key) (cond a (e ∷ events_at object es) (events_at object es)) ≡ true → sum_by (fails_at object x) (e ∷ es) ≡ 0)
        × (sum_by (fails_at object x) (e ∷ es) ≡ 0 → list_all (λ y. key_lt x.key y.key) (cond a (e ∷ events_at object es) (events_at object es)) ≡ true)
    by_tests false b h g more =
        let s : sum_by (fails_at object x) (e ∷ es) ≡ fails_at object x e + sum_by (fails_at object x) es = sum in
        let f : fails_at object x e ≡ 0 = fails_is false b h g in
        (λ all. let m = more.0 all in omega arith, λ none. more.1 (omega arith))
    by_tests true true h g more =
        let s : sum_by (fails_at object x) (e ∷ es) ≡ fails_at object x e + sum_by (fails_at object x) es = sum in
        let f : fails_at object x e ≡ 0 = fails_is true true h g in (
          λ all. let m = more.0 (ap (λ c. c && list_all (λ y. key_lt x.key y.key) (events_at object es)) (sym g) ∙ all) in omega arith,
          λ none. ap (λ c. c && list_all (λ y. key_lt x.key y.key) (events_at object es)) g ∙ more.1 (omega arith),
        )
    by_tests true false h g more =
        let s : sum_by (fails_at object x) (e ∷ es) ≡ fails_at object x e + sum_by (fails_at object x) es = sum in
        let f : fails_at object x e ≡ 1 = fails_is true false h g in
        (λ all. let no : false ≡ true = ap (λ c. c && list_all (λ y. key_lt x.key y.key) (events_at object es)) (sym g) ∙ all in absurd (cc), λ none. absurd (omega arith))

same_bool : (a b : Bool) → (a ≡ true → b ≡ true) → (b ≡ true → a ≡ true) → a ≡ b
same_bool true true f g = refl
same_bool false false f g = refl
same_bool true false f g = let t = f refl in cc
same_bool false true f g = let t = g refl in cc

-- which events come before all messages doesn't depend on the order of the messages
pub before-permutation : (object : ℕ) (es fs : List Event) (x : Event) → IsPermutation es fs → is_before_all (events_at object fs) x ≡ is_before_all (events_at object es) x
before-permutation object es fs x moves =
    let same : sum_by (fails_at object x) fs ≡ sum_by (fails_at object x) es = sum_by-IsPermutation (fails_at object x) es fs moves in
    let one = before_sum object x es in
    let two = before_sum object x fs in
    same_bool (is_before_all (events_at object fs) x) (is_before_all (events_at object es) x)
    (λ h. one.1 (sym same ∙ two.0 h)) (λ h. two.1 (same ∙ one.0 h))
