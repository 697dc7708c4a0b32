-- Passes over the nodes that have events.
use Rattle.std.proofs.Common.{◌≡◌, ◌≢◌, ℕ, zero, suc, ◌+◌, ◌-◌, ◌<◌, ◌≤◌, Bool, true, false, List, [], ◌∷◌, ◌++◌, length, drop, refl, sym, ap, ◌∙◌, subst, arith, eqb, eqb-true, slice_set}
use Rattle.std.proofs.lemmas.Bool.{eqb-false}
use Rattle.std.proofs.lemmas.List.{drop_all}
use Rattle.std.specs.Prelude.{slice_get, Some}
use Rattle.cycle_core.specs.Busy.{AllBetween, AllBut, IsPast}
use Rattle.cycle_core.proofs.PlaceLemmas.{at-other, at-some, drop-at, same-some}

module _ {A : Type 0} (P : A → Type 0) (xs : List A) where
  between-more : (from to : ℕ) (x : A) → AllBetween P xs from to → slice_get xs to ≡ Some x → P x → AllBetween P xs from (suc to)
  between-more from to x all here is place y low below at = by_place (eqb place to) refl
    where
      by_place : (b : Bool) → eqb place to ≡ b → P y
      by_place true h = subst P (same-some x y (sym here ∙ ap (slice_get xs) (sym (eqb-true place to h)) ∙ at)) is
      by_place false h = all place y low (let apart = eqb-false place to h in omega arith) at

  pub but-none : AllBut P xs [] 0 0
  unfolding AllBut
  but-none = (omega arith, λ place x low below at. absurd (omega arith))

  -- one more that is so
  pub but-more : (places : List ℕ) (from to : ℕ) (x : A) → AllBut P xs places from to → slice_get xs to ≡ Some x → P x → AllBut P xs places from (suc to)
  unfolding AllBut
  but-more [] from to x but here is = (let le = but.0 in omega arith, between-more from to x but.1 here is)
  but-more (place ∷ places) from to x but here is = (but.0, but.1, but-more places (suc place) to x but.2 here is)

  -- one more that is named
  pub but-named : (places : List ℕ) (from to : ℕ) → AllBut P xs places from to → AllBut P xs (places ++ to ∷ []) from (suc to)
  unfolding AllBut
  but-named [] from to but = (but.0, but.1, (omega arith, λ place x low below at. absurd (omega arith)))
  but-named (place ∷ places) from to but = (but.0, but.1, but-named places (suc place) to but.2)

  but-within : (places : List ℕ) (from to : ℕ) → AllBut P xs places from to → from ≤ to
  unfolding AllBut
  but-within [] from to but = but.0
  but-within (place ∷ places) from to but = let low = but.0 in let more = but-within places (suc place) to but.2 in omega arith

  -- what is named lies below the end
  pub but-below : (places : List ℕ) (k place from to : ℕ) → AllBut P xs places from to → slice_get places k ≡ Some place → place < to
  unfolding AllBut
  but-below [] k place from to but at = absurd (cc)
  but-below (next ∷ places) zero place from to but at = let low = but-within places (suc next) to but.2 in let same = same-some next place at in omega arith
  but-below (next ∷ places) (suc k) place from to but at = but-below places k place (suc next) to but.2 at

  -- the place itself is named
  but-here : (places : List ℕ) (from to k : ℕ) → AllBut P xs (drop k places) from to → slice_get places k ≡ Some from → AllBut P xs (drop (k + 1) places) (suc from) to
  unfolding AllBut
  but-here places from to k but at =
      let here = subst (λ ps. AllBut P xs ps from to) (drop-at places k from at) but in
      let D : ℕ → Type 0 = λ next. AllBut P xs (drop next places) (suc from) to in
      subst D (let same : suc k ≡ k + 1 = omega arith in same) here.2

  -- it isn't
  but-other : (places : List ℕ) (from to : ℕ) → AllBut P xs places from to → from < to → (slice_get places 0 ≡ Some from → ⊥) → AllBetween P xs from (suc from) × AllBut P xs places (suc from) to
  unfolding AllBut
  but-other [] from to but below none = (λ place x low under at. but.1 place x low (omega arith) at, (omega arith, λ place x low under at. but.1 place x (omega arith) under at))
  but-other (next ∷ places) from to but below none =
      let apart : from ≢ next = λ same. none (ap Some (sym same)) in
      let low = but.0 in
      let far : suc from ≤ next = omega arith in
      (λ place x from_low under at. but.1 place x from_low (omega arith) at, (far, λ place x from_low under at. but.1 place x (omega arith) under at, but.2))

  head-drop : (places : List ℕ) (k : ℕ) → slice_get (drop k places) 0 ≡ slice_get places k
  head-drop [] zero = refl
  head-drop [] (suc k) = refl
  head-drop (place ∷ places) zero = refl
  head-drop (place ∷ places) (suc k) = head-drop places k

  -- a place that isn't named is passed
  pub but-not : (places : List ℕ) (from to named : ℕ) → AllBut P xs (drop named places) from to → from < to → (slice_get places named ≡ Some from → ⊥)
      → AllBetween P xs from (suc from) × AllBut P xs (drop named places) (suc from) to
  but-not places from to named but below none = but-other (drop named places) from to but below (λ at. none (sym (head-drop places named) ∙ at))

  -- a place is passed, named or not
  pub but-past : (places : List ℕ) (from to named next : ℕ) → IsPast places from named next → AllBut P xs (drop named places) from to → from < to → AllBut P xs (drop next places) (suc from) to
  but-past places from to named next past but below = by_next (eqb next named) refl
    where
      by_next : (b : Bool) → eqb next named ≡ b → AllBut P xs (drop next places) (suc from) to
      by_next true h =
          let same = eqb-true next named h in
          let D : ℕ → Type 0 = λ k. AllBut P xs (drop k places) (suc from) to in
          subst D (sym same) (but-not places from to named but below (past.other same)).1
      by_next false h =
          let here = past.here (eqb-false next named h) in
          let D : ℕ → Type 0 = λ k. AllBut P xs (drop k places) (suc from) to in
          subst D (sym here.0) (but-here places from to named but here.1)

module _ {A : Type 0} (P : A → Type 0) where
  -- a change behind the end changes nothing
  pub but-set : (xs : List A) (i : ℕ) (v : A) (places : List ℕ) (from to : ℕ) → to ≤ i → AllBut P xs places from to → AllBut P (slice_set xs i v) places from to
  unfolding AllBut
  but-set xs i v [] from to far but = (but.0, λ place x low under at. but.1 place x low under (sym (at-other xs i place v (λ same. omega arith)) ∙ at))
  but-set xs i v (next ∷ places) from to far but =
      let under = but-within P xs places (suc next) to but.2 in
      (but.0, λ place x low below at. but.1 place x low below (sym (at-other xs i place v (λ same. omega arith)) ∙ at), but-set xs i v places (suc next) to far but.2)

-- a pass that has come to a place, beyond which these are named
pub record IsPassing {A : Type 0} (P : A → Type 0) (xs : List A) (places : List ℕ) (to : ℕ) (Q : ℕ → Type 0) : Type 0 where
  pub from : ℕ
  pub left : AllBut P xs places from to
  pub done : Q from

-- a pass at the next place that is named
pub record IsPassingAt {A : Type 0} (P : A → Type 0) (xs : List A) (place : ℕ) (places : List ℕ) (to : ℕ) (Q : ℕ → Type 0) : Type 0 where
  pub within : place < to
  pub left : AllBut P xs places (suc place) to
  pub done : Q place

module _ {A : Type 0} (P : A → Type 0) (xs : List A) (Q : ℕ → Type 0) (over : (place : ℕ) (x : A) → slice_get xs place ≡ Some x → P x → Q place → Q (suc place)) where
  passed : (gap from to : ℕ) → from + gap ≡ to → to ≤ length xs → AllBetween P xs from to → Q from → Q to
  passed zero from to far within all done = subst Q (let same : from ≡ to = omega arith in same) done
  passed (suc gap) from to far within all done =
      let x = at-some xs from (omega arith) in
      passed gap (suc from) to (omega arith) within (λ place y low below at. all place y (omega arith) below at) (over from x.0 x.1 (all from x.0 (omega arith) (omega arith) x.1) done)

  next-at : (place to : ℕ) (left all : List ℕ) → to ≤ length xs → all ≡ place ∷ left → IsPassing P xs all to Q → IsPassingAt P xs place left to Q
  unfolding AllBut
  next-at place to left all within first pass =
      let but = subst (λ places. AllBut P xs places pass.from to) first pass.left in
      let more = but-within P xs left (suc place) to but.2 in
      let low = but.0 in
      record { within = omega arith; left = but.2; done = passed (place - pass.from) pass.from place (omega arith) (omega arith) but.1 pass.done }

  -- those between are passed over
  pub pass-at : (places : List ℕ) (k place to : ℕ) → to ≤ length xs → slice_get places k ≡ Some place → IsPassing P xs (drop k places) to Q → IsPassingAt P xs place (drop (suc k) places) to Q
  pass-at places k place to within at pass = next-at place to (drop (suc k) places) (drop k places) within (drop-at places k place at) pass

  last-end : (to : ℕ) (all : List ℕ) → to ≤ length xs → all ≡ [] → IsPassing P xs all to Q → Q to
  unfolding AllBut
  last-end to all within none pass =
      let but = subst (λ places. AllBut P xs places pass.from to) none pass.left in
      let low = but.0 in
      passed (to - pass.from) pass.from to (omega arith) within but.1 pass.done

  -- and those behind the last one
  pub pass-end : (places : List ℕ) (k to : ℕ) → to ≤ length xs → length places ≤ k → IsPassing P xs (drop k places) to Q → Q to
  pass-end places k to within far pass = last-end to (drop k places) within (drop_all k places far) pass
