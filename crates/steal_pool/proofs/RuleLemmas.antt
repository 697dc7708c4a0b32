-- Each step on a deque keeps its rule.
use Rattle.std.proofs.Common.{◌≡◌, ◌+◌, ◌-◌, ◌<◌, ℕ, zero, suc, List, [], ◌∷◌, ◌++◌, length, get_or, set, refl, sym, ap, subst, arith}
use Rattle.std.specs.Prelude.{All, Contains, sum_by}
use Rattle.std.proofs.lemmas.List.{get_or-set_same, length-set}
use Rattle.std.proofs.lemmas.List.Elements.{All-set, All-push, All-take, All-drop, All-weaker, Contains-append_left, Contains-push}
use Rattle.std.proofs.lemmas.List.Sums.{sum_by-set, sum_by-append, sum_by_push, sum_by-le, get_or-le-sum_by}
use mathlib.Core.Option.{some, some-injective, some-ne-none}
use lib.ListN.{get_elem?}
use lib.Seq.{take-append_seam, drop-append_seam}
use Rattle.crossbeam_deque.specs.Tasks.{Pushes, Takes, Finds, Forks, Merges}
use Rattle.steal_pool.specs.declared.task.Task.{Task}
use Rattle.steal_pool.specs.declared.tally.Tally.{Tally}
use Rattle.steal_pool.specs.Tallies.{WHOLE, tally, IsEmptied, IsNext, count}
use Rattle.steal_pool.specs.Counts.{Agrees, Counted}

module _ {A : Type 0} where
  pub first-part : (P : A → Type 0) (xs ys : List A) → All P (xs ++ ys) → All P xs
  first-part P xs ys h = subst (All P) (take-append_seam xs ys) (All-take P (length xs) (xs ++ ys) h)

  pub last-part : (P : A → Type 0) (xs ys : List A) → All P (xs ++ ys) → All P ys
  last-part P xs ys h = subst (All P) (drop-append_seam xs ys) (All-drop P (length xs) (xs ++ ys) h)

  at-get : (xs : List A) (i : ℕ) (x : A) → get_elem? xs i ≡ some x → (i < length xs) × (get_or xs i x ≡ x)
  at-get [] i x at = absurd (some-ne-none x (sym at))
  at-get (y ∷ ys) zero x at = (omega arith, some-injective y x at)
  at-get (y ∷ ys) (suc i) x at = let rest = at-get ys i x at in (omega arith, rest.1)

  -- what a step changes of a sum
  moved : (f : A → ℕ) (xs : List A) (i : ℕ) (x y : A) → get_elem? xs i ≡ some x → sum_by f (set xs i y) + f x ≡ sum_by f xs + f y
  moved f xs i x y at =
      let here = at-get xs i x at in
      subst (λ z. sum_by f (set xs i y) + f z ≡ sum_by f xs + f y) here.1 (sum_by-set f xs i y x here.0)

  of-place : (P : A → Type 0) (xs : List A) (i : ℕ) (x : A) → get_elem? xs i ≡ some x → All P xs → P x
  of-place P xs i x at all = let here = at-get xs i x at in subst P here.1 (all i x here.0)

  set-again : (xs : List A) (i : ℕ) (x y : A) → set (set xs i x) i y ≡ set xs i y
  set-again [] i x y = refl
  set-again (z ∷ zs) zero x y = refl
  set-again (z ∷ zs) (suc i) x y = ap (λ rest. z ∷ rest) (set-again zs i x y)

  pub no-sum : (f : A → ℕ) (xs : List A) → All (λ x. f x ≡ 0) xs → sum_by f xs ≡ 0
  no-sum f xs none = let bound = sum_by-le f 0 xs (λ k d inside. let here = none k d inside in omega arith) in omega arith

module _ {T : Type 0} where
  -- one who has all parts stands alone
  alone : (all : List (Tally T)) (port : ℕ) (v : Tally T) → get_elem? all port ≡ some v → sum_by (λ one. one.parts) all ≡ WHOLE → v.parts ≡ WHOLE
      → All (λ one. one.parts ≡ 0) (set all port (tally 0 [] []))
  alone all port v at whole has k d inside =
      let sum = moved (λ (one : Tally T). one.parts) all port v (tally 0 [] []) at in
      let one = get_or-le-sum_by (λ (one : Tally T). one.parts) (set all port (tally 0 [] [])) k d inside in
      omega arith

  pub puts : (port : ℕ) (v : Tally T) (task : Task T) → v.parts ≡ WHOLE → Pushes Counted port v (task ∷ []) (λ w. w ≡ tally v.parts (v.put ++ task ∷ []) v.taken)
  puts port v task has items all rule at =
      let none = tally 0 [] [] in
      let w = tally v.parts (v.put ++ task ∷ []) v.taken in
      let idle = alone all port v at rule.whole has in
      let knows = (of-place (Agrees rule.put) all port v at rule.agreed).knows (omega arith) in
      let agreed = All-set (Agrees rule.put) all port none (record { knows = λ some. absurd (omega arith); spent = λ _. refl }) rule.agreed in
      let others : All (Agrees w.put) (set all port none) =
      λ k d inside. let here = idle k d inside in record { knows = λ some. absurd (omega arith); spent = (agreed k d inside).spent } in
      let known = subst (λ put. All (Contains put) items) (sym knows) rule.known in (
        w,
        record {
          put = w.put;
          whole = (let sum = moved (λ (one : Tally T). one.parts) all port v w at in let before = rule.whole in omega arith);
          counted = λ weight.
              let sum = moved (λ (one : Tally T). sum_by weight one.taken) all port v w at in
              let before = rule.counted weight in
              omega (arith, sum_by_push weight v.put task, sum_by_push weight items task, ap (sum_by weight) knows);
          known = All-push (Contains w.put) items task
              (All-weaker (Contains v.put) (Contains w.put) (λ x. Contains-append_left v.put (task ∷ []) x) items known)
              (Contains-push v.put task);
          agreed = subst (All (Agrees w.put)) (set-again all port none w)
              (All-set (Agrees w.put) (set all port none) port w (record { knows = λ _. refl; spent = λ (bare : w.parts ≡ 0). absurd (omega arith) }) others);
        },
        refl,
      )

  pub takes : (port : ℕ) (v : Tally T) → 0 < v.parts → Takes Counted port v 1 (IsNext v)
  takes port v has xs items all _ _ rule at =
      let w = tally v.parts v.put (v.taken ++ xs) in
      let mine = of-place (Agrees rule.put) all port v at rule.agreed in
      let knows = mine.knows has in
      let counted : (weight : Task T → ℕ) → sum_by weight rule.put ≡ sum_by (λ one. sum_by weight one.taken) (set all port w) + sum_by weight items =
      λ weight.
      let sum = moved (λ (one : Tally T). sum_by weight one.taken) all port v w at in
      let before = rule.counted weight in
      omega (arith, sum_by-append weight xs items, sum_by-append weight v.taken xs) in
      let here = at-get all port v at in
      let within = get_or-le-sum_by (λ (one : Tally T). count one.taken) (set all port w) port w (omega (arith, length-set all port w)) in
      let same = get_or-set_same all port w w here.0 in (
        w,
        record {
          put = rule.put;
          whole = (let sum = moved (λ (one : Tally T). one.parts) all port v w at in let before = rule.whole in omega arith);
          counted = counted;
          known = last-part (Contains rule.put) xs items rule.known;
          agreed = All-set (Agrees rule.put) all port w (record { knows = λ _. knows; spent = λ none. absurd (omega arith) }) rule.agreed;
        },
        record {
          after_is = refl;
          known = subst (λ put. All (Contains put) xs) (sym knows) (first-part (Contains rule.put) xs items rule.known);
          within = (let all_of = counted (λ _. 1) in omega (arith, ap (λ (one : Tally T). count one.taken) same, ap count knows));
        },
      )

  pub finds : (port : ℕ) (v : Tally T) → Finds Counted port v (IsEmptied v)
  finds port v all rule at has weight =
      let none = tally 0 [] [] in
      let idle = alone all port v at rule.whole has in
      let mine = of-place (Agrees rule.put) all port v at rule.agreed in
      let agreed = All-set (Agrees rule.put) all port none (record { knows = λ some. absurd (omega arith); spent = λ _. refl }) rule.agreed in
      let rest = no-sum (λ (one : Tally T). sum_by weight one.taken) (set all port none)
      (λ k d inside. ap (sum_by weight) ((agreed k d inside).spent (idle k d inside))) in
      let sum = moved (λ (one : Tally T). sum_by weight one.taken) all port v none at in
      let counted = rule.counted weight in
      omega (arith, ap (sum_by weight) (mine.knows (omega arith)))

  pub forks : (port : ℕ) (v : Tally T) → 1 < v.parts → Forks Counted port v (tally (v.parts - 1) v.put v.taken) (tally 1 v.put [])
  forks port v has items all rule at =
      let left = tally (v.parts - 1) v.put v.taken in
      let right = tally 1 v.put [] in
      let knows = (of-place (Agrees rule.put) all port v at rule.agreed).knows (omega arith) in record {
        put = rule.put;
        whole = (let sum = moved (λ (one : Tally T). one.parts) all port v left at in let before = rule.whole in omega (arith, sum_by_push (λ (one : Tally T). one.parts) (set all port left) right));
        counted = λ weight.
            let f : Tally T → ℕ = λ one. sum_by weight one.taken in
            let sum = moved f all port v left at in
            let before = rule.counted weight in
            omega (arith, sum_by_push f (set all port left) right);
        known = rule.known;
        agreed = All-push (Agrees rule.put) (set all port left) right
            (All-set (Agrees rule.put) all port left (record { knows = λ _. knows; spent = λ none. absurd (omega arith) }) rule.agreed)
            (record { knows = λ _. knows; spent = λ none. absurd (omega arith) });
      }

  pub merges : (port : ℕ) (v : Tally T) (other : ℕ) (w : Tally T) → 0 < v.parts → Merges Counted port v other w (tally (v.parts + w.parts) v.put (v.taken ++ w.taken)) (tally 0 [] [])
  merges port v other w has items all rule at apart at_other =
      let both = tally (v.parts + w.parts) v.put (v.taken ++ w.taken) in
      let none = tally 0 [] [] in
      let half = set all port both in
      let knows = (of-place (Agrees rule.put) all port v at rule.agreed).knows has in record {
        put = rule.put;
        whole =
            (let f : Tally T → ℕ = λ one. one.parts in
            let one = moved f all port v both at in
            let two = moved f half other w none at_other in
            let before = rule.whole in omega arith);
        counted = λ weight.
            let f : Tally T → ℕ = λ one. sum_by weight one.taken in
            let one = moved f all port v both at in
            let two = moved f half other w none at_other in
            let before = rule.counted weight in
            omega (arith, sum_by-append weight v.taken w.taken);
        known = rule.known;
        agreed = All-set (Agrees rule.put) half other none (record { knows = λ some. absurd (omega arith); spent = λ _. refl })
            (All-set (Agrees rule.put) all port both (record { knows = λ _. knows; spent = λ none. absurd (omega arith) }) rule.agreed);
      }
