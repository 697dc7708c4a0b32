-- Places that are filled one after another.
use Rattle.std.proofs.Common.{◌≡◌, ◌≢◌, ◌+◌, ◌<◌, ℕ, zero, suc, Bool, true, false, List, [], ◌∷◌, ◌++◌, length, map, set, refl, sym, append_assoc, ap, ◌∙◌, subst, arith, cond, eqb, eqb-true, ◌⊎◌, ⊎_elim, inl, inr}
use Rattle.std.specs.Prelude.{All, IfOk, Option, Result, Ok, Err, Vec, slice_get, Some}
use Rattle.std.specs.List.{AllZip}
use Rattle.std.proofs.lemmas.Bool.{eqb-false}
use Rattle.std.proofs.lemmas.Bool.Decides.{eqb_tells}
use Rattle.std.proofs.lemmas.List.{append-nil, get_or-set_same, get_or-set_other, length-map, length-set}
use Rattle.std.proofs.lemmas.List.Elements.{All-head}
use Rattle.std.proofs.lemmas.List.Sums.{sum_by_push}
use Rattle.std.proofs.lemmas.Option.{slice_get-get_or, slice_get_within, get_or_from_slice_get, same_Some}
use Rattle.std.specs.declared.alloc.Global.{Global}
use Rattle.delta_exchange.specs.declared.memory.OutOfMemory.{OutOfMemory}
use Rattle.steal_pool.specs.declared.task.Task.{Task}
use Rattle.steal_pool.specs.Turns.{AreRight, IsDoneAt, IsDoneOf, IsFilled, times}
use Rattle.steal_pool.proofs.RuleLemmas.{first-part, last-part}

module _ {A : Type 0} where
  at-set : (xs : List A) (i : ℕ) (v : A) → i < length xs → slice_get (set xs i v) i ≡ Some v
  at-set xs i v inside = slice_get-get_or (set xs i v) i v (omega (arith, length-set xs i v)) ∙ ap Some (get_or-set_same xs i v v inside)

  at-other : (xs : List A) (i k : ℕ) (v x : A) → k ≢ i → slice_get xs k ≡ Some x → slice_get (set xs i v) k ≡ Some x
  at-other xs i k v x apart at =
      let inside = slice_get_within xs k x at in
      slice_get-get_or (set xs i v) k x (omega (arith, length-set xs i v)) ∙ ap Some (get_or-set_other xs i k v x apart ∙ get_or_from_slice_get xs k x x at)

  was-other : (xs : List A) (i k : ℕ) (v x : A) → k ≢ i → slice_get (set xs i v) k ≡ Some x → slice_get xs k ≡ Some x
  was-other xs i k v x apart at =
      let inside = slice_get_within (set xs i v) k x at in
      slice_get-get_or xs k x (omega (arith, length-set xs i v)) ∙ ap Some (sym (get_or-set_other xs i k v x apart) ∙ get_or_from_slice_get (set xs i v) k x x at)

module _ {T : Type 0} (turned : T → T → Type 0) where
  -- the turns of these tasks were put at their places
  pub record Filling (tasks : List (Task T)) (old now : List (Option T)) : Type 0 where
    pub many : length now ≡ length old
    pub stay : (number : ℕ) → IsFilled old number → IsFilled now number
    pub filled : (number : ℕ) → 0 < times number tasks → IsFilled now number
    pub right : (turns : List T) → AreRight turned turns old → All (IsDoneOf turned turns) tasks → AreRight turned turns now

  -- a place is filled where it was, or where a turn is put there
  filled-more : (now : List (Option T)) (task : Task T) → task.number < length now → (number : ℕ) → (number ≢ task.number → IsFilled now number) → IsFilled (set now task.number (Some task.turn)) number
  filled-more now task inside number before = by number before (eqb number task.number) refl
    where
      by : (number : ℕ) → (number ≢ task.number → IsFilled now number) → (b : Bool) → eqb number task.number ≡ b → IsFilled (set now task.number (Some task.turn)) number
      by number before true is = (task.turn, subst (λ k. slice_get (set now task.number (Some task.turn)) k ≡ Some (Some task.turn)) (sym (eqb-true number task.number is)) (at-set now task.number (Some task.turn) inside))
      by number before false is =
          let apart = eqb-false number task.number is in
          let there = before apart in
          (there.0, at-other now task.number number (Some task.turn) (Some there.0) apart there.1)

  right-more : (turns : List T) (now : List (Option T)) (task : Task T) → task.number < length now → AreRight turned turns now → IsDoneOf turned turns task
      → AreRight turned turns (set now task.number (Some task.turn))
  right-more turns now task inside before done number turn at = by number turn at (eqb number task.number) refl
    where
      by : (number : ℕ) (turn : T) → slice_get (set now task.number (Some task.turn)) number ≡ Some (Some turn) → (b : Bool) → eqb number task.number ≡ b → IsDoneAt turned turns number turn
      by number turn at true is =
          let same = eqb-true number task.number is in
          let here = subst (λ k. slice_get (set now task.number (Some task.turn)) k ≡ Some (Some turn)) same at in
          let one : task.turn ≡ turn = same_Some task.turn turn (same_Some (Some task.turn) (Some turn) (sym (at-set now task.number (Some task.turn) inside) ∙ here)) in
          subst (λ (each : T). IsDoneAt turned turns number each) one (subst (λ k. IsDoneAt turned turns k task.turn) (sym same) done)
      by number turn at false is = before number turn (was-other now task.number number (Some task.turn) (Some turn) (eqb-false number task.number is) at)

  -- one more task
  pub filling-more : (tasks : List (Task T)) (old now : List (Option T)) (task : Task T) → Filling tasks old now → task.number < length now
      → Filling (tasks ++ task ∷ []) old (set now task.number (Some task.turn))
  filling-more tasks old now task filling inside = record {
    many = length-set now task.number (Some task.turn) ∙ filling.many;
    stay = λ number there. filled-more now task inside number (λ apart. filling.stay number there);
    filled = λ number some. filled-more now task inside number (λ apart. filling.filled number (among number apart some));
    right = λ turns before done.
        right-more turns now task inside (filling.right turns before (first-part (IsDoneOf turned turns) tasks (task ∷ []) done)) (last-part (IsDoneOf turned turns) tasks (task ∷ []) done 0 task (omega arith));
  }
    where
      among : (number : ℕ) → number ≢ task.number → 0 < times number (tasks ++ task ∷ []) → 0 < times number tasks
      among number apart some =
          let f : Task T → ℕ = λ each. cond (eqb each.number number) 1 0 in
          let sum : times number (tasks ++ task ∷ []) ≡ times number tasks + f task = sum_by_push f tasks task in
          let none : f task ≡ 0 = ⊎_elim (λ (same : (eqb task.number number ≡ true) × (task.number ≡ number)). absurd (apart (sym same.1)))
          (λ (other : (eqb task.number number ≡ false) × (task.number ≢ number)). ap (λ b. cond b 1 0) other.0) (eqb_tells task.number number) in
          omega arith

  -- the task that comes next is put at its place
  pub filling-next : (tasks rest all : List (Task T)) (old now : List (Option T)) (task : Task T) → Filling tasks old now → tasks ++ (task ∷ rest) ≡ all → All (λ (task : Task T). task.number < length old) all
      → ((tasks ++ task ∷ []) ++ rest ≡ all) × Filling (tasks ++ task ∷ []) old (set now task.number (Some task.turn))
  filling-next tasks rest all old now task filling whole inside =
      let P : Task T → Type 0 = λ task. task.number < length old in
      let here = All-head P task rest (last-part P tasks (task ∷ rest) (subst (All P) (sym whole) inside)) in
      let many = filling.many in
      (append_assoc tasks (task ∷ []) rest ∙ whole, filling-more tasks old now task filling (omega arith))

  -- what is said of the places once all are filled is said of the turns
  pub zip-right : (turns all : List T) → length all ≡ length turns → AreRight turned turns (map Some all) → AllZip turned turns all
  zip-right [] [] many right = tt
  zip-right [] (y ∷ ys) many right = absurd (omega arith)
  zip-right (x ∷ xs) [] many right = absurd (omega arith)
  zip-right (x ∷ xs) (y ∷ ys) many right = (right 0 y refl, zip-right xs ys (omega arith) (λ number turn at. right (suc number) turn at))

  pub all-right : (turns : List T) (places : List (Option T)) (result : Result (Vec T Global) OutOfMemory) → IfOk result (λ all. map (λ turn. Some turn) all.items ≡ places)
      → length places ≡ length turns → AreRight turned turns places → IfOk result (λ all. AllZip turned turns all.items)
  all-right turns places (Ok all) is many right =
      zip-right turns all.items (omega (arith, ap length is, length-map {A = T} {B = Option T} all.items (λ turn. Some turn))) (subst (AreRight turned turns) (sym is) right)
  all-right turns places (Err e) is many right = tt

module _ {A : Type 0} where
  -- what stands behind a prefix
  pub at-middle : (xs : List A) (y : A) (ys : List A) → slice_get (xs ++ y ∷ ys) (length xs) ≡ Some y
  at-middle [] y ys = refl
  at-middle (x ∷ xs) y ys = at-middle xs y ys

  -- nothing is left
  pub nothing-left : (xs ys zs : List A) → xs ++ ys ≡ zs → length ys ≡ 0 → xs ≡ zs
  nothing-left xs [] zs whole none = sym (append-nil xs) ∙ whole
  nothing-left xs (y ∷ ys) zs whole none = absurd (omega arith)

pub positive : (a b : ℕ) → 0 < a + b → (0 < a) ⊎ (0 < b)
positive zero b some = inr (omega arith)
positive (suc a) b some = inl (omega arith)
