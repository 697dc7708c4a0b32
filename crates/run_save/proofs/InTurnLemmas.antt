-- Things that are read one after another.
use Rattle.std.proofs.Common.{◌≡◌, ℕ, zero, suc, ◌-◌, ◌+◌, ◌<◌, ◌≤◌, List, [], ◌∷◌, ◌++◌, length, Option, Some, Ok, Err, refl, sym, ap, subst, ◌∙◌, append_assoc, append-nil, length-append, arith}
use Rattle.std.specs.Prelude.{slice_get}
use Rattle.std.specs.List.{AllByRecursion, flat_map}
use Rattle.std.proofs.lemmas.List.Concat.{flat_map-cons}
use Rattle.run_save.specs.declared.refusal.StateRefusal.{StateRefusal}
use Rattle.run_save.specs.declared.refusal.StateRefusal.TheVariants.{At, OutOfMemory}
use Rattle.run_save.specs.Checks.{Checked, Fails, ◌>>=◌}
use Rattle.run_save.specs.Rests.{Rest, in_turn}
use Rattle.run_save.proofs.CheckLemmas.{bound, joined, same_given}
use Rattle.run_save.proofs.RestLemmas.{at, IsPlain}

-- the last one, if there is one
abbrev pub last_of : {X : Type 0} → List X → Option X
last_of xs = slice_get xs (length xs - 1)

pub last_of-push : {X : Type 0} (xs : List X) (x : X) → last_of (xs ++ x ∷ []) ≡ Some x
last_of-push xs x =
    let size : length (xs ++ x ∷ []) - 1 ≡ length xs = omega (arith, length-append xs (x ∷ [])) in
    ap (slice_get (xs ++ x ∷ [])) size ∙ at_end xs x
  where
    at_end : {X : Type 0} (xs : List X) (x : X) → slice_get (xs ++ x ∷ []) (length xs) ≡ Some x
    at_end [] x = refl
    at_end (y ∷ xs) x = at_end xs x

-- ---- as a loop reads them

-- what was read before, and what is still read
abbrev pub with_front : {X : Type 0} → List X → Checked (List X × Rest) → Checked (List X × Rest)
with_front front check = check >>= (λ read. Ok (front ++ read.0, read.1))

regrouped : {X : Type 0} (front : List X) (x : X) (check : Checked (List X × Rest)) → with_front front (check >>= (λ read. Ok (x ∷ read.0, read.1))) ≡ with_front (front ++ x ∷ []) check
regrouped front x (Ok read) = ap (λ (xs : List _). Ok (xs, read.1)) (simp append_assoc)
regrouped front x (Err refused) = refl

module _ {X : Type 0} (one : Option X → Rest → Checked (X × Rest)) where
  pub goes_on : (front : List X) (count i : ℕ) (rest : Rest) (x : X) (next : Rest) (total : Checked (List X × Rest)) → i < count → one (last_of front) rest ≡ Ok (x, next)
      → with_front front (in_turn one (last_of front) (count - i) rest) ≡ total → with_front (front ++ x ∷ []) (in_turn one (last_of (front ++ x ∷ [])) (count - (i + 1)) next) ≡ total
  unfolding in_turn
  goes_on front count i rest x next total more reads so_far =
      let left : count - i ≡ suc (count - (i + 1)) = omega arith in
      let step : in_turn one (last_of front) (count - i) rest ≡ (in_turn one (Some x) (count - (i + 1)) next >>= (λ read. Ok (x ∷ read.0, read.1))) =
      rw left (joined (one (last_of front) rest) _ (x, next) _ reads refl) in
      ap (λ (before : Option X). with_front (front ++ x ∷ []) (in_turn one before (count - (i + 1)) next)) (last_of-push front x)
      ∙ sym (regrouped front x (in_turn one (Some x) (count - (i + 1)) next))
      ∙ ap (λ (check : Checked (List X × Rest)). with_front front check) (sym step) ∙ so_far

  pub ends : (refusal : StateRefusal) (front : List X) (count i : ℕ) (rest : Rest) (total : Checked (List X × Rest)) → i < count → Fails refusal (one (last_of front) rest)
      → with_front front (in_turn one (last_of front) (count - i) rest) ≡ total → Fails refusal total
  unfolding in_turn
  ends OutOfMemory front count i rest total more fails so_far = tt
  ends (At code line) front count i rest total more fails so_far =
      let left : count - i ≡ suc (count - (i + 1)) = omega arith in
      let step : with_front front (in_turn one (last_of front) (count - i) rest) ≡ Err (record { code = code; line = line }) = rw (left, fails) refl in
      sym so_far ∙ step

  pub is_done : (front : List X) (count i : ℕ) (rest : Rest) (total : Checked (List X × Rest)) → count ≤ i → with_front front (in_turn one (last_of front) (count - i) rest) ≡ total → total ≡ Ok (front, rest)
  unfolding in_turn
  is_done front count i rest total all so_far =
      let left : count - i ≡ 0 = omega arith in
      let step : with_front front (in_turn one (last_of front) (count - i) rest) ≡ Ok (front, rest) = rw left (ap (λ (xs : List X). Ok (xs, rest)) (append-nil front)) in
      sym so_far ∙ step

-- ---- their texts

-- each fits the one before it
module _ {X : Type 0} (Fits : Option X → X → Type 0) where
  abbrev pub FitInTurn : Option X → List X → Type 0
  FitInTurn before [] = Unit {0}
  FitInTurn before (x ∷ xs) = Fits before x × FitInTurn (Some x) xs

pub each_from_turn : {X : Type 0} (P : X → Type 0) (before : Option X) (xs : List X) → FitInTurn (λ _ x. P x) before xs → AllByRecursion P xs
each_from_turn P before [] fit = tt
each_from_turn P before (x ∷ xs) fit = (fit.0, each_from_turn P (Some x) xs fit.1)

pub turn_from_each : {X : Type 0} (P : X → Type 0) (before : Option X) (xs : List X) → AllByRecursion P xs → FitInTurn (λ _ x. P x) before xs
turn_from_each P before [] all = tt
turn_from_each P before (x ∷ xs) all = (all.0, turn_from_each P (Some x) xs all.1)

module _ {X : Type 0} (one : Option X → Rest → Checked (X × Rest)) (text : X → List ℕ) (Fits : Option X → X → Type 0) where
  -- what is read was written so
  abbrev pub IsTaken : Type 0
  IsTaken = (before : Option X) (rest : Rest) (x : X × Rest) → one before rest ≡ Ok x → (rest.bytes ≡ text x.0 ++ x.1.bytes) × Fits before x.0

  -- what is written is read
  abbrev pub IsRead : Type 0
  IsRead = (before : Option X) (x : X) (more : List ℕ) (line : ℕ) → Fits before x → IsPlain more → (to : ℕ) × (one before (at (text x ++ more) line) ≡ Ok (x, at more to))

  pub in_turn-takes : IsTaken → (n : ℕ) (before : Option X) (rest : Rest) (xs : List X × Rest) → in_turn one before n rest ≡ Ok xs
      → (rest.bytes ≡ flat_map text xs.0 ++ xs.1.bytes) × (length xs.0 ≡ n) × FitInTurn Fits before xs.0
  unfolding in_turn
  in_turn-takes taken zero before rest xs reads =
      subst (λ (y : List X × Rest). (rest.bytes ≡ flat_map text y.0 ++ y.1.bytes) × (length y.0 ≡ 0) × FitInTurn Fits before y.0) (same_given ([], rest) xs reads) (refl, refl, tt)
  in_turn-takes taken (suc n) before rest xs reads =
      let first = bound (one before rest) _ xs reads in
      let others = bound (in_turn one (Some first.0.0) n first.0.1) _ xs first.2 in
      let own = taken before rest first.0 first.1 in
      let later = in_turn-takes taken n (Some first.0.0) first.0.1 others.0 others.1 in
      let parts : rest.bytes ≡ flat_map text (first.0.0 ∷ others.0.0) ++ others.0.1.bytes =
      own.0 ∙ ap (λ (t : List ℕ). text first.0.0 ++ t) later.0
      ∙ sym (append_assoc (text first.0.0) (flat_map text others.0.0) others.0.1.bytes)
      ∙ ap (λ (t : List ℕ). t ++ others.0.1.bytes) (sym (flat_map-cons text first.0.0 others.0.0)) in
      subst (λ (y : List X × Rest). (rest.bytes ≡ flat_map text y.0 ++ y.1.bytes) × (length y.0 ≡ suc n) × FitInTurn Fits before y.0)
      (same_given (first.0.0 ∷ others.0.0, others.0.1) xs others.2) (parts, ap suc later.1, (own.1, later.2))

  grouped : (x : X) (xs : List X) (more : List ℕ) → flat_map text (x ∷ xs) ++ more ≡ text x ++ (flat_map text xs ++ more)
  grouped x xs more = ap (λ (t : List ℕ). t ++ more) (flat_map-cons text x xs) ∙ append_assoc (text x) (flat_map text xs) more

  pub flat_map-IsPlain : ((x : X) (more : List ℕ) → IsPlain (text x ++ more)) → (xs : List X) (more : List ℕ) → IsPlain more → IsPlain (flat_map text xs ++ more)
  flat_map-IsPlain plain [] more is = is
  flat_map-IsPlain plain (x ∷ xs) more is = rw (grouped x xs more) (plain x (flat_map text xs ++ more))

  pub in_turn-reads : IsRead → ((x : X) (more : List ℕ) → IsPlain (text x ++ more)) → (xs : List X) (before : Option X) (more : List ℕ) (line : ℕ) → FitInTurn Fits before xs → IsPlain more
      → (to : ℕ) × (in_turn one before (length xs) (at (flat_map text xs ++ more) line) ≡ Ok (xs, at more to))
  unfolding in_turn
  in_turn-reads read plain [] before more line fit is = (line, refl)
  in_turn-reads read plain (x ∷ xs) before more line fit is =
      let own = read before x (flat_map text xs ++ more) line fit.0 (flat_map-IsPlain plain xs more is) in
      let later = in_turn-reads read plain xs (Some x) more own.0 fit.1 is in
      let step : in_turn one before (suc (length xs)) (at (text x ++ (flat_map text xs ++ more)) line) ≡ Ok (x ∷ xs, at more later.0) =
      joined (one before (at (text x ++ (flat_map text xs ++ more)) line)) _ (x, at (flat_map text xs ++ more) own.0) _ own.1
      (joined (in_turn one (Some x) (length xs) (at (flat_map text xs ++ more) own.0)) _ (xs, at more later.0) _ later.1 refl) in
      (later.0, ap (λ (bytes : List ℕ). in_turn one before (suc (length xs)) (at bytes line)) (grouped x xs more) ∙ step)
