-- Reading elements one after the other, as a loop does.
use Rattle.std.proofs.Common.{◌≡◌, ℕ, zero, suc, ◌+◌, ◌<◌, List, [], ◌∷◌, ◌++◌, length, drop, get_or, Ok, Err, refl, sym, ap, ◌∙◌, append_assoc, arith}
use Rattle.std.proofs.lemmas.List.{drop_more}
use Rattle.text_fields.specs.Checks.{Checked, Refused, ◌>>=◌, Fails}
use Rattle.model_reader.specs.declared.refusal.Refusal.{Refusal}
use Rattle.model_reader.specs.declared.refusal.Refusal.TheVariants.{At, OutOfMemory}
use Rattle.text_fields.specs.Fields.{each_after, each_of, all_of, item_count}
use Rattle.toml.specs.Data.{Data, item}
use Rattle.toml.specs.View.{view, items_view}
use Rattle.toml.specs.declared.value.Value.{Value}
use Rattle.toml.proofs.Views.{items_view-drop}

-- what was read before, and what is still read
abbrev pub with_front : {A : Type 0} → List A → Checked (List A) → Checked (List A)
with_front front check = check >>= (λ xs. Ok (front ++ xs))

regroup : {A : Type 0} (front : List A) (x : A) (check : Checked (List A)) → with_front front (check >>= (λ xs. Ok (x ∷ xs))) ≡ with_front (front ++ x ∷ []) check
regroup front x (Ok xs) = ap (λ ys. Ok ys) (simp append_assoc)
regroup front x (Err f) = refl

pub item_count-items : (vs : List Value) → length vs ≡ item_count (items_view vs)
item_count-items [] = refl
item_count-items (v ∷ vs) = rw (← item_count-items vs) (grind arith)

-- the same over a list
pub list_goes_on : {X A : Type 0} (read : ℕ → X → Checked A) (front : List A) (k i : ℕ) (xs : List X) (x : X) (a : A) (total : Checked (List A))
    → i < length xs → x ≡ get_or xs i x → read k x ≡ Ok a
    → with_front front (each_of read k (drop i xs)) ≡ total → with_front (front ++ a ∷ []) (each_of read (k + 1) (drop (i + 1) xs)) ≡ total
list_goes_on read front k i xs x a total lt same h so_far =
    let split : drop i xs ≡ x ∷ drop (i + 1) xs = drop_more xs i x lt ∙ ap (λ y. y ∷ drop (i + 1) xs) (sym same) in
    let one : with_front front (each_of read k (drop i xs)) ≡ with_front (front ++ a ∷ []) (each_of read (k + 1) (drop (i + 1) xs)) = rw (split, h) (regroup front a (each_of read (k + 1) (drop (i + 1) xs))) in
    sym one ∙ so_far

-- the same, where the check knows the elements before
after_next : {A : Type 0} (check : List A → Data → Checked A) (before : List A) (i : ℕ) (vs : List Value) (v : Value) → i < length vs → v ≡ get_or vs i v
    → each_after check before (items_view (drop i vs)) ≡ (check before (view v) >>= (λ next. each_after check (before ++ next ∷ []) (items_view (drop (i + 1) vs))))
after_next check before i vs v lt same =
    let split : items_view (drop i vs) ≡ item (view v) (items_view (drop (i + 1) vs)) = items_view-drop vs i v lt ∙ ap (λ w. item (view w) (items_view (drop (i + 1) vs))) (sym same) in
    rw split refl

pub after_goes_on : {A : Type 0} (check : List A → Data → Checked A) (before : List A) (i : ℕ) (vs : List Value) (v : Value) (x : A) (total : Checked (List A))
    → i < length vs → v ≡ get_or vs i v → check before (view v) ≡ Ok x
    → each_after check before (items_view (drop i vs)) ≡ total → each_after check (before ++ x ∷ []) (items_view (drop (i + 1) vs)) ≡ total
after_goes_on check before i vs v x total lt same read so_far =
    sym (after_next check before i vs v lt same ∙ ap (λ checked. checked >>= (λ next. each_after check (before ++ next ∷ []) (items_view (drop (i + 1) vs)))) read) ∙ so_far

pub after_ends : {A : Type 0} (check : List A → Data → Checked A) (before : List A) (e : Refusal) (i : ℕ) (vs : List Value) (v : Value) (total : Checked (List A))
    → i < length vs → v ≡ get_or vs i v → Fails e (check before (view v))
    → each_after check before (items_view (drop i vs)) ≡ total → Fails e total
after_ends check before OutOfMemory i vs v total lt same read so_far = tt
after_ends check before (At code place) i vs v total lt same read so_far =
    sym so_far ∙ after_next check before i vs v lt same ∙ ap (λ checked. checked >>= (λ next. each_after check (before ++ next ∷ []) (items_view (drop (i + 1) vs)))) read

-- all elements pass, or one is refused and those before it pass
pub all_pass : {X : Type 0} (check : ℕ → X → Checked (Unit {0})) (k : ℕ) (xs : List X) → ((i : ℕ) (x : X) → i < length xs → check (k + i) x ≡ Ok tt) → all_of check k xs ≡ Ok tt
all_pass check k [] passes = refl
all_pass check k (x ∷ xs) passes =
    let first : check k x ≡ Ok tt = ap (λ n. check n x) (omega arith) ∙ passes 0 x (omega arith) in
    rw first (all_pass check (k + 1) xs (λ i y within. ap (λ n. check n y) (omega arith) ∙ passes (i + 1) y (omega arith)))

pub all_stop : {X : Type 0} (check : ℕ → X → Checked (Unit {0})) (k : ℕ) (xs : List X) (i : ℕ) (e : Refused) → i < length xs
    → ((j : ℕ) (x : X) → j < i → check (k + j) x ≡ Ok tt) → ((x : X) → check (k + i) x ≡ Err e) → all_of check k xs ≡ Err e
all_stop check k [] i e within before stops = absurd (omega arith)
all_stop check k (x ∷ xs) zero e within before stops =
    let first : check k x ≡ Err e = ap (λ n. check n x) (omega arith) ∙ stops x in rw first refl
all_stop check k (x ∷ xs) (suc i) e within before stops =
    let first : check k x ≡ Ok tt = ap (λ n. check n x) (omega arith) ∙ before 0 x (omega arith) in
    rw first (all_stop check (k + 1) xs i e (omega arith) (λ j y lt. ap (λ n. check n y) (omega arith) ∙ before (j + 1) y (omega arith)) (λ y. ap (λ n. check n y) (omega arith) ∙ stops y))
