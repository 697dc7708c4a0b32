-- Reading entries one after the other by a check that tells what is known, as a loop does.
use Rattle.std.proofs.Common.{◌≡◌, ℕ, ◌+◌, ◌<◌, ◌≤◌, List, [], ◌∷◌, ◌++◌, length, drop, get_or, Ok, Err, refl, sym, ap, ◌∙◌, append_assoc}
use Rattle.std.proofs.lemmas.List.{drop_all, drop_more, append-nil}
use Rattle.model_reader.specs.declared.refusal.Refusal.{Refusal}
use Rattle.model_reader.specs.declared.refusal.Refusal.TheVariants.{At, OutOfMemory}
use Rattle.toml.specs.Data.{Data, item}
use Rattle.toml.specs.View.{view, items_view}
use Rattle.toml.specs.declared.value.Value.{Value}
use Rattle.toml.proofs.Views.{items_view-drop}
use Rattle.text_fields.specs.Checks.{Checked, Fails, ◌>>=◌}
use Rattle.text_fields.specs.Fields.{each_with}

-- what was read before, and what is still read, with what is known at its end
abbrev pub with_known : {S A : Type 0} → List A → Checked (List A × S) → Checked (List A × S)
with_known front check = check >>= (λ read. Ok (front ++ read.0, read.1))

abbrev one_more : {S A : Type 0} → A → Checked (List A × S) → Checked (List A × S)
one_more x check = check >>= (λ others. Ok (x ∷ others.0, others.1))

regroup_known : {S A : Type 0} (front : List A) (x : A) (check : Checked (List A × S)) → with_known front (one_more x check) ≡ with_known (front ++ x ∷ []) check
regroup_known front x (Ok read) = ap (λ ys. Ok (ys, read.1)) (simp append_assoc)
regroup_known front x (Err f) = refl

with_next : {S A : Type 0} (check : ℕ → S → Data → Checked (A × S)) (k i : ℕ) (known : S) (vs : List Value) (v : Value) → i < length vs → v ≡ get_or vs i v
    → each_with check k known (items_view (drop i vs)) ≡ (check k known (view v) >>= (λ first. one_more first.0 (each_with check (k + 1) first.1 (items_view (drop (i + 1) vs)))))
with_next check k i known vs v lt same =
    let split : items_view (drop i vs) ≡ item (view v) (items_view (drop (i + 1) vs)) = items_view-drop vs i v lt ∙ ap (λ w. item (view w) (items_view (drop (i + 1) vs))) (sym same) in
    rw split refl

pub known_goes_on : {S A : Type 0} (check : ℕ → S → Data → Checked (A × S)) (front : List A) (k i : ℕ) (known : S) (vs : List Value) (v : Value) (x : A) (more : S) (total : Checked (List A × S))
    → i < length vs → v ≡ get_or vs i v → check k known (view v) ≡ Ok (x, more)
    → with_known front (each_with check k known (items_view (drop i vs))) ≡ total → with_known (front ++ x ∷ []) (each_with check (k + 1) more (items_view (drop (i + 1) vs))) ≡ total
known_goes_on {S = S} {A = A} check front k i known vs v x more total lt same read so_far =
    sym (regroup_known front x (each_with check (k + 1) more (items_view (drop (i + 1) vs))))
    ∙ sym (ap (λ (checked : Checked (A × S)). with_known front (checked >>= (λ first. one_more first.0 (each_with check (k + 1) first.1 (items_view (drop (i + 1) vs)))))) read)
    ∙ sym (ap (λ (checked : Checked (List A × S)). with_known front checked) (with_next check k i known vs v lt same))
    ∙ so_far

pub known_ends : {S A : Type 0} (check : ℕ → S → Data → Checked (A × S)) (front : List A) (e : Refusal) (k i : ℕ) (known : S) (vs : List Value) (v : Value) (total : Checked (List A × S))
    → i < length vs → v ≡ get_or vs i v → Fails e (check k known (view v))
    → with_known front (each_with check k known (items_view (drop i vs))) ≡ total → Fails e total
known_ends check front OutOfMemory k i known vs v total lt same read so_far = tt
known_ends {S = S} {A = A} check front (At code place) k i known vs v total lt same read so_far =
    sym so_far
    ∙ ap (λ (checked : Checked (List A × S)). with_known front checked) (with_next check k i known vs v lt same)
    ∙ ap (λ (checked : Checked (A × S)). with_known front (checked >>= (λ first. one_more first.0 (each_with check (k + 1) first.1 (items_view (drop (i + 1) vs)))))) read

-- nothing was read before
pub known_begins : {S A : Type 0} (check : Checked (List A × S)) → with_known [] check ≡ check
known_begins (Ok read) = refl
known_begins (Err e) = refl

-- nothing is left to read
pub known_done : {S A : Type 0} (check : ℕ → S → Data → Checked (A × S)) (front : List A) (k i : ℕ) (known : S) (vs : List Value) (total : Checked (List A × S))
    → length vs ≤ i → with_known front (each_with check k known (items_view (drop i vs))) ≡ total → total ≡ Ok (front, known)
known_done {S = S} {A = A} check front k i known vs total all so_far =
    let none : drop i vs ≡ [] = drop_all i vs all in
    sym so_far
    ∙ ap (λ (ws : List Value). with_known front (each_with check k known (items_view ws))) none
    ∙ ap (λ (xs : List A). Ok (xs, known)) (append-nil front)
