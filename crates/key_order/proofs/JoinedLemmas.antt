-- Lists of events, one after another: any of them may stand first.
use Rattle.std.proofs.Common.{◌≡◌, ℕ, suc, ◌<◌, List, [], ◌∷◌, ◌++◌, length, append_assoc, take, drop, sym, refl, ap, ◌∙◌, subst}
use Rattle.std.specs.Prelude.{IsPermutation, slice_set, slice_index_or}
use Rattle.std.proofs.lemmas.List.{set_split, set-get_or}
use Rattle.std.proofs.lemmas.List.Sorted.{IsPermutation-append_left, IsPermutation-append_comm}
use Rattle.model_core.specs.declared.event.Event.{Event}
use Rattle.key_order.specs.Joined.{joined}

pub joined-append : (rs ss : List (List Event)) → joined (rs ++ ss) ≡ joined rs ++ joined ss
joined-append [] ss = refl
joined-append (r ∷ rs) ss = ap (λ w. r ++ w) (joined-append rs ss) ∙ sym (append_assoc r (joined rs) (joined ss))

middle_first : (xs ys zs : List Event) → IsPermutation (xs ++ (ys ++ zs)) (ys ++ (xs ++ zs))
middle_first xs ys zs =
    rw (← append_assoc) (rw (← append_assoc ys xs zs) (IsPermutation-append_left zs (xs ++ ys) (ys ++ xs) (IsPermutation-append_comm xs ys)))

joined-set : (rs : List (List Event)) (i : ℕ) (r : List Event) → i < length rs → joined (slice_set rs i r) ≡ joined (take i rs) ++ (r ++ joined (drop (suc i) rs))
joined-set rs i r lt = ap joined (set_split rs i r lt) ∙ joined-append (take i rs) (r ∷ drop (suc i) rs)

-- the list at a place may stand first
pub slot_first : (rs : List (List Event)) (i : ℕ) (r : List Event) → i < length rs → IsPermutation (joined (slice_set rs i r)) (r ++ joined (slice_set rs i []))
slot_first rs i r lt =
    let P : List Event → Type 0 = λ w. IsPermutation w (r ++ joined (slice_set rs i [])) in
    let Q : List Event → Type 0 = λ w. IsPermutation (joined (take i rs) ++ (r ++ joined (drop (suc i) rs))) (r ++ w) in
    subst P (sym (joined-set rs i r lt)) (subst Q (sym (joined-set rs i [] lt)) (middle_first (joined (take i rs)) r (joined (drop (suc i) rs))))

pub slot_out : (rs : List (List Event)) (i : ℕ) → i < length rs → IsPermutation (joined rs) (slice_index_or rs i [] ++ joined (slice_set rs i []))
slot_out rs i lt =
    let P : List (List Event) → Type 0 = λ w. IsPermutation (joined w) (slice_index_or rs i [] ++ joined (slice_set rs i [])) in
    subst P (set-get_or rs i []) (slot_first rs i (slice_index_or rs i []) lt)
