-- Events may be put at their places in any order.
use Rattle.std.proofs.Common.{◌≡◌, true, false, cond, List, [], ◌∷◌, ◌++◌}
use Rattle.std.proofs.lemmas.List.Sorted.{IsPermutation-append_left, IsPermutation-append_right, IsPermutation-cons, IsPermutation-middle, IsPermutation-refl, IsPermutation-sym, IsPermutation-trans}
use Rattle.std.specs.Prelude.{IsPermutation}
use Rattle.event_key.specs.Keys.{key_lt}
use Rattle.model_core.specs.declared.event.Event.{Event}
use Rattle.key_order.specs.Ascending.{IsAscending, key_of}
use Rattle.key_order.specs.Keys.{KeysDiffer}
use Rattle.key_order.specs.Pending.{enqueue, enqueue_all}
use Rattle.key_order.proofs.EnqueueLemmas.{IsAscending-enqueue}
use Rattle.key_order.proofs.KeyLemmas.{Ascends-differ, Differ-back, Differ-first, Differ-permutation}
use Rattle.key_order.proofs.OrderLemmas.{by-permutation}

-- putting events at their places moves events only
pub enqueue-permutation : (e : Event) (xs : List Event) → IsPermutation (e ∷ xs) (enqueue e xs)
unfolding enqueue
enqueue-permutation e [] = IsPermutation-refl (e ∷ [])
enqueue-permutation e (x ∷ xs) =
    elim (key_lt e.key x.key) as (λ b. IsPermutation (e ∷ x ∷ xs) (cond b (e ∷ x ∷ xs) (x ∷ enqueue e xs))) [
      | true ↦ IsPermutation-refl (e ∷ x ∷ xs)
      | false ↦ IsPermutation-trans (e ∷ x ∷ xs) (x ∷ e ∷ xs) (x ∷ enqueue e xs) (IsPermutation-middle (e ∷ []) x xs) (IsPermutation-cons x (e ∷ xs) (enqueue e xs) (enqueue-permutation e xs))
    ]

later_first : (e : Event) (es xs : List Event) → IsPermutation (e ∷ (es ++ xs)) (es ++ (e ∷ xs))
later_first e es xs = IsPermutation-sym (es ++ (e ∷ xs)) (e ∷ (es ++ xs)) (IsPermutation-middle es e xs)

at_place : (e : Event) (es xs : List Event) → IsPermutation (e ∷ (es ++ xs)) (es ++ enqueue e xs)
at_place e es xs =
    IsPermutation-trans (e ∷ (es ++ xs)) (es ++ (e ∷ xs)) (es ++ enqueue e xs) (later_first e es xs) (IsPermutation-append_right es (e ∷ xs) (enqueue e xs) (enqueue-permutation e xs))

pub enqueue_all-permutation : (es xs : List Event) → IsPermutation (es ++ xs) (enqueue_all es xs)
unfolding enqueue_all
enqueue_all-permutation [] xs = IsPermutation-refl xs
enqueue_all-permutation (e ∷ es) xs =
    IsPermutation-trans (e ∷ (es ++ xs)) (es ++ enqueue e xs) (enqueue_all es (enqueue e xs)) (at_place e es xs) (enqueue_all-permutation es (enqueue e xs))

-- where the keys differ, the list stays in order
pub enqueue_all-ascending : (es xs : List Event) → KeysDiffer (es ++ xs) → IsAscending xs → IsAscending (enqueue_all es xs)
unfolding enqueue_all
enqueue_all-ascending [] xs differ up = up
enqueue_all-ascending (e ∷ es) xs differ up =
    let own : KeysDiffer (e ∷ xs) = Differ-back key_of es (e ∷ xs) (Differ-permutation key_of (e ∷ (es ++ xs)) (es ++ (e ∷ xs)) (later_first e es xs) differ) in
    enqueue_all-ascending es (enqueue e xs) (Differ-permutation key_of (e ∷ (es ++ xs)) (es ++ enqueue e xs) (at_place e es xs) differ)
    (IsAscending-enqueue e xs (Differ-first key_of e xs own) up)

-- so there is one list in order
pub enqueue_all-is : (es xs zs : List Event) → KeysDiffer (es ++ xs) → IsAscending xs → IsPermutation (es ++ xs) zs → IsAscending zs → enqueue_all es xs ≡ zs
enqueue_all-is es xs zs differ up moves zs_up =
    by-permutation key_of (enqueue_all es xs) zs (enqueue_all-ascending es xs differ up) zs_up
    (IsPermutation-trans (enqueue_all es xs) (es ++ xs) zs (IsPermutation-sym (es ++ xs) (enqueue_all es xs) (enqueue_all-permutation es xs)) moves)

-- the order of arrival doesn't matter
pub arrival : (es fs xs : List Event) → IsPermutation es fs → IsAscending xs → IsAscending (enqueue_all es xs) → enqueue_all fs xs ≡ enqueue_all es xs
arrival es fs xs moves up all_up =
    let back : IsPermutation (fs ++ xs) (enqueue_all es xs) =
    IsPermutation-trans (fs ++ xs) (es ++ xs) (enqueue_all es xs) (IsPermutation-sym (es ++ xs) (fs ++ xs) (IsPermutation-append_left xs es fs moves)) (enqueue_all-permutation es xs) in
    enqueue_all-is fs xs (enqueue_all es xs)
    (Differ-permutation key_of (enqueue_all es xs) (fs ++ xs) (IsPermutation-sym (fs ++ xs) (enqueue_all es xs) back) (Ascends-differ key_of (enqueue_all es xs) all_up)) up back all_up
