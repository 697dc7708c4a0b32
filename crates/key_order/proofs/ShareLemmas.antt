-- The part of a pending list that passes a test, as that of an object or of a node's objects: what it is once
-- more events are put at their places.
use Rattle.std.proofs.Common.{◌≡◌, Bool, true, false, cond, List, [], ◌∷◌, sym, refl, ap, ◌∙◌}
use Rattle.std.specs.Prelude.{filter}
use Rattle.event_key.specs.Keys.{key_lt}
use Rattle.model_core.specs.declared.event.Event.{Event}
use Rattle.key_order.specs.Ascending.{Ascends, IsAscending, key_of}
use Rattle.key_order.specs.Pending.{enqueue, enqueue_all}
use Rattle.key_order.proofs.AscendingLemmas.{After-head}
use Rattle.key_order.proofs.EachLemmas.{Each-filter}
use Rattle.key_order.proofs.EnqueueLemmas.{IsAscending-without_all, enqueue-first}

part_on : (p : Event → Bool) (e x : Event) (xs : List Event) → IsAscending (x ∷ xs) → filter p (enqueue e xs) ≡ cond (p e) (enqueue e (filter p xs)) (filter p xs)
    → (b : Bool) → key_lt e.key x.key ≡ b
    → filter p (cond b (e ∷ x ∷ xs) (x ∷ enqueue e xs)) ≡ cond (p e) (enqueue e (filter p (x ∷ xs))) (filter p (x ∷ xs))
unfolding enqueue
part_on p e x xs up more true is_b =
    ap (λ ys. cond (p e) ys (filter p (x ∷ xs)))
    (sym (enqueue-first e (filter p (x ∷ xs)) (Each-filter (λ (y : Event). key_lt e.key y.key ≡ true) p (x ∷ xs) (After-head key_of e.key x xs is_b up))))
part_on p e x xs up more false is_b = by_first (p x)
  where
    by_first : (c : Bool) → cond c (x ∷ filter p (enqueue e xs)) (filter p (enqueue e xs)) ≡ cond (p e) (enqueue e (cond c (x ∷ filter p xs) (filter p xs))) (cond c (x ∷ filter p xs) (filter p xs))
    by_first false = more
    by_first true =
        ap (λ ys. x ∷ ys) more
        ∙ elim (p e) as (λ b. x ∷ cond b (enqueue e (filter p xs)) (filter p xs) ≡ cond b (cond (key_lt e.key x.key) (e ∷ x ∷ filter p xs) (x ∷ enqueue e (filter p xs))) (x ∷ filter p xs))
        [ true ↦ sym (ap (λ b. cond b (e ∷ x ∷ filter p xs) (x ∷ enqueue e (filter p xs))) is_b) | false ↦ refl ]

-- an event that passes is put at its place in the part, and another one leaves the part as it is
pub filter-enqueue : (p : Event → Bool) (e : Event) (xs : List Event) → IsAscending xs → filter p (enqueue e xs) ≡ cond (p e) (enqueue e (filter p xs)) (filter p xs)
unfolding Ascends enqueue
filter-enqueue p e [] up = refl
filter-enqueue p e (x ∷ xs) up = part_on p e x xs up (filter-enqueue p e xs up.1) (key_lt e.key x.key) refl

-- of many events those that pass are put at their places in the part
pub filter-enqueue_all : (p : Event → Bool) (es xs : List Event) → IsAscending (enqueue_all es xs) → filter p (enqueue_all es xs) ≡ enqueue_all (filter p es) (filter p xs)
unfolding enqueue_all
filter-enqueue_all p [] xs up = refl
filter-enqueue_all p (e ∷ es) xs up =
    filter-enqueue_all p es (enqueue e xs) up
    ∙ ap (enqueue_all (filter p es)) (filter-enqueue p e xs (IsAscending-without_all (e ∷ es) xs up))
    ∙ elim (p e) as (λ b. enqueue_all (filter p es) (cond b (enqueue e (filter p xs)) (filter p xs)) ≡ enqueue_all (cond b (e ∷ filter p es) (filter p es)) (filter p xs))
    [ true ↦ refl | false ↦ refl ]
