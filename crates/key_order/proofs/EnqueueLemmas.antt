-- Events that go to their places, one after another.
use Rattle.std.proofs.Common.{◌≡◌, suc, ◌+◌, Bool, true, false, cond, List, [], ◌∷◌, ◌++◌, length, refl, ap, ◌∙◌, arith}
use Rattle.std.specs.List.{AllByRecursion as Each}
use Rattle.event_key.specs.Keys.{key_lt}
use Rattle.model_core.specs.declared.event.Event.{Event}
use Rattle.key_order.specs.Ascending.{AllAfter, Ascends, IsAscending, key_of}
use Rattle.key_order.specs.Keys.{IsNewKey}
use Rattle.key_order.specs.Pending.{enqueue, enqueue_all}
use Rattle.key_order.proofs.AscendingLemmas.{After-head}
use Rattle.event_key.proofs.Order.{key_lt-turned}
use Rattle.key_order.proofs.KeyLemmas.{key_lt-other, new-head, new-tail}

-- an event before all the others is put in front of them
pub enqueue-first : (e : Event) (xs : List Event) → AllAfter e.key xs → enqueue e xs ≡ e ∷ xs
unfolding enqueue
enqueue-first e [] all = refl
enqueue-first e (x ∷ xs) all = ap (λ b. cond b (e ∷ x ∷ xs) (x ∷ enqueue e xs)) all.0

-- a later event goes behind the first one
pub enqueue-behind : (e x : Event) (xs : List Event) → key_lt x.key e.key ≡ true → enqueue e (x ∷ xs) ≡ x ∷ enqueue e xs
unfolding enqueue
enqueue-behind e x xs lt = ap (λ b. cond b (e ∷ x ∷ xs) (x ∷ enqueue e xs)) (key_lt-turned x.key e.key lt)

-- an event before all those that go to their places stays the first one
pub enqueue_all-behind : (es : List Event) (x : Event) (xs : List Event) → AllAfter x.key es → enqueue_all es (x ∷ xs) ≡ x ∷ enqueue_all es xs
unfolding enqueue_all
enqueue_all-behind [] x xs all = refl
enqueue_all-behind (e ∷ es) x xs all = ap (enqueue_all es) (enqueue-behind e x xs all.0) ∙ enqueue_all-behind es x (enqueue e xs) all.1

-- one list of events after another
pub enqueue_all-append : (es fs xs : List Event) → enqueue_all (es ++ fs) xs ≡ enqueue_all fs (enqueue_all es xs)
unfolding enqueue_all
enqueue_all-append [] fs xs = refl
enqueue_all-append (e ∷ es) fs xs = enqueue_all-append es fs (enqueue e xs)

pub length-enqueue : (e : Event) (xs : List Event) → length (enqueue e xs) ≡ suc (length xs)
unfolding enqueue
length-enqueue e [] = refl
length-enqueue e (x ∷ xs) =
    elim (key_lt e.key x.key) as (λ b. length (cond b (e ∷ x ∷ xs) (x ∷ enqueue e xs)) ≡ suc (suc (length xs)))
    [ true ↦ refl | false ↦ ap suc (length-enqueue e xs) ]

pub length-enqueue_all : (es xs : List Event) → length (enqueue_all es xs) ≡ length es + length xs
unfolding enqueue_all
length-enqueue_all [] xs = omega arith
length-enqueue_all (e ∷ es) xs = let more = length-enqueue_all es (enqueue e xs) in let one = length-enqueue e xs in omega arith

-- what holds of each event of both lists holds of each at its place
pub Each-enqueue : (P : Event → Type 0) (e : Event) (xs : List Event) → P e → Each P xs → Each P (enqueue e xs)
unfolding enqueue
Each-enqueue P e [] one all = (one, tt)
Each-enqueue P e (x ∷ xs) one all =
    elim (key_lt e.key x.key) as (λ b. Each P (cond b (e ∷ x ∷ xs) (x ∷ enqueue e xs)))
    [ true ↦ (one, all) | false ↦ (all.0, Each-enqueue P e xs one all.1) ]

pub Each-enqueue_all : (P : Event → Type 0) (es xs : List Event) → Each P es → Each P xs → Each P (enqueue_all es xs)
unfolding enqueue_all
Each-enqueue_all P [] xs new all = all
Each-enqueue_all P (e ∷ es) xs new all = Each-enqueue_all P es (enqueue e xs) new.1 (Each-enqueue P e xs new.0 all)

-- and the other way round
pub Each-enqueued : (P : Event → Type 0) (e : Event) (xs : List Event) → Each P (enqueue e xs) → P e × Each P xs
unfolding enqueue
Each-enqueued P e [] all = all
Each-enqueued P e (x ∷ xs) all =
    elim (key_lt e.key x.key) as (λ b. Each P (cond b (e ∷ x ∷ xs) (x ∷ enqueue e xs)) → P e × Each P (x ∷ xs)) [
      | true ↦ (λ all. all)
      | false ↦ (λ all. let more = Each-enqueued P e xs all.1 in (more.0, (all.0, more.1)))
    ] all

pub Each-enqueued_all : (P : Event → Type 0) (es xs : List Event) → Each P (enqueue_all es xs) → Each P es × Each P xs
unfolding enqueue_all
Each-enqueued_all P [] xs all = (tt, all)
Each-enqueued_all P (e ∷ es) xs all =
    let more = Each-enqueued_all P es (enqueue e xs) all in
    let one = Each-enqueued P e xs more.1 in
    ((one.0, more.0), one.1)

-- an event whose key is new leaves the list in order
pub IsAscending-enqueue : (e : Event) (xs : List Event) → IsNewKey e.key xs → IsAscending xs → IsAscending (enqueue e xs)
unfolding Ascends enqueue
IsAscending-enqueue e [] new up = (tt, tt)
IsAscending-enqueue e (x ∷ xs) new up = by_place (key_lt e.key x.key) refl (IsAscending-enqueue e xs (new-tail key_of e.key x xs new) up.1)
  where
    by_place : (b : Bool) → key_lt e.key x.key ≡ b → IsAscending (enqueue e xs) → IsAscending (cond b (e ∷ x ∷ xs) (x ∷ enqueue e xs))
    by_place true is more = (After-head key_of e.key x xs is up, up)
    by_place false is more = (Each-enqueue (λ (y : Event). key_lt x.key y.key ≡ true) e xs (key_lt-other e.key x.key (new-head key_of e.key x xs new) is) up.0, more)

-- a list without one of its events is still in order
pub IsAscending-without : (e : Event) (xs : List Event) → IsAscending (enqueue e xs) → IsAscending xs
unfolding Ascends enqueue
IsAscending-without e [] up = tt
IsAscending-without e (x ∷ xs) up = by_place (IsAscending-without e xs) (key_lt e.key x.key) up
  where
    by_place : (IsAscending (enqueue e xs) → IsAscending xs) → (b : Bool) → IsAscending (cond b (e ∷ x ∷ xs) (x ∷ enqueue e xs)) → IsAscending (x ∷ xs)
    by_place more true up = up.1
    by_place more false up = ((Each-enqueued (λ (y : Event). key_lt x.key y.key ≡ true) e xs up.0).1, more up.1)

pub IsAscending-without_all : (es xs : List Event) → IsAscending (enqueue_all es xs) → IsAscending xs
unfolding enqueue_all
IsAscending-without_all [] xs up = up
IsAscending-without_all (e ∷ es) xs up = IsAscending-without e xs (IsAscending-without_all es (enqueue e xs) up)
