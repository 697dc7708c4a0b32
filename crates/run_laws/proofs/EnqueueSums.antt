-- Sums over pending events, when events go to their places.
use Rattle.std.proofs.Common.{◌≡◌, ℕ, ◌+◌, ◌++◌, ◌∙◌, List}
use Rattle.std.specs.Prelude.{sum_by}
use Rattle.std.proofs.lemmas.List.Sorted.{sum_by-IsPermutation}
use Rattle.std.proofs.lemmas.List.Sums.{sum_by-append}
use Rattle.model_core.specs.declared.event.Event.{Event}
use Rattle.key_order.specs.Pending.{enqueue_all}
use Rattle.key_order.proofs.ArrivalLemmas.{enqueue_all-permutation}

pub sum_by-enqueue_all : (f : Event → ℕ) (es xs : List Event) → sum_by f (enqueue_all es xs) ≡ sum_by f es + sum_by f xs
sum_by-enqueue_all f es xs =
    sum_by-IsPermutation f (es ++ xs) (enqueue_all es xs) (enqueue_all-permutation es xs) ∙ sum_by-append f es xs
