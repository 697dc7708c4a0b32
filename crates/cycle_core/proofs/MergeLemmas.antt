-- Records in the order of their keys, and sorted ones.
use Rattle.std.proofs.Common.{◌≡◌, true, List, [], ◌∷◌, sym, subst}
use Rattle.event_key.specs.declared.key.Key.{Key}
use Rattle.event_key.specs.Keys.{key_lt}
use Rattle.model_core.specs.Sorted.{AreSorted}
use Rattle.model_core.specs.declared.note.Note.{Note}
use Rattle.key_order.specs.Ascending.{Ascends}
use Rattle.key_order.specs.Keys.{Differ}
use Rattle.key_order.proofs.AscendingLemmas.{After-head}
use Rattle.event_key.proofs.Order.{key_lt-turned}
use Rattle.key_order.proofs.KeyLemmas.{Differ-back, Differ-first, key_lt-other, new-head}
use Rattle.cycle_core.specs.Records.{record_key, AreInOrder, RecordsDiffer}

module _ {X : Type 0} (key : X → Key) where
  in-order : (xs : List X) → Ascends key xs → AreSorted key xs
  unfolding Ascends AreSorted
  in-order [] up = tt
  in-order (x ∷ []) up = (tt, tt)
  in-order (x ∷ y ∷ xs) up = (key_lt-turned (key x) (key y) up.0.0, in-order (y ∷ xs) up.1)

  -- where the keys differ, what is sorted is in order
  sorted : (xs : List X) → AreSorted key xs → Differ key xs → Ascends key xs
  unfolding Ascends AreSorted
  sorted [] is differ = tt
  sorted (x ∷ []) is differ = (tt, tt)
  sorted (x ∷ y ∷ xs) is differ =
      let rest : Ascends key (y ∷ xs) = sorted (y ∷ xs) is.1 (Differ-back key (x ∷ []) (y ∷ xs) differ) in
      let apart = new-head key (key x) y xs (Differ-first key x (y ∷ xs) differ) in
      let lt : key_lt (key x) (key y) ≡ true = key_lt-other (key y) (key x) (λ same. apart (sym same)) is.0 in
      (After-head key (key x) y xs lt rest, rest)

pub sorted-in-order : (records : List (Key × Note)) → AreInOrder records → AreSorted record_key records
sorted-in-order records up = in-order record_key records up

pub in-order-sorted : (records : List (Key × Note)) → AreSorted record_key records → RecordsDiffer records → AreInOrder records
in-order-sorted records is differ = sorted record_key records is differ

pub in-order-none : (records : List (Key × Note)) → records ≡ [] → AreInOrder records
unfolding Ascends
in-order-none records none = subst AreInOrder (sym none) tt
