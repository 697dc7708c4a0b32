-- What is due in a list in the order of its keys.
use Rattle.std.proofs.Common.{◌≡◌, ℕ, true, false, List, refl, arith, ltb, ltb-true, lt-ltb}
use Rattle.std.proofs.lemmas.Bool.{and_from, and_parts, false_from_ne_true}
use Rattle.std.specs.Prelude.{Option, Some, None}
use Rattle.std.specs.List.{AllByRecursion as Each}
use Rattle.event_key.specs.declared.key.Key.{Key}
use Rattle.event_key.specs.Keys.{key_lt}
use Rattle.event_key.proofs.Order.{key_lt-trans, stamp-le}
use Rattle.key_order.specs.Ascending.{After}
use Rattle.key_order.specs.Due.{is_due}
use Rattle.key_order.proofs.EachLemmas.{Each-map}

-- what comes before an event that is due is due
pub due-down : (bound : ℕ) (cut : Option Key) (j k : Key) → key_lt j k ≡ true → is_due bound cut k ≡ true → is_due bound cut j ≡ true
unfolding is_due
due-down bound None j k lt due =
    let low = ltb-true k.stamp bound (and_parts (ltb k.stamp bound) true due).0 in
    let le = stamp-le j k lt in
    and_from (ltb j.stamp bound) true (lt-ltb j.stamp bound (omega arith)) refl
due-down bound (Some c) j k lt due =
    let p = and_parts (ltb k.stamp bound) (key_lt k c) due in
    let low = ltb-true k.stamp bound p.0 in
    let le = stamp-le j k lt in
    and_from (ltb j.stamp bound) (key_lt j c) (lt-ltb j.stamp bound (omega arith)) (key_lt-trans j k c lt p.1)

module _ {X : Type 0} (key : X → Key) where
  -- what comes after a key that isn't due isn't due
  pub none-due : (bound : ℕ) (cut : Option Key) (k : Key) (xs : List X) → is_due bound cut k ≡ false → After key k xs → Each (λ (x : X). is_due bound cut (key x) ≡ false) xs
  none-due bound cut k xs never all =
      Each-map (λ (x : X). key_lt k (key x) ≡ true) (λ (x : X). is_due bound cut (key x) ≡ false) xs
      (λ x lt. false_from_ne_true (is_due bound cut (key x)) (λ yes. let due = due-down bound cut k (key x) lt yes in cc)) all
