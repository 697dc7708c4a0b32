-- Bounds on the stamps of events.
use Rattle.std.proofs.Common.{◌≡◌, ℕ, ◌<◌, ◌≤◌, min, true, List, [], ◌∷◌, ◌++◌, refl, arith}
use Rattle.event_key.specs.declared.key.Key.{Key}
use Rattle.event_key.specs.Keys.{key_lt}
use Rattle.event_key.proofs.Order.{key_lt-stamp}
use Rattle.model_core.specs.declared.event.Event.{Event}
use Rattle.key_order.specs.Ascending.{AllAfter}
use Rattle.key_order.specs.Stamps.{least_stamp, NoneBelow}
use Rattle.key_order.proofs.EachLemmas.{Each-map}

pub NoneBelow-le : (g h : ℕ) (es : List Event) → g ≤ h → NoneBelow h es → NoneBelow g es
NoneBelow-le g h es le from = Each-map (λ (e : Event). h ≤ e.key.stamp) (λ (e : Event). g ≤ e.key.stamp) es (λ e late. omega arith) from

pub after-below : (h : ℕ) (k : Key) (es : List Event) → NoneBelow h es → k.stamp < h → AllAfter k es
after-below h k es from low = Each-map (λ (e : Event). h ≤ e.key.stamp) (λ (e : Event). key_lt k e.key ≡ true) es (λ e late. key_lt-stamp k e.key (omega arith)) from

-- the least stamp is a bound, and no greater one is
pub least_stamp-le : (h : ℕ) (es : List Event) → least_stamp h es ≤ h
unfolding least_stamp
least_stamp-le h [] = omega arith
least_stamp-le h (e ∷ es) = let le = least_stamp-le (min h e.key.stamp) es in omega arith

pub NoneBelow-least_stamp : (h : ℕ) (es : List Event) → NoneBelow (least_stamp h es) es
unfolding least_stamp
NoneBelow-least_stamp h [] = tt
NoneBelow-least_stamp h (e ∷ es) =
    (let le = least_stamp-le (min h e.key.stamp) es in omega arith, NoneBelow-least_stamp (min h e.key.stamp) es)

pub least_stamp-from : (g h : ℕ) (es : List Event) → g ≤ h → NoneBelow g es → g ≤ least_stamp h es
unfolding least_stamp
least_stamp-from g h [] le from = le
least_stamp-from g h (e ∷ es) le from = least_stamp-from g (min h e.key.stamp) es (let one : g ≤ e.key.stamp = from.0 in omega arith) from.1

pub least_stamp-append : (h : ℕ) (es fs : List Event) → least_stamp h (es ++ fs) ≡ least_stamp (least_stamp h es) fs
unfolding least_stamp
least_stamp-append h [] fs = refl
least_stamp-append h (e ∷ es) fs = least_stamp-append (min h e.key.stamp) es fs
