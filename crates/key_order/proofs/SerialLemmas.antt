-- The serials of what an object has sent tell its events apart.
use Rattle.std.proofs.Common.{◌≡◌, ℕ, ◌<◌, ◌≤◌, List, [], ◌∷◌, sym, refl, ap, arith}
use Rattle.event_key.specs.declared.key.Key.{Key}
use Rattle.model_core.specs.declared.event.Event.{Event}
use Rattle.key_order.specs.Ascending.{key_of}
use Rattle.key_order.specs.Keys.{IsNewKey}
use Rattle.key_order.specs.Serials.{SerialsBelow}
use Rattle.key_order.proofs.EachLemmas.{Each-map}
use Rattle.key_order.proofs.KeyLemmas.{new-cons}

pub SerialsBelow-le : (object m n : ℕ) (xs : List Event) → m ≤ n → SerialsBelow object m xs → SerialsBelow object n xs
SerialsBelow-le object m n xs le all =
    Each-map (λ (x : Event). x.key.src ≡ object → x.key.serial < m) (λ (x : Event). x.key.src ≡ object → x.key.serial < n) xs (λ x below same. let lt = below same in omega arith) all

-- a source's next serial makes a key that no event has
pub new-serial : (k : Key) (xs : List Event) → SerialsBelow k.src k.serial xs → IsNewKey k xs
new-serial k [] all = refl
new-serial k (x ∷ xs) all =
    new-cons key_of k x xs
    (λ same. let lt = all.0 (sym (ap (λ (k : Key). k.src) same)) in let at = ap (λ (k : Key). k.serial) same in omega arith)
    (new-serial k xs all.1)
