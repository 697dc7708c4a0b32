-- How far objects have gone, as events come and go.
use Rattle.std.proofs.Common.{◌≡◌, ℕ, zero, suc, ◌+◌, ◌<◌, ◌≤◌, Bool, List, [], ◌∷◌, ◌++◌, length, take, get_or, map, not, sym, ap, ◌∙◌, subst, arith}
use Rattle.std.proofs.lemmas.List.{map-append, take_all, take_more}
use Rattle.std.specs.List.{remove}
use Rattle.std.specs.Prelude.{filter}
use Rattle.key_order.proofs.EachLemmas.{Each-append, Each-filter, Each-map}
use Rattle.object_log.specs.Carrying.{Placed, placed_key}
use Rattle.object_log.specs.EventLogs.{is_of}
use Rattle.object_log.specs.Weave.{insert, weave}
use Rattle.object_log.proofs.WeaveLemmas.{Each-insert}
use Rattle.event_log.specs.Items.{Item, item_key, placed, placed_of}
use Rattle.event_log.specs.Latest.{AreBounded, bound_of}
use Rattle.event_log.specs.Moves.{other_items, shifted}
use Rattle.event_log.proofs.WovenFacts.{Each-weave}

-- no bound is lower
abbrev pub AreNoLess : List ℕ → List ℕ → Type 0
AreNoLess low high = (object : ℕ) → bound_of low object ≤ bound_of high object

abbrev IsBounded : List ℕ → Placed → Type 0
IsBounded bounds p = (placed_key p).stamp ≤ bound_of bounds (placed_key p).dest

pub bounded-higher : (low high : List ℕ) (ps : List Placed) → AreNoLess low high → AreBounded low ps → AreBounded high ps
bounded-higher low high ps more all = Each-map (IsBounded low) (IsBounded high) ps (λ p is. (let le = more (placed_key p).dest in omega arith)) all

-- one item more is looked at
pub bounded-next : (low high : List ℕ) (es : List Item) (i : ℕ) (x : Item) → i < length es → x ≡ get_or es i x → AreNoLess low high → (item_key x).stamp ≤ bound_of high (item_key x).dest → AreBounded low (placed (take i es)) → AreBounded high (placed (take (i + 1) es))
bounded-next low high es i x within at more is all =
    let parts = ap placed (take_more es i x within ∙ ap (λ (y : Item). take i es ++ y ∷ []) (sym at)) ∙ map-append placed_of (take i es) (x ∷ []) in
    subst (AreBounded high) (sym parts) (Each-append (IsBounded high) (placed (take i es)) (placed (x ∷ [])) (bounded-higher low high (placed (take i es)) more all) (is, tt))

pub bounded-all : (bounds : List ℕ) (es : List Item) (n : ℕ) → length es ≤ n → AreBounded bounds (placed (take n es)) → AreBounded bounds (placed es)
bounded-all bounds es n past all = subst (λ (is : List Item). AreBounded bounds (placed is)) (take_all n es past) all

pub bounded-insert : (bounds : List ℕ) (p : Placed) (ps : List Placed) → IsBounded bounds p → AreBounded bounds ps → AreBounded bounds (insert placed_key p ps)
bounded-insert bounds p ps is all = Each-insert placed_key (IsBounded bounds) p ps is all

pub bounded-removed : (bounds : List ℕ) (ps : List Placed) (n : ℕ) → AreBounded bounds ps → AreBounded bounds (remove ps n)
bounded-removed bounds [] zero all = tt
bounded-removed bounds [] (suc n) all = tt
bounded-removed bounds (p ∷ ps) zero all = all.1
bounded-removed bounds (p ∷ ps) (suc n) all = (all.0, bounded-removed bounds ps n all.1)

pub bounded-filter : (bounds : List ℕ) (keeps : Placed → Bool) (ps : List Placed) → AreBounded bounds ps → AreBounded bounds (filter keeps ps)
bounded-filter bounds keeps ps all = Each-filter (IsBounded bounds) keeps ps all

pub bounded-shifted : (bounds : List ℕ) (from to : ℕ) (ps : List Placed) → AreBounded bounds ps → AreBounded bounds (map (shifted from to) ps)
bounded-shifted bounds from to [] all = tt
bounded-shifted bounds from to (p ∷ ps) all = (all.0, bounded-shifted bounds from to ps all.1)

pub bounded-parted : (bounds : List ℕ) (object from to : ℕ) (ps : List Placed) → AreBounded bounds ps → AreBounded bounds (map (shifted from to) (other_items object ps))
bounded-parted bounds object from to ps all = bounded-shifted bounds from to (other_items object ps) (bounded-filter bounds (λ (p : Placed). not (is_of object p.done)) ps all)

pub bounded-joined : (low high : List ℕ) (from to : ℕ) (ps come : List Placed) → AreNoLess low high → AreBounded low ps → AreBounded high come → AreBounded high (weave placed_key ps (map (shifted from to) come))
bounded-joined low high from to ps come more all other =
    Each-weave placed_key (IsBounded high) ps (map (shifted from to) come) (bounded-higher low high ps more all) (bounded-shifted high from to come other)
