-- The least key of what is carried and the news.
use Rattle.std.proofs.Common.{◌≡◌, ◌≢◌, ℕ, true, false, Option, Some, None, List, [], ◌∷◌, ◌++◌, length, map, refl, sym, ap, ◌∙◌, subst, arith}
use Rattle.std.proofs.lemmas.List.Sorted.{IsPermutation-sym}
use Rattle.std.specs.List.{AllByRecursion as Each}
use Rattle.std.specs.Prelude.{IfNone, IfSome, slice_get}
use Rattle.event_key.specs.declared.key.Key.{Key}
use Rattle.event_key.specs.Keys.{key_lt}
use Rattle.event_key.proofs.Order.{key_lt-trans}
use Rattle.key_order.specs.Ascending.{Ascends}
use Rattle.key_order.specs.Keys.{times}
use Rattle.key_order.proofs.EachLemmas.{Each-map}
use Rattle.key_order.proofs.KeyLemmas.{Ascends-differ, Differ-first, Differ-permutation, key_lt-other, new-head, new-tail}
use Rattle.object_log.specs.Carrying.{Placed, placed_key}
use Rattle.object_log.specs.Dones.{Done}
use Rattle.object_log.specs.EventLogs.{done_key}
use Rattle.object_log.specs.Logs.{keys_of}
use Rattle.object_log.specs.Weave.{weave}
use Rattle.object_log.specs.Whole.{dones_in}
use Rattle.object_log.proofs.WeaveLemmas.{insert-first, weave-permutation}
use Rattle.event_log.specs.Processing.{merged, placed_all}
use Rattle.event_log.proofs.WovenFacts.{Each-weave, weave-second}

pub some-more : (found : Option Key) (P Q : Key → Type 0) → ((key : Key) → P key → Q key) → IfSome found P → IfSome found Q
some-more None P Q more holds = holds
some-more (Some key) P Q more holds = more key holds

pub none-more : (found : Option Key) (P Q : Type 0) → (P → Q) → IfNone found P → IfNone found Q
none-more None P Q more holds = more holds
none-more (Some key) P Q more holds = holds

pub keys-placed : (items : List Placed) → map placed_key items ≡ keys_of (dones_in items)
keys-placed [] = refl
keys-placed (p ∷ ps) = ap (λ ks. placed_key p ∷ ks) (keys-placed ps)

placed-each : (key : Key) (ds : List Done) (places : List ℕ) → Each (λ (d : Done). key_lt key d.event.key ≡ true) ds → Each (λ (p : Placed). key_lt key (placed_key p) ≡ true) (placed_all ds places)
unfolding placed_all
placed-each key [] places all = tt
placed-each key (d ∷ ds) [] all = tt
placed-each key (d ∷ ds) (place ∷ places) all = (all.0, placed-each key ds places all.1)

-- the first of the news, where all that is carried comes after it
pub first-news : (ds : List Done) (places : List ℕ) (items : List Placed) (n : Key) → length places ≡ length ds → Ascends done_key ds → slice_get (keys_of ds) 0 ≡ Some n → Each (λ (p : Placed). key_lt n (placed_key p) ≡ true) items
    → slice_get (map placed_key (merged ds places items)) 0 ≡ Some n
unfolding placed_all weave Ascends
first-news [] places items n long up at after = absurd (cc)
first-news (d ∷ ds) [] items n long up at after = absurd (omega arith)
first-news (d ∷ ds) (place ∷ places) items n long up at after =
    let same : d.event.key ≡ n = cc in
    let p : Placed = record { done = d; place = place } in
    let A : Key → Type 0 = λ k. Each (λ (q : Placed). key_lt k (placed_key q) ≡ true) items in
    let all = Each-weave placed_key (λ (q : Placed). key_lt d.event.key (placed_key q) ≡ true) (placed_all ds places) items (placed-each d.event.key ds places up.0) (subst A (sym same) after) in
    ap (λ qs. slice_get (map placed_key qs) 0) (insert-first placed_key p (weave placed_key (placed_all ds places) items) all) ∙ ap Some same

after-all : (k n : Key) (ds : List Done) → key_lt k n ≡ true → Ascends done_key ds → slice_get (keys_of ds) 0 ≡ Some n → Each (λ (d : Done). key_lt k d.event.key ≡ true) ds
unfolding Ascends
after-all k n [] lt up at = tt
after-all k n (d ∷ ds) lt up at =
    let same : d.event.key ≡ n = cc in
    let first : key_lt k d.event.key ≡ true = ap (key_lt k) same ∙ lt in
    (first, Each-map (λ (x : Done). key_lt d.event.key x.event.key ≡ true) (λ (x : Done). key_lt k x.event.key ≡ true) ds (λ x after. key_lt-trans k d.event.key x.event.key first after) up.0)

pub later-new : (k : Key) (ps : List Placed) (q : Placed) (qs : List Placed) → times placed_key k (ps ++ (q ∷ qs)) ≡ 0 → k ≢ placed_key q
later-new k [] q qs new = new-head placed_key k q qs new
later-new k (p ∷ ps) q qs new = later-new k ps q qs (new-tail placed_key k p (ps ++ (q ∷ qs)) new)

-- the first of what is carried, where the first of the news doesn't come before it
pub first-carried : (ds : List Done) (places : List ℕ) (items : List Placed) (n k : Key) → length places ≡ length ds → Ascends done_key ds → Ascends placed_key (merged ds places items) → slice_get (keys_of ds) 0 ≡ Some n
    → slice_get (map placed_key items) 0 ≡ Some k → key_lt n k ≡ false → slice_get (map placed_key (merged ds places items)) 0 ≡ Some k
unfolding placed_all
first-carried [] places items n k long up whole at found late = absurd (cc)
first-carried (d ∷ ds) [] items n k long up whole at found late = absurd (omega arith)
first-carried (d ∷ ds) (place ∷ places) [] n k long up whole at found late = absurd (cc)
first-carried (d ∷ ds) (place ∷ places) (q ∷ qs) n k long up whole at found late =
    let here : d.event.key ≡ n = cc in
    let there : placed_key q ≡ k = cc in
    let p : Placed = record { done = d; place = place } in
    let ps = placed_all ds places in
    let moved = weave-permutation placed_key (p ∷ ps) (q ∷ qs) in
    let differ = Differ-permutation placed_key (weave placed_key (p ∷ ps) (q ∷ qs)) ((p ∷ ps) ++ (q ∷ qs)) (IsPermutation-sym ((p ∷ ps) ++ (q ∷ qs)) (weave placed_key (p ∷ ps) (q ∷ qs)) moved) (Ascends-differ placed_key (weave placed_key (p ∷ ps) (q ∷ qs)) whole) in
    let apart = later-new d.event.key ps q qs (Differ-first placed_key p (ps ++ (q ∷ qs)) differ) in
    let lt : key_lt k n ≡ true = key_lt-other n k (λ same. apart (here ∙ same ∙ sym there)) late in
    let after = placed-each k (d ∷ ds) (place ∷ places) (after-all k n (d ∷ ds) lt up at) in
    let A : Key → Type 0 = λ j. Each (λ (r : Placed). key_lt j (placed_key r) ≡ true) (p ∷ ps) in
    ap (λ rs. slice_get (map placed_key rs) 0) (weave-second placed_key q qs (p ∷ ps) (subst A (sym there) after)) ∙ ap Some there

-- where the first comes after a key, all do
pub after-first : (n k : Key) (items : List Placed) → Ascends placed_key items → slice_get (map placed_key items) 0 ≡ Some k → key_lt n k ≡ true → Each (λ (p : Placed). key_lt n (placed_key p) ≡ true) items
unfolding Ascends
after-first n k [] up found lt = tt
after-first n k (q ∷ qs) up found lt =
    let there : placed_key q ≡ k = cc in
    let first : key_lt n (placed_key q) ≡ true = ap (key_lt n) there ∙ lt in
    (first, Each-map (λ (x : Placed). key_lt (placed_key q) (placed_key x) ≡ true) (λ (x : Placed). key_lt n (placed_key x) ≡ true) qs (λ x after. key_lt-trans n (placed_key q) (placed_key x) first after) up.0)
