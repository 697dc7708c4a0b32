-- Rings: an end stays on its ring, and what a push, a pop and a look leave.
use Rattle.std.proofs.Common.{◌≡◌, ◌≢◌, ℕ, zero, suc, ◌+◌, ◌<◌, List, [], ◌∷◌, ◌++◌, map, length, get_or, set, sym, ap, ◌∙◌, refl, arith}
use Rattle.std.proofs.lemmas.List.{map-set, get_or-map, get_or-set_same, get_or-set_other, length-map, map_push}
use lib.Seq.{map-set_same}
use Rattle.rtrb.specs.Ring.{IsPair, SameProducer, SameConsumer}
use Rattle.release_lanes.specs.declared.rings.RingEnd.{RingEnd}
use Rattle.release_lanes.specs.Lanes.{AddsOne, list_at}
use Rattle.release_lanes.specs.Rings.{Ring, Sender, Receiver, ring_out, ring_in, outline}
use Rattle.release_lanes.specs.Woven.{IsWoven, Grows, connected, with_outs}
use Rattle.release_lanes.proofs.Weaving.{grows_more, woven_more}

four : {A B C D : Type 0} (a x : A) (b y : B) (c z : C) (d w : D) → x ≡ a → y ≡ b → z ≡ c → w ≡ d → ◌≡◌ {A = A × B × C × D} (x, y, z, w) (a, b, c, d)
four a x b y c z d w p q r s = cc

pub out_stays : (p q : Sender) → SameProducer p q → ring_out q ≡ ring_out p
out_stays p q same = four p.end.words q.end.words p.end.slots q.end.slots p.end.names q.end.names p.end.heap q.end.heap same.0.0 same.0.1 same.0.2 same.0.3

pub in_stays : (p q : Receiver) → SameConsumer p q → ring_in q ≡ ring_in p
in_stays p q same = four p.end.words q.end.words p.end.slots q.end.slots p.end.names q.end.names p.end.heap q.end.heap same.0.0 same.0.1 same.0.2 same.0.3

-- one element of a list has one more item
pub one_pushed : {A T : Type 0} (f : A → List T) (xs : List A) (rows : List (List T)) (k : ℕ) (new old : A) (x : T) → map f xs ≡ rows → k < length xs → old ≡ get_or xs k old → f new ≡ f old ++ x ∷ []
    → AddsOne (λ j. list_at rows j) (λ j. list_at (map f (set xs k new)) j) k x
one_pushed f xs rows k new old x rows_are within at more =
    let row = ap (λ l. list_at l k) (sym rows_are) ∙ get_or-map f xs k old [] within ∙ ap f (sym at) in (
      ap (λ l. list_at l k) (map-set f xs k new) ∙ get_or-set_same (map f xs) k (f new) [] (omega (arith, length-map xs f)) ∙ more ∙ ap (λ r. r ++ x ∷ []) (sym row),
      λ other ne. ap (λ l. list_at l other) (map-set f xs k new) ∙ get_or-set_other (map f xs) k other (f new) [] ne ∙ ap (λ l. list_at l other) rows_are,
    )

pub within_from_free : (xs : List ℕ) (k : ℕ) → 0 < get_or xs k 0 → k < length xs
within_from_free [] k free = absurd (omega arith)
within_from_free (x ∷ xs) zero free = omega arith
within_from_free (x ∷ xs) (suc k) free = let less = within_from_free xs k free in omega arith

pub nothing : {T : Type 0} (l : List T) → (0 < length l → ⊥) → l ≡ []
nothing [] none = refl
nothing (x ∷ xs) none = absurd (none (omega arith))

pub with_ins : (end : RingEnd) (k : ℕ) (new old : Receiver) → SameConsumer old new → old ≡ get_or end.ins.items k old → map ring_in (set end.ins.items k new) ≡ map ring_in end.ins.items
with_ins end k new old same at = map-set_same ring_in end.ins.items k new old (in_stays old new same ∙ ap ring_in at)

pub other_row : {A T : Type 0} (f : A → List T) (xs : List A) (k j : ℕ) (new : A) → j ≢ k → list_at (map f (set xs k new)) j ≡ list_at (map f xs) j
other_row f xs k j new ne = ap (λ l. list_at l j) (map-set f xs k new) ∙ get_or-set_other (map f xs) k j (f new) [] ne

pub this_row : {A T : Type 0} (f : A → List T) (xs : List A) (k : ℕ) (x : A) → k < length xs → x ≡ get_or xs k x → list_at (map f xs) k ≡ f x
this_row f xs k x within at = get_or-map f xs k x [] within ∙ ap f (sym at)

pub set_row : {A T : Type 0} (f : A → List T) (xs : List A) (k : ℕ) (x : A) → k < length xs → list_at (map f (set xs k x)) k ≡ f x
set_row f xs k x within = ap (λ l. list_at l k) (map-set f xs k x) ∙ get_or-set_same (map f xs) k (f x) [] (omega (arith, length-map xs f))

-- the pair of ends whose rings are the same
pub ring_at : (ins : List Receiver) (k : ℕ) (c : Receiver) (ring : Ring) → k < length ins → c ≡ get_or ins k c → ((r : Ring) → ring ≡ get_or (map ring_in ins) k r) → ring_in c ≡ ring
ring_at ins k c ring within at pair = ap ring_in at ∙ sym (get_or-map ring_in ins k c (ring_in c) within) ∙ sym (pair (ring_in c))

-- one more ring, to the next of the ends
pub ring_more : (before ends : List RingEnd) (outs : List Sender) (to : ℕ) (end new : RingEnd) (s : Sender) (r : Receiver) → length outs ≡ to
    → Grows (map outline before) (map ring_out outs) (map outline ends) → to < length ends → end ≡ get_or ends to end
    → ring_in r ≡ ring_out s → outline new ≡ connected (outline end) (ring_in r)
    → Grows (map outline before) (map ring_out (outs ++ s ∷ [])) (map outline (set ends to new))
ring_more before ends outs to end new s r long grows within at pair is =
    let place : length (map ring_out outs) ≡ to = length-map outs ring_out ∙ long in
    let rows = map-set outline ends to new ∙ ap (λ o. set (map outline ends) to o) (is ∙ ap (λ x. connected (outline end) x) pair)
    ∙ ap (λ n. set (map outline ends) n (connected (outline end) (ring_out s))) (sym place) in
    let at_place = ap outline at ∙ sym (get_or-map outline ends to end (outline end) within) ∙ ap (λ n. get_or (map outline ends) n (outline end)) (sym place) in
    let counts = grows.count in
    let room : length (map ring_out outs) < length (map outline before) = omega (arith, length-map ends outline) in
    let more = grows_more (map outline before) (map outline ends) (map ring_out outs) (ring_out s) (outline end) grows room at_place in
    rw (map_push ring_out outs s, rows) more

pub pair_ring : (p : Sender) (c : Receiver) → IsPair p c → ring_in c ≡ ring_out p
pair_ring p c same = four p.end.words c.end.words p.end.slots c.end.slots p.end.names c.end.names p.end.heap c.end.heap same.0 same.1 same.2 same.3

-- the rings that lead from one more node
pub ends_more : (nodes done : ℕ) (ends mid : List RingEnd) (outs : List Sender) (end new : RingEnd) → IsWoven nodes done (map outline ends) → done < nodes
    → Grows (map outline ends) (map ring_out outs) (map outline mid) → length outs ≡ nodes → done < length mid → end ≡ get_or mid done end
    → outline new ≡ with_outs (outline end) (map ring_out outs) → IsWoven nodes (done + 1) (map outline (set mid done new))
ends_more nodes done ends mid outs end new woven room grows full within at is =
    rw (map-set outline mid done new, is)
    (woven_more nodes done (map outline ends) (map outline mid) (map ring_out outs) (outline end) woven room grows (length-map outs ring_out ∙ full)
    (ap outline at ∙ sym (get_or-map outline mid done end (outline end) within)))
