-- What each call leaves, from what it read and wrote.
use Rattle.std.proofs.Common.{◌≡◌, ℕ, zero, suc, ◌+◌, ◌-◌, ◌<◌, ◌≤◌, ◌≢◌, List, [], ◌∷◌, ◌++◌, length, replicate, refl, sym, ap, ◌∙◌, arith, Some, get_or, true, nat_eq, ◌↔◌}
use Rattle.std.proofs.Math.ListN.{set, length-set}
use Rattle.std.specs.Prelude.{slice_index, slice_index_or}
use Rattle.std.specs.List.{slice_get, sum_by}
use Rattle.std.proofs.lemmas.Bool.Decides.{nat_tests}
use Rattle.std.proofs.lemmas.List.{length-map, get_or-set_same, set-get_or, set-set}
use Rattle.std.proofs.lemmas.List.Sums.{sum_by-cons}
use Rattle.std.proofs.lemmas.Option.{slice_get_read, get_or_from_slice_get, slice_get_within}
use Rattle.event_bags.specs.Views.{BagsView, bags_of, values_from, room_of, TakesFront, HasFront, MovesFront}
use Rattle.event_bags.specs.Chains.{Layout, layout, NO_PLACE, IsChain, AreChains, HoldBags}
use Rattle.event_bags.proofs.ChainLemmas.{shows, chain_at}
use Rattle.event_bags.proofs.Moves.{grows, reuses, pops}

-- a number that was read, whatever stands for what isn't there
pub reads : (xs : List ℕ) (i x : ℕ) → i < length xs → x ≡ get_or xs i x → slice_index xs i ≡ x
reads xs i x within read = get_or_from_slice_get xs i x 0 (slice_get_read xs (length xs) i x refl within read)

-- a bag that there is has a head
pub there : {T : Type 0} {items : List T} {links heads : List ℕ} {free unused : ℕ} {bags : List (List T)} {spare : ℕ} {seen : BagsView T} (held : HoldBags items links heads free unused bags) (b : ℕ)
    → record { bags = bags_of items links heads; spare = spare } ≡ seen → b < length seen.bags → b < length heads
there {items = items} {links = links} {heads = heads} {seen = seen} held b view within =
    let all : length (bags_of items links heads) ≡ length heads = length-map heads (values_from items links (length links)) in
    let same : bags_of items links heads ≡ seen.bags = ap (λ (v : BagsView _). v.bags) view in
    let long = ap length same in
    omega arith

-- the bags are what the caller sees
pub sees : {T : Type 0} {items : List T} {links heads : List ℕ} {free unused : ℕ} {bags : List (List T)} {spare : ℕ} {seen : BagsView T} (held : HoldBags items links heads free unused bags)
    → record { bags = bags_of items links heads; spare = spare } ≡ seen → seen.bags ≡ bags
sees held view = sym (ap (λ (v : BagsView _). v.bags) view) ∙ shows held

-- an unused place that there is
unused_is : {T : Type 0} (items : List T) (links : List ℕ) (owner depth : ℕ → ℕ) (free : ℕ) (left : List T) → IsChain (layout items links owner depth) 0 free left → free ≢ NO_PLACE → free < length items
unused_is items links owner depth free [] chain some = absurd (some chain)
unused_is items links owner depth free (value ∷ rest) chain some = slice_get_within items free value chain.0

pub unused_within : {T : Type 0} {items : List T} {links heads : List ℕ} {free unused : ℕ} {bags : List (List T)} (held : HoldBags items links heads free unused bags) → free ≢ NO_PLACE
    → (free < length items) × (free < length links)
unused_within {items = items} {links = links} {free = free} held some =
    let within : free < length items = unused_is items links held.owner held.depth free held.left held.free_chain some in
    let same = held.same_length in
    (within, omega arith)

-- the front of a bag that isn't empty
pub front_within : {T : Type 0} {items : List T} {links heads : List ℕ} {free unused : ℕ} {bags : List (List T)} (held : HoldBags items links heads free unused bags) (b at : ℕ) → b < length heads
    → at ≡ get_or heads b at → at ≢ NO_PLACE → (at < length items) × (at < length links)
front_within {items = items} {links = links} {heads = heads} held b at within read some =
    let e : slice_index heads b ≡ at = reads heads b at within read in
    let popped = pops held b within (rw e some) in
    let there : slice_index heads b < length items = slice_get_within items (slice_index heads b) popped.value popped.here in
    let same = held.same_length in
    (omega arith, omega arith)

pub front_inside : {T : Type 0} {items : List T} {links heads : List ℕ} {free unused : ℕ} {bags : List (List T)} {spare : ℕ} {seen : BagsView T} (held : HoldBags items links heads free unused bags) (b at : ℕ)
    → record { bags = bags_of items links heads; spare = spare } ≡ seen → b < length seen.bags → at ≡ get_or heads b at → at ≢ NO_PLACE → (at < length items) × (at < length links)
front_inside held b at view within read some = front_within held b at (there held b view within) read some

-- a bag is empty where it has no front
ends : {T : Type 0} (items : List T) (links : List ℕ) (owner depth : ℕ → ℕ) (bag place : ℕ) (values : List T) → length items ≤ NO_PLACE → IsChain (layout items links owner depth) bag place values
    → place ≡ NO_PLACE → values ≡ []
ends items links owner depth bag place [] short chain none = refl
ends items links owner depth bag place (value ∷ rest) short chain none =
    let within = slice_get_within items place value chain.0 in
    absurd (omega arith)

begins : {T : Type 0} (items : List T) (links : List ℕ) (owner depth : ℕ → ℕ) (bag place : ℕ) (values : List T) → IsChain (layout items links owner depth) bag place values
    → values ≡ [] → place ≡ NO_PLACE
begins items links owner depth bag place [] chain none = chain
begins items links owner depth bag place (value ∷ rest) chain none = absurd (cc none)

pub none_if : {T : Type 0} {items : List T} {links heads : List ℕ} {free unused : ℕ} {bags : List (List T)} (held : HoldBags items links heads free unused bags) (b at : ℕ) → b < length heads
    → at ≡ get_or heads b at → (at ≡ NO_PLACE → slice_index_or bags b [] ≡ []) × (slice_index_or bags b [] ≡ [] → at ≡ NO_PLACE)
none_if {items = items} {links = links} {heads = heads} {bags = bags} held b at within read =
    let e : slice_index heads b ≡ at = reads heads b at within read in
    let chain = rw e at (chain_at (layout items links held.owner held.depth) 1 heads bags b within held.chains) in
    let same = held.same_length in
    let range = held.in_range in
    (ends items links held.owner held.depth (1 + b) at (slice_index_or bags b []) (omega arith) chain, begins items links held.owner held.depth (1 + b) at (slice_index_or bags b []) chain)

pub seen_empty : {T : Type 0} {items : List T} {links heads : List ℕ} {free unused : ℕ} {bags : List (List T)} {spare : ℕ} {seen : BagsView T} (held : HoldBags items links heads free unused bags) (b at : ℕ)
    → record { bags = bags_of items links heads; spare = spare } ≡ seen → b < length seen.bags → at ≡ get_or heads b at → at ≡ NO_PLACE → slice_index_or seen.bags b [] ≡ []
seen_empty held b at view within read none = rw (sees held view) ((none_if held b at (there held b view within) read).0 none)

-- so a bag that isn't empty has a front
pub some_front : {T : Type 0} {items : List T} {links heads : List ℕ} {free unused : ℕ} {bags : List (List T)} {spare : ℕ} {seen : BagsView T} (held : HoldBags items links heads free unused bags) (b at : ℕ)
    → record { bags = bags_of items links heads; spare = spare } ≡ seen → b < length seen.bags → at ≡ get_or heads b at → slice_index_or seen.bags b [] ≢ [] → at ≢ NO_PLACE
some_front held b at view within read some = λ none. some (seen_empty held b at view within read none)

pub empty_test : {T : Type 0} (values : List T) (at : ℕ) → (at ≡ NO_PLACE → values ≡ []) × (values ≡ [] → at ≡ NO_PLACE) → nat_eq at NO_PLACE ≡ true ↔ values ≡ []
empty_test values at both = (λ e. both.0 (grind (arith, nat_tests)), λ e. let no = both.1 e in grind (arith, nat_tests))

-- room where no place is unused
none_unused : {T : Type 0} (items : List T) (links : List ℕ) (owner depth : ℕ → ℕ) (free : ℕ) (left : List T) → length items ≤ NO_PLACE → IsChain (layout items links owner depth) 0 free left → free ≡ NO_PLACE → length left ≡ 0
none_unused items links owner depth free left short chain none = ap length (ends items links owner depth 0 free left short chain none)

pub fresh : {T : Type 0} {items : List T} {links heads : List ℕ} {free unused : ℕ} {bags : List (List T)} (held : HoldBags items links heads free unused bags) (one other : ℕ) (seen : BagsView T)
    → record { bags = bags_of items links heads; spare = unused + room_of one other (length links) } ≡ seen → 1 ≤ seen.spare → free ≡ NO_PLACE → one < NO_PLACE
    → (length items < one) × (length links < other) × (length links < NO_PLACE)
fresh {items = items} {links = links} {free = free} held one other seen view some none short =
    let same = held.same_length in
    let range = held.in_range in
    let all_free = held.all_free in
    let spare = ap (λ (v : BagsView _). v.spare) view in
    let no = none_unused items links held.owner held.depth free held.left (omega arith) held.free_chain none in
    omega arith

-- `push` with a new place
pub grown : {T : Type 0} {items items2 : List T} {links links2 heads : List ℕ} {free unused : ℕ} {bags : List (List T)} {seen : BagsView T} (held : HoldBags items links heads free unused bags)
    (one other b : ℕ) (value : T) (front place : ℕ) → record { bags = bags_of items links heads; spare = unused + room_of one other (length links) } ≡ seen → b < length seen.bags → 1 ≤ seen.spare → free ≡ NO_PLACE → one < NO_PLACE
    → front ≡ get_or heads b front → items2 ≡ items ++ value ∷ [] → links2 ≡ links ++ front ∷ [] → place ≡ length links
    → HoldBags items2 links2 (set heads b place) free unused (set bags b (value ∷ slice_index_or bags b []))
grown {heads = heads} {seen = seen} held one other b value front place view there_is some none short read new_items new_links new =
    let within = there held b view there_is in
    let room = fresh held one other seen view some none short in
    rw (new_items, new_links, new) (rw (reads heads b front within read) at (grows held b value within room.2))

-- `push` with an unused place
pub reused : {T : Type 0} {items : List T} {links heads : List ℕ} {free unused : ℕ} {bags : List (List T)} (held : HoldBags items links heads free unused bags) (b : ℕ) (value : T) (front next : ℕ)
    → b < length heads → free ≢ NO_PLACE → front ≡ get_or heads b front → next ≡ get_or links free next
    → HoldBags (set items free value) (set links free front) (set heads b free) next (unused - 1) (set bags b (value ∷ slice_index_or bags b []))
reused {links = links} {heads = heads} {free = free} held b value front next within some read read_next =
    let linked = unused_within held some in
    rw (reads heads b front within read, reads links free next linked.1 read_next) at (reuses held b value within some)

-- the value at the front of a bag, and what taking it leaves
record Opened {T : Type 0} (items : List T) (links heads : List ℕ) (free unused : ℕ) (bags : List (List T)) (b at : ℕ) : Type 0 where
  pub value : T
  pub rest : List T
  pub linked : at < length links
  pub here : slice_get items at ≡ Some value
  pub reads_it : (x : T) → x ≡ get_or items at x → value ≡ x
  pub was : slice_index_or bags b [] ≡ value ∷ rest
  pub held : HoldBags items (set links at free) (set heads b (slice_index links at)) at (unused + 1) (set bags b rest)

opens : {T : Type 0} {items : List T} {links heads : List ℕ} {free unused : ℕ} {bags : List (List T)} (held : HoldBags items links heads free unused bags) (b at : ℕ)
    → b < length heads → at ≢ NO_PLACE → at ≡ get_or heads b at → Opened items links heads free unused bags b at
opens {T} {items = items} {heads = heads} held b at within some read =
    let e : slice_index heads b ≡ at = reads heads b at within read in
    let inside = front_within held b at within read some in
    let popped = pops held b within (rw e some) in
    let here : slice_get items at ≡ Some popped.value = rw e at popped.here in
    record {
      value = popped.value;
      rest = popped.rest;
      linked = inside.1;
      here = here;
      reads_it = λ x read_x. (let there : slice_get items at ≡ Some x = slice_get_read items (length items) at x refl inside.0 read_x in cc);
      was = popped.was;
      held = rw e at popped.held;
    }

-- `pop`
pub record Taken {T : Type 0} (items : List T) (links2 heads2 : List ℕ) (at unused : ℕ) (bags : List (List T)) (b : ℕ) (value : T) : Type 0 where
  pub rest : List T
  pub was : slice_index_or bags b [] ≡ value ∷ rest
  pub held : HoldBags items links2 heads2 at (unused + 1) (set bags b rest)

pub taken : {T : Type 0} {items : List T} {links heads : List ℕ} {free unused : ℕ} {bags : List (List T)} {spare : ℕ} {seen : BagsView T} (held : HoldBags items links heads free unused bags) (b at next : ℕ) (value : T)
    → record { bags = bags_of items links heads; spare = spare } ≡ seen → b < length seen.bags → at ≢ NO_PLACE → at ≡ get_or heads b at → next ≡ get_or links at next → value ≡ get_or items at value
    → Taken items (set links at free) (set heads b next) at unused bags b value
taken {links = links} held b at next value view within some read read_next read_value =
    let front = opens held b at (there held b view within) some read in
    record {
      rest = front.rest;
      was = rw (front.reads_it value read_value) at front.was;
      held = rw (reads links at next front.linked read_next) at front.held;
    }

pub took_front : {T : Type 0} {items : List T} {links heads : List ℕ} {at unused : ℕ} {bags : List (List T)} {b : ℕ} {value : T} (left : Taken items links heads at unused bags b value) (seen : List (List T)) → seen ≡ bags
    → TakesFront seen (bags_of items links heads) b value
took_front left seen same = rw same (left.rest, left.was, shows left.held)

pub spare_falls : {T : Type 0} (bags : List (List T)) (links2 : List ℕ) (used unused one other one2 other2 : ℕ) (seen : BagsView T)
    → record { bags = bags; spare = unused + room_of one other used } ≡ seen → used < one → used < other → used < NO_PLACE → one2 ≡ one → other2 ≡ other → length links2 ≡ used + 1
    → unused + room_of one2 other2 (length links2) + 1 ≡ seen.spare
spare_falls bags links2 used unused one other one2 other2 seen view a b c same same2 more =
    let spare = ap (λ (v : BagsView _). v.spare) view in
    omega arith

-- `len`
pub counted : {T : Type 0} {items : List T} {links heads : List ℕ} {free unused : ℕ} {bags : List (List T)} (held : HoldBags items links heads free unused bags) (used : ℕ) → used ≡ length links
    → (unused ≤ used) × (used - unused ≡ sum_by length bags)
counted held used is =
    let all_free = held.all_free in
    let all = held.all in
    (omega arith, omega arith)

-- `new`
no_chains : {T : Type 0} (L : Layout T) (bag n : ℕ) → AreChains L bag (replicate n NO_PLACE) (replicate n [])
no_chains L bag zero = tt
no_chains L bag (suc n) = (refl, no_chains L (suc bag) n)

no_values : (T : Type 0) (n : ℕ) → sum_by (length {A = T}) (replicate n []) ≡ 0
no_values T zero = refl
no_values T (suc n) =
    let sums = sum_by-cons (length {A = T}) [] (replicate n []) in
    let fewer = no_values T n in
    omega arith

pub begun : {T : Type 0} {items : List T} {links heads : List ℕ} (n : ℕ) → items ≡ [] → links ≡ [] → heads ≡ replicate n NO_PLACE → HoldBags items links heads NO_PLACE 0 (replicate n [])
begun {T} n no_items no_links none = rw (no_items, no_links, none) (record {
  owner = λ _. 0;
  depth = λ _. 0;
  left = [];
  chains = no_chains (layout [] [] (λ _. 0) (λ _. 0)) 1 n;
  free_chain = refl;
  all_free = refl;
  all = (let none = no_values T n in omega arith);
  same_length = refl;
  in_range = omega arith;
})

-- `front`
pub fronts : {T : Type 0} {items : List T} {links heads : List ℕ} {free unused : ℕ} {bags : List (List T)} {spare : ℕ} {seen : BagsView T} (held : HoldBags items links heads free unused bags) (b at : ℕ) (value : T)
    → record { bags = bags_of items links heads; spare = spare } ≡ seen → b < length seen.bags → at ≢ NO_PLACE → at ≡ get_or heads b at → value ≡ get_or items at value → HasFront seen.bags b value
fronts held b at value view within some read read_value =
    let front = opens held b at (there held b view within) some read in
    rw (sees held view) (front.rest, rw (front.reads_it value read_value) at front.was)

-- `move_front`
pub record Moved {T : Type 0} (items : List T) (links2 heads2 : List ℕ) (free unused : ℕ) (bags : List (List T)) (from to : ℕ) : Type 0 where
  pub value : T
  pub rest : List T
  pub was : slice_index_or bags from [] ≡ value ∷ rest
  pub held : HoldBags items links2 heads2 free unused (set (set bags from rest) to (value ∷ slice_index_or (set bags from rest) to []))

pub moved : {T : Type 0} {items : List T} {links heads : List ℕ} {free unused : ℕ} {bags : List (List T)} {spare : ℕ} {seen : BagsView T} (held : HoldBags items links heads free unused bags) (from to at next front : ℕ)
    → record { bags = bags_of items links heads; spare = spare } ≡ seen → from < length seen.bags → to < length seen.bags → slice_index_or seen.bags from [] ≢ []
    → at ≡ get_or heads from at → next ≡ get_or links at next → front ≡ get_or (set heads from next) to front
    → Moved items (set links at front) (set (set heads from next) to at) free unused bags from to
moved {items = items} {links = links} {heads = heads} {free = free} {unused = unused} {bags = bags} held from to at next front view there_from there_to some read read_next read_front =
    let within_to = there held to view there_to in
    let front_is = some_front held from at view there_from read some in
    let opened = opens held from at (there held from view there_from) front_is read in
    let n : slice_index links at ≡ next = reads links at next opened.linked read_next in
    let out : HoldBags items (set links at free) (set heads from next) at (unused + 1) (set bags from opened.rest) = rw n at opened.held in
    let still : to < length (set heads from next) = omega (arith, length-set heads from next) in
    let again : free ≡ get_or (set links at free) at free = sym (get_or-set_same links at free free opened.linked) in
    let back = reused out to opened.value front free still front_is read_front again in
    let stays : set items at opened.value ≡ items = ap (set items at) (sym (get_or_from_slice_get items at opened.value opened.value opened.here)) ∙ set-get_or items at opened.value in
    let once : set (set links at free) at front ≡ set links at front = set-set links at free front in
    let count : unused + 1 - 1 ≡ unused = omega arith in
    record { value = opened.value; rest = opened.rest; was = opened.was; held = rw (stays, once, count) at back }

pub moved_front : {T : Type 0} {items : List T} {links heads : List ℕ} {free unused : ℕ} {bags : List (List T)} {from to : ℕ} (left : Moved items links heads free unused bags from to) (seen : List (List T)) (value : T)
    → seen ≡ bags → HasFront seen from value → MovesFront seen (bags_of items links heads) from to value
moved_front {bags = bags} {from = from} {to = to} left seen value is front =
    let both : value ∷ front.0 ≡ left.value ∷ left.rest = sym front.1 ∙ ap (λ bs. slice_index_or bs from []) is ∙ left.was in
    let same : left.value ≡ value = cc in
    let shown = shows left.held in
    rw (is, ← same) (set bags from left.rest, (left.rest, left.was, refl), shown)
