-- A walk along a bag whose values are appended to a list, and the bag's places as they go to the unused ones.
use Rattle.std.proofs.Common.{◌≡◌, ℕ, zero, suc, ◌+◌, ◌-◌, ◌<◌, ◌≤◌, ◌≢◌, List, [], ◌∷◌, ◌++◌, length, length-append, append_assoc, refl, sym, ap, ap₂, ◌∙◌, subst, arith, Some, cond, get_or}
use Rattle.std.proofs.Math.ListN.{set, length-set}
use Rattle.std.specs.Prelude.{slice_index, slice_index_or, nat_eq}
use Rattle.std.specs.List.{slice_get}
use Rattle.std.proofs.lemmas.Bool.Decides.{nat_tests}
use Rattle.std.proofs.lemmas.List.{get_or-set_same, get_or-set_other}
use Rattle.std.proofs.lemmas.List.Sums.{sum_by-set}
use Rattle.std.proofs.lemmas.Option.{slice_get_read, slice_get_within}
use Rattle.event_bags.specs.Views.{BagsView, room_of}
use Rattle.event_bags.specs.Chains.{Layout, layout, NO_PLACE, IsChain, AreChains, HoldBags}
use Rattle.event_bags.proofs.Calls.{reads}
use Rattle.event_bags.proofs.ChainLemmas.{as_many, chain_at}

-- the last place of a chain that has some
abbrev pub last_of : {T : Type 0} → (ℕ → ℕ) → ℕ → List T → ℕ
last_of link place [] = place
last_of link place (value ∷ []) = place
last_of link place (value ∷ next ∷ rest) = last_of link (link place) (next ∷ rest)

-- the layouts differ at the places of one bag alone
pub record OfOthers {T : Type 0} (L M : Layout T) (k : ℕ) : Type 0 where
  pub item : (q : ℕ) → M.item q ≡ L.item q
  pub link : (q : ℕ) → L.owner q ≢ k → M.link q ≡ L.link q
  pub owner : (q : ℕ) → L.owner q ≢ k → M.owner q ≡ L.owner q
  pub depth : (q : ℕ) → L.owner q ≢ k → M.depth q ≡ L.depth q

other_stays : {T : Type 0} (L M : Layout T) (k bag place : ℕ) (values : List T) → OfOthers L M k → bag ≢ k → IsChain L bag place values → IsChain M bag place values
other_stays L M k bag place [] same away chain = chain
other_stays L M k bag place (value ∷ rest) same away chain =
    let apart : L.owner place ≢ k = λ (e : L.owner place ≡ k). away (sym chain.1 ∙ e) in
    (rw (same.item place) chain.0, rw (same.owner place apart) chain.1, rw (same.depth place apart) chain.2, rw (same.link place apart) (other_stays L M k bag (L.link place) rest same away chain.3))

later_others : {T : Type 0} (L M : Layout T) (k bag : ℕ) (heads : List ℕ) (bags : List (List T)) → OfOthers L M k → k < bag → AreChains L bag heads bags → AreChains M bag heads bags
later_others L M k bag [] [] same less chains = chains
later_others L M k bag [] (_ ∷ _) same less chains = chains
later_others L M k bag (_ ∷ _) [] same less chains = chains
later_others L M k bag (head ∷ heads) (values ∷ rest) same less chains =
    (other_stays L M k bag head values same (λ (e : bag ≡ k). omega arith) chains.0, later_others L M k (suc bag) heads rest same (omega arith) chains.1)

-- that bag is left without values, and the others stay
chains_lose : {T : Type 0} (L M : Layout T) (k bag b : ℕ) (heads : List ℕ) (bags : List (List T)) → OfOthers L M k → k ≡ bag + b → AreChains L bag heads bags
    → AreChains M bag (set heads b NO_PLACE) (set bags b [])
chains_lose L M k bag b [] [] same is chains = chains
chains_lose L M k bag b [] (_ ∷ _) same is chains = absurd chains
chains_lose L M k bag b (_ ∷ _) [] same is chains = absurd chains
chains_lose L M k bag zero (head ∷ heads) (old ∷ rest) same is chains =
    (refl, later_others L M k (suc bag) heads rest same (omega arith) chains.1)
chains_lose L M k bag (suc b) (head ∷ heads) (old ∷ rest) same is chains =
    (other_stays L M k bag head old same (λ (e : bag ≡ k). omega arith) chains.0, chains_lose L M k (suc bag) b heads rest same (omega arith) chains.1)

-- the places of a bag come before the unused ones
pub record Joins {T : Type 0} (L M : Layout T) (k last free many : ℕ) : Type 0 where
  pub item : (q : ℕ) → M.item q ≡ L.item q
  pub owner : (q : ℕ) → L.owner q ≡ k → M.owner q ≡ 0
  pub depth : (q : ℕ) → L.owner q ≡ k → M.depth q ≡ L.depth q + many
  pub link : (q : ℕ) → q ≢ last → M.link q ≡ L.link q
  pub end : M.link last ≡ free
  pub deep : L.depth last ≡ 0

joined_chain : {T : Type 0} (L M : Layout T) (k last free : ℕ) (left : List T) (place : ℕ) (value : T) (rest : List T) → Joins L M k last free (length left) → IsChain M 0 free left
    → IsChain L k place (value ∷ rest) → last_of L.link place (value ∷ rest) ≡ last → IsChain M 0 place (value ∷ (rest ++ left))
joined_chain L M k last free left place value [] joins unused chain is =
    let deep : M.depth place ≡ L.depth place + length left = joins.depth place chain.1 in
    let none : L.depth place ≡ 0 = chain.2 in
    let goes_on : M.link place ≡ free = ap M.link is ∙ joins.end in
    (rw (joins.item place) chain.0, joins.owner place chain.1, omega arith, rw goes_on unused)
joined_chain L M k last free left place value (second ∷ rest) joins unused chain is =
    let deep : M.depth place ≡ L.depth place + length left = joins.depth place chain.1 in
    let some : L.depth place ≡ length rest + 1 = omega (arith, chain.2) in
    let more = length-append rest left in
    let apart : place ≢ last = λ (e : place ≡ last). (let none : L.depth place ≡ 0 = ap L.depth e ∙ joins.deep in omega arith) in
    (rw (joins.item place) chain.0, joins.owner place chain.1, omega (arith, more), rw (joins.link place apart) (joined_chain L M k last free left (L.link place) second rest joins unused chain.3 is))

-- the places of one bag are nobody's, and lie behind so many more
abbrev pub released : (ℕ → ℕ) → ℕ → ℕ → ℕ
released owner k q = cond (nat_eq (owner q) k) 0 (owner q)

abbrev pub deeper : (ℕ → ℕ) → (ℕ → ℕ) → ℕ → ℕ → ℕ → ℕ
deeper owner depth k many q = cond (nat_eq (owner q) k) (depth q + many) (depth q)

released_own : (owner : ℕ → ℕ) (k q : ℕ) → owner q ≡ k → released owner k q ≡ 0
released_own owner k q is = grind (arith, nat_tests)

released_other : (owner : ℕ → ℕ) (k q : ℕ) → owner q ≢ k → released owner k q ≡ owner q
released_other owner k q other = grind (arith, nat_tests)

deeper_own : (owner depth : ℕ → ℕ) (k many q : ℕ) → owner q ≡ k → deeper owner depth k many q ≡ depth q + many
deeper_own owner depth k many q is = grind (arith, nat_tests)

deeper_other : (owner depth : ℕ → ℕ) (k many q : ℕ) → owner q ≢ k → deeper owner depth k many q ≡ depth q
deeper_other owner depth k many q other = grind (arith, nat_tests)

-- all places of a bag go to the unused ones
splices : {T : Type 0} (items : List T) (links heads : List ℕ) (free unused : ℕ) (bags : List (List T)) (held : HoldBags items links heads free unused bags) (b front last : ℕ) (was : List T)
    → slice_index_or bags b [] ≡ was → IsChain (layout items links held.owner held.depth) (1 + b) front was → last_of (slice_index links) front was ≡ last → held.owner last ≡ 1 + b → held.depth last ≡ 0
    → last < length links → b < length heads → front ≢ NO_PLACE
    → HoldBags items (set links last free) (set heads b NO_PLACE) front (unused + length was) (set bags b [])
splices items links heads free unused bags held b front last [] is chain ends owned deep inside there some = absurd (some chain)
splices {T} items links heads free unused bags held b front last (value ∷ rest) is chain ends owned deep inside there some =
    let owner : ℕ → ℕ = held.owner in
    let depth : ℕ → ℕ = held.depth in
    let left : List T = held.left in
    let k : ℕ = 1 + b in
    let L : Layout T = layout items links owner depth in
    let M : Layout T = layout items (set links last free) (released owner k) (deeper owner depth k (length left)) in
    let others : OfOthers L M k = record {
      item = λ q. refl;
      link = λ q other. get_or-set_other links last q free 0 (λ (e : q ≡ last). other (ap owner e ∙ owned));
      owner = λ q other. released_other owner k q other;
      depth = λ q other. deeper_other owner depth k (length left) q other;
    } in
    let joins : Joins L M k last free (length left) = record {
      item = λ q. refl;
      owner = λ q own. released_own owner k q own;
      depth = λ q own. deeper_own owner depth k (length left) q own;
      link = λ q other. get_or-set_other links last q free 0 other;
      end = get_or-set_same links last free 0 inside;
      deep = deep;
    } in
    let all_free = held.all_free in
    let all = held.all in
    let same_length = held.same_length in
    let range = held.in_range in
    let many = as_many L 1 heads bags held.chains in
    let none : List T = [] in
    let sums = sum_by-set length bags b none [] (omega arith) in
    let had : length (slice_index_or bags b []) ≡ length rest + 1 = rw is (omega arith) in
    let more = length-append rest left in
    let long = length-set links last free in
    let unused_stay : IsChain M 0 free left = other_stays L M k 0 free left others (λ (e : 0 ≡ k). omega arith) held.free_chain in
    record {
      owner = released owner k;
      depth = deeper owner depth k (length left);
      left = value ∷ (rest ++ left);
      chains = chains_lose L M k 1 b heads bags others refl held.chains;
      free_chain = joined_chain L M k last free left front value rest joins unused_stay chain ends;
      all_free = omega (arith, more);
      all = omega (arith, more, long);
      same_length = omega (arith, long);
      in_range = omega (arith, long);
    }

-- some values of a bag are appended, and those from a place on come next
pub record Walk {T : Type 0} (items : List T) (links heads : List ℕ) (free unused b : ℕ) (old now : List T) (front place : ℕ) : Type 0 where
  pub bags : List (List T)
  pub held : HoldBags items links heads free unused bags
  pub first : T
  pub rest : List T
  pub chain : IsChain (layout items links held.owner held.depth) (1 + b) place (first ∷ rest)
  pub last : last_of (slice_index links) place (first ∷ rest) ≡ last_of (slice_index links) front (slice_index_or bags b [])
  pub got : now ++ first ∷ rest ≡ old ++ slice_index_or bags b []

starts_at : {T : Type 0} (items : List T) (links heads : List ℕ) (free unused : ℕ) (bags : List (List T)) (held : HoldBags items links heads free unused bags) (b : ℕ) (old : List T) (front : ℕ) (was : List T)
    → slice_index_or bags b [] ≡ was → IsChain (layout items links held.owner held.depth) (1 + b) front was → front ≢ NO_PLACE → Walk items links heads free unused b old old front front
starts_at items links heads free unused bags held b old front [] is chain some = absurd (some chain)
starts_at items links heads free unused bags held b old front (value ∷ rest) is chain some = record {
  bags = bags;
  held = held;
  first = value;
  rest = rest;
  chain = chain;
  last = ap (last_of (slice_index links) front) (sym is);
  got = ap (λ w. old ++ w) (sym is);
}

-- the chain of a bag whose head was read
whole : {T : Type 0} {items : List T} {links heads : List ℕ} {free unused : ℕ} {bags : List (List T)} (held : HoldBags items links heads free unused bags) (b front : ℕ) → b < length heads
    → front ≡ get_or heads b front → IsChain (layout items links held.owner held.depth) (1 + b) front (slice_index_or bags b [])
whole {items = items} {links = links} {heads = heads} {bags = bags} held b front within read =
    let e : slice_index heads b ≡ front = reads heads b front within read in
    rw e at (chain_at (layout items links held.owner held.depth) 1 heads bags b within held.chains)

pub walk_starts : {T : Type 0} {items : List T} {links heads : List ℕ} {free unused : ℕ} {bags : List (List T)} (held : HoldBags items links heads free unused bags) (b : ℕ) (old : List T) (front : ℕ) → b < length heads
    → front ≡ get_or heads b front → front ≢ NO_PLACE → Walk items links heads free unused b old old front front
walk_starts {items = items} {links = links} {heads = heads} {free = free} {unused = unused} {bags = bags} held b old front within read some =
    starts_at items links heads free unused bags held b old front (slice_index_or bags b []) refl (whole held b front within read) some

pub walk_within : {T : Type 0} {items : List T} {links heads : List ℕ} {free unused b : ℕ} {old now : List T} {front place : ℕ} (w : Walk items links heads free unused b old now front place)
    → (place < length items) × (place < length links)
walk_within {items = items} {place = place} w =
    let inside : place < length items = slice_get_within items place w.first w.chain.0 in
    let same = w.held.same_length in
    (inside, omega arith)

-- there are no more values than places
pub walk_short : {T : Type 0} {items : List T} {links heads : List ℕ} {free unused b : ℕ} {old now : List T} {front place : ℕ} (w : Walk items links heads free unused b old now front place) → b < length heads
    → length now < length links + length old
walk_short {items = items} {links = links} {heads = heads} {b = b} {old = old} {now = now} w within =
    let all = w.held.all in
    let many = as_many (layout items links w.held.owner w.held.depth) 1 heads w.bags w.held.chains in
    let none : List _ = [] in
    let sums = sum_by-set length w.bags b none [] (omega arith) in
    let sizes = ap length w.got in
    let left = length-append now (w.first ∷ w.rest) in
    let right = length-append old (slice_index_or w.bags b []) in
    omega (arith, all, sums, sizes, left, right)

steps_to : {T : Type 0} (items : List T) (links heads : List ℕ) (free unused : ℕ) (bags : List (List T)) (held : HoldBags items links heads free unused bags) (b : ℕ) (old now : List T) (front place : ℕ) (first : T) (rest : List T)
    → IsChain (layout items links held.owner held.depth) (1 + b) place (first ∷ rest)
    → last_of (slice_index links) place (first ∷ rest) ≡ last_of (slice_index links) front (slice_index_or bags b [])
    → now ++ first ∷ rest ≡ old ++ slice_index_or bags b []
    → (next : ℕ) (more : List T) → slice_index links place ≡ next → more ≡ now ++ first ∷ [] → next ≢ NO_PLACE → Walk items links heads free unused b old more front next
steps_to items links heads free unused bags held b old now front place first [] chain last got next more link is some = absurd (some (sym link ∙ chain.3))
steps_to {T} items links heads free unused bags held b old now front place first (second ∷ rest) chain last got next more link is some =
    let L : Layout T = layout items links held.owner held.depth in
    let C : ℕ → Type 0 = λ n. IsChain L (1 + b) n (second ∷ rest) in
    let E : ℕ → Type 0 = λ n. last_of (slice_index links) n (second ∷ rest) ≡ last_of (slice_index links) front (slice_index_or bags b []) in
    record {
      bags = bags;
      held = held;
      first = second;
      rest = rest;
      chain = subst C link chain.3;
      last = subst E link last;
      got = ap (λ w. w ++ second ∷ rest) is ∙ append_assoc now (first ∷ []) (second ∷ rest) ∙ got;
    }

-- the value that was read is the first one
first_read : {T : Type 0} {items : List T} {links heads : List ℕ} {free unused b : ℕ} {old now : List T} {front place : ℕ} (w : Walk items links heads free unused b old now front place) (value : T)
    → value ≡ get_or items place value → w.first ≡ value
first_read {items = items} {place = place} w value read =
    let here = w.chain.0 in
    let there : slice_get items place ≡ Some value = slice_get_read items (length items) place value refl (walk_within w).0 read in
    cc

pub walk_steps : {T : Type 0} {items : List T} {links heads : List ℕ} {free unused b : ℕ} {old now room : List T} {front place : ℕ} (w : Walk items links heads free unused b old now front place) (value : T) (next : ℕ) (more : List T)
    → value ≡ get_or items place value → next ≡ get_or links place next → room ≡ now → more ≡ room ++ value ∷ [] → next ≢ NO_PLACE → Walk items links heads free unused b old more front next
walk_steps {items = items} {links = links} {heads = heads} {free = free} {unused = unused} {b = b} {old = old} {now = now} {front = front} {place = place} w value next more read read_next same is some =
    steps_to items links heads free unused w.bags w.held b old now front place w.first w.rest w.chain w.last w.got next more
    (reads links place next (walk_within w).1 read_next) (is ∙ ap₂ (λ xs v. xs ++ v ∷ []) same (sym (first_read w value read))) some

-- all values are appended, and the place is the last one
pub record Ended {T : Type 0} (items : List T) (links heads : List ℕ) (free unused b : ℕ) (old now : List T) (front place : ℕ) : Type 0 where
  pub bags : List (List T)
  pub held : HoldBags items links heads free unused bags
  pub last : last_of (slice_index links) front (slice_index_or bags b []) ≡ place
  pub owned : held.owner place ≡ 1 + b
  pub deep : held.depth place ≡ 0
  pub inside : place < length links
  pub got : now ≡ old ++ slice_index_or bags b []

ends_at : {T : Type 0} (items : List T) (links heads : List ℕ) (free unused : ℕ) (bags : List (List T)) (held : HoldBags items links heads free unused bags) (b : ℕ) (old now : List T) (front place : ℕ) (first : T) (rest : List T)
    → IsChain (layout items links held.owner held.depth) (1 + b) place (first ∷ rest)
    → last_of (slice_index links) place (first ∷ rest) ≡ last_of (slice_index links) front (slice_index_or bags b [])
    → now ++ first ∷ rest ≡ old ++ slice_index_or bags b []
    → (more : List T) → place < length links → slice_index links place ≡ NO_PLACE → more ≡ now ++ first ∷ [] → Ended items links heads free unused b old more front place
ends_at items links heads free unused bags held b old now front place first [] chain last got more inside link is = record {
  bags = bags;
  held = held;
  last = sym last;
  owned = chain.1;
  deep = chain.2;
  inside = inside;
  got = is ∙ got;
}
ends_at items links heads free unused bags held b old now front place first (second ∷ rest) chain last got more inside link is =
    let within = slice_get_within items (slice_index links place) second chain.3.0 in
    let same = held.same_length in
    let range = held.in_range in
    absurd (omega arith)

-- the last value is appended, and so many were appended in all
pub record Appended {T : Type 0} (items : List T) (links heads : List ℕ) (free unused b : ℕ) (old now : List T) (front place before after : ℕ) : Type 0 where
  pub ended : Ended items links heads free unused b old now front place
  pub grows : before ≤ after
  pub count : after - before ≡ length (slice_index_or ended.bags b [])

pub walk_ends : {T : Type 0} {items : List T} {links heads : List ℕ} {free unused b : ℕ} {old now room : List T} {front place : ℕ} (w : Walk items links heads free unused b old now front place) (value : T) (next : ℕ) (more : List T)
    (before after : ℕ) → value ≡ get_or items place value → next ≡ get_or links place next → room ≡ now → more ≡ room ++ value ∷ [] → next ≡ NO_PLACE → before ≡ length old → after ≡ length more
    → Appended items links heads free unused b old more front place before after
walk_ends {items = items} {links = links} {heads = heads} {free = free} {unused = unused} {b = b} {old = old} {now = now} {front = front} {place = place} w value next more before after read read_next same is none before_is after_is =
    let e = ends_at items links heads free unused w.bags w.held b old now front place w.first w.rest w.chain w.last w.got more (walk_within w).1
    (reads links place next (walk_within w).1 read_next ∙ none) (is ∙ ap₂ (λ xs v. xs ++ v ∷ []) same (sym (first_read w value read))) in
    let sizes = ap length e.got in
    let long = length-append old (slice_index_or e.bags b []) in
    record { ended = e; grows = omega (arith, sizes, long); count = omega (arith, sizes, long) }

pub spliced : {T : Type 0} {items : List T} {links heads : List ℕ} {free unused b : ℕ} {old now : List T} {front place : ℕ} (e : Ended items links heads free unused b old now front place) (count : ℕ)
    → b < length heads → front ≡ get_or heads b front → front ≢ NO_PLACE → count ≡ length (slice_index_or e.bags b [])
    → HoldBags items (set links place free) (set heads b NO_PLACE) front (unused + count) (set e.bags b [])
spliced {items = items} {links = links} {heads = heads} {free = free} {unused = unused} {b = b} {front = front} {place = place} e count within read some is =
    rw is (splices items links heads free unused e.bags e.held b front place (slice_index_or e.bags b []) refl (whole e.held b front within read) e.last e.owned e.deep e.inside within some)

-- the room grows by the places that go to the unused ones
pub spare_grows : {T : Type 0} (bags : List (List T)) (unused one other used used2 count more : ℕ) (seen : BagsView T) → record { bags = bags; spare = unused + room_of one other used } ≡ seen
    → used2 ≡ used → count ≡ more → unused + count + room_of one other used2 ≡ seen.spare + more
spare_grows bags unused one other used used2 count more seen view same is =
    let spare = ap (λ (v : BagsView _). v.spare) view in
    rw (same, is) (omega arith)
