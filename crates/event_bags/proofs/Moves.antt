-- A place moves from the unused ones to a bag, or back, or comes anew.
use Rattle.std.proofs.Common.{◌≡◌, ℕ, ◌+◌, ◌-◌, ◌<◌, ◌≤◌, ◌≢◌, List, [], ◌∷◌, ◌++◌, length, refl, sym, arith, Some, None, length-append, cond}
use Rattle.std.proofs.Math.ListN.{set, length-set}
use Rattle.std.specs.Prelude.{slice_index, slice_index_or, nat_eq}
use Rattle.std.specs.List.{slice_get, sum_by}
use Rattle.std.proofs.lemmas.Bool.Decides.{nat_tests}
use Rattle.std.proofs.lemmas.List.{get_or-set_same, get_or-set_other}
use Rattle.std.proofs.lemmas.List.Sums.{sum_by-set}
use Rattle.std.proofs.lemmas.Option.{slice_get_past, slice_get_within}
use Rattle.event_bags.specs.Chains.{Layout, layout, NO_PLACE, IsChain, AreChains, HoldBags}
use Rattle.event_bags.proofs.Lists.{at_set_same, at_set_other, at_push_same, at_push_other, get_push_same, get_push_other}
use Rattle.event_bags.proofs.ChainLemmas.{Apart, as_many, chain_at, chain_stays, chains_change}

-- a function that differs at one place
abbrev pub put : (ℕ → ℕ) → ℕ → ℕ → ℕ → ℕ
put f place value q = cond (nat_eq q place) value (f q)

put_same : (f : ℕ → ℕ) (place value : ℕ) → put f place value place ≡ value
put_same f place value = grind (arith, nat_tests)

put_other : (f : ℕ → ℕ) (place value q : ℕ) → q ≢ place → put f place value q ≡ f q
put_other f place value q other = grind (arith, nat_tests)

-- a place that is there changes
sets_apart : {T : Type 0} (items : List T) (links : List ℕ) (owner depth : ℕ → ℕ) (place : ℕ) (value : T) (link bag many : ℕ)
    → Apart (layout items links owner depth) (layout (set items place value) (set links place link) (put owner place bag) (put depth place many)) place
sets_apart items links owner depth place value link bag many = record {
  item = λ q other. at_set_other items place q value other;
  link = λ q other. get_or-set_other links place q link 0 other;
  owner = λ q other. put_other owner place bag q other;
  depth = λ q other. put_other depth place many q other;
}

links_apart : {T : Type 0} (items : List T) (links : List ℕ) (owner depth : ℕ → ℕ) (place : ℕ) (link bag many : ℕ)
    → Apart (layout items links owner depth) (layout items (set links place link) (put owner place bag) (put depth place many)) place
links_apart items links owner depth place link bag many = record {
  item = λ q other. refl;
  link = λ q other. get_or-set_other links place q link 0 other;
  owner = λ q other. put_other owner place bag q other;
  depth = λ q other. put_other depth place many q other;
}

pushes_apart : {T : Type 0} (items : List T) (links : List ℕ) (owner depth : ℕ → ℕ) (value : T) (link bag many : ℕ) → length items ≡ length links
    → Apart (layout items links owner depth) (layout (items ++ value ∷ []) (links ++ link ∷ []) (put owner (length links) bag) (put depth (length links) many)) (length links)
pushes_apart items links owner depth value link bag many same = record {
  item = λ q other. at_push_other items q value (omega arith);
  link = λ q other. get_push_other links q link 0 other;
  owner = λ q other. put_other owner (length links) bag q other;
  depth = λ q other. put_other depth (length links) many q other;
}

-- the first unused place goes to a bag, with a value
uses : {T : Type 0} (items : List T) (links heads : List ℕ) (free unused : ℕ) (bags : List (List T)) (b : ℕ) (value : T) (owner depth : ℕ → ℕ) (left : List T)
    → AreChains (layout items links owner depth) 1 heads bags → IsChain (layout items links owner depth) 0 free left → unused ≡ length left → length left + sum_by length bags ≡ length links
    → length items ≡ length links → length links ≤ NO_PLACE → b < length heads → free ≢ NO_PLACE
    → HoldBags (set items free value) (set links free (slice_index heads b)) (set heads b free) (slice_index links free) (unused - 1) (set bags b (value ∷ slice_index_or bags b []))
uses items links heads free unused bags b value owner depth [] chains free_chain all_free all same range there some = absurd (some free_chain)
uses {T} items links heads free unused bags b value owner depth (w ∷ rest) chains free_chain all_free all same range there some =
    let L : Layout T = layout items links owner depth in
    let front : ℕ = slice_index heads b in
    let old : List T = slice_index_or bags b [] in
    let M : Layout T = layout (set items free value) (set links free front) (put owner free (1 + b)) (put depth free (length old)) in
    let apart : Apart L M free = sets_apart items links owner depth free value front (1 + b) (length old) in
    let within : free < length items = slice_get_within items free w free_chain.0 in
    let linked : free < length links = omega arith in
    let owned : owner free ≡ 0 = free_chain.1 in
    let deep : depth free ≡ length rest = free_chain.2 in
    let many = as_many L 1 heads bags chains in
    let sums = sum_by-set length bags b (value ∷ old) [] (omega arith) in
    let chain : IsChain M (1 + b) free (value ∷ old) = (
      at_set_same items free value within,
      put_same owner free (1 + b),
      put_same depth free (length old),
      rw (get_or-set_same links free front 0 linked) (chain_stays L M free (1 + b) front old apart (λ v i o. absurd (omega arith)) (chain_at L 1 heads bags b there chains)),
    ) in
    record {
      owner = put owner free (1 + b);
      depth = put depth free (length old);
      left = rest;
      chains = chains_change L M free free (value ∷ old) 1 b heads bags apart (λ v i. grind arith) chain chains;
      free_chain = chain_stays L M free 0 (slice_index links free) rest apart (λ v i o. omega arith) free_chain.3;
      all_free = omega arith;
      all = omega (arith, length-set links free front);
      same_length = omega (arith, length-set links free front, length-set items free value);
      in_range = omega (arith, length-set links free front);
    }

-- a new place goes to a bag, with a value
pub grows : {T : Type 0} {items : List T} {links heads : List ℕ} {free unused : ℕ} {bags : List (List T)} (held : HoldBags items links heads free unused bags) (b : ℕ) (value : T)
    → b < length heads → length links < NO_PLACE
    → HoldBags (items ++ value ∷ []) (links ++ slice_index heads b ∷ []) (set heads b (length links)) free unused (set bags b (value ∷ slice_index_or bags b []))
grows {T} {items = items} {links = links} {heads = heads} {free = free} {unused = unused} {bags = bags} held b value there room =
    let owner : ℕ → ℕ = held.owner in
    let depth : ℕ → ℕ = held.depth in
    let L : Layout T = layout items links owner depth in
    let front : ℕ = slice_index heads b in
    let old : List T = slice_index_or bags b [] in
    let p : ℕ = length links in
    let M : Layout T = layout (items ++ value ∷ []) (links ++ front ∷ []) (put owner p (1 + b)) (put depth p (length old)) in
    let same : length items ≡ length links = held.same_length in
    let range = held.in_range in
    let all_free = held.all_free in
    let all = held.all in
    let apart : Apart L M p = pushes_apart items links owner depth value front (1 + b) (length old) same in
    let many = as_many L 1 heads bags held.chains in
    let sums = sum_by-set length bags b (value ∷ old) [] (omega arith) in
    let none : slice_get items p ≡ None = slice_get_past items p (omega arith) in
    let holds : slice_get (items ++ value ∷ []) p ≡ Some value = rw (sym same) (at_push_same items value) in
    let chain : IsChain M (1 + b) p (value ∷ old) = (
      holds,
      put_same owner p (1 + b),
      put_same depth p (length old),
      rw (get_push_same links front 0) (chain_stays L M p (1 + b) front old apart (λ v i o. absurd (cc (none, i))) (chain_at L 1 heads bags b there held.chains)),
    ) in
    record {
      owner = put owner p (1 + b);
      depth = put depth p (length old);
      left = held.left;
      chains = chains_change L M p p (value ∷ old) 1 b heads bags apart (λ v i. absurd (cc (none, i))) chain held.chains;
      free_chain = chain_stays L M p 0 free held.left apart (λ v i o. absurd (cc (none, i))) held.free_chain;
      all_free = all_free;
      all = omega (arith, length-append links (front ∷ []));
      same_length = omega (arith, length-append links (front ∷ []), length-append items (value ∷ []));
      in_range = omega (arith, length-append links (front ∷ []));
    }

pub reuses : {T : Type 0} {items : List T} {links heads : List ℕ} {free unused : ℕ} {bags : List (List T)} (held : HoldBags items links heads free unused bags) (b : ℕ) (value : T)
    → b < length heads → free ≢ NO_PLACE
    → HoldBags (set items free value) (set links free (slice_index heads b)) (set heads b free) (slice_index links free) (unused - 1) (set bags b (value ∷ slice_index_or bags b []))
reuses {items = items} {links = links} {heads = heads} {free = free} {unused = unused} {bags = bags} held b value there some =
    uses items links heads free unused bags b value held.owner held.depth held.left held.chains held.free_chain held.all_free held.all held.same_length held.in_range there some

-- what a bag's front is, and what is left when its place goes to the unused ones
pub record Popped {T : Type 0} (items : List T) (links heads : List ℕ) (free unused : ℕ) (bags : List (List T)) (b : ℕ) : Type 0 where
  pub value : T
  pub rest : List T
  pub here : slice_get items (slice_index heads b) ≡ Some value
  pub was : slice_index_or bags b [] ≡ value ∷ rest
  pub held : HoldBags items (set links (slice_index heads b) free) (set heads b (slice_index links (slice_index heads b))) (slice_index heads b) (unused + 1) (set bags b rest)

frees : {T : Type 0} (items : List T) (links heads : List ℕ) (free unused : ℕ) (bags : List (List T)) (b : ℕ) (held : HoldBags items links heads free unused bags) (old : List T) → slice_index_or bags b [] ≡ old
    → IsChain (layout items links held.owner held.depth) (1 + b) (slice_index heads b) old → b < length heads → slice_index heads b ≢ NO_PLACE → Popped items links heads free unused bags b
frees items links heads free unused bags b held [] was chain there some = absurd (some chain)
frees {T} items links heads free unused bags b held (value ∷ rest) was chain there some =
    let owner : ℕ → ℕ = held.owner in
    let depth : ℕ → ℕ = held.depth in
    let left : List T = held.left in
    let L : Layout T = layout items links owner depth in
    let p : ℕ = slice_index heads b in
    let M : Layout T = layout items (set links p free) (put owner p 0) (put depth p (length left)) in
    let apart : Apart L M p = links_apart items links owner depth p free 0 (length left) in
    let same : length items ≡ length links = held.same_length in
    let range = held.in_range in
    let all_free = held.all_free in
    let all = held.all in
    let within : p < length items = slice_get_within items p value chain.0 in
    let linked : p < length links = omega arith in
    let owned : owner p ≡ 1 + b = chain.1 in
    let deep : depth p ≡ length rest = chain.2 in
    let many = as_many L 1 heads bags held.chains in
    let sums = sum_by-set length bags b rest [] (omega arith) in
    let had : length (slice_index_or bags b []) ≡ length rest + 1 = rw was (omega arith) in
    let next : IsChain M (1 + b) (slice_index links p) rest = chain_stays L M p (1 + b) (slice_index links p) rest apart (λ v i o. omega arith) chain.3 in
    record {
      value = value;
      rest = rest;
      here = chain.0;
      was = was;
      held = record {
        owner = put owner p 0;
        depth = put depth p (length left);
        left = value ∷ left;
        chains = chains_change L M p (slice_index links p) rest 1 b heads bags apart (λ v i. grind arith) next held.chains;
        free_chain = (chain.0, put_same owner p 0, put_same depth p (length left), rw (get_or-set_same links p free 0 linked) (chain_stays L M p 0 free left apart (λ v i o. absurd (omega arith)) held.free_chain));
        all_free = omega arith;
        all = omega (arith, length-set links p free);
        same_length = omega (arith, length-set links p free);
        in_range = omega (arith, length-set links p free);
      };
    }

pub pops : {T : Type 0} {items : List T} {links heads : List ℕ} {free unused : ℕ} {bags : List (List T)} (held : HoldBags items links heads free unused bags) (b : ℕ)
    → b < length heads → slice_index heads b ≢ NO_PLACE → Popped items links heads free unused bags b
pops {T} {items = items} {links = links} {heads = heads} {free = free} {unused = unused} {bags = bags} held b there some =
    frees items links heads free unused bags b held (slice_index_or bags b []) refl (chain_at (layout items links held.owner held.depth) 1 heads bags b there held.chains) there some
