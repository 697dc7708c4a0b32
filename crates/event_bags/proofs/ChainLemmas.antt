-- Chains of places: what they show, and which stay where one place changes.
use Rattle.std.proofs.Common.{◌≡◌, ℕ, zero, suc, ◌+◌, ◌<◌, ◌≤◌, ◌≢◌, ◌⊎◌, List, [], ◌∷◌, length, map, refl, sym, ap, ap₂, arith, Some}
use Rattle.std.proofs.Math.ListN.{set}
use Rattle.std.specs.List.{sum_by}
use Rattle.std.specs.Prelude.{slice_index, slice_index_or}
use Rattle.std.proofs.lemmas.List.Sums.{sum_by-cons}
use Rattle.std.proofs.lemmas.Option.{slice_get_past}
use Rattle.event_bags.specs.Views.{values_from, bags_of}
use Rattle.event_bags.specs.Chains.{Layout, layout, NO_PLACE, IsChain, AreChains, HoldBags}

-- a chain shows its values
pub values_from-chain : {T : Type 0} (items : List T) (links : List ℕ) (owner depth : ℕ → ℕ) (bag : ℕ) (most place : ℕ) (values : List T) → length items ≤ NO_PLACE → length values ≤ most
    → IsChain (layout items links owner depth) bag place values → values_from items links most place ≡ values
values_from-chain items links owner depth bag zero place [] short few chain = refl
values_from-chain items links owner depth bag zero place (value ∷ rest) short few chain = absurd (omega arith)
values_from-chain items links owner depth bag (suc most) place [] short few chain =
    rw (slice_get_past items place (omega arith))
values_from-chain items links owner depth bag (suc most) place (value ∷ rest) short few chain =
    rw (chain.0, values_from-chain items links owner depth bag most (slice_index links place) rest short (omega arith) chain.3)

pub bags_of-chains : {T : Type 0} (items : List T) (links : List ℕ) (owner depth : ℕ → ℕ) (bag : ℕ) (most : ℕ) (heads : List ℕ) (bags : List (List T)) → length items ≤ NO_PLACE → sum_by length bags ≤ most
    → AreChains (layout items links owner depth) bag heads bags → map (values_from items links most) heads ≡ bags
bags_of-chains items links owner depth bag most [] [] short few chains = refl
bags_of-chains items links owner depth bag most [] (_ ∷ _) short few chains = absurd chains
bags_of-chains items links owner depth bag most (_ ∷ _) [] short few chains = absurd chains
bags_of-chains items links owner depth bag most (head ∷ heads) (values ∷ rest) short few chains =
    let sums = sum_by-cons length values rest in
    ap₂ (λ x xs. x ∷ xs) (values_from-chain items links owner depth bag most head values short (omega arith) chains.0) (bags_of-chains items links owner depth (suc bag) most heads rest short (omega arith) chains.1)

-- the bags are what contracts see
pub shows : {T : Type 0} {items : List T} {links heads : List ℕ} {free unused : ℕ} {bags : List (List T)} (held : HoldBags items links heads free unused bags) → bags_of items links heads ≡ bags
shows {items = items} {links = links} {heads = heads} {bags = bags} held =
    let same = held.same_length in
    let range = held.in_range in
    let all = held.all in
    bags_of-chains items links held.owner held.depth 1 (length links) heads bags (omega arith) (omega arith) held.chains

pub as_many : {T : Type 0} (L : Layout T) (bag : ℕ) (heads : List ℕ) (bags : List (List T)) → AreChains L bag heads bags → length heads ≡ length bags
as_many L bag [] [] chains = refl
as_many L bag [] (_ ∷ _) chains = absurd chains
as_many L bag (_ ∷ _) [] chains = absurd chains
as_many L bag (head ∷ heads) (values ∷ rest) chains = ap suc (as_many L (suc bag) heads rest chains.1)

pub chain_at : {T : Type 0} (L : Layout T) (bag : ℕ) (heads : List ℕ) (bags : List (List T)) (b : ℕ) → b < length heads → AreChains L bag heads bags
    → IsChain L (bag + b) (slice_index heads b) (slice_index_or bags b [])
chain_at L bag [] bags b h chains = absurd (omega arith)
chain_at L bag (_ ∷ _) [] b h chains = absurd chains
chain_at L bag (head ∷ heads) (values ∷ rest) zero h chains =
    let e : bag + 0 ≡ bag = omega arith in
    rw e chains.0
chain_at L bag (head ∷ heads) (values ∷ rest) (suc b) h chains =
    let e : bag + suc b ≡ suc bag + b = omega arith in
    rw e (chain_at L (suc bag) heads rest b (omega arith) chains.1)

-- the layouts differ at one place at most
pub record Apart {T : Type 0} (L M : Layout T) (place : ℕ) : Type 0 where
  pub item : (q : ℕ) → q ≢ place → M.item q ≡ L.item q
  pub link : (q : ℕ) → q ≢ place → M.link q ≡ L.link q
  pub owner : (q : ℕ) → q ≢ place → M.owner q ≡ L.owner q
  pub depth : (q : ℕ) → q ≢ place → M.depth q ≡ L.depth q

-- a chain without that place stays
pub chain_stays : {T : Type 0} (L M : Layout T) (p bag place : ℕ) (values : List T) → Apart L M p → ((v : T) → L.item p ≡ Some v → bag ≡ L.owner p → length values ≤ L.depth p)
    → IsChain L bag place values → IsChain M bag place values
chain_stays L M p bag place [] apart away chain = chain
chain_stays {T} L M p bag place (value ∷ rest) apart away chain =
    let other : place ≢ p = λ (e : place ≡ p). no e in
    (rw (apart.item place other) chain.0, rw (apart.owner place other) chain.1, rw (apart.depth place other) chain.2, rw (apart.link place other) (chain_stays L M p bag (L.link place) rest apart (λ v i o. less v i o) chain.3))
  where
    no : place ≡ p → ⊥
    no e =
        let far = away value (rw (sym e) chain.0) (rw (sym e) (sym chain.1)) in
        let deep : L.depth p ≡ length rest = rw (sym e) chain.2 in
        omega arith

    less : (v : T) → L.item p ≡ Some v → bag ≡ L.owner p → length rest ≤ L.depth p
    less v i o =
        let far = away v i o in
        omega arith

-- so do all chains of later bags
pub later_stay : {T : Type 0} (L M : Layout T) (p bag : ℕ) (heads : List ℕ) (bags : List (List T)) → Apart L M p → ((v : T) → L.item p ≡ Some v → L.owner p < bag)
    → AreChains L bag heads bags → AreChains M bag heads bags
later_stay L M p bag [] [] apart away chains = chains
later_stay L M p bag [] (_ ∷ _) apart away chains = chains
later_stay L M p bag (_ ∷ _) [] apart away chains = chains
later_stay L M p bag (head ∷ heads) (values ∷ rest) apart away chains = (
  chain_stays L M p bag head values apart (λ v i o. let low = away v i in absurd (omega arith)) chains.0,
  later_stay L M p (suc bag) heads rest apart (λ v i. let low = away v i in omega arith) chains.1,
)

-- one bag gets another chain, and the others stay
pub chains_change : {T : Type 0} (L M : Layout T) (p place : ℕ) (values : List T) (bag b : ℕ) (heads : List ℕ) (bags : List (List T)) → Apart L M p
    → ((v : T) → L.item p ≡ Some v → (L.owner p < bag) ⊎ (L.owner p ≡ bag + b)) → IsChain M (bag + b) place values
    → AreChains L bag heads bags → AreChains M bag (set heads b place) (set bags b values)
chains_change L M p place values bag b [] [] apart away chain chains = chains
chains_change L M p place values bag b [] (_ ∷ _) apart away chain chains = absurd chains
chains_change L M p place values bag b (_ ∷ _) [] apart away chain chains = absurd chains
chains_change L M p place values bag zero (head ∷ heads) (old ∷ rest) apart away chain chains =
    let e : bag + 0 ≡ bag = omega arith in
    (rw e at chain, later_stay L M p (suc bag) heads rest apart (λ v i. let low = away v i in omega arith) chains.1)
chains_change L M p place values bag (suc b) (head ∷ heads) (old ∷ rest) apart away chain chains =
    let e : bag + suc b ≡ suc bag + b = omega arith in (
      chain_stays L M p bag head old apart (λ v i o. let low = away v i in absurd (omega arith)) chains.0,
      chains_change L M p place values (suc bag) b heads rest apart (λ v i. let low = away v i in grind arith) (rw e at chain) chains.1,
    )
