-- Homes with another home for one object, and how many objects each node has.
use Rattle.std.proofs.Common.{◌≡◌, Bool, ℕ, zero, suc, ◌+◌, ◌-◌, ◌<◌, ◌≤◌, cond, List, [], ◌∷◌, length, drop, get_or, eq-eqb, refl, sym, ap, subst, ◌∙◌, ⊎_elim, arith, ◌++◌, below_more}
use Rattle.std.specs.Prelude.{filter, slice_set, ◌==◌}
use Rattle.std.specs.List.{AllByRecursion as Each}
use Rattle.std.proofs.lemmas.Grind.{get_or_default_zero}
use Rattle.std.proofs.lemmas.Bool.{cases_eq, ne_eqb}
use Rattle.std.proofs.lemmas.List.{get_or_push, get_or-set_other, get_or-set_same, length-set, length_push}
use Rattle.std.proofs.lemmas.List.Sums.{length-filter, sum_by-set}
use Rattle.std.proofs.Math.ListN.{get_or-append}
use Rattle.key_order.proofs.EachLemmas.{Each-append}
use Rattle.key_order.proofs.FilterLemmas.{length-filter_le}
use Rattle.node_core.specs.Homes.{AreCounts, AreHomes, HomesView, count_of}

pub each-get : (P : ℕ → Type 0) (xs : List ℕ) (i d : ℕ) → Each P xs → i < length xs → P (get_or xs i d)
each-get P [] i d all below = absurd (omega arith)
each-get P (x ∷ xs) zero d all below = all.0
each-get P (x ∷ xs) (suc i) d all below = each-get P xs i d all.1 (omega arith)

drop-get : (xs : List ℕ) (i d : ℕ) → i < length xs → drop i xs ≡ get_or xs i d ∷ drop (suc i) xs
drop-get [] i d below = absurd (omega arith)
drop-get (x ∷ xs) zero d below = refl
drop-get (x ∷ xs) (suc i) d below = drop-get xs i d (omega arith)

-- the homes so far, and one more
pub placed-more : (f : ℕ → ℕ) (nodes n home : ℕ) (homes more : List ℕ) → length homes ≡ n → Each (λ (home : ℕ). home < nodes) homes → ((k : ℕ) → k < n → get_or homes k nodes ≡ f k)
    → home ≡ f n → home < nodes → more ≡ homes ++ home ∷ [] → (length more ≡ n + 1) × Each (λ (home : ℕ). home < nodes) more × ((k : ℕ) → k < n + 1 → get_or more k nodes ≡ f k)
placed-more f nodes n home homes more long within are home_is below is =
    let W : List ℕ → Type 0 = Each (λ (home : ℕ). home < nodes) in (
      ap length is ∙ length_push homes home ∙ ap (λ k. k + 1) long,
      subst W (sym is) (Each-append (λ (home : ℕ). home < nodes) homes (home ∷ []) within (below, tt)),
      below_more (λ k. get_or more k nodes ≡ f k) n
          (λ k lt. ap (λ hs. get_or hs k nodes) is ∙ get_or-append homes (home ∷ []) nodes k (let L : ℕ → Type 0 = λ m. k < m in subst L (sym long) lt) ∙ are k lt)
          (ap (λ hs. get_or hs n nodes) is ∙ get_or_push homes home nodes n long ∙ home_is),
    )

-- a count of the homes so far leaves room for one more
pub count-room : (homes counts : List ℕ) (nodes i now : ℕ) → i < length homes → Each (λ (home : ℕ). home < nodes) homes → length counts ≡ nodes
    → ((number : ℕ) → number < nodes → get_or counts number 0 + count_of (drop i homes) number ≡ count_of homes number)
    → now ≡ get_or counts (get_or homes i 0) now → now + 1 ≤ length homes
count-room homes counts nodes i now below within many each is =
    let home = get_or homes i 0 in
    let inside : home < nodes = each-get (λ (home : ℕ). home < nodes) homes i 0 within below in
    let at : now ≡ get_or counts home 0 = is ∙ get_or_default_zero counts home now (omega arith) in
    let p = λ (h : ℕ). h == home in
    let rest = drop (suc i) homes in
    let one : count_of (drop i homes) home ≡ suc (length (filter p rest)) =
    ap (λ hs. count_of hs home) (drop-get homes i 0 below) ∙ ap (λ b. length (cond b (home ∷ filter p rest) (filter p rest))) (eq-eqb home home refl) in
    let all = each home inside in
    let le = length-filter_le p homes in
    omega arith

each-set : (P : ℕ → Type 0) (xs : List ℕ) (i v : ℕ) → P v → Each P xs → Each P (slice_set xs i v)
each-set P [] i v one all = tt
each-set P (x ∷ xs) zero v one all = (one, all.1)
each-set P (x ∷ xs) (suc i) v one all = (all.0, each-set P xs i v one all.1)

pub homes-set : (nodes : ℕ) (homes : List ℕ) (object node : ℕ) → node < nodes → AreHomes nodes homes → AreHomes nodes (slice_set homes object node)
homes-set nodes homes object node below are = record {
  low = are.low;
  high = are.high;
  few = (let long = length-set homes object node in let few = are.few in omega arith);
  within = each-set (λ (home : ℕ). home < nodes) homes object node below are.within;
}

abbrev one_if : Bool → ℕ
one_if b = cond b 1 0

one_if-same : (a b : ℕ) → a ≡ b → one_if (a == b) ≡ 1
one_if-same a b same = ap one_if (eq-eqb a b same)

one_if-other : (a b : ℕ) → (a ≡ b → ⊥) → one_if (a == b) ≡ 0
one_if-other a b other = ap one_if (ne_eqb a b other)

-- where an object goes to a node, that has one more, and the node that had it has one less
count-set : (homes : List ℕ) (object node number : ℕ) → object < length homes
    → count_of (slice_set homes object node) number + one_if (get_or homes object 0 == number) ≡ count_of homes number + one_if (node == number)
count-set homes object node number below =
    let p = λ (h : ℕ). h == number in
    let both = sum_by-set (λ (h : ℕ). one_if (p h)) homes object node 0 below in
    let now = length-filter p (slice_set homes object node) in
    let was = length-filter p homes in
    omega arith

-- an object can go to a node, where these are copies of the homes and of the counts
pub record CanRehome (nodes object node : ℕ) (homes counts : List ℕ) : Type 0 where
  pub below : object < length homes
  pub to : node < nodes
  pub are : AreHomes nodes homes
  pub counted : AreCounts nodes homes counts

pub can-rehome : (h : HomesView) (nodes object node : ℕ) (own_homes own_counts homes counts : List ℕ)
    → record { nodes = nodes; homes = own_homes } ≡ h → object < length h.homes → node < h.nodes
    → AreHomes nodes own_homes × AreCounts nodes own_homes own_counts → homes ≡ own_homes → counts ≡ own_counts
    → CanRehome nodes object node homes counts
can-rehome h nodes object node own_homes own_counts homes counts view object_is node_is own homes_are counts_are = record {
  below = (let long = ap (λ (v : HomesView). length v.homes) view in let same = ap length homes_are in omega arith);
  to = (let same = ap (λ (v : HomesView). v.nodes) view in omega arith);
  are = subst (AreHomes nodes) (sym homes_are) own.0;
  counted = (let C : List ℕ → Type 0 = λ hs. AreCounts nodes hs counts in subst C (sym homes_are) (subst (AreCounts nodes own_homes) (sym counts_are) own.1));
}

-- what is counted once it has gone
module _ (nodes object node : ℕ) (homes counts : List ℕ) (can : CanRehome nodes object node homes counts) (from was next : ℕ)
    (from_is : from ≡ get_or homes object from) (was_is : was ≡ get_or counts from was) where
  from-at : get_or homes object 0 ≡ from
  from-at = sym (from_is ∙ get_or_default_zero homes object from can.below)

  from-inside : from < nodes
  from-inside = (let inside = each-get (λ (home : ℕ). home < nodes) homes object 0 can.are.within can.below in let at = from-at in omega arith)

  was-at : get_or counts from 0 ≡ was
  was-at = (let many = can.counted.many in let inside = from-inside in sym (was_is ∙ get_or_default_zero counts from was (omega arith)))

  pub was-some : 1 ≤ was
  was-some =
      let at = was-at in
      let count = can.counted.each from from-inside in
      let other = count-set homes object (suc from) from can.below in
      let here = one_if-same (get_or homes object 0) from from-at in
      let away = one_if-other (suc from) from (λ same. omega arith) in
      omega arith

  -- the other node has yet to count it
  count-left : (number : ℕ) → number < nodes → get_or (slice_set counts from (was - 1)) number 0 + one_if (node == number) ≡ count_of (slice_set homes object node) number
  count-left number inside =
      let many = can.counted.many in
      let in_counts : from < length counts = (let inside = from-inside in omega arith) in
      let count = can.counted.each number inside in
      let set = count-set homes object node number can.below in
      let some = was-some in
      ⊎_elim
      (λ (same : number ≡ from).
      let here = one_if-same (get_or homes object 0) number (from-at ∙ sym same) in
      let less : get_or (slice_set counts from (was - 1)) number 0 ≡ was - 1
      = ap (λ n. get_or (slice_set counts from (was - 1)) n 0) same ∙ get_or-set_same counts from (was - 1) 0 in_counts in
      let had : get_or counts number 0 ≡ was = ap (λ n. get_or counts n 0) same ∙ was-at in
      omega arith)
      (λ other.
      let away = one_if-other (get_or homes object 0) number (λ same. other (sym same ∙ from-at)) in
      let rest = get_or-set_other counts from number (was - 1) 0 other in
      omega arith)
      (cases_eq number from)

  module _ (next_is : next ≡ get_or (slice_set counts from (was - 1)) node next) where
    node-count : next + 1 ≡ count_of (slice_set homes object node) node
    node-count =
        let many = can.counted.many in
        let long = length-set counts from (was - 1) in
        let left = count-left node can.to in
        let here = one_if-same node node refl in
        let at : next ≡ get_or (slice_set counts from (was - 1)) node 0 = next_is ∙ get_or_default_zero (slice_set counts from (was - 1)) node next (omega arith) in
        omega arith

    pub next-room : next + 1 ≤ length homes
    next-room =
        let count = node-count in
        let le = length-filter_le (λ (h : ℕ). h == node) (slice_set homes object node) in
        let long = length-set homes object node in
        omega arith

    pub counts-set : AreCounts nodes (slice_set homes object node) (slice_set (slice_set counts from (was - 1)) node (next + 1))
    counts-set =
        let less = slice_set counts from (was - 1) in
        let many : length less ≡ nodes = length-set counts from (was - 1) ∙ can.counted.many in
        record {
          many = length-set less node (next + 1) ∙ many;
          each = λ number inside.
              ⊎_elim
              (λ (same : number ≡ node).
              ap (λ n. get_or (slice_set less node (next + 1)) n 0) same ∙ get_or-set_same less node (next + 1) 0 (omega arith) ∙ node-count
              ∙ ap (λ n. count_of (slice_set homes object node) n) (sym same))
              (λ other.
              let left = count-left number inside in
              let away = one_if-other node number (λ same. other (sym same)) in
              let rest = get_or-set_other less node number (next + 1) 0 other in
              omega arith)
              (cases_eq number node);
        }
