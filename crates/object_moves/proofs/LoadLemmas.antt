-- The first of the best nodes.
use Rattle.std.proofs.Common.{◌≡◌, inl, inr, ℕ, suc, ◌+◌, ◌<◌, ◌≤◌, ◌≢◌, Bool, true, false, cond, List, [], ◌∷◌, length, get_or, ne_eqb, eqb, eqb-true, refl, sym, ap, ◌∙◌, subst, arith}
use Rattle.std.proofs.lemmas.Bool.{eqb-false}
use Rattle.std.specs.List.{AllByRecursion}
use Rattle.std.proofs.lemmas.Option.{slice_get_within}
use Rattle.std.specs.Prelude.{filter, slice_get, ◌==◌, Some, None}
use Rattle.node_core.specs.Homes.{HomesView, IsLeastObject, objects_of}
use Rattle.node_core.specs.Nodes.{NodeView}
use Rattle.cycle_core.proofs.PlaceLemmas.{at-some, same-some}
use Rattle.cycle_core.specs.Worlds.{WorldView}
use Rattle.object_moves.specs.declared.moves.Move.{Move}
use Rattle.object_moves.specs.Loads.{IsFirstLoad, IsPlanByLoad, Picks, least_of, load, most_of}
use Rattle.object_moves.specs.Moves.{Exists}

module _ {M : Type 0} (best : ℕ → ℕ → Type 0) (nodes : List (NodeView M)) where
  -- among the first so many nodes
  pub record IsFirstUpto (upto number : ℕ) : Type 0 where
    pub node : NodeView M
    pub at : slice_get nodes number ≡ Some node
    pub inside : number < upto
    pub all : (other : ℕ) (n : NodeView M) → other < upto → slice_get nodes other ≡ Some n → best (load node) (load n)
    pub first : (other : ℕ) (n : NodeView M) → other < number → slice_get nodes other ≡ Some n → best (load n) (load node) → ⊥

  pub first-start : ((a : ℕ) → best a a) → 0 < length nodes → IsFirstUpto 1 0
  first-start same some =
      let x = at-some nodes 0 some in
      record {
        node = x.0;
        at = x.1;
        inside = omega arith;
        all = λ other n below at.
            let zero_is : other ≡ 0 = omega arith in
            let is : x.0 ≡ n = same-some x.0 n (sym x.1 ∙ ap (slice_get nodes) (sym zero_is) ∙ at) in
            subst (λ (v : NodeView M). best (load x.0) (load v)) is (same (load x.0));
        first = λ other n below at. absurd (omega arith);
      }

  pub first-whole : (upto number : ℕ) → length nodes ≤ upto → IsFirstUpto upto number → IsFirstLoad best nodes number
  first-whole upto number far is = record {
    node = is.node;
    at = is.at;
    all = λ other n at. is.all other n (let lt = slice_get_within nodes other n at in omega arith) at;
    first = is.first;
  }

  module _ (better : ℕ → ℕ → Type 0) (same : (a : ℕ) → best a a) (through : (a b c : ℕ) → better a b → best a c → best b c) (never : (a b c : ℕ) → better a b → best a c → best c b → ⊥)
      (upto found picked : ℕ) (is : IsFirstUpto upto found) (below : upto < length nodes) (picks : Picks better best nodes found upto picked) where
    y : (y : NodeView M) × (slice_get nodes upto ≡ Some y)
    y = at-some nodes upto below

    changed : better (load is.node) (load y.0) → picked ≡ upto → IsFirstUpto (upto + 1) picked
    changed lt picked_is = record {
      node = y.0;
      at = ap (slice_get nodes) picked_is ∙ y.1;
      inside = omega arith;
      all = λ other n low at. by_place other n at (eqb other upto) refl low;
      first = λ other n low at no. never (load is.node) (load y.0) (load n) lt (is.all other n (omega arith) at) no;
    }
      where
        by_place : (other : ℕ) (n : NodeView M) → slice_get nodes other ≡ Some n → (t : Bool) → eqb other upto ≡ t → other < upto + 1 → best (load y.0) (load n)
        by_place other n at true h low =
            let here : y.0 ≡ n = same-some y.0 n (sym y.1 ∙ ap (slice_get nodes) (sym (eqb-true other upto h)) ∙ at) in
            subst (λ (v : NodeView M). best (load y.0) (load v)) here (same (load y.0))
        by_place other n at false h low = let apart = eqb-false other upto h in through (load is.node) (load y.0) (load n) lt (is.all other n (omega arith) at)

    kept : best (load is.node) (load y.0) → picked ≡ found → IsFirstUpto (upto + 1) picked
    kept ge picked_is = record {
      node = is.node;
      at = ap (slice_get nodes) picked_is ∙ is.at;
      inside = (let low = is.inside in omega arith);
      all = λ other n low at. by_place other n at (eqb other upto) refl low;
      first = λ other n low at. is.first other n (omega arith) at;
    }
      where
        by_place : (other : ℕ) (n : NodeView M) → slice_get nodes other ≡ Some n → (t : Bool) → eqb other upto ≡ t → other < upto + 1 → best (load is.node) (load n)
        by_place other n at true h low =
            let here : y.0 ≡ n = same-some y.0 n (sym y.1 ∙ ap (slice_get nodes) (sym (eqb-true other upto h)) ∙ at) in
            subst (λ (v : NodeView M). best (load is.node) (load v)) here ge
        by_place other n at false h low = let apart = eqb-false other upto h in is.all other n (omega arith) at

    pub first-next : IsFirstUpto (upto + 1) picked
    first-next = elim (picks is.node y.0 is.at y.1) [ inl better_is ↦ changed better_is.0 better_is.1 | inr best_is ↦ kept best_is.0 best_is.1 ]

home-none : (homes : List ℕ) (number d : ℕ) → ((object : ℕ) → object < length homes → get_or homes object d ≢ number) → length (filter (λ (h : ℕ). h == number) homes) ≡ 0
home-none [] number d none = refl
home-none (h ∷ hs) number d none =
    let off = ne_eqb h number (none 0 (omega arith)) in
    ap (λ b. length (cond b (h ∷ filter (λ (h : ℕ). h == number) hs) (filter (λ (h : ℕ). h == number) hs))) off ∙ home-none hs number d (λ object below. none (suc object) (omega arith))

-- a node that counts objects has a least one
pub some-object : (h : HomesView) (number : ℕ) → IsLeastObject h number None → 2 ≤ objects_of h number → ⊥
some-object h number none some = let zero_is = home-none h.homes number h.nodes none in omega arith

-- no move is planned where none may be
pub no_plan : {M : Type 0} (w : WorldView M) (full empty : ℕ) (moves : List Move) (full_is : IsFirstLoad most_of w.nodes full) (empty_is : IsFirstLoad least_of w.nodes empty) → moves ≡ []
    → (load empty_is.node + 2 ≤ load full_is.node → 2 ≤ objects_of w.homes full → ⊥) → IsPlanByLoad w moves
no_plan w full empty moves full_is empty_is none never = record {
  full = full;
  empty = empty;
  full_is = full_is;
  empty_is = empty_is;
  none = λ so. none;
  one = λ more two. absurd (never more two);
  exist = (let P : List Move → Type 0 = AllByRecursion (Exists w.homes) in subst P (sym none) tt);
}
