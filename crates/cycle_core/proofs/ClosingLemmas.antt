-- Nodes that are opened and settled one after another.
use Rattle.std.proofs.Common.{◌≡◌, ◌⊎◌, ℕ, suc, ◌<◌, ◌≤◌, min, Bool, true, false, List, length, refl, sym, ap, ◌∙◌, subst, inl, inr, arith, eqb, eqb-true, ltb, ltb-true, ltb-false, slice_set}
use Rattle.std.proofs.lemmas.Bool.{eqb-false}
use Rattle.std.proofs.lemmas.Option.{slice_get_within}
use Rattle.std.specs.Prelude.{slice_get, Some}
use Rattle.event_key.specs.Stamps.{end_stamp}
use Rattle.model_core.specs.Meaning.{Meaning}
use Rattle.sim_spec.specs.declared.terms.Terms.{Terms}
use Rattle.world_spec.specs.Moves.{IsIdle}
use Rattle.node_core.specs.Nodes.{NodeView, home, data_of}
use Rattle.node_core.specs.Steps.{HoldsMessageAt, IsHeldLeast}
use Rattle.cycle_core.specs.Works.{WorksOn, IsHeldFrom, IsSettled, IsOpened}
use Rattle.cycle_core.proofs.PlaceLemmas.{IsUpto, at-set, at-other, same-some, upto-more}
use Rattle.cycle_core.proofs.WorkLemmas.{idle-lower}

module _ {M : Type 0} (meaning_of : M → Meaning) where
  -- some node holds a message with this stamp
  abbrev pub HoldsSome : List (NodeView M) → ℕ → Type 0
  HoldsSome nodes bound = (number : ℕ) × (n : NodeView M) × (slice_get nodes number ≡ Some n) × HoldsMessageAt (meaning_of n.model) n bound

  -- the first nodes are opened
  pub record IsOpenedUpto (end place : ℕ) (nodes : List (NodeView M)) (bound : ℕ) : Type 0 where
    pub within : bound ≤ end
    pub from : (number : ℕ) (n : NodeView M) → number < place → slice_get nodes number ≡ Some n → IsHeldFrom (meaning_of n.model) bound n
    pub reached : (bound ≡ end) ⊎ HoldsSome nodes bound

  pub opened-more : (end place : ℕ) (nodes : List (NodeView M)) (bound least : ℕ) (n : NodeView M) → end < 18446744073709551615 → IsOpenedUpto end place nodes bound → slice_get nodes place ≡ Some n
      → IsHeldLeast (meaning_of n.model) n least → IsOpenedUpto end (suc place) nodes (min bound least)
  opened-more end place nodes bound least n far opened here held = record {
    within = (let le = opened.within in omega arith);
    from = λ number x below at. from number x below at (eqb number place) refl;
    reached = by_test (ltb least bound) refl opened.within opened.reached;
  }
    where
      from : (number : ℕ) (x : NodeView M) → number < suc place → slice_get nodes number ≡ Some x → (b : Bool) → eqb number place ≡ b → IsHeldFrom (meaning_of x.model) (min bound least) x
      from number x below at true h =
          let same = eqb-true number place h in
          let is : n ≡ x = same-some n x (sym here ∙ ap (slice_get nodes) (sym same) ∙ at) in
          let P : NodeView M → Type 0 = λ y. IsHeldFrom (meaning_of y.model) (min bound least) y in
          subst P is (record { least = least; held = held; above = omega arith })
      from number x below at false h =
          let apart = eqb-false number place h in
          let old = opened.from number x (omega arith) at in
          record { least = old.least; held = old.held; above = (let le = old.above in omega arith) }

      by_test : (b : Bool) → ltb least bound ≡ b → bound ≤ end → (bound ≡ end) ⊎ HoldsSome nodes bound → (min bound least ≡ end) ⊎ HoldsSome nodes (min bound least)
      by_test true h le reached =
          let lt = ltb-true least bound h in
          let is : least ≡ min bound least = omega arith in
          let P : ℕ → Type 0 = HoldsSome nodes in
          elim held.reached [
            | inl none ↦ absurd (omega arith)
            | inr some ↦ inr (subst P is (place, n, here, some))
          ]
      by_test false h le reached =
          let ge = ltb-false least bound h in
          let is : bound ≡ min bound least = omega arith in
          let P : ℕ → Type 0 = λ b. (b ≡ end) ⊎ HoldsSome nodes b in
          subst P is reached

  pub opened-all : (end place : ℕ) (nodes : List (NodeView M)) (bound : ℕ) → length nodes ≤ place → IsOpenedUpto end place nodes bound → IsOpened meaning_of end nodes bound
  opened-all end place nodes bound far opened = record {
    within = opened.within;
    from = λ number n at. opened.from number n (let lt = slice_get_within nodes number n at in omega arith) at;
    reached = opened.reached;
  }

  abbrev pub WorkOn : NodeView M → NodeView M → Type 0
  WorkOn old new = WorksOn (meaning_of old.model) old new

  -- the first nodes are settled
  pub record AreSettling (terms : Terms) (place : ℕ) (first now : List (NodeView M)) (bound : ℕ) : Type 0 where
    pub upto : IsUpto WorkOn place first now
    pub opened : IsOpened meaning_of (end_stamp terms.end) now bound
    pub idle : (number : ℕ) (n : NodeView M) → number < place → slice_get now number ≡ Some n → IsIdle (meaning_of n.model) (home n) n.number bound (data_of n)

  module _ (terms : Terms) (place : ℕ) (first now : List (NodeView M)) (bound least : ℕ) (old new : NodeView M)
      (settling : AreSettling terms place first now bound) (here : slice_get now place ≡ Some old)
      (works : WorkOn old new) where
    then : List (NodeView M)
    then = slice_set now place new

    inside : place < length now
    inside = slice_get_within now place old here

    here_now : slice_get then place ≡ Some new
    unfolding then
    here_now = at-set now place new inside

    there : (number : ℕ) → (eqb number place ≡ false) → slice_get then number ≡ slice_get now number
    unfolding then
    there number h = at-other now place number new (eqb-false number place h)

    pub upto_now : IsUpto WorkOn (suc place) first (slice_set now place new)
    upto_now = upto-more WorkOn place first now old new settling.upto here works

    -- at the place itself, and elsewhere
    at_places : (P : NodeView M → Type 0) (number : ℕ) (n : NodeView M) → slice_get then number ≡ Some n → (number ≡ place → P new) → (eqb number place ≡ false → slice_get now number ≡ Some n → P n) → P n
    at_places P number n at one other = by_place (eqb number place) refl
      where
        by_place : (b : Bool) → eqb number place ≡ b → P n
        by_place true h =
            let same = eqb-true number place h in
            subst P (same-some new n (sym here_now ∙ ap (slice_get then) (sym same) ∙ at)) (one same)
        by_place false h = other h (sym (there number h) ∙ at)

    pub settling-next : IsSettled (meaning_of old.model) bound least new → AreSettling terms (suc place) first (slice_set now place new) least
    unfolding then
    settling-next settled =
        let below = settled.within in
        let model = works.same.model in
        let far = terms.end_in_range in
        record {
          upto = upto_now;
          opened = record {
            within = (let le = settling.opened.within in omega arith);
            from = λ number n at. at_places (λ x. IsHeldFrom (meaning_of x.model) least x) number n at
                (λ same. let P : M → Type 0 = λ x. IsHeldFrom (meaning_of x) least new in subst P (sym model) settled.from)
                (λ apart was. let f = settling.opened.from number n was in record { least = f.least; held = f.held; above = (let le = f.above in omega arith) });
            reached = elim settled.reached [
              | inr is ↦ elim settled.from.held.reached [
                | inl none ↦ absurd (let le = settling.opened.within in omega arith)
                | inr some ↦
                    (let P : M → ℕ → Type 0 = λ x b. HoldsMessageAt (meaning_of x) new b in
                    inr (place, new, here_now, subst (λ x. P x least) (sym model) (subst (λ b. P old.model b) (sym is) some)))
              ]
              | inl is ↦
                  (let R : ℕ → Type 0 = λ b. (b ≡ end_stamp terms.end) ⊎ HoldsSome (slice_set now place new) b in
                  subst R (sym is) (elim settling.opened.reached [
                    | inl end ↦ inl end
                    | inr h ↦ inr (moved h.0 h.1 h.2 h.3 (eqb h.0 place) refl)
                  ]))
            ];
          };
          idle = λ number n below_it at. at_places (λ x. IsIdle (meaning_of x.model) (home x) x.number least (data_of x)) number n at
              (λ same. let P : M → Type 0 = λ x. IsIdle (meaning_of x) (home new) new.number least (data_of new) in subst P (sym model) settled.idle)
              (λ apart was. idle-lower (meaning_of n.model) (home n) n.number least bound (data_of n) below (settling.idle number n (let ne = eqb-false number place apart in omega arith) was));
        }
      where
        moved : (number : ℕ) (n : NodeView M) → slice_get now number ≡ Some n → HoldsMessageAt (meaning_of n.model) n bound → (b : Bool) → eqb number place ≡ b → HoldsSome (slice_set now place new) bound
        moved number n at holds true h =
            let same = eqb-true number place h in
            let is : old ≡ n = same-some old n (sym here ∙ ap (slice_get now) (sym same) ∙ at) in
            let P : NodeView M → Type 0 = λ x. HoldsMessageAt (meaning_of x.model) x bound in
            let held : HoldsMessageAt (meaning_of old.model) new bound = works.held_on bound (subst P (sym is) holds) in
            let Q : M → Type 0 = λ x. HoldsMessageAt (meaning_of x) new bound in
            (place, new, here_now, subst Q (sym works.same.model) held)
        moved number n at holds false h = (number, n, there number h ∙ at, holds)
