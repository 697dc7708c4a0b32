-- A node's part of a list of events.
use Rattle.std.proofs.Common.{Bool, List, [], ap, arith, cond, eq-eqb, eqb, eqb-true, false, ltb, ltb-false, ltb-true, refl, subst, sym, true, ℕ, ◌<◌, ◌∙◌, ◌∷◌, ◌≡◌}
use Rattle.std.proofs.lemmas.Bool.{eqb-false}
use Rattle.std.specs.List.{AllByRecursion as Each}
use Rattle.std.specs.Prelude.{filter}
use Rattle.key_order.specs.Ascending.{IsAscending, key_of}
use Rattle.key_order.proofs.OrderLemmas.{by-objects}
use Rattle.model_core.specs.Meaning.{Meaning}
use Rattle.model_core.specs.declared.event.Event.{Event}
use Rattle.sim_spec.specs.Replay.{events_at}
use Rattle.world_spec.specs.Share.{IsAtHome, IsHome, is_at}

-- an object's events are its events among those of its node
pub at-home : (home : ℕ → ℕ) (node object : ℕ) (es : List Event) → home object ≡ node → events_at object (filter (is_at home node) es) ≡ events_at object es
unfolding events_at
at-home home node object [] here = refl
at-home home node object (e ∷ es) here = by_tests (eqb (home e.key.dest) node) (eqb e.key.dest object) refl refl (at-home home node object es here)
  where
    by_tests : (a b : Bool) → eqb (home e.key.dest) node ≡ a → eqb e.key.dest object ≡ b → events_at object (filter (is_at home node) es) ≡ events_at object es
        → events_at object (cond a (e ∷ filter (is_at home node) es) (filter (is_at home node) es)) ≡ cond b (e ∷ events_at object es) (events_at object es)
    by_tests true b h g more = ap (λ c. cond c (e ∷ events_at object (filter (is_at home node) es)) (events_at object (filter (is_at home node) es))) g ∙ ap (λ xs. cond b (e ∷ xs) xs) more
    by_tests false false h g more = more
    by_tests false true h g more =
        let same : e.key.dest ≡ object = eqb-true e.key.dest object g in
        let at : home e.key.dest ≡ node = ap home same ∙ here in
        let yes = eq-eqb (home e.key.dest) node at in
        absurd (cc)

pub filter-at : (home : ℕ → ℕ) (node : ℕ) (es : List Event) → Each (λ (e : Event). home e.key.dest ≡ node) (filter (is_at home node) es)
filter-at home node [] = tt
filter-at home node (e ∷ es) = by_test (eqb (home e.key.dest) node) refl (filter-at home node es)
  where
    by_test : (b : Bool) → eqb (home e.key.dest) node ≡ b → Each (λ (e : Event). home e.key.dest ≡ node) (filter (is_at home node) es)
        → Each (λ (e : Event). home e.key.dest ≡ node) (cond b (e ∷ filter (is_at home node) es) (filter (is_at home node) es))
    by_test true h more = (eqb-true (home e.key.dest) node h, more)
    by_test false h more = more

module _ (m : Meaning) (home : ℕ → ℕ) (node : ℕ) where
  -- nothing waits at an object that lives elsewhere
  none_elsewhere : (object : ℕ) → (IsHome m home node object → ⊥) → (es : List Event) → Each (IsAtHome m home node) es → events_at object es ≡ []
  unfolding events_at
  none_elsewhere object far [] homed = refl
  none_elsewhere object far (e ∷ es) homed = by_test (eqb e.key.dest object) refl (none_elsewhere object far es homed.1)
    where
      by_test : (b : Bool) → eqb e.key.dest object ≡ b → events_at object es ≡ [] → cond b (e ∷ events_at object es) (events_at object es) ≡ []
      by_test true here rest = absurd (far (subst (IsHome m home node) (eqb-true e.key.dest object here) homed.0))
      by_test false there rest = rest

  -- lists in order, at home, with the same events at each object of the node are one list
  pub homed-same : (xs ys : List Event) → IsAscending xs → IsAscending ys → Each (IsAtHome m home node) xs → Each (IsAtHome m home node) ys
      → ((object : ℕ) → IsHome m home node object → events_at object xs ≡ events_at object ys) → xs ≡ ys
  unfolding events_at
  homed-same xs ys up down here there same = by-objects key_of xs ys up down (λ object. at_object object (eqb (home object) node) refl (ltb object m.objects) refl)
    where
      far_from : (object : ℕ) → (IsHome m home node object → ⊥) → events_at object xs ≡ events_at object ys
      far_from object far = none_elsewhere object far xs here ∙ sym (none_elsewhere object far ys there)

      at_object : (object : ℕ) (b : Bool) → eqb (home object) node ≡ b → (c : Bool) → ltb object m.objects ≡ c → events_at object xs ≡ events_at object ys
      at_object object true is true below = same object (ltb-true object m.objects below, eqb-true (home object) node is)
      at_object object true is false far = far_from object (λ at. (let low : object < m.objects = at.0 in let high = ltb-false object m.objects far in omega arith))
      at_object object false is c any = far_from object (λ at. eqb-false (home object) node is at.1)
