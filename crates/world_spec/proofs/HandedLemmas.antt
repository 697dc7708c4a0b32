-- What a node's commit hands out is its part of what is committed.
use Rattle.std.proofs.Common.{Bool, List, [], ap, arith, cond, eq-eqb, eqb, eqb-true, false, ltb, ltb-false, ltb-true, ne_eqb, refl, subst, sym, true, ℕ, ◌<◌, ◌∙◌, ◌∷◌, ◌≡◌}
use Rattle.std.proofs.lemmas.Bool.{eqb-false}
use Rattle.std.specs.List.{AllByRecursion as Each}
use Rattle.std.specs.Prelude.{Option, filter}
use Rattle.event_key.specs.declared.key.Key.{Key}
use Rattle.model_core.specs.Meaning.{Meaning}
use Rattle.model_core.specs.declared.event.Event.{Event}
use Rattle.sim_spec.specs.Cut.{events_of}
use Rattle.sim_spec.specs.Firing.{Firing}
use Rattle.key_order.specs.Ascending.{IsAscending}
use Rattle.sim_spec.specs.Replay.{done_at}
use Rattle.key_order.specs.Due.{is_due}
use Rattle.world_spec.specs.Parcels.{IsHandedOut, done_of}
use Rattle.world_spec.specs.Share.{IsAtHome, IsHome, NodeData}
use Rattle.sim_spec.proofs.PartLemmas.{Ascends-done}
use Rattle.key_order.proofs.AscendingLemmas.{Ascends-filter}
use Rattle.key_order.proofs.OrderLemmas.{by-objects}

-- an object's part of a node's part
own_at : (home : ℕ → ℕ) (node object : ℕ) (ds : List (Event × Firing)) → home object ≡ node → done_at object (done_of home node ds) ≡ done_at object ds
unfolding done_at
own_at home node object [] here = refl
own_at home node object (d ∷ ds) here = by_tests (eqb (home d.0.key.dest) node) (eqb d.0.key.dest object) refl refl (own_at home node object ds here)
  where
    by_tests : (a b : Bool) → eqb (home d.0.key.dest) node ≡ a → eqb d.0.key.dest object ≡ b → done_at object (done_of home node ds) ≡ done_at object ds
        → done_at object (cond a (d ∷ done_of home node ds) (done_of home node ds)) ≡ cond b (d ∷ done_at object ds) (done_at object ds)
    by_tests true b h bound more = ap (λ c. cond c (d ∷ done_at object (done_of home node ds)) (done_at object (done_of home node ds))) bound ∙ ap (λ xs. cond b (d ∷ xs) xs) more
    by_tests false false h bound more = more
    by_tests false true h bound more =
        let yes = eq-eqb (home d.0.key.dest) node (ap home (eqb-true d.0.key.dest object bound) ∙ here) in
        absurd (cc)

other_at : (home : ℕ → ℕ) (node object : ℕ) (ds : List (Event × Firing)) → (home object ≡ node → ⊥) → done_at object (done_of home node ds) ≡ []
unfolding done_at
other_at home node object [] far = refl
other_at home node object (d ∷ ds) far = by_tests (eqb (home d.0.key.dest) node) (eqb d.0.key.dest object) refl refl (other_at home node object ds far)
  where
    by_tests : (a b : Bool) → eqb (home d.0.key.dest) node ≡ a → eqb d.0.key.dest object ≡ b → done_at object (done_of home node ds) ≡ []
        → done_at object (cond a (d ∷ done_of home node ds) (done_of home node ds)) ≡ []
    by_tests false b h bound more = more
    by_tests true true h bound more = absurd (far (sym (ap home (eqb-true d.0.key.dest object bound)) ∙ eqb-true (home d.0.key.dest) node h))
    by_tests true false h bound more = ap (λ c. cond c (d ∷ done_at object (done_of home node ds)) (done_at object (done_of home node ds))) bound ∙ more

none_at : (P : Event → Type 0) (object : ℕ) (ds : List (Event × Firing)) → Each P (events_of ds) → ((e : Event) → P e → e.key.dest ≡ object → ⊥) → done_at object ds ≡ []
unfolding done_at
none_at P object [] all far = refl
none_at P object (d ∷ ds) all far =
    ap (λ b. cond b (d ∷ done_at object ds) (done_at object ds)) (ne_eqb d.0.key.dest object (far d.0 all.0)) ∙ none_at P object ds all.1 far

-- what a node hands out is its part of the whole
pub handed-is : (m : Meaning) (home : ℕ → ℕ) (node bound : ℕ) (cut : Option Key) (held : NodeData) (handed ds : List (Event × Firing)) → IsHandedOut m home node bound cut held handed
    → IsAscending (events_of ds) → Each (λ (e : Event). e.key.dest < m.objects) (events_of ds)
    → ((object : ℕ) → IsHome m home node object → filter (λ d. is_due bound cut d.0.key) (held.log object).done ≡ done_at object ds)
    → handed ≡ done_of home node ds
unfolding done_at
handed-is m home node bound cut held handed ds out up dests parts =
    by-objects (λ (d : Event × Firing). d.0.key) handed (done_of home node ds) (Ascends-done handed out.ordered)
    (Ascends-filter (λ (d : Event × Firing). d.0.key) (λ d. eqb (home d.0.key.dest) node) ds (Ascends-done ds up))
    (λ object. at_object object (ltb object m.objects) (eqb (home object) node) refl refl)
  where
    far_none : (object : ℕ) → (IsHome m home node object → ⊥) → done_at object handed ≡ []
    far_none object far = none_at (IsAtHome m home node) object handed out.homed (λ e at same. let P : ℕ → Type 0 = IsHome m home node in far (subst P same at))

    at_object : (object : ℕ) (a b : Bool) → ltb object m.objects ≡ a → eqb (home object) node ≡ b → done_at object handed ≡ done_at object (done_of home node ds)
    at_object object true true h k =
        let at : IsHome m home node object = (ltb-true object m.objects h, eqb-true (home object) node k) in
        out.parts object at ∙ parts object at ∙ sym (own_at home node object ds at.1)
    at_object object a false h k = far_none object (λ at. eqb-false (home object) node k at.1) ∙ sym (other_at home node object ds (eqb-false (home object) node k))
    at_object object false true h k =
        far_none object (λ at. let ge = ltb-false object m.objects h in let lt = at.0 in omega arith)
        ∙ sym (own_at home node object ds (eqb-true (home object) node k) ∙ none_at (λ (e : Event). e.key.dest < m.objects) object ds dests (λ e lt same. let ge = ltb-false object m.objects h in omega arith))
