-- Dealing gives the messages back.
use Rattle.std.proofs.Common.{◌≡◌, ℕ, Bool, true, false, cond, List, [], ◌∷◌, map, eq-eqb, eqb, eqb-true, refl, sym, ap, ◌∙◌}
use Rattle.std.proofs.lemmas.Bool.{eqb-false, false_from_ne_true}
use Rattle.std.specs.Prelude.{filter}
use Rattle.model_core.specs.declared.event.Event.{Event}
use Rattle.object_log.specs.Dealing.{deal, first_of, rest_of, without_first}
use Rattle.object_log.specs.Flat.{goes_to}

module _ (home : ℕ → ℕ) where
  first-here : (e : Event) (es : List Event) → filter (goes_to home (home e.key.dest)) (e ∷ es) ≡ e ∷ filter (goes_to home (home e.key.dest)) es
  first-here e es = ap (λ b. cond b (e ∷ filter (goes_to home (home e.key.dest)) es) (filter (goes_to home (home e.key.dest)) es)) (eq-eqb (home e.key.dest) (home e.key.dest) refl)

  first-there : (to : ℕ) (e : Event) (es : List Event) → (to ≡ home e.key.dest → ⊥) → filter (goes_to home to) (e ∷ es) ≡ filter (goes_to home to) es
  first-there to e es apart = ap (λ b. cond b (e ∷ filter (goes_to home to) es) (filter (goes_to home to) es)) (false_from_ne_true (goes_to home to e) (λ yes. apart (sym (eqb-true (home e.key.dest) to yes))))

  pub deal-is : (es : List Event) (out : ℕ → List Event) → ((to : ℕ) → out to ≡ filter (goes_to home to) es) → deal (map (λ (e : Event). home e.key.dest) es) out ≡ es
  unfolding deal
  deal-is [] out chains = refl
  deal-is (e ∷ es) out chains =
      let node = home e.key.dest in
      let own : out node ≡ e ∷ filter (goes_to home node) es = chains node ∙ first-here e es in
      let more = deal-is es (without_first node out) (λ to. by_node to (eqb to node) refl own) in
      (λ i. first_of (own i) ∷ more i)
    where
      by_node : (to : ℕ) → (b : Bool) → eqb to (home e.key.dest) ≡ b → out (home e.key.dest) ≡ e ∷ filter (goes_to home (home e.key.dest)) es
          → cond b (rest_of (out (home e.key.dest))) (out to) ≡ filter (goes_to home to) es
      by_node to true h own = ap rest_of own ∙ ap (λ n. filter (goes_to home n) es) (sym (eqb-true to (home e.key.dest) h))
      by_node to false h own = chains to ∙ first-there to e es (eqb-false to (home e.key.dest) h)
