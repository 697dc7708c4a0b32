-- The nodes of a world as they advance, one after another or at their seats.
use Rattle.std.proofs.Common.{◌≡◌, ℕ, List, refl, sym, ap, ◌∙◌, subst}
use Rattle.event_key.specs.Stamps.{end_stamp}
use Rattle.model_core.specs.Meaning.{Meaning}
use Rattle.sim_spec.specs.declared.terms.Terms.{Terms}
use Rattle.sim_spec.specs.State.{State}
use Rattle.world_spec.specs.WorldLaws.{WorldStepsLaw}
use Rattle.horizon_word.specs.Views.{WordId, new_seat}
use Rattle.node_core.specs.Nodes.{NodeView}
use Rattle.cycle_core.specs.Known.{AreKnown}
use Rattle.cycle_core.specs.Places.{AtEach}
use Rattle.cycle_core.specs.Works.{AllWorkOn}
use Rattle.cycle_core.specs.Worlds.{WorldView, AreNodesOf, StandsAt}
use Rattle.cycle_core.proofs.PlaceLemmas.{IsUpto}
use Rattle.cycle_core.proofs.WorldLemmas.{all-small, nodes-after, stands-on}
use Rattle.node_team.specs.Forks.{CanGo, HasRun, AllHaveRun}
use Rattle.node_team.specs.Teams.{IsFloorOf}
use Rattle.node_team.proofs.SeatingLemmas.{can-advance}

-- the first so many nodes have run
abbrev pub AreRunning : {M : Type 0} → (M → Meaning) → ℕ → ℕ → List (NodeView M) → List (NodeView M) → Type 0
AreRunning meaning_of ahead = IsUpto (λ old new. HasRun (meaning_of old.model) ahead old new)

module _ {M : Type 0} (meaning_of : M → Meaning) where
  -- nodes that have run have worked on
  pub run-works : (ahead : ℕ) (old new : List (NodeView M)) → AllHaveRun meaning_of ahead old new → AllWorkOn meaning_of old new
  run-works ahead old new run = record { many = run.many; pairs = λ place x y a b. (run.pairs place x y a b).works }

  module _ (w : WorldView M) where
    -- with new seats, whose floor is below their events, they can
    pub can-run : (s : State) → StandsAt (meaning_of w.model) w s → (word : WordId) (end floor : ℕ) → end ≡ end_stamp w.terms.end → AreKnown meaning_of w.nodes
        → AtEach (λ number n. IsFloorOf (meaning_of n.model) floor n) w.nodes → AtEach (λ number n. CanGo meaning_of word n (new_seat word floor end)) w.nodes
    can-run s stands word end floor is_end known floors number n at =
        let ends : end ≡ end_stamp n.terms.end = is_end ∙ ap (λ (t : Terms). end_stamp t.end) (sym (stands.has.nodes.each number n at).terms_is) in
        let small = all-small meaning_of w s stands known number n at in
        let P : ℕ → Type 0 = λ e. CanGo meaning_of word n (new_seat word floor e) in
        subst P (sym ends) (record { seat_of = refl; can = can-advance (meaning_of n.model) n word floor (known number n at) (floors number n at) small })

    module _ (ahead : ℕ) (nodes : List (NodeView M)) (run : AllHaveRun meaning_of ahead w.nodes nodes) where
      pub run-nodes : (s : State) → StandsAt (meaning_of w.model) w s → AreNodesOf w.model w.terms w.homes nodes
      run-nodes s stands = nodes-after meaning_of w.model w.terms w.homes w.nodes nodes (run-works ahead w.nodes nodes run) stands.has.nodes

      pub run-stands : WorldStepsLaw (meaning_of w.model) w.terms → (s : State) → StandsAt (meaning_of w.model) w s → StandsAt (meaning_of w.model) (record w { nodes = nodes }) s
      run-stands law s stands = stands-on meaning_of w nodes stands.has (run-works ahead w.nodes nodes run) law s stands
