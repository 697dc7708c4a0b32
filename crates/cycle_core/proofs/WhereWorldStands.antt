-- Worlds that stand for a state, or are spent.
use Rattle.std.proofs.Common.{◌≡◌, true, false, inl, inr, refl, sym, subst}
use Rattle.std.specs.Prelude.{Option, None}
use Rattle.event_key.specs.declared.key.Key.{Key}
use Rattle.model_core.specs.Meaning.{Meaning}
use Rattle.sim_spec.specs.Standing.{Standing, stands, spent, ended}
use Rattle.sim_spec.specs.State.{State}
use Rattle.cycle_core.specs.Standings.{WorldStandsAt}
use Rattle.cycle_core.specs.Worlds.{WorldView, StandsAt, CanCycle}

module _ {M : Type 0} (meaning_of : M → Meaning) (w : WorldView M) where
  -- where a world stands, if it isn't spent
  pub state-of : w.is_spent ≡ false → (at : Standing) × WorldStandsAt meaning_of w at → (s : State) × StandsAt (meaning_of w.model) w s
  unfolding WorldStandsAt
  state-of awake (stands s fault, there) = (s, there.0)
  state-of awake (spent, there) = absurd (cc)

  pub stands-for : (s : State) → StandsAt (meaning_of w.model) w s → (at : Standing) × WorldStandsAt meaning_of w at
  unfolding WorldStandsAt
  stands-for s there = (stands s w.fault, (there, refl))

  pub spent-there : w.is_spent ≡ true → (at : Standing) × WorldStandsAt meaning_of w at
  unfolding WorldStandsAt
  spent-there is = (spent, is)

  pub can-cycle : (at : Standing) → WorldStandsAt meaning_of w at → ended (meaning_of w.model) w.terms at ≡ None → CanCycle (meaning_of w.model) w
  unfolding WorldStandsAt
  can-cycle (stands s fault) there more =
      let P : Option (Key × _) → Type 0 = λ f. ended (meaning_of w.model) w.terms (stands s f) ≡ None in
      inr (s, there.0, subst P (sym there.1) more)
  can-cycle spent there more = inl there
