-- A token ring has one token, which goes round.
use Rattle.std.specs.Prelude.{◌≡◌, ℕ, ◌%◌, [], ◌∷◌}
use Rattle.model_core.specs.declared.event.Event.{Event}
use Rattle.random_streams.specs.declared.law.Law.{Law}
use Rattle.sim_spec.specs.declared.terms.Terms.{Terms}
use Rattle.sim_spec.specs.State.{State}
use Rattle.run_laws.specs.Reached.{Reaches}
use Rattle.own_model.specs.Rings.{ring_meaning}

-- one event is pending, at this station
pub record HasToken (s : State) (station : ℕ) : Type 0 where
  pub token : Event
  pub alone : s.pending ≡ token ∷ []
  pub there : token.key.dest ≡ station

-- in every state that a run reaches, by the number of its events
abbrev pub OneToken : Type 0
OneToken =
    (seed stations : ℕ) (hold : Law) (patience : ℕ) (t : Terms) (s : State)
    → Reaches (ring_meaning seed stations hold patience) t s → HasToken s (s.count % stations)
