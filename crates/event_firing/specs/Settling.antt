-- What an event comes to, before anything is done.
use Rattle.std.specs.Prelude.{ℕ, if◌then◌else◌}
use Rattle.model_core.specs.declared.effect.Outcome.{Outcome}
use Rattle.model_core.specs.declared.effect.Outcome.TheVariants.{Goes, Fails}
use Rattle.model_core.specs.declared.words.TheConstants.{ENDLESS_CHAIN}
use Rattle.sim_spec.specs.Firing.{has_endless_chain}

-- the model's fault, the fault of a chain without end in one tick, or the model's effect
abbrev pub settled : ℕ → Outcome → Outcome
settled stamp (Fails code) = Fails code
settled stamp (Goes x) = if has_endless_chain stamp x.sends then Fails ENDLESS_CHAIN else Goes x
