-- A cycle that is refused.
use Rattle.std.proofs.Common.{◌≡◌, true, refl, ap}
use Rattle.std.specs.Prelude.{Err}
use Rattle.delta_exchange.specs.declared.memory.OutOfMemory.{OutOfMemory}
use Rattle.model_core.specs.Meaning.{Meaning}
use Rattle.sim_spec.specs.Standing.{CycleGives, spent}
use Rattle.cycle_core.specs.Standings.{HasCycled, WorldStandsAt}
use Rattle.cycle_core.specs.Worlds.{WorldView}

module _ {M : Type 0} (meaning_of : M → Meaning) (old new : WorldView M) (model : new.model ≡ old.model) (terms : new.terms ≡ old.terms) where
  -- a refusal leaves a world that is spent, wherever its objects are
  pub spent-cycled : (refused : OutOfMemory) → new.is_spent ≡ true → HasCycled meaning_of old (Err refused) new
  unfolding WorldStandsAt CycleGives
  spent-cycled refused is at there more = record { left = spent; stands = is; gives = refl; same_meaning = ap meaning_of model; same_terms = terms }
