-- Where a world stands in a simulation, in the words of every engine.
use Rattle.std.specs.Prelude.{◌≡◌, true, None, Result}
use Rattle.delta_exchange.specs.declared.memory.OutOfMemory.{OutOfMemory}
use Rattle.model_core.specs.Meaning.{Meaning}
use Rattle.sim_spec.specs.declared.bucket.Bucket.{Bucket}
use Rattle.sim_spec.specs.Standing.{Standing, stands, spent, ended, DoesCycles}
use Rattle.cycle_core.specs.Worlds.{WorldView, StandsAt}

module _ {M : Type 0} (meaning_of : M → Meaning) where
  -- a world stands for a state with the fault that it keeps, or it is spent
  unfoldable pub WorldStandsAt : WorldView M → Standing → Type 0
  WorldStandsAt w (stands s fault) = StandsAt (meaning_of w.model) w s × (w.fault ≡ fault)
  WorldStandsAt w spent = w.is_spent ≡ true

  -- it stands somewhere, and nothing has ended there
  pub record GoesOn (w : WorldView M) : Type 0 where
    pub at : Standing
    pub stands : WorldStandsAt w at
    pub more : ended (meaning_of w.model) w.terms at ≡ None

  -- from wherever it stood, it has done a cycle
  abbrev pub HasCycled : WorldView M → Result Bucket OutOfMemory → WorldView M → Type 0
  HasCycled = DoesCycles (λ (w : WorldView M). meaning_of w.model) (λ (w : WorldView M). w.terms) WorldStandsAt
