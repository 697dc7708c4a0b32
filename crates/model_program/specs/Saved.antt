-- A simulation that is saved.
use Rattle.std.specs.Prelude.{◌≡◌, ℕ, Result, IfOk}
use Rattle.model_core.specs.Meaning.{Meaning}
use Rattle.sim_spec.specs.declared.terms.Terms.{Terms}
use Rattle.sim_spec.specs.Cycles.{cycles_for}
use Rattle.sim_spec.specs.State.{State, initial_state}
use Rattle.sim_io.specs.declared.streams.sink.Sink.{Ghosts as Sink}
use Rattle.sim_text.specs.declared.unfinished.Unfinished.{Unfinished}
use Rattle.sim_text.specs.WholeTexts.{first_lines}
use Rattle.sim_text.specs.Written.{HasWritten}

-- the records of the first cycles were to be written, and the result is the state after them
pub record HasSaved {K : Type 0} (sink : Sink K) (old new : K) (result : Result State Unfinished) (m : Meaning) (t : Terms) (cycles : ℕ) : Type 0 where
  pub written : HasWritten sink old new result (first_lines m t cycles (initial_state m))
  pub state : IfOk result (λ state. state ≡ (cycles_for cycles m t (initial_state m)).last)
