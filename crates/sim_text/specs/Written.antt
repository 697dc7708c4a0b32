-- What was written of a text, and what is told of it.
use Rattle.std.specs.Prelude.{◌≡◌, ℕ, ◌≤◌, List, Result, OnOk, OnErr, IfOk, IsErrOf}
use Rattle.sim_io.specs.Taken.{Appends}
use Rattle.model_core.specs.Meaning.{Meaning}
use Rattle.sim_spec.specs.declared.stop.Stop.{Stop}
use Rattle.sim_spec.specs.declared.terms.Terms.{Terms}
use Rattle.sim_spec.specs.Run.{run}
use Rattle.sim_spec.specs.State.{State}
use Rattle.run_tally.specs.Tallies.{TotalsOf}
use Rattle.sim_io.specs.declared.streams.sink.Sink.{Ghosts as Sink}
use Rattle.sim_io.specs.Causes.{Rose}
use Rattle.sim_io.specs.Transfers.{AppendsPrefix}
use Rattle.sim_text.specs.declared.telling.Telling.{Telling}
use Rattle.sim_text.specs.declared.unfinished.Unfinished.{Unfinished}
use Rattle.sim_text.specs.declared.unfinished.Unfinished.TheVariants.{WriteFault, OutOfMemory}
use Rattle.sim_text.specs.WholeTexts.{text_from}

module _ {K : Type 0} (sink : Sink K) (old new : K) where
  module _ {T : Type 0} (result : Result T Unfinished) where
    -- all of the text was taken, or a prefix of it where it is unfinished
    pub record WritesText (bytes : List ℕ) : Type 0 where
      pub whole : OnOk result (Appends (sink.told old) (sink.told new) bytes)
      pub prefix : OnErr result (AppendsPrefix (sink.told old) (sink.told new) bytes)

    -- a fault is told where a write failed, and nowhere else
    pub record TellsFaults : Type 0 where
      pub fault : IsErrOf result WriteFault → Rose (sink.faults old) (sink.faults new)
      pub later : sink.faults old ≤ sink.faults new
      pub quiet : OnOk result (sink.faults new ≡ sink.faults old)
      pub no_memory : IsErrOf result OutOfMemory → sink.faults new ≡ sink.faults old

    -- this text was to be written
    pub record HasWritten (bytes : List ℕ) : Type 0 where
      pub text : WritesText bytes
      pub faults : TellsFaults

  -- the text of the simulation from a state was to be written, and the result is why it stopped
  pub record HasSimulated (result : Result Stop Unfinished) (m : Meaning) (t : Terms) (totals : TotalsOf) (telling : Telling) (from : State) : Type 0 where
    pub written : HasWritten result (text_from m t totals telling from)
    pub stop : IfOk result (λ stop. stop ≡ (run m t from).stop)
