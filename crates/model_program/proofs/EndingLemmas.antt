-- How a command that runs a model ends, and what it answers so.
use Rattle.std.proofs.Common.{◌≡◌, Bool, Result, Ok, Err, refl, sym, ap, subst}
use Rattle.model_core.specs.Meaning.{Meaning}
use Rattle.sim_spec.specs.declared.stop.Stop.{Stop}
use Rattle.sim_spec.specs.declared.terms.Terms.{Terms}
use Rattle.sim_spec.specs.State.{State}
use Rattle.run_tally.specs.Tallies.{TotalsOf}
use Rattle.sim_io.specs.declared.streams.sink.Sink.{Ghosts as Sink}
use Rattle.sim_text.specs.declared.telling.Telling.{Telling}
use Rattle.sim_text.specs.declared.unfinished.Unfinished.{Unfinished}
use Rattle.sim_text.specs.WholeTexts.{text_from}
use Rattle.sim_text.specs.Written.{HasSimulated}
use Rattle.model_program.specs.Handed.{HandsOn}
use Rattle.program_answers.specs.declared.ending.Ending.{Ending}
use Rattle.program_answers.specs.declared.ending.Ending.TheVariants.{Stopped}
use Rattle.program_answers.specs.Answer.{status_of_stop}
use Rattle.program_answers.specs.Answered.{EndsModel}
use Rattle.program_answers.specs.Endings.{ending_of}
use Rattle.program_answers.proofs.EndingLemmas.{stop_of_model, whole_ends, write_fault_ends, no_memory_ends}
use Rattle.model_program.specs.Answer.{answer_from}

module _ {K : Type 0} (sink : Sink K) (old new : K) where
  -- a simulation ran, and what was written of it was handed on
  pub simulated_ends : (m : Meaning) (t : Terms) (totals : TotalsOf) (telling : Telling) (from : State) (outcome : Result Stop Unfinished) → HasSimulated sink old new outcome m t totals telling from → HandsOn sink new outcome
      → EndsModel sink old new (ending_of outcome) (answer_from telling (record { meaning = m; terms = t; totals = totals }) from)
  simulated_ends m t totals telling from (Ok stop) ran handed =
      whole_ends sink old new (Stopped stop) _ (stop_of_model stop) ran.written.text.whole (ap status_of_stop ran.stop) refl ran.written.faults.quiet (λ _. handed.whole)
  simulated_ends m t totals telling from (Err Unfinished.WriteFault) ran handed = write_fault_ends sink old new _ ran.written.text.prefix (ran.written.faults.fault refl)
  simulated_ends m t totals telling from (Err Unfinished.OutOfMemory) ran handed =
      no_memory_ends sink old new _ ran.written.text.prefix (ran.written.faults.no_memory refl) (λ _. handed.no_memory refl)

  -- where lines are told it plays no part how totals are
  pub lines_simulated : (m : Meaning) (t : Terms) (one other : TotalsOf) (cycles : Bool) (from : State) (outcome : Result Stop Unfinished) → HasSimulated sink old new outcome m t one (Telling.Lines cycles) from
      → HasSimulated sink old new outcome m t other (Telling.Lines cycles) from
  unfolding text_from
  lines_simulated m t one other cycles from outcome ran = record { written = ran.written; stop = ran.stop }

  -- so the program ends, and tells of it what was asked for
  pub run_ends : (m : Meaning) (t : Terms) (totals : TotalsOf) (telling told : Telling) (from : State) (outcome : Result Stop Unfinished) (ending : Ending) → HasSimulated sink old new outcome m t totals telling from → HandsOn sink new outcome
      → ending ≡ ending_of outcome → telling ≡ told → EndsModel sink old new ending (answer_from told (record { meaning = m; terms = t; totals = totals }) from)
  run_ends m t totals telling told from outcome ending ran handed ends asked =
      subst (λ e. EndsModel sink old new e (answer_from told (record { meaning = m; terms = t; totals = totals }) from)) (sym ends)
      (subst (λ telling. EndsModel sink old new (ending_of outcome) (answer_from telling (record { meaning = m; terms = t; totals = totals }) from)) asked (simulated_ends m t totals telling from outcome ran handed))
