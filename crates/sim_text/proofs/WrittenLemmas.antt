-- What was written, by how it ended.
use Rattle.std.proofs.Common.{◌≡◌, ℕ, ◌≤◌, List, [], Result, Ok, Err, refl, subst, arith}
use Rattle.std.specs.Prelude.{IsErrAnd}
use Rattle.sim_io.specs.Taken.{Taken, Appends}
use Rattle.sim_io.proofs.TakenLemmas.{Appends-nil}
use Rattle.model_core.specs.Meaning.{Meaning}
use Rattle.sim_spec.specs.declared.stop.Stop.{Stop}
use Rattle.sim_spec.specs.declared.terms.Terms.{Terms}
use Rattle.sim_spec.specs.State.{State}
use Rattle.run_tally.specs.Tallies.{TotalsOf}
use Rattle.sim_io.specs.declared.streams.sink.Sink.{Ghosts as Sink}
use Rattle.sim_io.specs.Causes.{Rose}
use Rattle.sim_io.specs.Transfers.{AppendsPrefix}
use Rattle.sim_text.specs.declared.telling.Telling.{Telling}
use Rattle.sim_text.specs.declared.unfinished.Unfinished.{Unfinished}
use Rattle.sim_text.specs.declared.unfinished.Unfinished.TheVariants.{WriteFault, OutOfMemory}
use Rattle.sim_text.specs.WholeTexts.{text_from}
use Rattle.sim_text.specs.Written.{HasWritten, HasSimulated}

-- nothing was written yet
pub no_prefix : (told : Taken) (bytes : List ℕ) → AppendsPrefix told told bytes
no_prefix told bytes = ([], bytes, refl, Appends-nil told)

-- no write had failed before
pub rose_after : (old mid new : ℕ) → mid ≡ old → Rose mid new → Rose old new
rose_after old mid new same rose = subst (λ n. Rose n new) same rose

module _ {K : Type 0} (sink : Sink K) (old new : K) where
  module _ {T : Type 0} (text : List ℕ) where
    -- all was written
    pub all_written : (value : T) → Appends (sink.told old) (sink.told new) text → sink.faults new ≡ sink.faults old
        → HasWritten sink old new {T = T} (Ok value) text
    all_written value all same = record {
      text = record { whole = all; prefix = tt };
      faults = record { fault = λ is. absurd (let clash : ⊥ = cc in clash); later = omega (arith, same); quiet = same; no_memory = λ is. absurd (let clash : ⊥ = cc in clash) };
    }

    -- there was no memory left before
    pub written_before : (r : Result T Unfinished) → IsErrAnd r (λ e. e ≡ OutOfMemory) → AppendsPrefix (sink.told old) (sink.told new) text
        → sink.faults new ≡ sink.faults old
        → HasWritten sink old new r text
    written_before (Ok value) lacks part same = absurd lacks
    written_before (Err e) lacks part same = record {
      text = record { whole = tt; prefix = part };
      faults = record { fault = λ is. absurd (let clash : ⊥ = cc in clash); later = omega (arith, same); quiet = tt; no_memory = λ _. same };
    }

    -- a write failed before
    pub failed_before : (r : Result T Unfinished) → IsErrAnd r (λ e. e ≡ WriteFault) → AppendsPrefix (sink.told old) (sink.told new) text
        → sink.faults old ≤ sink.faults new
        → Rose (sink.faults old) (sink.faults new) → HasWritten sink old new r text
    failed_before (Ok value) failed part later rose = absurd failed
    failed_before (Err e) failed part later rose = record {
      text = record { whole = tt; prefix = part };
      faults = record { fault = λ _. rose; later = later; quiet = tt; no_memory = λ is. absurd (let clash : ⊥ = cc in clash) };
    }

  module _ (m : Meaning) (t : Terms) (totals : TotalsOf) (telling : Telling) (from : State) where
    -- so it is with the text of a simulation
    pub simulated_before : (r : Result Stop Unfinished) → IsErrAnd r (λ e. e ≡ OutOfMemory)
        → AppendsPrefix (sink.told old) (sink.told new) (text_from m t totals telling from)
        → sink.faults new ≡ sink.faults old → HasSimulated sink old new r m t totals telling from
    simulated_before (Ok stop) lacks part same = absurd lacks
    simulated_before (Err e) lacks part same = record { written = written_before _ (Err e) lacks part same; stop = tt }

    pub simulated_failed : (r : Result Stop Unfinished) → IsErrAnd r (λ e. e ≡ WriteFault)
        → AppendsPrefix (sink.told old) (sink.told new) (text_from m t totals telling from)
        → sink.faults old ≤ sink.faults new → Rose (sink.faults old) (sink.faults new) → HasSimulated sink old new r m t totals telling from
    simulated_failed (Ok stop) failed part later rose = absurd failed
    simulated_failed (Err e) failed part later rose = record { written = failed_before _ (Err e) failed part later rose; stop = tt }
