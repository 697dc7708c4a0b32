-- What was written, once it is handed on.
use Rattle.std.proofs.Common.{◌≡◌, ◌≤◌, ℕ, List, Result, Ok, Err, sym, ◌∙◌, subst, arith}
use Rattle.std.specs.Prelude.{OnOk, IfOk, IsErrAnd}
use Rattle.sim_io.specs.Taken.{Keeps}
use Rattle.sim_io.proofs.TakenLemmas.{Appends-kept}
use Rattle.model_core.specs.Meaning.{Meaning}
use Rattle.sim_spec.specs.declared.stop.Stop.{Stop}
use Rattle.sim_spec.specs.declared.terms.Terms.{Terms}
use Rattle.sim_spec.specs.Cycles.{cycles_for}
use Rattle.sim_spec.specs.Run.{run}
use Rattle.sim_spec.specs.State.{State, initial_state}
use Rattle.sim_io.specs.declared.streams.sink.Sink.{Ghosts as Sink}
use Rattle.sim_io.specs.Causes.{Rose}
use Rattle.sim_io.specs.Transfers.{AppendsPrefix}
use Rattle.run_tally.specs.Tallies.{TotalsOf}
use Rattle.sim_text.specs.declared.telling.Telling.{Telling}
use Rattle.sim_text.specs.declared.unfinished.Unfinished.{Unfinished}
use Rattle.sim_text.specs.declared.unfinished.Unfinished.TheVariants.{WriteFault, OutOfMemory}
use Rattle.sim_text.specs.WholeTexts.{first_lines}
use Rattle.sim_text.specs.Written.{HasWritten, HasSimulated}
use Rattle.sim_text.proofs.WrittenLemmas.{all_written, failed_before, written_before}
use Rattle.model_program.specs.Saved.{HasSaved}
use Rattle.model_program.proofs.SavingLemmas.{either_prefix, prefix_kept}

pub on_ok : {T E P : Type 0} (r : Result T E) → P → OnOk r P
on_ok (Ok x) p = p
on_ok (Err e) p = tt

-- what holds of a result holds of one that is the same, if it is one
pub ok_same : {T E : Type 0} (P : T → Type 0) (r outcome : Result T E) → OnOk r (r ≡ outcome) → IfOk outcome P → IfOk r P
ok_same {T} {E} P (Ok x) outcome same holds = let Q : Result T E → Type 0 = λ o. IfOk o P in subst Q (sym same) holds
ok_same P (Err e) outcome same holds = tt

rose_since : (before old new : ℕ) → before ≤ old → Rose old new → Rose before new
rose_since before old new later rose = omega arith

module _ {K : Type 0} (sink : Sink K) (before old new : K) where
  module _ {T : Type 0} (outcome : Result T Unfinished) (bytes : List ℕ) (written : HasWritten sink before old outcome bytes) where
    -- it could be handed on
    pub written_kept : Keeps (sink.told old) (sink.told new) → sink.faults new ≡ sink.faults old → HasWritten sink before new outcome bytes
    written_kept kept quiet = by outcome written
      where
        by : (r : Result T Unfinished) → HasWritten sink before old r bytes → HasWritten sink before new r bytes
        by (Ok x) w = record {
          text = record { whole = Appends-kept (sink.told before) (sink.told old) (sink.told new) bytes w.text.whole kept; prefix = tt };
          faults = record {
            fault = λ is. absurd (let clash : ⊥ = cc in clash);
            later = omega (arith, w.faults.later, quiet);
            quiet = quiet ∙ w.faults.quiet;
            no_memory = λ is. absurd (let clash : ⊥ = cc in clash);
          };
        }
        by (Err e) w = record {
          text = record { whole = tt; prefix = prefix_kept _ _ _ bytes w.text.prefix kept };
          faults = record {
            fault = λ is. subst (Rose (sink.faults before)) (sym quiet) (w.faults.fault is);
            later = omega (arith, w.faults.later, quiet);
            quiet = tt;
            no_memory = λ is. quiet ∙ w.faults.no_memory is;
          };
        }

    -- it couldn't
    pub written_back : (r : Result T Unfinished) → IsErrAnd r (λ e. e ≡ WriteFault) → Keeps (sink.told old) (sink.told new) → sink.faults old ≤ sink.faults new
        → Rose (sink.faults old) (sink.faults new) → HasWritten sink before new r bytes
    written_back r failed kept later rose =
        failed_before sink before new bytes r failed (prefix_kept _ _ _ bytes (either_prefix outcome _ _ bytes written.text.whole written.text.prefix) kept)
        (omega (arith, written.faults.later, later)) (rose_since _ _ _ written.faults.later rose)

  -- so it is with a simulation
  pub simulated_on : (m : Meaning) (t : Terms) (totals : TotalsOf) (telling : Telling) (from : State) (r outcome : Result Stop Unfinished) → HasSimulated sink before old outcome m t totals telling from
      → ((bytes : List ℕ) → HasWritten sink before old outcome bytes → HasWritten sink before new r bytes) → OnOk r (r ≡ outcome) → HasSimulated sink before new r m t totals telling from
  simulated_on m t totals telling from r outcome ran handed same =
      record { written = handed _ ran.written; stop = ok_same (λ stop. stop ≡ (run m t from).stop) r outcome same ran.stop }

-- a simulation wasn't saved
pub saved_before : {K : Type 0} (sink : Sink K) (old new : K) (m : Meaning) (t : Terms) (cycles : ℕ) (r : Result State Unfinished) → IsErrAnd r (λ e. e ≡ OutOfMemory)
    → AppendsPrefix (sink.told old) (sink.told new) (first_lines m t cycles (initial_state m)) → sink.faults new ≡ sink.faults old → HasSaved sink old new r m t cycles
saved_before sink old new m t cycles (Ok state) lacks part quiet = absurd lacks
saved_before sink old new m t cycles (Err e) lacks part quiet = record { written = written_before sink old new _ (Err e) lacks part quiet; state = tt }

module _ {K T : Type 0} (sink : Sink K) (old new : K) (m : Meaning) (t : Terms) (cycles : ℕ) where
  -- the records of the first cycles weren't all written
  pub saved_short : (e : Unfinished) (r : Result State Unfinished) → IsErrAnd r (λ y. y ≡ e) → HasWritten sink old new {T = T} (Err e) (first_lines m t cycles (initial_state m)) → HasSaved sink old new r m t cycles
  saved_short e (Ok state) is short = absurd is
  saved_short e (Err y) is short =
      let Saved : Unfinished → Type 0 = λ y. HasSaved sink old new (Err y) m t cycles in
      subst Saved (sym is) (record {
        written = record {
          text = record { whole = tt; prefix = short.text.prefix };
          faults = record { fault = λ is. short.faults.fault (cc); later = short.faults.later; quiet = tt; no_memory = λ is. short.faults.no_memory (cc) };
        };
        state = tt;
      })

  -- they were
  pub saved_so : (x : T) (state : State) → HasWritten sink old new (Ok x) (first_lines m t cycles (initial_state m)) → state ≡ (cycles_for cycles m t (initial_state m)).last
      → HasSaved sink old new (Ok state) m t cycles
  saved_so x state all is = record { written = all_written sink old new _ state all.text.whole all.faults.quiet; state = is }
