-- The text of a simulation, whatever is to be told of it.
use Rattle.std.specs.Prelude.{◌≡◌, ℕ, Bool, false, not, ◌&&◌, List, [], ◌∷◌, ◌++◌, count_by, is_none}
use Rattle.event_key.specs.declared.key.Key.{Key}
use Rattle.model_core.specs.declared.note.Note.{Note}
use Rattle.model_core.specs.Meaning.{Meaning}
use Rattle.sim_spec.specs.declared.bucket.Bucket.{Bucket}
use Rattle.sim_spec.specs.declared.terms.Terms.{Terms}
use Rattle.sim_spec.specs.State.{State, Lawful, initial_state}
use Rattle.sim_spec.specs.Run.{run}
use Rattle.sim_spec.specs.Cycles.{cycles, cycles_for, records_of_buckets}
use Rattle.run_tally.specs.Tallies.{TotalsOf}
use Rattle.sim_io.specs.Texts.{record_lines, stop_line}
use Rattle.sim_io.specs.CycleTexts.{demo_line, text}
use Rattle.sim_text.specs.declared.telling.Telling.{Telling}

-- how many buckets met neither a fault nor the limit
abbrev pub is_whole : Bucket → Bool
is_whole b = is_none b.fault && not b.limited

abbrev pub whole_cycles : List Bucket → ℕ
whole_cycles bs = count_by is_whole bs

-- the stamp of the last record, and this one where there is none
unfoldable pub last_stamp : ℕ → List (Key × Note) → ℕ
last_stamp stamp [] = stamp
last_stamp stamp (told ∷ rest) = last_stamp told.0.stamp rest

-- the totals of the run, as these are told, and why it stopped
abbrev pub totals_text : Meaning → Terms → TotalsOf → State → List ℕ
totals_text m t totals s = totals (run m t s).records (run m t s).stop ++ stop_line m t (run m t s).last.count (run m t s).stop

-- a summary of the run and its cycles, and why it stopped
abbrev pub demo_text : Meaning → Terms → ℕ → State → List ℕ
demo_text m t n s =
    demo_line n (run m t s).last.count (whole_cycles (cycles m t s).buckets) (last_stamp 0 (run m t s).records)
    ++ stop_line m t (run m t s).last.count (run m t s).stop

-- the text of a simulation from a state
unfoldable pub text_from : Meaning → Terms → TotalsOf → Telling → State → List ℕ
text_from m t totals (Telling.Lines cycles) s = text m t cycles s
text_from m t totals Telling.Totals s = totals_text m t totals s
text_from m t totals (Telling.Demo n) s = demo_text m t n s

-- the text of a simulation from its start
abbrev pub text_from_start : Meaning → Terms → TotalsOf → Telling → List ℕ
text_from_start m t totals telling = text_from m t totals telling (initial_state m)

-- the records of the first cycles from a state, so many at most
unfoldable pub first_lines : Meaning → Terms → ℕ → State → List ℕ
first_lines m t most s = record_lines m (records_of_buckets (cycles_for most m t s).buckets)

-- a simulation from a state goes on from the state after its first cycles: what is told of them, and then from there on,
-- is its text, and it stops as it would have
pub record GoesOn (m : Meaning) (t : Terms) (most : ℕ) (s : State) : Type 0 where
  pub lawful : Lawful m t (cycles_for most m t s).last
  pub text : text m t false s ≡ first_lines m t most s ++ text m t false (cycles_for most m t s).last
  pub stop : (run m t s).stop ≡ (run m t (cycles_for most m t s).last).stop

abbrev pub GoesOnAfterCycles : Meaning → Terms → Type 0
GoesOnAfterCycles m t = (most : ℕ) (s : State) → Lawful m t s → GoesOn m t most s
