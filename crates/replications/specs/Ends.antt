-- How a run ended, and what rows say of it.
use Rattle.std.specs.Prelude.{ℕ, List}
use Rattle.event_key.specs.declared.key.Key.{Key}
use Rattle.model_core.specs.declared.note.Note.{Note}
use Rattle.model_core.specs.Meaning.{Meaning}
use Rattle.sim_spec.specs.declared.terms.Terms.{Terms}
use Rattle.sim_spec.specs.Run.{Run, run}
use Rattle.sim_spec.specs.State.{initial_state}
use Rattle.replications.specs.declared.rows.RunEnd.{RunEnd}

-- what rows say of a run, from the first tick of a window on: by the terms, how the run ended, and its records
abbrev pub RowsOf : Type 0
RowsOf = ℕ → Terms → RunEnd → List (Key × Note) → List ℕ

abbrev pub end_of : ℕ → Run → RunEnd
end_of seed r = record { seed = seed; events = r.last.count; stop = r.stop }

-- the run of a model from its start
abbrev pub run_from_start : Meaning → Terms → Run
run_from_start m t = run m t (initial_state m)

-- the rows of the run of a model from its start, under this seed
unfoldable pub rows_of_run : RowsOf → Meaning → Terms → ℕ → ℕ → List ℕ
rows_of_run rows m t first_tick seed = let r = run_from_start m t in rows first_tick t (end_of seed r) r.records
