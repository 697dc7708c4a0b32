-- A model under many seeds.
use Rattle.std.specs.Prelude.{◌≡◌, ℕ, ◌+◌, ◌%◌, ◌^◌, List, [], ◌∷◌, ◌++◌, map, None, IfSome}
use Rattle.std.specs.List.{flat_map, range_with_len}
use Rattle.model_core.specs.Meaning.{Meaning}
use Rattle.sim_spec.specs.declared.stop.Stop.{Stop}
use Rattle.sim_spec.specs.declared.stop.Stop.TheVariants.{End, Limit, Fault}
use Rattle.sim_spec.specs.declared.terms.Terms.{Terms}
use Rattle.replications.specs.declared.job.Job.{Job}
use Rattle.replications.specs.Ends.{RowsOf, rows_of_run, run_from_start}

-- what a model means under each seed, what its rows are then, the head line, how far its runs go, the first tick of the window,
-- and the seed of the first replication
pub record StudyOf : Type 0 where
  pub with_seed : ℕ → Meaning
  pub rows : ℕ → RowsOf
  pub head : List ℕ
  pub terms : Terms
  pub first_tick : ℕ
  pub first_seed : ℕ

-- the seed of a replication, counted from 0: 0 comes after the last one, 2^63 - 1
abbrev pub seed_at : ℕ → ℕ → ℕ
seed_at first_seed number = (first_seed + number) % 2 ^ 63

-- the rows of the run under a seed, and why it stops
abbrev pub rows_under : StudyOf → ℕ → List ℕ
rows_under s seed = rows_of_run (s.rows seed) (s.with_seed seed) s.terms s.first_tick seed

abbrev pub stop_under : StudyOf → ℕ → Stop
stop_under s seed = (run_from_start (s.with_seed seed) s.terms).stop

abbrev pub rows_at : StudyOf → ℕ → List ℕ
rows_at s number = rows_under s (seed_at s.first_seed number)

abbrev pub stop_at : StudyOf → ℕ → Stop
stop_at s number = stop_under s (seed_at s.first_seed number)

-- the rows of so many replications from one on, in order, and why each of them stops
unfoldable pub rows_between : StudyOf → ℕ → ℕ → List ℕ
rows_between s number many = flat_map (rows_at s) (range_with_len number many)

unfoldable pub stops_between : StudyOf → ℕ → ℕ → List Stop
stops_between s number many = map (stop_at s) (range_with_len number many)

-- the table of so many replications: the head line, and the rows of each of them
unfoldable pub table_text : StudyOf → ℕ → List ℕ
table_text s many = s.head ++ rows_between s 0 many

-- the graver of two stops: a fault, before the limit, before an end
abbrev pub graver : Stop → Stop → Stop
graver End second = second
graver Limit (Fault key code) = Fault key code
graver Limit other = Limit
graver (Fault key code) second = Fault key code

-- the gravest of some stops, and the end of a run where there is none
unfoldable pub gravest : List Stop → Stop
gravest [] = End
gravest (stop ∷ rest) = graver stop (gravest rest)

-- a replication was done, or there was no memory for it
pub record IsDone (s : StudyOf) (seed : ℕ) (job : Job) : Type 0 where
  pub rows : IfSome job.stop (λ _. job.rows.items ≡ rows_under s seed)
  pub stop : IfSome job.stop (λ stop. stop ≡ stop_under s seed)

-- replications from one on, in order
unfoldable pub AreDone : StudyOf → ℕ → List Job → Type 0
AreDone s number [] = Unit {0}
AreDone s number (job ∷ rest) = IsDone s (seed_at s.first_seed number) job × AreDone s (number + 1) rest

-- a replication is to be done
pub record IsToDo (own : ℕ) (job : Job) : Type 0 where
  pub seed : job.seed ≡ own
  pub rows : job.rows.items ≡ []
  pub stop : job.stop ≡ None

unfoldable pub AreToDo : ℕ → ℕ → List Job → Type 0
AreToDo first_seed number [] = Unit {0}
AreToDo first_seed number (job ∷ rest) = IsToDo (seed_at first_seed number) job × AreToDo first_seed (number + 1) rest

-- a job of the seed that it had, done
pub record Does (s : StudyOf) (old new : Job) : Type 0 where
  pub done : old.rows.items ≡ [] → IsDone s old.seed new
