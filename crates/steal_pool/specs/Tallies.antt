-- What one who may take from a deque knows of it.
use Rattle.std.specs.Prelude.{◌≡◌, ◌≤◌, ◌++◌, ℕ, List, All, Contains, sum_by}
use Rattle.steal_pool.specs.declared.task.Task.{Task}
use Rattle.steal_pool.specs.declared.tally.Tally.{Tally}

-- the parts of the right to know all that was taken from a deque: one for each of 64 thieves at most, and one for its owner
abbrev pub WHOLE : ℕ
WHOLE = 65

module _ {T : Type 0} where
  abbrev pub tally : ℕ → List (Task T) → List (Task T) → Tally T
  tally parts put taken = record { parts = parts; put = put; taken = taken }

  -- what tasks weigh together
  abbrev pub weigh : (Task T → ℕ) → List (Task T) → ℕ
  weigh weight tasks = sum_by weight tasks

  -- how many tasks
  abbrev pub count : List (Task T) → ℕ
  count tasks = sum_by (λ _. 1) tasks

  -- one who has all parts has taken all that was put, however the tasks are weighed
  abbrev pub IsEmptied : Tally T → Type 0
  IsEmptied now = now.parts ≡ WHOLE → (weight : Task T → ℕ) → sum_by weight now.put ≡ sum_by weight now.taken

  -- one has taken some of the tasks that were put, and no more than that
  pub record IsNext (before : Tally T) (tasks : List (Task T)) (after : Tally T) : Type 0 where
    pub after_is : after ≡ tally before.parts before.put (before.taken ++ tasks)
    pub known : All (Contains before.put) tasks
    pub within : count after.taken ≤ count after.put
