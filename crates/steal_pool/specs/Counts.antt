-- The rule of a deque.
use Rattle.std.specs.Prelude.{◌≡◌, ◌+◌, ◌<◌, ℕ, List, [], All, Contains, sum_by}
use Rattle.steal_pool.specs.declared.task.Task.{Task}
use Rattle.steal_pool.specs.declared.tally.Tally.{Tally}
use Rattle.steal_pool.specs.Tallies.{WHOLE}

module _ {T : Type 0} where
  -- one who has a part knows what was put, and one who has none has taken nothing
  pub record Agrees (put : List (Task T)) (one : Tally T) : Type 0 where
    pub knows : 0 < one.parts → one.put ≡ put
    pub spent : one.parts ≡ 0 → one.taken ≡ []

  -- What was put is what was taken and what still lies in the deque, however the tasks are weighed
  pub record Counted (items : List (Task T)) (all : List (Tally T)) : Type 0 where
    pub put : List (Task T)
    pub whole : sum_by (λ one. one.parts) all ≡ WHOLE
    pub counted : (weight : Task T → ℕ) → sum_by weight put ≡ sum_by (λ one. sum_by weight one.taken) all + sum_by weight items
    pub known : All (Contains put) items
    pub agreed : All (Agrees put) all
