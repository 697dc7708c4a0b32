-- Which turns tasks have, and what was done of them.
use Rattle.std.specs.Prelude.{◌≡◌, ◌+◌, ◌==◌, ℕ, List, All, count_by, slice_get, Option, Some, IsSomeAnd}
use Rattle.steal_pool.specs.declared.task.Task.{Task}
use Rattle.steal_pool.specs.declared.tally.Tally.{Tally}

module _ {T : Type 0} where
  -- how often a number stands among tasks
  abbrev pub times : ℕ → List (Task T) → ℕ
  times number tasks = count_by (λ task. task.number == number) tasks

  -- the task has the turn of its number
  abbrev pub IsOf : List T → Task T → Type 0
  IsOf turns task = slice_get turns task.number ≡ Some task.turn

  module _ (turned : T → T → Type 0) where
    -- a turn is the one of this number, which was done
    abbrev pub IsDoneAt : List T → ℕ → T → Type 0
    IsDoneAt turns number done = IsSomeAnd (slice_get turns number) (λ turn. turned turn done)

    -- the task has the turn of its number, which was done
    abbrev pub IsDoneOf : List T → Task T → Type 0
    IsDoneOf turns task = IsDoneAt turns task.number task.turn

    -- what stands at a place is the turn of its number, which was done
    abbrev pub AreRight : List T → List (Option T) → Type 0
    AreRight turns places = (number : ℕ) (turn : T) → slice_get places number ≡ Some (Some turn) → IsDoneAt turns number turn

    -- What was taken was done and kept, and nothing else was: from what was known and kept before to what is known and kept after
    pub record Does (before after : Tally T) (kept done : List (Task T)) : Type 0 where
      pub parts : after.parts ≡ before.parts
      pub put : after.put ≡ before.put
      pub counted : (number : ℕ) → times number done + times number before.taken ≡ times number kept + times number after.taken
      pub of : (turns : List T) → All (IsOf turns) before.put → All (IsDoneOf turns) kept → All (IsDoneOf turns) done

  -- a turn stands at the place
  abbrev pub IsFilled : List (Option T) → ℕ → Type 0
  IsFilled places number = (turn : T) × (slice_get places number ≡ Some (Some turn))
