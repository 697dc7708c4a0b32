-- What contracts see of a deque, and of a thief's pass to one.
use Rattle.std.specs.Prelude.{◌≡◌, ◌+◌, ◌-◌, ℕ, List, [], ◌++◌}
use Rattle.std.specs.declared.alloc.Global.{Global}
use Rattle.atomic_blocks.specs.Lent.{RowsId}
use Rattle.steal_pool.specs.declared.task.Task.{Task}
use Rattle.steal_pool.specs.declared.tally.Tally.{Tally}

-- which deque it is
abbrev pub DequeId : Type 0
DequeId = RowsId × Global

-- which deque it is, and what is known of it
pub record End (T : Type 0) : Type 0 where
  pub deque : DequeId
  pub knows : Tally T

-- which deque it is, and what was put in
pub record Mark (T : Type 0) : Type 0 where
  pub deque : DequeId
  pub put : List (Task T)

module _ {T : Type 0} where
  abbrev pub mark : End T → Mark T
  mark end = record { deque = end.deque; put = end.knows.put }

  abbrev pub parts : End T → ℕ
  parts end = end.knows.parts

  -- nothing was taken, and it has so many parts
  abbrev pub IsFresh : ℕ → End T → Type 0
  IsFresh many end = (end.knows.parts ≡ many) × (end.knows.taken ≡ [])

  -- once a thief has got a part
  abbrev pub without_part : End T → End T
  without_part end = record {
    deque = end.deque;
    knows = record { parts = end.knows.parts - 1; put = end.knows.put; taken = end.knows.taken };
  }

  -- once a thief has given its part back
  abbrev pub with_part_of : End T → End T → End T
  with_part_of end thief = record {
    deque = end.deque;
    knows = record { parts = end.knows.parts + thief.knows.parts; put = end.knows.put; taken = end.knows.taken ++ thief.knows.taken };
  }
