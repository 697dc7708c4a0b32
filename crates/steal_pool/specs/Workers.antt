-- Workers: what they can do, and what they have done.
use Rattle.std.specs.Prelude.{◌≡◌, ◌+◌, ◌-◌, ◌%◌, ◌<◌, ◌≤◌, ℕ, List, [], All, length, map, nat_lt, slice_index_or, sum_by, if◌then◌else◌, OnOk}
use Rattle.steal_pool.specs.declared.worker.TheConstants.{MOST_WORKERS}
use Rattle.steal_pool.specs.declared.task.Task.{Task}
use Rattle.steal_pool.specs.declared.worker.Worker.{Worker}
use Rattle.steal_pool.specs.Tallies.{WHOLE, IsEmptied}
use Rattle.steal_pool.specs.Ends.{End, IsFresh, Mark, mark, parts}
use Rattle.steal_pool.specs.Turns.{Does, IsOf, IsDoneOf, times}

module _ {T : Type 0} where
  -- how often a number stands among what an end has taken
  abbrev pub taken_at : ℕ → End T → ℕ
  taken_at number end = times number end.knows.taken

  -- how often a number stands among what was put in a deque
  abbrev pub put_at : ℕ → End T → ℕ
  put_at number end = times number end.knows.put

  -- how often a number stands among what a worker has taken from its own deque, and from all
  abbrev pub own_taken : ℕ → Worker T → ℕ
  own_taken number worker = taken_at number worker.deque

  abbrev pub taken_by : ℕ → Worker T → ℕ
  taken_by number worker = taken_at number worker.deque + sum_by (taken_at number) worker.victims.items

  abbrev pub done_of : Worker T → List (Task T)
  done_of worker = worker.done.items

  -- how often a number stands among what it did
  abbrev pub done_by : ℕ → Worker T → ℕ
  done_by number worker = times number worker.done.items

  -- how often a number stands among what was put in its deque
  abbrev pub put_to : ℕ → Worker T → ℕ
  put_to number worker = put_at number worker.deque

  abbrev pub own_mark : Worker T → Mark T
  own_mark worker = mark worker.deque

  -- the deques to which a worker has passes
  abbrev pub marks_of : Worker T → List (Mark T)
  marks_of worker = map mark worker.victims.items

  -- a new pass to each of these deques, with one part
  pub record AreNew (marks : List (Mark T)) (victims : List (End T)) : Type 0 where
    pub to : map mark victims ≡ marks
    pub fresh : All (IsFresh 1) victims

  -- a pass to each of these deques, with one part
  pub record ArePasses (marks : List (Mark T)) (victims : List (End T)) : Type 0 where
    pub to : map mark victims ≡ marks
    pub one : All (λ many. many ≡ 1) (map parts victims)

  -- a worker has a part of each deque's count, and its own place among all
  pub record Can (worker : Worker T) : Type 0 where
    pub place : worker.number < length worker.victims.items
    pub few : length worker.victims.items ≤ MOST_WORKERS
    pub owner : 0 < worker.deque.knows.parts
    pub thief : All (λ many. many ≡ 1) (map parts worker.victims.items)

  -- each task that it may take can do its turn
  pub record AllReady (ready : T → Type 0) (worker : Worker T) : Type 0 where
    pub own : All (λ task. ready task.turn) (own_mark worker).put
    pub others : All (λ one. All (λ task. ready task.turn) one.put) (marks_of worker)

  -- each task that it may take has the turn of its number
  pub record AllOf (turns : List T) (worker : Worker T) : Type 0 where
    pub own : All (IsOf turns) (own_mark worker).put
    pub others : All (λ one. All (IsOf turns) one.put) (marks_of worker)

  pub record CanAll (ready : T → Type 0) (workers : List (Worker T)) : Type 0 where
    pub can : All Can workers
    pub ready_each : All (AllReady ready) workers

  -- all that was put in these deques can do its turn
  abbrev pub AreReady : (T → Type 0) → List (Mark T) → Type 0
  AreReady ready marks = All (λ one. All (λ task. ready task.turn) one.put) marks

  -- all that was put in these deques has the turn of its number
  abbrev pub AreOf : List T → List (Mark T) → Type 0
  AreOf turns marks = All (λ one. All (IsOf turns) one.put) marks

  -- how often a number stands among what was put in a deque
  abbrev pub put_in : ℕ → Mark T → ℕ
  put_in number one = times number one.put

  module _ (turned : T → T → Type 0) where
    -- A worker did what it took and kept it, and did nothing else
    pub record HasWorked (old new : Worker T) : Type 0 where
      pub number : new.number ≡ old.number
      pub own : own_mark new ≡ own_mark old
      pub owner : new.deque.knows.parts ≡ old.deque.knows.parts
      pub others : marks_of new ≡ marks_of old
      pub thief : map parts new.victims.items ≡ map parts old.victims.items
      pub counted : (number : ℕ) → done_by number new + taken_by number old ≡ done_by number old + taken_by number new
      pub of : (turns : List T) → AllOf turns old → All (IsDoneOf turned turns) old.done.items → All (IsDoneOf turned turns) new.done.items

    abbrev pub HasDone : Worker T → Worker T → Type 0
    HasDone old new = OnOk new.answer (HasWorked old new)

    -- all that workers did is of these turns
    abbrev pub AreDone : List T → List (Worker T) → Type 0
    AreDone turns workers = All (λ worker. All (IsDoneOf turned turns) worker.done.items) workers

    -- Workers of these deques did what they took and kept it, and did nothing else
    pub record HaveWorked (marks : List (Mark T)) (workers : List (Worker T)) : Type 0 where
      pub marks_are : map own_mark workers ≡ marks
      pub passes : All (λ worker. ArePasses marks worker.victims.items) workers
      pub owner : All (λ worker. worker.deque.knows.parts ≡ WHOLE - length marks) workers
      pub counted : (number : ℕ) → sum_by (done_by number) workers ≡ sum_by (taken_by number) workers
      pub of : (turns : List T) → AreOf turns marks → AreDone turns workers

    -- Workers did all that was put in these deques, and nothing else
    pub record HaveEnded (marks : List (Mark T)) (workers : List (Worker T)) : Type 0 where
      pub counted : (number : ℕ) → sum_by (done_by number) workers ≡ sum_by (put_in number) marks
      pub of : (turns : List T) → AreOf turns marks → AreDone turns workers

    -- it did what was left in its own deque
    pub record HasEnded (old new : Worker T) : Type 0 where
      pub does : Does turned old.deque.knows new.deque.knows old.done.items new.done.items
      pub all : IsEmptied new.deque.knows

  -- its deque got one part back; the rest of it stayed
  pub record HasGotBack (old new : Worker T) : Type 0 where
    pub own : own_mark new ≡ own_mark old
    pub part : new.deque.knows.parts ≡ old.deque.knows.parts + 1
    pub victims : new.victims ≡ old.victims
    pub done : new.done ≡ old.done

  -- the owners of deques know now as well of what went through these passes
  abbrev pub HaveLearnt : List (End T) → List (Worker T) → List (Worker T) → Type 0
  HaveLearnt passes old new =
      (number : ℕ) → sum_by (own_taken number) new ≡ sum_by (own_taken number) old + sum_by (taken_at number) passes

  -- so many tasks, of the numbers from 0 on, each once
  abbrev pub AreDealt : ℕ → List (End T) → Type 0
  AreDealt count deques = (number : ℕ) → sum_by (put_at number) deques ≡ (if nat_lt number count then 1 else 0)

  -- in a round of so many places a task comes to this one
  abbrev pub ComesTo : ℕ → ℕ → Task T → Type 0
  ComesTo places place task = task.number % places ≡ place

  -- in each deque are those that come to it
  abbrev pub AreInRound : ℕ → List (End T) → Type 0
  AreInRound places deques = (place : ℕ) (end : End T) → place < length deques → All (ComesTo places place) (slice_index_or deques place end).knows.put

  -- a worker before it works, which has a new pass to each of these deques
  pub record IsHired (marks : List (Mark T)) (worker : Worker T) : Type 0 where
    pub place : worker.number < length marks
    pub owner : IsFresh (WHOLE - length marks) worker.deque
    pub thief : AreNew marks worker.victims.items
    pub nothing : worker.done.items ≡ []

  -- each deque has its worker
  pub record AreHired (marks : List (Mark T)) (workers : List (Worker T)) : Type 0 where
    pub marks_are : map own_mark workers ≡ marks
    pub each : All (IsHired marks) workers
