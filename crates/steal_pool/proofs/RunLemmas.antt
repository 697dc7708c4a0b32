-- What is said of all turns is said of the tasks that were dealt out.
use Rattle.std.proofs.Common.{◌≡◌, ◌<◌, ℕ, zero, suc, Bool, List, [], ◌∷◌, length, map, ap, ◌∙◌, subst, arith, cond, lt-ltb}
use Rattle.std.specs.Prelude.{All, Vec, slice_get, IsSomeAnd, sum_by, nat_lt, if◌then◌else◌}
use Rattle.std.specs.Vec.{with_items}
use Rattle.std.specs.declared.alloc.Global.{Global}
use Rattle.std.proofs.lemmas.List.{length-map, with_items_is}
use Rattle.std.proofs.lemmas.List.Elements.{All-get_or, All-map, All-weaker}
use Rattle.std.proofs.lemmas.Option.{get_or_from_slice_get, slice_get_within}
use Rattle.steal_pool.specs.declared.task.Task.{Task}
use Rattle.steal_pool.specs.declared.worker.Worker.{Worker}
use Rattle.steal_pool.specs.Ends.{End, Mark, mark}
use Rattle.steal_pool.specs.Turns.{IsDoneOf, IsOf}
use Rattle.steal_pool.specs.Workers.{AreDone, AreOf, AreReady, HaveEnded, done_by, own_mark, put_in, AreDealt}
use Rattle.steal_pool.proofs.TogetherLemmas.{sum-mapped}

module _ {T : Type 0} where
  pub dealt-of : (turns : List T) (deques : List (End T)) → All (λ deque. All (IsOf turns) deque.knows.put) deques → AreOf turns (map mark deques)
  dealt-of turns deques of = All-map (λ (one : Mark T). All (IsOf turns) one.put) mark deques of

  task-ready : (ready : T → Type 0) (turns : List T) → All ready turns → (task : Task T) → IsOf turns task → ready task.turn
  task-ready ready turns all task of =
      subst ready (get_or_from_slice_get turns task.number task.turn task.turn of) (All-get_or ready turns task.number task.turn (slice_get_within turns task.number task.turn of) all)

  pub dealt-ready : (ready : T → Type 0) (turns : List T) (marks : List (Mark T)) → All ready turns → AreOf turns marks → AreReady ready marks
  dealt-ready ready turns marks all of =
      All-weaker (λ (one : Mark T). All (IsOf turns) one.put) (λ (one : Mark T). All (λ task. ready task.turn) one.put)
      (λ one these. All-weaker (IsOf turns) (λ task. ready task.turn) (task-ready ready turns all) one.put these) marks of

  at-within : (P : T → Type 0) (turns : List T) (number : ℕ) → IsSomeAnd (slice_get turns number) P → number < length turns
  at-within P [] number there = absurd there
  at-within P (x ∷ xs) zero there = omega arith
  at-within P (x ∷ xs) (suc number) there = let rest = at-within P xs number there in omega arith

  pub done-within : (turned : T → T → Type 0) (turns : List T) (workers : List (Worker T)) → AreDone turned turns workers → All (λ worker. All (λ task. task.number < length turns) worker.done.items) workers
  done-within turned turns workers done =
      All-weaker (λ (worker : Worker T). All (IsDoneOf turned turns) worker.done.items) (λ (worker : Worker T). All (λ task. task.number < length turns) worker.done.items)
      (λ worker these. All-weaker (IsDoneOf turned turns) (λ task. task.number < length turns) (λ task one. at-within (λ turn. turned turn task.turn) turns task.number one) worker.done.items these) workers done

  pub done-all : (turned : T → T → Type 0) (turns : List T) (deques : List (End T)) (workers : List (Worker T)) → HaveEnded turned (map mark deques) workers
      → AreDealt (length turns) deques → (number : ℕ) → number < length turns → 0 < sum_by (done_by number) workers
  done-all turned turns deques workers ended once number inside =
      let counted = ended.counted number in
      let mapped = sum-mapped mark (put_in number) deques in
      let dealt = once number in
      let one : ◌≡◌ {A = ℕ} (if nat_lt number (length turns) then 1 else 0) 1 = ap (λ (b : Bool). cond b 1 0) (lt-ltb number (length turns) inside) in
      omega arith

  -- what was put in the deques stays what was dealt out
  pub same-marks : (marks : List (Mark T)) (all : Vec (Worker T) Global) (now new : List (Worker T)) → now ≡ all.items → map own_mark all.items ≡ marks → map own_mark new ≡ map own_mark now
      → map own_mark (with_items all new).items ≡ marks
  same-marks marks all now new is dealt stay =
      ap (map own_mark) (with_items_is all new (omega (arith, all.ok.0, ap length stay, ap length is, length-map new own_mark, length-map now own_mark))) ∙ stay ∙ ap (map own_mark) is ∙ dealt
