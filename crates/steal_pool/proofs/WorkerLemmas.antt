-- What a worker has done, step by step.
use Rattle.std.proofs.Common.{◌≡◌, ◌<◌, ℕ, List, length, map, get_or, Vec, Global, refl, sym, ap, ◌∙◌, subst, arith}
use Rattle.std.specs.Prelude.{All}
use Rattle.std.specs.Vec.{with_item}
use Rattle.std.proofs.Math.Seq.{map-set_same}
use Rattle.std.proofs.lemmas.List.{get_or-map, length-map}
use Rattle.std.proofs.lemmas.List.Sums.{sum_by-set}
use Rattle.steal_pool.specs.declared.task.Task.{Task}
use Rattle.steal_pool.specs.declared.worker.Worker.{Worker}
use Rattle.steal_pool.specs.Ends.{End, Mark, mark, parts}
use Rattle.steal_pool.specs.Turns.{Does, IsOf}
use Rattle.steal_pool.specs.Workers.{AllOf, AllReady, Can, HasWorked, taken_at}

module _ {A B : Type 0} (f : A → B) where
  -- what holds of each value holds of the value at a place
  pub at-place : (P : B → Type 0) (xs : List A) (i : ℕ) (x : A) → i < length xs → x ≡ get_or xs i x → All P (map f xs) → P (f x)
  at-place P xs i x inside is all = subst P (get_or-map f xs i x (f x) inside ∙ ap f (sym is)) (all i (f x) (omega (arith, length-map xs f)))

  pub unmapped : (P : B → Type 0) (xs : List A) → All P (map f xs) → All (λ x. P (f x)) xs
  unmapped P xs all k d inside = subst P (get_or-map f xs k d (f d) inside) (all k (f d) (omega (arith, length-map xs f)))

module _ {T : Type 0} where
  pub same-mark : (old new : End T) → new.deque ≡ old.deque → new.knows.put ≡ old.knows.put → mark new ≡ mark old
  same-mark old new one two = cc

  module _ (turned : T → T → Type 0) where
    pub ready-kept : (ready : T → Type 0) (old new : Worker T) → HasWorked turned old new → AllReady ready old → AllReady ready new
    ready-kept ready old new worked all = record {
      own = subst (λ (one : Mark T). All (λ task. ready task.turn) one.put) (sym worked.own) all.own;
      others = subst (All (λ (one : Mark T). All (λ task. ready task.turn) one.put)) (sym worked.others) all.others;
    }

    of-kept : (turns : List T) (old new : Worker T) → HasWorked turned old new → AllOf turns old → AllOf turns new
    of-kept turns old new worked all = record {
      own = subst (λ (one : Mark T). All (IsOf turns) one.put) (sym worked.own) all.own;
      others = subst (All (λ (one : Mark T). All (IsOf turns) one.put)) (sym worked.others) all.others;
    }

    -- it has done the tasks of its own deque
    pub worked-own : (old : Worker T) (deque : End T) (done : Vec (Task T) Global) → deque.deque ≡ old.deque.deque → Does turned old.deque.knows deque.knows old.done.items done.items
        → HasWorked turned old (record old { deque = deque; done = done })
    worked-own old deque done same does = record {
      number = refl;
      own = same-mark old.deque deque same does.put;
      owner = does.parts;
      others = refl;
      thief = refl;
      counted = λ number. let counted = does.counted number in omega arith;
      of = λ turns all before. does.of turns all.own before;
    }

    -- it has done what it stole from one more deque
    pub worked-more : (old now : Worker T) (i : ℕ) (victim robbed : End T) (done : Vec (Task T) Global) → HasWorked turned old now → i < length now.victims.items
        → victim ≡ get_or now.victims.items i victim → robbed.deque ≡ victim.deque → Does turned victim.knows robbed.knows now.done.items done.items
        → HasWorked turned old (record now { victims = with_item now.victims i robbed; done = done })
    worked-more old now i victim robbed done worked inside is same does = record {
      number = worked.number;
      own = worked.own;
      owner = worked.owner;
      others = map-set_same mark now.victims.items i robbed victim (same-mark victim robbed same does.put ∙ ap mark is) ∙ worked.others;
      thief = map-set_same parts now.victims.items i robbed victim (does.parts ∙ ap parts is) ∙ worked.thief;
      counted = λ number.
          let sum = sum_by-set (taken_at number) now.victims.items i robbed victim inside in
          let here = ap (taken_at number) is in
          let counted = does.counted number in
          let before = worked.counted number in
          omega arith;
      of = λ turns all before.
          let now_of = of-kept turns old now worked all in
          does.of turns (at-place mark (λ (one : Mark T). All (IsOf turns) one.put) now.victims.items i victim inside is now_of.others) (worked.of turns all before);
    }

    -- it can still do what it could
    pub can-kept : (old new : Worker T) → HasWorked turned old new → Can old → Can new
    can-kept old new worked can =
        let many : length new.victims.items ≡ length old.victims.items = sym (length-map new.victims.items mark) ∙ ap length worked.others ∙ length-map old.victims.items mark in record {
          place = omega (arith, worked.number);
          few = omega arith;
          owner = omega (arith, worked.owner);
          thief = subst (All (λ many. many ≡ 1)) (sym worked.thief) can.thief;
        }
