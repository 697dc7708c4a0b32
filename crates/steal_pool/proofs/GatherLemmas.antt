-- What a deque knows once it got a thief's pass back.
use Rattle.std.proofs.Common.{◌≡◌, ◌+◌, ◌-◌, ◌<◌, ◌≤◌, ℕ, List, [], ◌∷◌, length, map, drop, get_or, set, refl, sym, ap, ◌∙◌, subst, arith, cond, eqb}
use Rattle.std.specs.Prelude.{All, sum_by}
use Rattle.std.specs.List.{AllWithin, AllZip}
use Rattle.std.specs.Prelude.{Vec, sum}
use Rattle.std.specs.declared.alloc.Global.{Global}
use Rattle.std.proofs.Math.Seq.{map-set_same}
use Rattle.std.proofs.lemmas.List.{get_or-map, get_or-set_other, length-map, length-set}
use Rattle.std.proofs.lemmas.List.Elements.{All-set, AllWithin-more_set, AllZip-get_or}
use Rattle.std.proofs.lemmas.Slice.Zip.{AllZip-long}
use Rattle.std.proofs.lemmas.List.Sums.{sum-map, sum_by-append, sum_by-cons, sum_by-set}
use Rattle.steal_pool.specs.declared.task.Task.{Task}
use Rattle.steal_pool.specs.declared.worker.Worker.{Worker}
use Rattle.steal_pool.specs.Ends.{End, mark, with_part_of}
use Rattle.steal_pool.specs.Tallies.{WHOLE}
use Rattle.steal_pool.specs.Workers.{ArePasses, HasGotBack, done_of, own_mark, own_taken, taken_at, taken_by}
use Rattle.steal_pool.proofs.PlaceLemmas.{Upto, from-place, upto-length, upto-next, zip-map}
use Rattle.steal_pool.proofs.RuleLemmas.{no-sum}

module _ {A : Type 0} where
  sum-both : (f g : A → ℕ) (xs : List A) → sum_by (λ x. f x + g x) xs ≡ sum_by f xs + sum_by g xs
  sum-both f g [] = refl
  sum-both f g (x ∷ xs) = let rest = sum-both f g xs in omega (arith, sum_by-cons f x xs, sum_by-cons g x xs, sum_by-cons (λ z. f z + g z) x xs)

  zip-sum : (R : A → A → Type 0) (f : A → ℕ) → ((x y : A) → R x y → f y ≡ f x) → (xs ys : List A) → AllZip R xs ys → sum_by f ys ≡ sum_by f xs
  zip-sum R f same xs ys zip = sym (sum-map f ys) ∙ ap sum (zip-map R f same xs ys zip) ∙ sum-map f xs

module _ {T : Type 0} where
  pub got-back : (worker : Worker T) (victim deque : End T) → deque ≡ with_part_of worker.deque victim → victim.knows.parts ≡ 1 → HasGotBack worker (record worker { deque = deque })
  got-back worker victim deque is one = record {
    own = ap mark is;
    part = ap (λ (end : End T). end.knows.parts) is ∙ ap (λ many. worker.deque.knows.parts + many) one;
    victims = refl;
    done = refl;
  }

  pub taken-back : (number : ℕ) (worker : Worker T) (victim deque : End T) → deque ≡ with_part_of worker.deque victim → taken_at number deque ≡ own_taken number worker + taken_at number victim
  taken-back number worker victim deque is =
      ap (taken_at number) is ∙ sum_by-append (λ (task : Task T). cond (eqb task.number number) 1 0) worker.deque.knows.taken victim.knows.taken

  -- one more deque got a pass back
  pub sum-back : (number : ℕ) (workers : List (Worker T)) (i : ℕ) (worker : Worker T) (victim deque : End T) → i < length workers → worker ≡ get_or workers i worker → deque ≡ with_part_of worker.deque victim
      → sum_by (own_taken number) (set workers i (record worker { deque = deque })) ≡ sum_by (own_taken number) workers + taken_at number victim
  sum-back number workers i worker victim deque inside here is =
      let one = taken-back number worker victim deque is in
      let sum = sum_by-set (own_taken number) workers i (record worker { deque = deque }) worker inside in
      let old = ap (own_taken number) here in
      omega arith

  -- the pass that comes next is one to the deque of the worker at that place
  pub comes-next : (old now : List (Worker T)) (i : ℕ) (victim : End T) (left : List (End T)) → Upto HasGotBack i old now → map mark (victim ∷ left) ≡ drop i (map own_mark old)
      → (i < length now) × (map mark left ≡ drop (i + 1) (map own_mark old)) × (get_or (map own_mark old) i (mark victim) ≡ mark victim)
  comes-next old now i victim left upto to =
      let here = from-place (map own_mark old) i (mark victim) (map mark left) to in
      (omega (arith, length-map old own_mark, upto-length HasGotBack i old now upto), here.1, here.2)

  pub its-owner : (old now : List (Worker T)) (i : ℕ) (worker : Worker T) (victim : End T) (left : List (End T)) → Upto HasGotBack i old now → map mark (victim ∷ left) ≡ drop i (map own_mark old)
      → worker ≡ get_or now i worker → (worker ≡ get_or old i worker) × (mark victim ≡ own_mark worker)
  its-owner old now i worker victim left upto to is =
      let next = comes-next old now i victim left upto to in
      let same = is ∙ upto-next HasGotBack i old now worker upto in
      let inside : i < length old = omega (arith, upto-length HasGotBack i old now upto) in
      (same, sym next.2 ∙ get_or-map own_mark old i worker (mark victim) inside ∙ ap own_mark (sym same))

  -- the workers before this place gave all their passes back, and the others none
  pub record Returning (place : ℕ) (old now : List (Worker T)) : Type 0 where
    pub marks : map own_mark now ≡ map own_mark old
    pub done : map done_of now ≡ map done_of old
    pub parts : All (λ worker. worker.deque.knows.parts ≡ (WHOLE - length old) + place) now
    pub empty : AllWithin (λ worker. worker.victims.items ≡ []) now 0 place
    pub left : AllWithin (λ worker. ArePasses (map own_mark old) worker.victims.items) now place (length old)
    pub counted : (number : ℕ) → sum_by (taken_by number) now ≡ sum_by (taken_by number) old

  pub returning-none : (old : List (Worker T)) → All (λ worker. ArePasses (map own_mark old) worker.victims.items) old
      → All (λ worker. worker.deque.knows.parts ≡ WHOLE - length old) old → Returning 0 old old
  returning-none old passes many = record {
    marks = refl;
    done = refl;
    parts = λ k d inside. let here = many k d inside in omega arith;
    empty = λ k d low high. absurd (omega arith);
    left = λ k d low high. passes k d high;
    counted = λ number. refl;
  }

  -- what a worker has taken with its passes
  passes_taken : ℕ → Worker T → ℕ
  passes_taken number worker = sum_by (taken_at number) worker.victims.items

  split-taken : (number : ℕ) (workers : List (Worker T)) → sum_by (taken_by number) workers ≡ sum_by (own_taken number) workers + sum_by (passes_taken number) workers
  unfolding passes_taken
  split-taken number workers = sum-both (own_taken number) (passes_taken number) workers

  module _ (place : ℕ) (old now new : List (Worker T)) (worker : Worker T) (none : Vec (End T) Global) where
    abbrev half : List (Worker T)
    half = set now place (record worker { victims = none })

    pub half-marks : worker ≡ get_or now place worker → map own_mark half ≡ map own_mark now
    half-marks is = map-set_same own_mark now place (record worker { victims = none }) worker (ap own_mark is)

    pub returning-more : Returning place old now → place < length old → worker ≡ get_or now place worker → none.items ≡ [] → AllZip HasGotBack half new
        → ((number : ℕ) → sum_by (own_taken number) new ≡ sum_by (own_taken number) half + sum_by (taken_at number) worker.victims.items) → Returning (place + 1) old new
    unfolding passes_taken
    returning-more before below is empty zip counted =
        let many : length now ≡ length old = sym (length-map now own_mark) ∙ ap length before.marks ∙ length-map old own_mark in
        let long : length half ≡ length now = length-set now place (record worker { victims = none }) in
        let all : length new ≡ length half = AllZip-long HasGotBack half new zip in
        let P : Worker T → Type 0 = λ each. each.victims.items ≡ [] in
        let Q : Worker T → Type 0 = λ each. ArePasses (map own_mark old) each.victims.items in
        let R : Worker T → Type 0 = λ each. each.deque.knows.parts ≡ (WHOLE - length old) + place in
        let parts_here : R worker = subst R (sym is) (before.parts place worker (omega arith)) in
        let half_parts = All-set R now place (record worker { victims = none }) parts_here before.parts in
        let half_empty = AllWithin-more_set now place (record worker { victims = none }) (omega arith) P before.empty empty in record {
          marks = zip-map HasGotBack own_mark (λ x y back. back.own) half new zip ∙ half-marks is ∙ before.marks;
          done = zip-map HasGotBack done_of (λ x y back. ap (λ v. v.items) back.done) half new zip
              ∙ map-set_same done_of now place (record worker { victims = none }) worker (ap done_of is) ∙ before.done;
          parts = λ k d inside.
              let back = AllZip-get_or HasGotBack half new k d d zip (omega arith) in
              let was = half_parts k d (omega arith) in
              let part = back.part in
              omega arith;
          empty = λ k d low high.
              let back = AllZip-get_or HasGotBack half new k d d zip (omega arith) in
              ap (λ v. v.items) back.victims ∙ half_empty k d low high;
          left = λ k d low high.
              let back = AllZip-get_or HasGotBack half new k d d zip (omega arith) in
              let other = get_or-set_other now place k (record worker { victims = none }) d (λ (same : k ≡ place). absurd (omega arith)) in
              subst (ArePasses (map own_mark old)) (sym (ap (λ v. v.items) (back.victims ∙ ap (λ (each : Worker T). each.victims) other))) (before.left k d (omega arith) high);
          counted = λ number.
              let own_set = sum_by-set (own_taken number) now place (record worker { victims = none }) worker (omega arith) in
              let own_is = ap (own_taken number) is in
              let passes_set = sum_by-set (passes_taken number) now place (record worker { victims = none }) worker (omega arith) in
              let passes_is = ap (passes_taken number) is in
              let nothing : passes_taken number (record worker { victims = none }) ≡ 0 = ap (sum_by (taken_at number)) empty in
              let same = zip-sum HasGotBack (passes_taken number) (λ x y back. ap (λ v. sum_by (taken_at number) v.items) back.victims) half new zip in
              let these = counted number in
              let all_before = before.counted number in
              omega (arith, split-taken number new, split-taken number now);
        }

  pub all-returned : (old now : List (Worker T)) (place : ℕ) → Returning place old now → length old ≤ place → (number : ℕ) → sum_by (own_taken number) now ≡ sum_by (taken_by number) old
  unfolding passes_taken
  all-returned old now place all far number =
      let many : length now ≡ length old = sym (length-map now own_mark) ∙ ap length all.marks ∙ length-map old own_mark in
      let none = no-sum (passes_taken number) now (λ k d inside. ap (sum_by (taken_at number)) (all.empty k d (omega arith) (omega arith))) in
      let counted = all.counted number in
      omega (arith, split-taken number now)
