-- What workers can do together, and have done.
use Rattle.std.proofs.Common.{◌≡◌, ◌+◌, ◌<◌, ◌≤◌, ℕ, List, [], ◌∷◌, length, map, get_or, refl, sym, ap, ◌∙◌, subst, arith, cond, eqb}
use Rattle.std.specs.Prelude.{All, IsOk, OnOk, Result, Ok, Err, sum_by}
use Rattle.std.specs.List.{AllZip}
use Rattle.std.proofs.lemmas.List.{get_or_default, length-map}
use Rattle.std.proofs.lemmas.List.Elements.{All-head, All-tail, All-map, All-nil, AllZip-get_or}
use Rattle.std.proofs.lemmas.List.Sums.{sum_by-cons}
use Rattle.std.proofs.lemmas.Slice.Zip.{AllZip-long}
use Rattle.steal_pool.specs.declared.task.Task.{Task}
use Rattle.steal_pool.specs.declared.worker.Worker.{Worker}
use Rattle.steal_pool.specs.Tallies.{WHOLE}
use Rattle.steal_pool.specs.Ends.{End, Mark, mark, parts}
use Rattle.steal_pool.specs.Turns.{IsOf, IsDoneOf, times}
use Rattle.steal_pool.specs.Workers.{AreHired, AreNew, AreOf, ArePasses, AreReady, CanAll, HasDone, HasEnded, HasWorked, HaveEnded, HaveWorked, IsHired, done_by, done_of, own_mark, own_taken, put_in, put_to, taken_at, taken_by}
use Rattle.steal_pool.proofs.PlaceLemmas.{zip-map}
use Rattle.steal_pool.proofs.RuleLemmas.{no-sum}
use Rattle.steal_pool.proofs.WorkerLemmas.{at-place, unmapped}

module _ {A : Type 0} where
  pub sum-same : (f g : A → ℕ) (xs : List A) → All (λ x. f x ≡ g x) xs → sum_by f xs ≡ sum_by g xs
  sum-same f g [] all = refl
  sum-same f g (x ∷ xs) all =
      let rest = sum-same f g xs (All-tail (λ z. f z ≡ g z) x xs all) in
      let here = All-head (λ z. f z ≡ g z) x xs all in
      omega (arith, sum_by-cons f x xs, sum_by-cons g x xs)

  pub sum-mapped : {B : Type 0} (f : A → B) (g : B → ℕ) (xs : List A) → sum_by g (map f xs) ≡ sum_by (λ x. g (f x)) xs
  sum-mapped f g [] = refl
  sum-mapped f g (x ∷ xs) = let rest = sum-mapped f g xs in omega (arith, sum_by-cons g (f x) (map f xs), sum_by-cons (λ z. g (f z)) x xs)

ok-then : {A E : Type 0} (r : Result A E) (P : Type 0) → IsOk r → OnOk r P → P
ok-then (Ok v) P is has = has
ok-then (Err e) P is has = absurd (cc)

pub on-ok : {A E : Type 0} (r : Result A E) (P : Type 0) {Q : Type 0} → OnOk r P → (P → Q) → OnOk r Q
on-ok (Ok v) P has then = then has
on-ok (Err e) P has then = tt

module _ {T : Type 0} where
  pub new-passes : (marks : List (Mark T)) (victims : List (End T)) → AreNew marks victims → ArePasses marks victims
  new-passes marks victims are = record { to = are.to; one = All-map (λ many. many ≡ 1) parts victims (λ k d inside. (are.fresh k d inside).0) }

  -- a worker that is hired has taken nothing
  nothing-taken : (marks : List (Mark T)) (worker : Worker T) → IsHired marks worker → (number : ℕ) → taken_by number worker ≡ 0
  nothing-taken marks worker hired number =
      let own : own_taken number worker ≡ 0 = ap (times number) hired.owner.1 in
      let passes = no-sum (taken_at number) worker.victims.items (λ k d inside. ap (times number) (hired.thief.fresh k d inside).1) in
      omega arith

  -- what is said of each deque is said of a worker's own
  own-of : (P : Mark T → Type 0) (marks : List (Mark T)) (workers : List (Worker T)) (k : ℕ) (d : Worker T) → map own_mark workers ≡ marks → k < length workers → All P marks → P (own_mark (get_or workers k d))
  own-of P marks workers k d are inside all = at-place own_mark P workers k (get_or workers k d) inside (get_or_default workers k d (get_or workers k d) inside) (subst (All P) (sym are) all)

  pub hired-can : (ready : T → Type 0) (marks : List (Mark T)) (workers : List (Worker T)) → AreHired marks workers → length marks ≤ 64 → AreReady ready marks → CanAll ready workers
  hired-can ready marks workers are few all = record {
    can = λ k d inside.
        let hired = are.each k d inside in
        let long = ap length hired.thief.to in record {
          place = (let place = hired.place in omega (arith, length-map (get_or workers k d).victims.items mark));
          few = omega (arith, length-map (get_or workers k d).victims.items mark);
          owner = (let owner = hired.owner.0 in omega arith);
          thief = (new-passes marks (get_or workers k d).victims.items hired.thief).one;
        };
    ready_each = λ k d inside.
        let hired = are.each k d inside in record {
          own = own-of (λ (one : Mark T). All (λ task. ready task.turn) one.put) marks workers k d are.marks_are inside all;
          others = subst (AreReady ready) (sym hired.thief.to) all;
        };
  }

  module _ (turned : T → T → Type 0) where
    all-worked : (old new : List (Worker T)) → AllZip (HasDone turned) old new → All (λ worker. IsOk worker.answer) new → AllZip (HasWorked turned) old new
    all-worked [] [] zip ok = tt
    all-worked [] (y ∷ ys) zip ok = absurd zip
    all-worked (x ∷ xs) [] zip ok = absurd zip
    all-worked (x ∷ xs) (y ∷ ys) zip ok =
        (ok-then y.answer (HasWorked turned x y) (All-head (λ (worker : Worker T). IsOk worker.answer) y ys ok) zip.0, all-worked xs ys zip.1 (All-tail (λ (worker : Worker T). IsOk worker.answer) y ys ok))

    pub have-worked : (marks : List (Mark T)) (old new : List (Worker T)) → AreHired marks old → AllZip (HasDone turned) old new → All (λ worker. IsOk worker.answer) new → HaveWorked turned marks new
    have-worked marks old new hired zip ok =
        let R = HasWorked turned in
        let worked = all-worked old new zip ok in
        let long : length new ≡ length old = AllZip-long R old new worked in record {
          marks_are = zip-map R own_mark (λ x y has. has.own) old new worked ∙ hired.marks_are;
          passes = λ k d inside.
              let has = AllZip-get_or R old new k d d worked (omega arith) in
              let was = new-passes marks (get_or old k d).victims.items (hired.each k d (omega arith)).thief in
              record { to = has.others ∙ was.to; one = subst (All (λ many. many ≡ 1)) (sym has.thief) was.one };
          owner = λ k d inside.
              let has = AllZip-get_or R old new k d d worked (omega arith) in
              has.owner ∙ (hired.each k d (omega arith)).owner.0;
          counted = λ number. sum-same (done_by number) (taken_by number) new (λ k d inside.
              let has = AllZip-get_or R old new k d d worked (omega arith) in
              let was = hired.each k d (omega arith) in
              let nothing = nothing-taken marks (get_or old k d) was number in
              let undone : done_by number (get_or old k d) ≡ 0 = ap (times number) was.nothing in
              let counted = has.counted number in
              omega arith);
          of = λ turns all k d inside.
              let has = AllZip-get_or R old new k d d worked (omega arith) in
              let was = hired.each k d (omega arith) in
              has.of turns (record {
                own = own-of (λ (one : Mark T). All (IsOf turns) one.put) marks old k d hired.marks_are (omega arith) all;
                others = subst (AreOf turns) (sym was.thief.to) all;
              }) (subst (All (IsDoneOf turned turns)) (sym was.nothing) (All-nil (IsDoneOf turned turns)));
        }

    -- what was left was done, so that all that was put was done
    ended-sums : (number : ℕ) (old new : List (Worker T)) → AllZip (HasEnded turned) old new → All (λ worker. worker.deque.knows.parts ≡ WHOLE) old
        → sum_by (done_by number) new + sum_by (own_taken number) old ≡ sum_by (done_by number) old + sum_by (put_to number) old
    ended-sums number [] [] zip whole = refl
    ended-sums number [] (y ∷ ys) zip whole = absurd zip
    ended-sums number (x ∷ xs) [] zip whole = absurd zip
    ended-sums number (x ∷ xs) (y ∷ ys) zip whole =
        let rest = ended-sums number xs ys zip.1 (All-tail (λ (worker : Worker T). worker.deque.knows.parts ≡ WHOLE) x xs whole) in
        let has = zip.0 in
        let here = All-head (λ (worker : Worker T). worker.deque.knows.parts ≡ WHOLE) x xs whole in
        let counted = has.does.counted number in
        let emptied : put_to number y ≡ own_taken number y = has.all (has.does.parts ∙ here) (λ (task : Task T). cond (eqb task.number number) 1 0) in
        let put : put_to number y ≡ put_to number x = ap (times number) has.does.put in
        omega (arith, sum_by-cons (done_by number) y ys, sum_by-cons (done_by number) x xs, sum_by-cons (own_taken number) x xs, sum_by-cons (put_to number) x xs)

    pub have-ended : (marks : List (Mark T)) (old half new : List (Worker T)) → HaveWorked turned marks old → map own_mark half ≡ marks → map done_of half ≡ map done_of old
        → All (λ worker. worker.deque.knows.parts ≡ WHOLE) half → ((number : ℕ) → sum_by (own_taken number) half ≡ sum_by (taken_by number) old)
        → AllZip (HasEnded turned) half new → HaveEnded turned marks new
    have-ended marks old half new worked marks_are done whole taken zip = record {
      counted = λ number.
          let sums = ended-sums number half new zip whole in
          let same : sum_by (done_by number) half ≡ sum_by (done_by number) old =
          sym (sum-mapped done_of (times number) half) ∙ ap (sum_by (times number)) done ∙ sum-mapped done_of (times number) old in
          let put : sum_by (put_in number) marks ≡ sum_by (put_to number) half = ap (sum_by (put_in number)) (sym marks_are) ∙ sum-mapped own_mark (put_in number) half in
          let was = taken number in
          let did = worked.counted number in
          omega arith;
      of = λ turns all k d inside.
          let long : length new ≡ length half = AllZip-long (HasEnded turned) half new zip in
          let has = AllZip-get_or (HasEnded turned) half new k d d zip (omega arith) in
          let before = unmapped done_of (All (IsDoneOf turned turns)) half (subst (All (All (IsDoneOf turned turns))) (sym done) (All-map (All (IsDoneOf turned turns)) done_of old (worked.of turns all))) in
          has.does.of turns (own-of (λ (one : Mark T). All (IsOf turns) one.put) marks half k d marks_are (omega arith) all) (before k d (omega arith));
    }
