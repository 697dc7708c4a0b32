-- Jobs, one after another.
use Rattle.std.proofs.Common.{◌≡◌, ℕ, suc, ◌+◌, ◌<◌, List, [], ◌∷◌, ◌++◌, length, get_or, sym, subst, arith}
use Rattle.std.specs.List.{AllZip}
use Rattle.std.specs.Prelude.{Some, Option, IfSome}
use Rattle.sim_spec.specs.declared.stop.Stop.{Stop}
use Rattle.replications.specs.declared.job.Job.{Job}
use Rattle.replications.specs.Studies.{StudyOf, seed_at, rows_at, rows_under, stop_at, stop_under, IsDone, AreDone, IsToDo, AreToDo, Does}

pub AreToDo-push : (first_seed number : ℕ) (jobs : List Job) (job : Job) → AreToDo first_seed number jobs → IsToDo (seed_at first_seed (number + length jobs)) job → AreToDo first_seed number (jobs ++ job ∷ [])
unfolding AreToDo
AreToDo-push first_seed number [] job all one = (subst (λ n. IsToDo (seed_at first_seed n) job) (omega arith) one, tt)
AreToDo-push first_seed number (other ∷ rest) job all one =
    (all.0, AreToDo-push first_seed (number + 1) rest job all.1 (subst (λ n. IsToDo (seed_at first_seed n) job) (omega arith) one))

-- jobs that were to be done are done
pub all_done : (s : StudyOf) (number : ℕ) (jobs done : List Job) → AreToDo s.first_seed number jobs → AllZip (Does s) jobs done → AreDone s number done
unfolding AreToDo AreDone
all_done s number [] [] all does = tt
all_done s number [] (job ∷ done) all does = absurd does
all_done s number (job ∷ jobs) [] all does = absurd does
all_done s number (job ∷ jobs) (now ∷ done) all does =
    (subst (λ seed. IsDone s seed now) all.0.seed (does.0.done all.0.rows), all_done s (number + 1) jobs done all.1 does.1)

-- a job that is to be done has its seed, and no stop
pub to_do-at : (first_seed number : ℕ) (jobs : List Job) (i : ℕ) (none : Job) → AreToDo first_seed number jobs → i < length jobs → IsToDo (seed_at first_seed (number + i)) (get_or jobs i none)
unfolding AreToDo
to_do-at first_seed number [] i none all within = absurd (omega arith)
to_do-at first_seed number (job ∷ rest) Prim.Native.Nat.zero none all within = subst (λ n. IsToDo (seed_at first_seed n) job) (omega arith) all.0
to_do-at first_seed number (job ∷ rest) (Prim.Native.Nat.suc i) none all within =
    subst (λ n. IsToDo (seed_at first_seed n) (get_or rest i none)) (omega arith) (to_do-at first_seed (number + 1) rest i none all.1 (omega arith))

pub done-at : (s : StudyOf) (number : ℕ) (jobs : List Job) (i : ℕ) (none : Job) → AreDone s number jobs → i < length jobs → IsDone s (seed_at s.first_seed (number + i)) (get_or jobs i none)
unfolding AreDone
done-at s number [] i none all within = absurd (omega arith)
done-at s number (job ∷ rest) Prim.Native.Nat.zero none all within = subst (λ n. IsDone s (seed_at s.first_seed n) job) (omega arith) all.0
done-at s number (job ∷ rest) (Prim.Native.Nat.suc i) none all within =
    subst (λ n. IsDone s (seed_at s.first_seed n) (get_or rest i none)) (omega arith) (done-at s (number + 1) rest i none all.1 (omega arith))

-- a job that was done has the rows of its replication, and its stop
pub done_rows : (s : StudyOf) (number : ℕ) (jobs : List Job) (i : ℕ) (job : Job) (stop : Stop) → AreDone s number jobs → i < length jobs → job ≡ get_or jobs i job → job.stop ≡ Some stop
    → (job.rows.items ≡ rows_at s (number + i)) × (stop ≡ stop_at s (number + i))
done_rows s number jobs i job stop all within is stopped =
    let seed : ℕ = seed_at s.first_seed (number + i) in
    let one : IsDone s seed job = subst (IsDone s seed) (sym is) (done-at s number jobs i job all within) in
    let Rows : Option Stop → Type 0 = λ o. IfSome o (λ _. job.rows.items ≡ rows_under s seed) in
    let Stops : Option Stop → Type 0 = λ o. IfSome o (λ stop. stop ≡ stop_under s seed) in
    (subst Rows stopped one.rows, subst Stops stopped one.stop)

-- what relates two lists place by place follows from what relates them so
pub zip-into : {A : Type 0} (Q R : A → A → Type 0) → ((x y : A) → Q x y → R x y) → (xs ys : List A) → AllZip Q xs ys → AllZip R xs ys
zip-into Q R into [] [] all = tt
zip-into Q R into [] (y ∷ ys) all = absurd all
zip-into Q R into (x ∷ xs) [] all = absurd all
zip-into Q R into (x ∷ xs) (y ∷ ys) all = (into x y all.0, zip-into Q R into xs ys all.1)
