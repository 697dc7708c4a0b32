-- What is done of the tasks that were taken.
use Rattle.std.proofs.Common.{◌≡◌, ◌+◌, ℕ, List, [], ◌∷◌, ◌++◌, sym, ap, ◌∙◌, subst, arith, cond, eqb}
use Rattle.std.specs.Prelude.{All, Contains, slice_get, IsSomeAnd, sum_by}
use Rattle.std.proofs.lemmas.List.Elements.{All-head, All-push, All-contains}
use Rattle.std.proofs.lemmas.List.Sums.{sum_by_push}
use Rattle.steal_pool.specs.declared.task.Task.{Task}
use Rattle.steal_pool.specs.declared.tally.Tally.{Tally}
use Rattle.steal_pool.specs.Tallies.{IsNext}
use Rattle.steal_pool.specs.Turns.{Does, IsOf, IsDoneOf, times}

module _ {T : Type 0} (turned : T → T → Type 0) where
  pub does-over : (before now after : Tally T) (kept done all : List (Task T)) → after ≡ now → all ≡ done → Does turned before now kept done → Does turned before after kept all
  does-over before now after kept done all one two does = subst (λ v. Does turned before v kept all) (sym one) (subst (Does turned before now kept) (sym two) does)

  -- a task that was put has the turn of its number, so that its turn was done
  is-done : (turns : List T) (task ran : Task T) → IsOf turns task → ran.number ≡ task.number → turned task.turn ran.turn → IsDoneOf turned turns ran
  is-done turns task ran of same did =
      subst (λ o. IsSomeAnd o (λ turn. turned turn ran.turn)) (sym (ap (slice_get turns) same ∙ of)) did

  -- one more task was taken and done
  pub does-more : (before now after : Tally T) (kept done all : List (Task T)) (task ran : Task T) → Does turned before now kept done → IsNext now (task ∷ []) after
      → ran.number ≡ task.number → turned task.turn ran.turn → all ≡ done ++ ran ∷ [] → Does turned before after kept all
  does-more before now after kept done all task ran does next same did all_is = subst (Does turned before after kept) (sym all_is) (record {
    parts = ap (λ (one : Tally T). one.parts) next.after_is ∙ does.parts;
    put = ap (λ (one : Tally T). one.put) next.after_is ∙ does.put;
    counted = λ number.
        let f : Task T → ℕ = λ each. cond (eqb each.number number) 1 0 in
        let soon : sum_by f after.taken ≡ sum_by f now.taken + f task = ap (λ (one : Tally T). times number one.taken) next.after_is ∙ sum_by_push f now.taken task in
        let equal : f ran ≡ f task = ap (λ (k : ℕ). cond (eqb k number) 1 0) same in
        let counted = does.counted number in
        omega (arith, sum_by_push f done ran);
    of = λ turns from kept_done.
        let there = All-head (Contains now.put) task [] next.known in
        let known = subst (λ put. Contains put task) does.put there in
        All-push (IsDoneOf turned turns) done ran (does.of turns from kept_done) (is-done turns task ran (All-contains (IsOf turns) before.put task from known) same did);
  })

  -- a task that is taken can do its turn, where all that were put can
  pub next-ready : (ready : T → Type 0) (before now after : Tally T) (kept done : List (Task T)) (task : Task T) → Does turned before now kept done
      → All (λ each. ready each.turn) before.put → IsNext now (task ∷ []) after → ready task.turn
  next-ready ready before now after kept done task does all next =
      All-contains (λ each. ready each.turn) before.put task all (subst (λ put. Contains put task) does.put (All-head (Contains now.put) task [] next.known))
