-- Turns that are dealt out one after another.
use Rattle.std.proofs.Common.{◌≡◌, ◌+◌, ◌%◌, ◌<◌, inl, inr, ℕ, List, [], ◌∷◌, ◌++◌, length, get_or, set, sym, ap, ◌∙◌, subst, arith, cond, eqb}
use Rattle.std.specs.Prelude.{All, slice_get, Some, nat_lt, if◌then◌else◌}
use Rattle.std.proofs.lemmas.Bool.{cases_eq}
use Rattle.std.proofs.lemmas.Bool.Decides.{nat_tests}
use Rattle.std.proofs.lemmas.List.{get_or-set_other, get_or-set_same, length-set}
use Rattle.std.proofs.lemmas.List.Elements.{All-get_or, All-nil, All-push, All-set}
use Rattle.std.proofs.lemmas.List.Sums.{sum_by-set, sum_by_push}
use Rattle.steal_pool.specs.declared.task.Task.{Task}
use Rattle.steal_pool.specs.Tallies.{WHOLE, tally}
use Rattle.steal_pool.specs.Ends.{End, IsFresh}
use Rattle.steal_pool.specs.Turns.{IsOf, times}
use Rattle.steal_pool.specs.Workers.{put_at, AreDealt, AreInRound, ComesTo}
use Rattle.steal_pool.proofs.RuleLemmas.{no-sum}

below-none : (number : ℕ) → ◌≡◌ {A = ℕ} (if nat_lt number 0 then 1 else 0) 0
below-none number = grind (arith, nat_tests)

below-more : (number i : ℕ) → (if nat_lt number (i + 1) then 1 else 0) ≡ (if nat_lt number i then 1 else 0) + cond (eqb i number) 1 0
below-more number i = grind (arith, nat_tests)

module _ {T : Type 0} where
  -- the first turns lie in these deques, each once, and nothing was taken
  pub record Dealing (turns : List T) (i : ℕ) (deques : List (End T)) : Type 0 where
    pub fresh : All (IsFresh WHOLE) deques
    pub of : All (λ deque. All (IsOf turns) deque.knows.put) deques
    pub once : AreDealt i deques

  pub dealing-none : (turns : List T) (deques : List (End T)) → All (λ deque. deque.knows ≡ tally WHOLE [] []) deques → Dealing turns 0 deques
  dealing-none turns deques empty = record {
    fresh = λ k d inside. (ap (λ knows. knows.parts) (empty k d inside), ap (λ knows. knows.taken) (empty k d inside));
    of = λ k d inside. subst (λ knows. All (IsOf turns) knows.put) (sym (empty k d inside)) (All-nil (IsOf turns));
    once = λ number. no-sum (put_at number) deques (λ k d inside. ap (λ knows. times number knows.put) (empty k d inside)) ∙ sym (below-none number);
  }

  -- one more turn is put in a deque
  pub dealing-more : (turns : List T) (i : ℕ) (deques : List (End T)) (k : ℕ) (deque new : End T) (task : Task T) → Dealing turns i deques → k < length deques → deque ≡ get_or deques k deque
      → task.number ≡ i → slice_get turns i ≡ Some task.turn → new ≡ record deque { knows = tally WHOLE (deque.knows.put ++ task ∷ []) deque.knows.taken }
      → Dealing turns (i + 1) (set deques k new)
  dealing-more turns i deques k deque new task dealing inside is number_is at new_is =
      let old_fresh = subst (IsFresh WHOLE) (sym is) (All-get_or (IsFresh WHOLE) deques k deque inside dealing.fresh) in
      let old_of = subst (λ (end : End T). All (IsOf turns) end.knows.put) (sym is) (All-get_or (λ (end : End T). All (IsOf turns) end.knows.put) deques k deque inside dealing.of) in
      let task_of : IsOf turns task = ap (slice_get turns) number_is ∙ at in record {
        fresh = All-set (IsFresh WHOLE) deques k new (ap (λ (end : End T). end.knows.parts) new_is, ap (λ (end : End T). end.knows.taken) new_is ∙ old_fresh.1) dealing.fresh;
        of = All-set (λ (end : End T). All (IsOf turns) end.knows.put) deques k new
            (subst (λ (end : End T). All (IsOf turns) end.knows.put) (sym new_is) (All-push (IsOf turns) deque.knows.put task old_of task_of)) dealing.of;
        once = λ number.
            let f : Task T → ℕ = λ each. cond (eqb each.number number) 1 0 in
            let more : put_at number new ≡ put_at number deque + f task = ap (put_at number) new_is ∙ sum_by_push f deque.knows.put task in
            let one : f task ≡ cond (eqb i number) 1 0 = ap (λ (n : ℕ). cond (eqb n number) 1 0) number_is in
            let sum = sum_by-set (put_at number) deques k new deque inside in
            let here = ap (put_at number) is in
            let before = dealing.once number in
            omega (arith, below-more number i);
      }

  pub round-none : (places : ℕ) (deques : List (End T)) → All (λ deque. deque.knows ≡ tally WHOLE [] []) deques → AreInRound places deques
  round-none places deques empty place end inside = subst (λ knows. All (ComesTo places place) knows.put) (sym (empty place end inside)) (All-nil (ComesTo places place))

  -- one more turn is put in the deque to which it comes
  pub round-more : (places i : ℕ) (deques : List (End T)) (k : ℕ) (deque new : End T) (task : Task T) → AreInRound places deques → k < length deques → deque ≡ get_or deques k deque
      → task.number ≡ i → i % places ≡ k → new ≡ record deque { knows = tally WHOLE (deque.knows.put ++ task ∷ []) deque.knows.taken }
      → AreInRound places (set deques k new)
  round-more places i deques k deque new task round inside is number_is at new_is place end within =
      elim (cases_eq place k) [
        | inl here ↦
            let old = subst (λ (d : End T). All (ComesTo places k) d.knows.put) (sym is) (round k deque inside) in
            let more = All-push (ComesTo places k) deque.knows.put task old (ap (λ n. n % places) number_is ∙ at) in
            let put = subst (λ (d : End T). All (ComesTo places k) d.knows.put) (sym new_is) more in
            subst (λ (p : ℕ). All (ComesTo places p) (get_or (set deques k new) p end).knows.put) (sym here)
            (subst (λ (d : End T). All (ComesTo places k) d.knows.put) (sym (get_or-set_same deques k new end inside)) put)
        | inr other ↦ subst (λ (d : End T). All (ComesTo places place) d.knows.put) (sym (get_or-set_other deques k place new end other))
            (round place end (omega (arith, within, length-set deques k new)))
      ]
