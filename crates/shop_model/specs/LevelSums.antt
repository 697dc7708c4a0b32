-- Sums over the levels of a line, where one level changes.
use Rattle.std.proofs.Common.{◌≡◌, ◌≢◌, ℕ, ◌+◌, ◌<◌, ◌≤◌, zero, suc, refl, ap, sym, ◌∙◌, ⊎_elim, arith}
use Rattle.std.specs.Prelude.{sum_by}
use Rattle.std.specs.List.{range_with_len}
use Rattle.std.proofs.lemmas.Bool.{cases_eq}
use Rattle.std.proofs.lemmas.List.Sums.{sum_by-cons, sum_by_push}
use Rattle.model_core.proofs.Numbers.{numbers-more}

pub sums_same : (f g : ℕ → ℕ) (a n : ℕ) → ((k : ℕ) → a ≤ k → k < a + n → g k ≡ f k) → sum_by g (range_with_len a n) ≡ sum_by f (range_with_len a n)
sums_same f g a zero same = refl
sums_same f g a (suc n) same =
    let rest : sum_by g (range_with_len (a + 1) n) ≡ sum_by f (range_with_len (a + 1) n) =
    sums_same f g (a + 1) n (λ k from to. same k (omega arith) (omega arith)) in
    sum_by-cons g a (range_with_len (a + 1) n)
    ∙ ap (λ here. here + sum_by g (range_with_len (a + 1) n)) (same a (omega arith) (omega arith))
    ∙ ap (λ others. f a + others) rest
    ∙ sym (sum_by-cons f a (range_with_len (a + 1) n))

sums_changed : (f g : ℕ → ℕ) (a n level : ℕ) → a ≤ level → level < a + n → ((k : ℕ) → a ≤ k → k < a + n → k ≢ level → g k ≡ f k)
    → sum_by g (range_with_len a n) + f level ≡ sum_by f (range_with_len a n) + g level
sums_changed f g a zero level from to same = absurd (omega arith)
sums_changed f g a (suc n) level from to same =
    let mine : sum_by g (range_with_len a (suc n)) ≡ g a + sum_by g (range_with_len (a + 1) n) = sum_by-cons g a (range_with_len (a + 1) n) in
    let before : sum_by f (range_with_len a (suc n)) ≡ f a + sum_by f (range_with_len (a + 1) n) = sum_by-cons f a (range_with_len (a + 1) n) in
    ⊎_elim
    (λ (is : level ≡ a).
    let rest : sum_by g (range_with_len (a + 1) n) ≡ sum_by f (range_with_len (a + 1) n) =
    sums_same f g (a + 1) n (λ k after within. same k (omega arith) (omega arith) (λ e. absurd (omega arith))) in
    let f_is : f level ≡ f a = ap f is in
    let g_is : g level ≡ g a = ap g is in
    omega (arith, mine, before))
    (λ (past : level ≢ a).
    let after : a + 1 ≤ level = omega (arith, past) in
    let rest : sum_by g (range_with_len (a + 1) n) + f level ≡ sum_by f (range_with_len (a + 1) n) + g level =
    sums_changed f g (a + 1) n level after (omega arith) (λ k after within others. same k (omega arith) (omega arith) others) in
    let here : g a ≡ f a = same a (omega arith) (omega arith) (λ e. past (sym e)) in
    omega (arith, mine, before))
    (cases_eq level a)

-- the sum over a level more
pub sum_more : (f : ℕ → ℕ) (n : ℕ) → sum_by f (range_with_len 0 (n + 1)) ≡ sum_by f (range_with_len 0 n) + f n
sum_more f n = ap (sum_by f) (numbers-more 0 n n (omega arith)) ∙ sum_by_push f (range_with_len 0 n) n

-- the sum over the levels below n, where none of them changes
pub sum_same : (f g : ℕ → ℕ) (n : ℕ) → ((k : ℕ) → g k ≡ f k) → sum_by g (range_with_len 0 n) ≡ sum_by f (range_with_len 0 n)
sum_same f g n same = sums_same f g 0 n (λ k from to. same k)

-- the sum over the levels below n, where one of them changes
pub sum_changed : (f g : ℕ → ℕ) (n level : ℕ) → level < n → ((k : ℕ) → k ≢ level → g k ≡ f k)
    → sum_by g (range_with_len 0 n) + f level ≡ sum_by f (range_with_len 0 n) + g level
sum_changed f g n level below same = sums_changed f g 0 n level (omega arith) (omega arith) (λ k from to others. same k others)
