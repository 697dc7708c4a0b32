-- After a few changes a sheet has room for one more.
use Rattle.std.proofs.Common.{◌≡◌, ℕ, ◌+◌, ◌^◌, ◌<◌, ◌≤◌, List, [], ◌∷◌, ◌++◌, length, ap, arith}
use Rattle.std.proofs.lemmas.List.{length_push}

pub one-more : {A : Type 0} (before after : List A) (x : A) (n : ℕ) → length before ≤ n → after ≡ before ++ x ∷ [] → length after ≤ n + 1
one-more before after x n few is = omega (arith, ap length is, length_push before x)

-- a change takes 24 bytes
pub has-room : {A : Type 0} (changes : List A) (n spare : ℕ) → length changes ≤ n → n + spare ≡ 15 → (24 < 2 ^ 63) × (length changes < 16)
has-room changes n spare few all = (omega arith, omega arith)
