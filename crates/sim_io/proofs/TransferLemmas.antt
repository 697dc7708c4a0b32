-- Reads and writes that go on from where the last one stopped.
use Rattle.std.proofs.Common.{◌≡◌, ℕ, ◌-◌, ◌≤◌, List, [], ◌++◌, length, Option, Some, None, arith, sym, ap, ◌∙◌, append_assoc, append-nil, length-append}
use Rattle.std.proofs.lemmas.Grind.{common_steps}
use Rattle.std.proofs.KnownBytes.{Consumes-trans}
use Rattle.std.specs.Io.KnownBytes.{Consumes, IsAtEnd}
use Rattle.sim_io.specs.Taken.{Taken, Appends}
use Rattle.sim_io.proofs.TakenLemmas.{Appends-trans}
use Rattle.sim_io.specs.Transfers.{TakesUpTo, TakesSome, AppendsPrefix}

-- as many bytes as were asked for were taken
pub TakesUpTo-full : (most : ℕ) (old new : Option (List ℕ)) (bytes : List ℕ) → Consumes old new bytes → length bytes ≡ most → TakesUpTo most old new bytes
TakesUpTo-full most None new bytes taken full = tt
TakesUpTo-full most (Some left) None bytes taken full = absurd taken
TakesUpTo-full most (Some left) (Some rest) bytes taken full = (grind (arith, common_steps), grind (arith, common_steps))

-- all the bytes were taken
pub TakesUpTo-end : (most : ℕ) (old new : Option (List ℕ)) (bytes : List ℕ) → Consumes old new bytes → length bytes ≤ most → IsAtEnd new → TakesUpTo most old new bytes
TakesUpTo-end most None new bytes taken short end = tt
TakesUpTo-end most (Some left) None bytes taken short end = absurd taken
TakesUpTo-end most (Some left) (Some rest) bytes taken short end = (grind (arith, common_steps), grind (arith, common_steps))

-- so many bytes were taken, and then some more
pub TakesSome-more : (most n : ℕ) (old mid new : Option (List ℕ)) (bytes : List ℕ) → Consumes old mid bytes → length bytes ≡ n → n ≤ most → TakesSome (most - n) mid new
    → TakesSome most old new
TakesSome-more most n old mid new bytes taken size short more =
    (bytes ++ more.0, omega (arith, size, more.1, length-append bytes more.0), Consumes-trans old mid new bytes more.0 taken more.2)

-- bytes were added, and then a prefix of those that come next
pub AppendsPrefix-next : (old mid new : Taken) (before next back bytes : List ℕ) → Appends old mid before → AppendsPrefix mid new next → bytes ≡ before ++ (next ++ back)
    → AppendsPrefix old new bytes
AppendsPrefix-next old mid new before next back bytes added part is = (
  before ++ part.0,
  part.1 ++ back,
  rw (is, part.2) (simp append_assoc),
  Appends-trans old mid new before part.0 added part.3,
)

-- all of some bytes is a prefix of them
pub all_prefix : (old new : Taken) (bytes : List ℕ) → Appends old new bytes → AppendsPrefix old new bytes
all_prefix old new bytes all = (bytes, [], sym (append-nil bytes), all)

-- a prefix of some bytes is one of more
pub prefix_longer : (old new : Taken) (bytes more : List ℕ) → AppendsPrefix old new bytes → AppendsPrefix old new (bytes ++ more)
prefix_longer old new bytes more part = (part.0, part.1 ++ more, ap (λ xs. xs ++ more) part.2 ∙ append_assoc part.0 part.1 more, part.3)
