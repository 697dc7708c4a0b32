-- Texts that are appended one behind another, and calls that are refused on the way.
use Rattle.std.proofs.Common.{◌≡◌, ℕ, List, ◌++◌, Result, Ok, Err, IfOk, IsErrAnd, ap, ◌∙◌, append_assoc}
use Rattle.std.specs.Io.{StartsWith}
use Rattle.std.proofs.Transfers.{starts_with_of_append, starts_with_trans}

-- a refused call has no result of which anything is to be shown
pub no_result : {T E : Type 0} (r : Result T E) (P : T → Type 0) (Q : E → Type 0) → IsErrAnd r Q → IfOk r P
no_result (Ok x) P Q is = absurd is
no_result (Err e) P Q is = tt

-- a text behind another one is both
pub appended : (old mid new one two : List ℕ) → mid ≡ old ++ one → new ≡ mid ++ two → new ≡ old ++ (one ++ two)
appended old mid new one two first second = second ∙ ap (λ text. text ++ two) first ∙ append_assoc old one two

-- what was there is still at the front of what a call may have left
pub still_first : (old mid new more : List ℕ) → mid ≡ old ++ more → StartsWith new mid → StartsWith new old
still_first old mid new more is kept = starts_with_trans new mid old kept (starts_with_of_append mid old more is)

-- and of what a call has left as it was
pub first_unchanged : (old mid new more : List ℕ) → mid ≡ old ++ more → new ≡ mid → StartsWith new old
first_unchanged old mid new more is same = starts_with_of_append new old more (same ∙ is)
