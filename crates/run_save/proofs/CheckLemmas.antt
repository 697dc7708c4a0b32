-- Checks one after another.
use Rattle.std.proofs.Common.{◌≡◌, ℕ, Bool, true, false, Ok, Err, refl, ap, ◌∙◌}
use Rattle.run_save.specs.declared.refusal.StateCause.{StateCause}
use Rattle.run_save.specs.Checks.{Checked, wanted, ◌>>=◌}

-- what the first of two checks gives where both give something
pub bound : {A B : Type 0} (check : Checked A) (next : A → Checked B) (b : B) → (check >>= next) ≡ Ok b → (a : A) × (check ≡ Ok a) × (next a ≡ Ok b)
bound (Ok a) next b gives = (a, refl, gives)
bound (Err refused) next b gives = absurd cc

-- two checks in a row, each of which gives something
pub joined : {A B : Type 0} (check : Checked A) (next : A → Checked B) (a : A) (b : Checked B) → check ≡ Ok a → next a ≡ b → (check >>= next) ≡ b
joined check next a b first second = ap (λ c. c >>= next) first ∙ second

pub passes : (test : Bool) (cause : StateCause) (line : ℕ) (u : Unit {0}) → wanted test cause line ≡ Ok u → test ≡ true
passes true cause line u gives = refl
passes false cause line u gives = absurd cc

pub passed : (test : Bool) (cause : StateCause) (line : ℕ) → test ≡ true → wanted test cause line ≡ Ok tt
passed true cause line is = refl
passed false cause line is = absurd cc

abbrev given : {A : Type 0} → A → Checked A
given a = Ok a

pub same_given : {A : Type 0} (a b : A) → given a ≡ given b → a ≡ b
same_given a b same = cc
