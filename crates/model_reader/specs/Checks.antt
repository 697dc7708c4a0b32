-- A check gives a value, or the code and item of the first refusal that it meets.
use Rattle.std.specs.Prelude.{◌≡◌, ℕ, Option, Some, None, Result, Ok, Err}
use Rattle.model_reader.specs.declared.refusal.Refusal.{Refusal}
use Rattle.model_reader.specs.declared.refusal.Refusal.TheVariants.{At, OutOfMemory}

-- why and where a text is refused
pub record Refused : Type 0 where
  pub code : ℕ
  pub item : ℕ

abbrev pub Checked : Type 0 → Type 0
Checked A = Result A Refused

-- one check after another, of whatever text: the first refusal is the answer
infixl 10 ◌>>=◌
abbrev pub ◌>>=◌ : {A B E : Type 0} → Result A E → (A → Result B E) → Result B E
(Ok x) >>= f = f x
(Err e) >>= f = Err e

-- the check refuses so, unless memory ran out
abbrev pub FailsWith : {Y E : Type 0} → Option E → Result Y E → Type 0
FailsWith None check = Unit {0}
FailsWith (Some refused) check = check ≡ Err refused

-- what a function returned, seen by a view, is what the check gives, unless memory ran out; its refusals say why and where
abbrev pub GivesBy : {X Y R E : Type 0} → (R → Option E) → (X → Y) → Result X R → Result Y E → Type 0
GivesBy refused view (Ok x) check = check ≡ Ok (view x)
GivesBy refused view (Err e) check = FailsWith (refused e) check

abbrev pub refused_by : Refusal → Option Refused
refused_by OutOfMemory = None
refused_by (At code item) = Some (record { code = code; item = item })

abbrev pub Fails : {Y : Type 0} → Refusal → Checked Y → Type 0
Fails refusal check = FailsWith (refused_by refusal) check

abbrev pub Gives : {X Y : Type 0} → (X → Y) → Result X Refusal → Checked Y → Type 0
Gives view result check = GivesBy refused_by view result check
