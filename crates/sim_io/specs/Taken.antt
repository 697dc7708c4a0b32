-- What is known of the bytes that a sink has taken or handed on, and what becomes of that.
use Rattle.std.specs.Prelude.{ℕ, List, ◌++◌, ◌≡◌, take, Option, Result, MatchResult, ⊤}
use Rattle.std.specs.Io.KnownBytes.{Appends as AppendsKnown, Keeps as KeepsKnown, append_known}

-- which bytes these are, where a sink tells them, and what holds of them
pub record Taken : Type 1 where
  pub known : Option (List ℕ)
  pub holds : List ℕ → Type 0

-- which bytes these are, where that is told, and nothing besides
abbrev pub told_bytes : Option (List ℕ) → Taken
told_bytes known = record { known = known; holds = λ _. ⊤ }

-- what holds of the bytes that were given so far holds of these with more behind them
abbrev pub GivesMore : (List ℕ → Type 0) → (List ℕ → Type 0) → List ℕ → Type 0
GivesMore old new more = (bytes : List ℕ) → old bytes → new (bytes ++ more)

-- these bytes were added
pub record Appends (old new : Taken) (bytes : List ℕ) : Type 0 where
  pub known : AppendsKnown old.known new.known bytes
  pub holds : GivesMore old.holds new.holds bytes

-- the bytes stay as they were
pub record Keeps (old new : Taken) : Type 0 where
  pub known : KeepsKnown old.known new.known
  pub holds : (bytes : List ℕ) → old.holds bytes → new.holds bytes

-- a write added the bytes that it took, and a failed one none
abbrev pub WriteAppends : {E : Type 0} → Taken → Taken → Result ℕ E → List ℕ → Type 0
WriteAppends old new result bytes = MatchResult result (λ n. Appends old new (take n bytes)) (λ _. Keeps old new)

-- these bytes come behind those that were taken
abbrev pub append_taken : Taken → List ℕ → Taken
append_taken taken bytes = record {
  known = append_known taken.known bytes;
  holds = λ all. (front : List ℕ) × taken.holds front × (all ≡ front ++ bytes);
}
