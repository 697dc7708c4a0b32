-- What is told in time.
use Rattle.std.specs.Prelude.{ℕ, ◌≤◌, List, All, nat_le}
use Rattle.std.specs.List.{filter}
use Rattle.model_core.specs.declared.note.Part.{Part}

-- a part of a note that is told at a time, in ticks
pub record TimedPart : Type 0 where
  pub time : ℕ
  pub part : Part

-- those told at a time or before it
abbrev pub told_by : ℕ → List TimedPart → List TimedPart
told_by time told = filter (λ (one : TimedPart). nat_le one.time time) told

-- those told from a time on
abbrev pub told_from : ℕ → List TimedPart → List TimedPart
told_from time told = filter (λ (one : TimedPart). nat_le time one.time) told

-- none is told later
abbrev pub AreBy : ℕ → List TimedPart → Type 0
AreBy time told = All (λ (one : TimedPart). one.time ≤ time) told
