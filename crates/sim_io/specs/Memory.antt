-- What contracts see of a source and a sink in memory that fail at chosen calls.
use Rattle.std.specs.Prelude.{◌≡◌, ℕ, ◌-◌, ◌==◌, ◌&&◌, nat_lt, if◌then◌else◌, min, List, length, Result, Ok, Err}
use Rattle.sim_io.specs.Causes.{next_count}

-- the bytes left, the numbers of the calls that fail, the most bytes of one call, and how many calls and faults there were
pub record SourceView : Type 0 where
  pub left : List ℕ
  pub fails : List ℕ
  pub most : ℕ
  pub calls : ℕ
  pub faults : ℕ

-- how many bytes a read of so many moves where it doesn't fail
abbrev pub moved_count : SourceView → ℕ → ℕ
moved_count source size = min size (min source.most (length source.left))

-- the numbers of the calls that fail, and the most bytes of one call, stay
pub record KeepsSourceRules (old new : SourceView) : Type 0 where
  pub fails : new.fails ≡ old.fails
  pub most : new.most ≡ old.most

-- the bytes taken and the room for all of them, the numbers of the calls that fail and of those that take nothing,
-- the most bytes of one call, and how many calls and faults there were
pub record SinkView : Type 0 where
  pub taken : List ℕ
  pub room : ℕ
  pub fails : List ℕ
  pub idle : List ℕ
  pub most : ℕ
  pub calls : ℕ
  pub faults : ℕ

-- how many bytes of so many a write takes at a call that neither fails nor is idle
abbrev pub taken_count : SinkView → ℕ → ℕ
taken_count sink size = min size (min sink.most (sink.room - length sink.taken))

-- the count of faults after a write: one more where it failed, or took nothing of a piece that isn't empty
abbrev pub faults_after : {E : Type 0} → ℕ → Result ℕ E → List ℕ → ℕ
faults_after faults (Ok n) bytes = if n == 0 && nat_lt 0 (length bytes) then next_count faults else faults
faults_after faults (Err e) bytes = next_count faults

-- the room, the numbers of the calls that fail or take nothing, and the most bytes of one call, stay
pub record KeepsSinkRules (old new : SinkView) : Type 0 where
  pub room : new.room ≡ old.room
  pub fails : new.fails ≡ old.fails
  pub idle : new.idle ≡ old.idle
  pub most : new.most ≡ old.most
