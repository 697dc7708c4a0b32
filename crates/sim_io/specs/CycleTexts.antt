-- The text of a simulation, cycle by cycle: the lines of each bucket, and a line of its horizon where these are told.
use Rattle.std.specs.Prelude.{◌≡◌, ℕ, ◌+◌, Bool, true, false, List, [], ◌∷◌, ◌++◌, length, decimal, codes, Option, Some, None}
use Rattle.event_key.specs.declared.key.Key.{Key}
use Rattle.model_core.specs.Meaning.{Meaning}
use Rattle.sim_spec.specs.declared.bucket.Bucket.{Bucket}
use Rattle.sim_spec.specs.declared.terms.Terms.{Terms}
use Rattle.sim_spec.specs.State.{State, Lawful}
use Rattle.sim_spec.specs.Run.{run}
use Rattle.sim_spec.specs.Cycles.{cycles}
use Rattle.sim_io.specs.Texts.{stamp_text, record_lines, stop_line, run_text}

-- a bucket that met neither a fault nor the limit
abbrev pub IsWhole : Bucket → Type 0
IsWhole b = (b.fault ≡ None) × (b.limited ≡ false)

-- the line of a whole bucket: its number, its horizon, and how many events it has
unfoldable pub cycle_line : ℕ → Bucket → List ℕ
cycle_line number b =
    codes "cycle " ++ (decimal number ++ (codes " horizon " ++ (stamp_text b.horizon ++ (codes " events " ++ (decimal (length b.done) ++ codes "\n")))))

-- the line of a demo: its number, how many events and whole cycles it had, and the stamp of its last event
unfoldable pub demo_line : ℕ → ℕ → ℕ → ℕ → List ℕ
demo_line n count cycles last =
    codes "demo " ++ (decimal n ++ (codes " events " ++ (decimal count ++ (codes " cycles " ++ (decimal cycles ++ (codes " last " ++ (stamp_text last ++ codes "\n")))))))

-- the line of a cycle where cycles are told, the bucket met no such fault, and the limit did not cut it
unfoldable pub told_cycle : Bool → ℕ → Bucket → Option (Key × ℕ) → Bool → List ℕ
told_cycle true number b None false = cycle_line number b
told_cycle true number b None true = []
told_cycle true number b (Some fault) limited = []
told_cycle false number b fault limited = []

-- what a bucket tells: its records, and its cycle where cycles are told and it is whole
unfoldable pub bucket_lines : Meaning → Bool → ℕ → Bucket → List ℕ
bucket_lines m told number b = record_lines m b.done ++ told_cycle told number b b.fault b.limited

-- what buckets tell, numbered from this one on
unfoldable pub lines_of_buckets : Meaning → Bool → ℕ → List Bucket → List ℕ
lines_of_buckets m told number [] = []
lines_of_buckets m told number (b ∷ bs) = bucket_lines m told number b ++ lines_of_buckets m told (number + 1) bs

-- the whole text of the simulation from a state, with or without its cycles
unfoldable pub text : Meaning → Terms → Bool → State → List ℕ
text m t told s = lines_of_buckets m told 1 (cycles m t s).buckets ++ stop_line m t (run m t s).last.count (run m t s).stop

-- where no cycles are told, the text is that of the run, event by event
abbrev pub PlainText : Meaning → Terms → Type 0
PlainText m t = (s : State) → Lawful m t s → text m t false s ≡ run_text m t s
