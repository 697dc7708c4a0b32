-- How a bucket ended, and what was told of it, or of a stretch of a run.
use Rattle.std.specs.Prelude.{◌≡◌, ℕ, Bool, true, false, List, Option, Some, None, Ok}
use Rattle.event_key.specs.declared.key.Key.{Key}
use Rattle.model_core.specs.declared.note.Note.{Note}
use Rattle.model_core.specs.Meaning.{Meaning}
use Rattle.sim_spec.specs.declared.bucket.Bucket.{Bucket}
use Rattle.sim_spec.specs.declared.terms.Terms.{Terms}
use Rattle.sim_spec.specs.Standing.{Standing, CycleGives}
use Rattle.run_recorder.specs.Stretches.{IsStretch}
use Rattle.one_thread.specs.Telling.{TellsAll}
use Rattle.one_thread.specs.declared.bucket_end.BucketEnd.{BucketEnd}
use Rattle.one_thread.specs.declared.bucket_end.BucketEnd.TheVariants.{Whole, Limit, Fault}

-- the horizon that is told of a bucket: 0, unless the bucket is whole
abbrev pub told_horizon : BucketEnd → ℕ
told_horizon (Whole horizon) = horizon
told_horizon Limit = 0
told_horizon (Fault key code) = 0

-- the event that failed, and its code
abbrev pub fault_of : BucketEnd → Option (Key × ℕ)
fault_of (Whole horizon) = None
fault_of Limit = None
fault_of (Fault key code) = Some (key, code)

-- whether the limit cut the bucket
abbrev pub is_at_limit : BucketEnd → Bool
is_at_limit (Whole horizon) = false
is_at_limit Limit = true
is_at_limit (Fault key code) = false

-- the bucket with these records that ended so
abbrev pub bucket_of : List (Key × Note) → BucketEnd → Bucket
bucket_of done end = record { done = done; horizon = told_horizon end; fault = fault_of end; limited = is_at_limit end }

-- this bucket ended so
abbrev pub HasEnd : Bucket → BucketEnd → Type 0
HasEnd bucket end = bucket ≡ bucket_of bucket.done end

module _ {T : Type 0} (Holds : T → List (Key × Note) → Type 0) (m : Meaning) (t : Terms) (old : Standing) (before : T) where
  -- a cycle of an engine has a bucket that ended so, whose records are all told
  pub record HasTold (end : BucketEnd) (after : T) (new : Standing) : Type 0 where
    pub done : List (Key × Note)
    pub told : TellsAll Holds before done after
    pub gives : CycleGives m t old (Ok (bucket_of done end)) new

  -- an engine has done a stretch of its run, of which all is told
  pub record HasToldStretch (after : T) (new : Standing) : Type 0 where
    pub done : List (Key × Note)
    pub told : TellsAll Holds before done after
    pub stretch : IsStretch m t old done new
