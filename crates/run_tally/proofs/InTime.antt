-- Records that come one after another in time.
use Rattle.std.proofs.Common.{◌≡◌, ℕ, suc, ◌<◌, ◌≤◌, true, List, [], ◌∷◌, ◌++◌, length, get_or, refl, subst, arith}
use Rattle.std.specs.List.{AllPairs}
use Rattle.event_key.specs.declared.key.Key.{Key}
use Rattle.event_key.specs.Keys.{key_lt}
use Rattle.event_key.specs.Stamps.{time_part}
use Rattle.event_key.proofs.Order.{stamp-le}
use Rattle.model_core.specs.declared.note.Note.{Note}
use Rattle.run_tally.specs.Tallies.{IsInTime, last_time}

-- of records with one more it is the last
pub last_time-more : (time : ℕ) (records : List (Key × Note)) (told : Key × Note) → last_time time (records ++ told ∷ []) ≡ time_part told.0.stamp
unfolding last_time
last_time-more time [] told = refl
last_time-more time (first ∷ rest) told = last_time-more (time_part first.0.stamp) rest told

-- those behind others come after the last of these
pub in_time-behind : (time : ℕ) (before records : List (Key × Note)) → IsInTime time (before ++ records) → IsInTime (last_time time before) records
unfolding IsInTime last_time
in_time-behind time [] records in_time = in_time
in_time-behind time (first ∷ rest) records in_time = in_time-behind (time_part first.0.stamp) rest records in_time.1

pub in_time-front : (time : ℕ) (records behind : List (Key × Note)) → IsInTime time (records ++ behind) → IsInTime time records
unfolding IsInTime
in_time-front time [] behind in_time = tt
in_time-front time (first ∷ rest) behind in_time = (in_time.0, in_time-front (time_part first.0.stamp) rest behind in_time.1)

-- records in ascending order of their keys come in time
pub in_time-ascending : (time : ℕ) (records : List (Key × Note))
    → ((told : Key × Note) (rest : List (Key × Note)) → records ≡ told ∷ rest → time ≤ time_part told.0.stamp)
    → AllPairs (λ (earlier later : Key × Note). key_lt earlier.0 later.0 ≡ true) records → IsInTime time records
unfolding IsInTime
in_time-ascending time [] first ascend = tt
in_time-ascending time (told ∷ rest) first ascend = (
  first told rest refl,
  in_time-ascending (time_part told.0.stamp) rest
      (λ next behind is.
      let Before : List (Key × Note) → Type 0 = λ rest. 0 < length rest → key_lt told.0 (get_or rest 0 told).0 ≡ true in
      let some : Before (next ∷ behind) = subst Before is (λ within. ascend 0 1 told (omega arith) (omega arith)) in
      let le = stamp-le told.0 next.0 (some (omega arith)) in
      omega (arith, le))
      (λ i j none before within. ascend (suc i) (suc j) none (omega arith) (omega arith)),
)
