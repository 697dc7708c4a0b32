-- Records that a tally takes, one after another.
use Rattle.std.proofs.Common.{◌≡◌, refl, ℕ, zero, suc, ◌+◌, ◌<◌, ◌≤◌, List, [], ◌∷◌, ◌++◌, length, take, get_or, sym, ap, ◌∙◌, subst, arith, length-append, length-take, append_assoc}
use Rattle.std.proofs.lemmas.List.{take_more}
use Rattle.std.specs.Prelude.{Some, slice_get}
use Rattle.std.proofs.lemmas.List.Elements.{All-get_or}
use Rattle.std.proofs.lemmas.Option.{slice_get_within, get_or_from_slice_get}
use Rattle.event_key.specs.declared.key.Key.{Key}
use Rattle.event_key.specs.Stamps.{time_part}
use Rattle.model_core.specs.declared.note.Note.{Note}
use Rattle.model_core.specs.Meaning.{Meaning}
use Rattle.run_tally.specs.Tallies.{IsInTime, last_time, CanCome, CanAllCome}

last_time-append : (time : ℕ) (before more : List (Key × Note)) → last_time time (before ++ more) ≡ last_time (last_time time before) more
unfolding last_time
last_time-append time [] more = refl
last_time-append time (first ∷ rest) more = last_time-append (time_part first.0.stamp) rest more

-- the record at a place comes no earlier than those before it
in_time-at : (time : ℕ) (records : List (Key × Note)) (i : ℕ) (told : Key × Note) → i < length records → told ≡ get_or records i told
    → IsInTime time records
    → last_time time (take i records) ≤ time_part told.0.stamp
unfolding IsInTime last_time
in_time-at time [] i told within is in_time = omega (arith, within)
in_time-at time (first ∷ rest) zero told within is in_time =
    let P : Key × Note → Type 0 = λ told. time ≤ time_part told.0.stamp in subst P (sym is) in_time.0
in_time-at time (first ∷ rest) (suc i) told within is in_time = in_time-at (time_part first.0.stamp) rest i told (omega (arith, within)) is in_time.1

module _ (m : Meaning) (before records : List (Key × Note)) (i : ℕ) (told : Key × Note) (within : i < length records) (is : told ≡ get_or records i told) where
  -- of records that can all come, the one at a place can come after those before it
  can_come : length told.1 ≤ 4 → CanAllCome m before records → CanCome m (before ++ take i records) told
  can_come few all =
      let At : Key × Note → Type 0 = λ told. told.0.dest < m.objects in
      let long = length-append before (take i records) in
      let taken = length-take i records in
      record {
        object = subst At (sym is) (All-get_or At records i told within all.objects);
        few_parts = few;
        in_time = let no_earlier = in_time-at (last_time 0 before) records i told within is all.in_time in omega (arith, last_time-append 0 before (take i records), no_earlier);
        room = omega (arith, long, taken, within, all.room);
      }

  -- and is the last of one more
  one_more : (before ++ take i records) ++ told ∷ [] ≡ before ++ take (i + 1) records
  one_more =
      append_assoc before (take i records) (told ∷ [])
      ∙ ap (λ (more : List (Key × Note)). before ++ more)
      (ap (λ (last : Key × Note). take i records ++ last ∷ []) is ∙ sym (take_more records i told within))

-- so it is with the record that is read at a place
pub read-comes : (m : Meaning) (before records : List (Key × Note)) (i : ℕ) (told : Key × Note) → slice_get records i ≡ Some told → length told.1 ≤ 4
    → CanAllCome m before records
    → CanCome m (before ++ take i records) told
read-comes m before records i told at few all =
    can_come m before records i told (slice_get_within records i told at) (sym (get_or_from_slice_get records i told told at)) few all

pub read-more : (m : Meaning) (before records : List (Key × Note)) (i : ℕ) (told : Key × Note) → slice_get records i ≡ Some told
    → (before ++ take i records) ++ told ∷ [] ≡ before ++ take (i + 1) records
read-more m before records i told at =
    one_more m before records i told (slice_get_within records i told at) (sym (get_or_from_slice_get records i told told at))
