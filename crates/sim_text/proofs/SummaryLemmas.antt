-- The summary with one bucket more.
use Rattle.std.proofs.Common.{◌≡◌, ℕ, zero, suc, ◌+◌, ◌-◌, Bool, true, false, List, [], ◌∷◌, ◌++◌, length, cond, Some, refl, sym, ap, ◌∙◌, arith, append-nil, append_assoc}
use Rattle.std.specs.Int.{from_bool}
use Rattle.std.specs.List.{slice_get}
use Rattle.std.proofs.lemmas.List.Sums.{sum_by-append}
use Rattle.event_key.specs.declared.key.Key.{Key}
use Rattle.model_core.specs.declared.note.Note.{Note}
use Rattle.sim_spec.specs.declared.bucket.Bucket.{Bucket}
use Rattle.sim_spec.specs.Cycles.{records_of_buckets}
use Rattle.sim_text.specs.Reports.{summary_of}
use Rattle.sim_text.specs.WholeTexts.{is_whole, whole_cycles, last_stamp}

last_at : (stamp : ℕ) (records : List (Key × Note)) (told : Key × Note) (place : ℕ) → place + 1 ≡ length records → slice_get records place ≡ Some told
    → last_stamp stamp records ≡ told.0.stamp
unfolding last_stamp
last_at stamp [] told place long is = absurd (omega arith)
last_at stamp (first ∷ []) told zero long is = let same : first ≡ told = cc in ap (λ (told : Key × Note). told.0.stamp) same
last_at stamp (first ∷ second ∷ rest) told zero long is = absurd (omega arith)
last_at stamp (first ∷ []) told (suc place) long is = absurd (omega arith)
last_at stamp (first ∷ second ∷ rest) told (suc place) long is = last_at first.0.stamp (second ∷ rest) told place (omega arith) is

-- the stamp of the last of some records
pub last_stamp-last : (stamp : ℕ) (records : List (Key × Note)) (told : Key × Note) → slice_get records (length records - 1) ≡ Some told
    → last_stamp stamp records ≡ told.0.stamp
last_stamp-last stamp [] told is = cc
last_stamp-last stamp (first ∷ rest) told is = last_at stamp (first ∷ rest) told (length (first ∷ rest) - 1) (omega arith) is

pub last_stamp-none : (stamp : ℕ) (records : List (Key × Note)) → length records ≡ 0 → last_stamp stamp records ≡ stamp
unfolding last_stamp
last_stamp-none stamp [] none = refl
last_stamp-none stamp (first ∷ rest) none = absurd (omega (arith, none))

last_stamp-append : (stamp : ℕ) (records more : List (Key × Note)) → last_stamp stamp (records ++ more) ≡ last_stamp (last_stamp stamp records) more
unfolding last_stamp
last_stamp-append stamp [] more = refl
last_stamp-append stamp (first ∷ rest) more = last_stamp-append first.0.stamp rest more

pub records_of_buckets-append : (bs more : List Bucket) → records_of_buckets (bs ++ more) ≡ records_of_buckets bs ++ records_of_buckets more
unfolding records_of_buckets
records_of_buckets-append [] more = refl
records_of_buckets-append (b ∷ bs) more =
    ap (λ (records : List (Key × Note)). b.done ++ records) (records_of_buckets-append bs more)
    ∙ sym (append_assoc b.done (records_of_buckets bs) (records_of_buckets more))

pub records_of_buckets-first : (b : Bucket) (more : List Bucket) → records_of_buckets (b ∷ more) ≡ b.done ++ records_of_buckets more
unfolding records_of_buckets
records_of_buckets-first b more = refl

-- the records with a bucket more
pub records_of_buckets-more : (bs : List Bucket) (b : Bucket) → records_of_buckets (bs ++ b ∷ []) ≡ records_of_buckets bs ++ b.done
unfolding records_of_buckets
records_of_buckets-more bs b =
    records_of_buckets-append bs (b ∷ []) ∙ ap (λ (records : List (Key × Note)). records_of_buckets bs ++ records) (append-nil b.done)

whole_cycles-more : (bs : List Bucket) (b : Bucket) → whole_cycles (bs ++ b ∷ []) ≡ whole_cycles bs + from_bool (is_whole b)
whole_cycles-more bs b = sum_by-append (λ (b : Bucket). cond (is_whole b) 1 0) bs (b ∷ []) ∙ by (is_whole b)
  where
    by : (whole : Bool) → whole_cycles bs + (0 + cond whole 1 0) ≡ whole_cycles bs + from_bool whole
    by true = omega arith
    by false = omega arith

pub summary_of-more : (n : ℕ) (bs : List Bucket) (b : Bucket)
    → summary_of n (bs ++ b ∷ []) ≡ record { n = (summary_of n bs).n; cycles = (summary_of n bs).cycles + from_bool (is_whole b); last = last_stamp (summary_of n bs).last b.done }
unfolding summary_of
summary_of-more n bs b =
    let last = ap (last_stamp 0) (records_of_buckets-more bs b) ∙ last_stamp-append 0 (records_of_buckets bs) b.done in
    ap (λ cycles. record { n = n; cycles = cycles; last = last_stamp 0 (records_of_buckets (bs ++ b ∷ [])) }) (whole_cycles-more bs b)
    ∙ ap (λ last. record { n = n; cycles = whole_cycles bs + from_bool (is_whole b); last = last }) last
