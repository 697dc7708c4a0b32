-- The totals with one record more, and their lines with one object more.
use Rattle.std.proofs.Common.{◌≡◌, ◌≢◌, ℕ, ◌+◌, ◌<◌, ◌≤◌, Bool, true, false, List, [], ◌∷◌, ◌++◌, length, map, take, refl, sym, ap, ◌∙◌, arith, length-append, eqb-true, eq-eqb, get_or, eqb, subst, append-nil, append_assoc, length-take, replicate}
use Rattle.std.specs.Prelude.{All}
use Rattle.std.specs.List.{range_with_len}
use Rattle.std.proofs.Math.ListN.{set}
use Rattle.std.proofs.lemmas.List.{length-set, get_or-set_other, get_or-replicate, length-replicate}
use Rattle.std.proofs.lemmas.Grind.{get_or-set_at}
use Rattle.std.proofs.lemmas.List.{ext_get_or, take_more, take_all}
use Rattle.std.proofs.lemmas.List.FromFn.{length-map-range_with_len, get_or-map-range_with_len}
use Rattle.event_key.specs.declared.key.Key.{Key}
use Rattle.event_key.specs.Stamps.{time_part}
use Rattle.model_core.specs.declared.note.Note.{Note}
use Rattle.model_core.specs.Meaning.{Meaning}
use Rattle.run_tally.specs.Tallies.{last_time}
use Rattle.run_tally.proofs.InTime.{last_time-more}
use Rattle.run_tally.proofs.ToldLemmas.{told-here, told-elsewhere}
use Rattle.sim_stats.specs.declared.sums.Sums.{Sums}
use Rattle.sim_stats.specs.Occupancies.{after_words, intervals}
use Rattle.sim_stats.specs.Sums.{last_told, sums_of, sums_text, IsWithin}
use Rattle.sim_stats.specs.Totals.{Summed, totals_of, lines_of_sums}
use Rattle.sim_stats.specs.Words.{TimedWord, timed_words, words_told}

pub words_told-here : (records : List (Key × Note)) (told : Key × Note)
    → words_told told.0.dest (records ++ told ∷ []) ≡ words_told told.0.dest records ++ timed_words told
unfolding words_told
words_told-here records told = told-here timed_words records told

pub words_told-elsewhere : (object : ℕ) (records : List (Key × Note)) (told : Key × Note) → object ≢ told.0.dest
    → words_told object (records ++ told ∷ []) ≡ words_told object records
unfolding words_told
words_told-elsewhere object records told apart = told-elsewhere timed_words object records told apart

-- a list of what is so at each place, where that changes at one place
pub map-range-set : {X : Type 0} (f g : ℕ → X) (n place : ℕ) (new : X) → new ≡ g place → ((i : ℕ) → i ≢ place → g i ≡ f i)
    → set (map f (range_with_len 0 n)) place new ≡ map g (range_with_len 0 n)
map-range-set f g n place new here elsewhere =
    let old = map f (range_with_len 0 n) in
    let long : length old ≡ n = length-map-range_with_len f 0 n in
    ext_get_or new (set old place new) (map g (range_with_len 0 n)) (length-set old place new ∙ long ∙ sym (length-map-range_with_len g 0 n))
    (λ i within. by i (eqb i place) refl (omega (arith, length-set old place new, long)) ∙ sym (get_or-map-range_with_len g 0 n i i new (omega (arith, length-set old place new, long)) (omega arith)))
  where
    by : (i : ℕ) (b : Bool) → eqb i place ≡ b → i < n → get_or (set (map f (range_with_len 0 n)) place new) i new ≡ g i
    by i true is below =
        let same : i ≡ place = eqb-true i place is in
        let long = length-map-range_with_len f 0 n in
        get_or-set_at (map f (range_with_len 0 n)) place i new new same (omega (arith, long)) ∙ here ∙ ap g (sym same)
    by i false is below =
        let apart : i ≢ place = λ same. let yes = eq-eqb i place same in cc in
        get_or-set_other (map f (range_with_len 0 n)) place i new new apart ∙ get_or-map-range_with_len f 0 n i i new below (omega arith)
        ∙ sym (elsewhere i apart)

sums_at : List (Key × Note) → ℕ → Sums
sums_at records object = sums_of (words_told object records)

pub totals_of-more : (objects : ℕ) (records : List (Key × Note)) (told : Key × Note) (now : Sums)
    → now ≡ sums_of (words_told told.0.dest records ++ timed_words told)
    → record { objects = set (totals_of objects records).objects told.0.dest now; records = (totals_of objects records).records + 1; last = time_part told.0.stamp }
    ≡ totals_of objects (records ++ told ∷ [])
unfolding totals_of sums_at
totals_of-more objects records told now here =
    let changed : set (map (sums_at records) (range_with_len 0 objects)) told.0.dest now ≡ map (sums_at (records ++ told ∷ [])) (range_with_len 0 objects) =
    map-range-set (sums_at records) (sums_at (records ++ told ∷ [])) objects told.0.dest now
    (here ∙ ap (λ (words : List TimedWord). sums_of words) (sym (words_told-here records told)))
    (λ i apart. ap (λ (words : List TimedWord). sums_of words) (words_told-elsewhere i records told apart)) in
    let count : length records + 1 ≡ length (records ++ told ∷ []) = simp length-append (omega arith) in
    let last : time_part told.0.stamp ≡ last_time 0 (records ++ told ∷ []) = sym (last_time-more 0 records told) in
    cc

-- the sums of an object that there is
pub totals_of-at : (objects : ℕ) (records : List (Key × Note)) (object : ℕ) (none : Sums) → object < objects
    → get_or (totals_of objects records).objects object none ≡ sums_of (words_told object records)
unfolding totals_of sums_at
totals_of-at objects records object none exists = get_or-map-range_with_len (sums_at records) 0 objects object object none exists (omega arith)

pub totals_of-length : (objects : ℕ) (records : List (Key × Note)) → length (totals_of objects records).objects ≡ objects
unfolding totals_of sums_at
totals_of-length objects records = length-map-range_with_len (sums_at records) 0 objects

pub totals_of-none : (objects : ℕ) → totals_of objects [] ≡ record { objects = replicate objects (sums_of []); records = 0; last = 0 }
unfolding totals_of words_told last_time
totals_of-none objects =
    let none : ℕ → Sums = λ _. sums_of [] in
    let long : length (map none (range_with_len 0 objects)) ≡ objects = length-map-range_with_len none 0 objects in
    ap (λ (sums : List Sums). record { objects = sums; records = 0; last = 0 })
    (ext_get_or (sums_of []) (map none (range_with_len 0 objects)) (replicate objects (sums_of [])) (long ∙ sym (length-replicate objects (sums_of [])))
    (λ i within. get_or-map-range_with_len none 0 objects i i (sums_of []) (omega (arith, long)) (omega arith) ∙ sym (get_or-replicate objects i (sums_of []) (sums_of []) (omega (arith, long)))))

IsSmall : Sums → Type 0
IsSmall sums = IsWithin 0 sums × (sums.last ≤ 0)

none_is_small : IsSmall (sums_of [])
unfolding IsSmall sums_of intervals after_words last_told
none_is_small = (
  record {
    arrivals = omega arith;
    served = omega arith;
    lost = omega arith;
    busy = omega arith;
    waiting = omega arith;
    busy_ticks = omega arith;
    waiting_ticks = omega arith;
  },
  omega arith,
)

pub sums_of_none_are_small : (objects : ℕ) (sums : List Sums) → sums ≡ replicate objects (sums_of [])
    → All (λ (sums : Sums). IsWithin 0 sums × (sums.last ≤ 0)) sums
unfolding IsSmall
sums_of_none_are_small objects sums are k d within =
    subst IsSmall (sym (ap (λ (sums : List Sums). get_or sums k d) are ∙ get_or-replicate objects k (sums_of []) d (omega (arith, ap length are, length-replicate objects (sums_of []))))) none_is_small

lines_of_sums-more : (m : Meaning) (from : ℕ) (sums : List Sums) (one : Sums)
    → lines_of_sums m from (sums ++ one ∷ []) ≡ lines_of_sums m from sums ++ (m.label (from + length sums) ++ sums_text one)
unfolding lines_of_sums
lines_of_sums-more m from [] one = append-nil (m.label from ++ sums_text one) ∙ ap (λ n. m.label n ++ sums_text one) (omega arith)
lines_of_sums-more m from (first ∷ rest) one =
    ap (λ (lines : List ℕ). (m.label from ++ sums_text first) ++ lines)
    (lines_of_sums-more m (from + 1) rest one ∙ ap (λ n. lines_of_sums m (from + 1) rest ++ (m.label n ++ sums_text one)) (omega arith))
    ∙ sym (append_assoc (m.label from ++ sums_text first) (lines_of_sums m (from + 1) rest) (m.label (from + length (first ∷ rest)) ++ sums_text one))

-- the line of the next object, behind what was there
pub lines_of_sums-next : (m : Meaning) (sums : List Sums) (i : ℕ) (one : Sums) (old named lines : List ℕ) → i < length sums → one ≡ get_or sums i one
    → named ≡ (old ++ lines_of_sums m 0 (take i sums)) ++ m.label i → lines ≡ named ++ sums_text one
    → lines ≡ old ++ lines_of_sums m 0 (take (i + 1) sums)
lines_of_sums-next m sums i one old named lines within is name line =
    line ∙ ap (λ (before : List ℕ). before ++ sums_text one) name
    ∙ append_assoc (old ++ lines_of_sums m 0 (take i sums)) (m.label i) (sums_text one)
    ∙ append_assoc old (lines_of_sums m 0 (take i sums)) (m.label i ++ sums_text one)
    ∙ ap (λ (more : List ℕ). old ++ more)
    (ap (λ n. lines_of_sums m 0 (take i sums) ++ (m.label n ++ sums_text one)) (omega (arith, length-take i sums))
    ∙ sym (lines_of_sums-more m 0 (take i sums) one)
    ∙ ap (λ (sums : List Sums). lines_of_sums m 0 sums) (ap (λ (last : Sums). take i sums ++ last ∷ []) is ∙ sym (take_more sums i one within)))

-- all lines, once each object has one
pub lines_of_sums-all : (m : Meaning) (sums : List Sums) (i : ℕ) → length sums ≤ i → lines_of_sums m 0 (take i sums) ≡ lines_of_sums m 0 sums
lines_of_sums-all m sums i all = ap (λ (sums : List Sums). lines_of_sums m 0 sums) (take_all i sums all)

-- what totals of records have
pub totals_of-parts : (totals : Summed) (objects : ℕ) (records : List (Key × Note)) → totals ≡ totals_of objects records
    → (length totals.objects ≡ objects) × (totals.records ≡ length records) × (totals.last ≡ last_time 0 records)
unfolding totals_of
totals_of-parts totals objects records summed = (
  ap (λ (s : Summed). length s.objects) summed ∙ totals_of-length objects records,
  ap (λ (s : Summed). s.records) summed,
  ap (λ (s : Summed). s.last) summed,
)
