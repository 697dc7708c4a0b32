-- What is told with a record more, and of which class a part tells.
use Rattle.std.proofs.Common.{◌≡◌, ◌≢◌, ℕ, ◌+◌, ◌/◌, ◌<◌, Bool, List, [], ◌∷◌, ◌++◌, length, take, get_or, refl, sym, ap, ◌∙◌, eq-eqb, ne_eqb, cond, append-nil, append_assoc}
use Rattle.std.specs.Prelude.{◌==◌}
use Rattle.std.specs.List.{filter, flat_map}
use Rattle.std.proofs.lemmas.Grind.{flat_map-append}
use Rattle.std.proofs.lemmas.List.{map_more}
use Rattle.std.proofs.lemmas.List.Elements.{filter-append}
use Rattle.event_key.specs.declared.key.Key.{Key}
use Rattle.model_core.specs.declared.note.Note.{Note}
use Rattle.model_core.specs.declared.note.Part.{Part}
use Rattle.shop_model.specs.declared.job.TheConstants.{JOBS_A_CLASS}
use Rattle.shop_totals.specs.Records.{parts_at, timed_parts, told_at, of_class}
use Rattle.shop_totals.specs.Told.{TimedPart}

told_at-more : (object : ℕ) (records : List (Key × Note)) (told : Key × Note)
    → told_at object (records ++ told ∷ []) ≡ told_at object records ++ told_at object (told ∷ [])
unfolding told_at
told_at-more object records told =
    let here : Key × Note → Bool = λ told. told.0.dest == object in
    ap (λ (xs : List (Key × Note)). flat_map timed_parts xs) (filter-append here records (told ∷ []))
    ∙ flat_map-append timed_parts (filter here records) (filter here (told ∷ []))

pub told_at-here : (object : ℕ) (records : List (Key × Note)) (told : Key × Note) → told.0.dest ≡ object
    → told_at object (records ++ told ∷ []) ≡ told_at object records ++ timed_parts told
unfolding told_at
told_at-here object records told here =
    let its_own : told_at object (told ∷ []) ≡ timed_parts told =
    ap (λ b. flat_map timed_parts (cond b (told ∷ []) [])) (eq-eqb told.0.dest object here) ∙ append-nil (timed_parts told) in
    told_at-more object records told ∙ ap (λ (parts : List TimedPart). told_at object records ++ parts) its_own

pub told_at-elsewhere : (object : ℕ) (records : List (Key × Note)) (told : Key × Note) → told.0.dest ≢ object
    → told_at object (records ++ told ∷ []) ≡ told_at object records
unfolding told_at
told_at-elsewhere object records told apart =
    let none : told_at object (told ∷ []) ≡ [] = ap (λ b. flat_map timed_parts (cond b (told ∷ []) [])) (ne_eqb told.0.dest object apart) in
    told_at-more object records told ∙ ap (λ (parts : List TimedPart). told_at object records ++ parts) none ∙ append-nil (told_at object records)

-- with one part more of a note
pub parts_at-more : (told : List TimedPart) (time : ℕ) (note : Note) (i : ℕ) (none : Part) → i < length note
    → (told ++ parts_at time (take i note)) ++ record { time = time; part = get_or note i none } ∷ [] ≡ told ++ parts_at time (take (i + 1) note)
parts_at-more told time note i none within =
    let timed_at : Part → TimedPart = λ part. record { time = time; part = part } in
    append_assoc told (parts_at time (take i note)) (timed_at (get_or note i none) ∷ [])
    ∙ ap (λ (parts : List TimedPart). told ++ parts) (sym (map_more timed_at note i none within))

pub told_at-none : (object : ℕ) → told_at object [] ≡ []
unfolding told_at
told_at-none object = refl

pub of_class-here : (class : ℕ) (told : List TimedPart) (one : TimedPart) → one.part.a / JOBS_A_CLASS ≡ class
    → of_class class (told ++ one ∷ []) ≡ of_class class told ++ one ∷ []
of_class-here class told one here =
    filter-append (λ (one : TimedPart). one.part.a / JOBS_A_CLASS == class) told (one ∷ [])
    ∙ ap (λ b. of_class class told ++ cond b (one ∷ []) []) (eq-eqb (one.part.a / JOBS_A_CLASS) class here)

pub of_class-elsewhere : (class : ℕ) (told : List TimedPart) (one : TimedPart) → one.part.a / JOBS_A_CLASS ≢ class
    → of_class class (told ++ one ∷ []) ≡ of_class class told
of_class-elsewhere class told one apart =
    filter-append (λ (one : TimedPart). one.part.a / JOBS_A_CLASS == class) told (one ∷ [])
    ∙ ap (λ b. of_class class told ++ cond b (one ∷ []) []) (ne_eqb (one.part.a / JOBS_A_CLASS) class apart)
    ∙ append-nil (of_class class told)
