-- Lemmas on the numbers of the sources, and on the initial events.
use Rattle.std.proofs.Common.{◌≡◌, ℕ, ◌+◌, ◌-◌, ◌<◌, ◌≤◌, Bool, true, false, cond, List, [], ◌∷◌, ◌++◌, length, get_or, sym, ap, ◌∙◌, append-nil, arith}
use Rattle.std.specs.Prelude.{slice_index, nat_lt, if◌then◌else◌}
use Rattle.std.specs.List.{range_with_len, filter}
use Rattle.std.proofs.lemmas.Bool.Decides.{nat_tests}
use Rattle.std.proofs.lemmas.Grind.{get_or_default_zero}
use Rattle.std.proofs.lemmas.List.Elements.{All-filter, at_read, filter-append}
use Rattle.std.proofs.lemmas.List.FromFn.{length-range_with_len}
use Rattle.std.proofs.lemmas.List.Sums.{length-filter, count_by-le-length}
use Rattle.model_core.proofs.Numbers.{numbers_below, numbers-more}
use Rattle.queue_models.specs.Meaning.{source_start, job_start, start_of}
use Rattle.queue_models.specs.Kinds.{is_source}
use Rattle.queue_models.specs.Objects.{Item, NetworkParts, no_object, object_at, sources_below, source_numbers}

-- there are no more sources than objects
pub length-source_numbers : (objects : List Item) → length (source_numbers objects) ≤ length objects
unfolding sources_below
length-source_numbers objects =
    let test = λ (number : ℕ). is_source (object_at objects number).kind in
    omega (
      arith,
      length-filter test (range_with_len 0 (length objects)),
      count_by-le-length test (range_with_len 0 (length objects)),
      length-range_with_len 0 (length objects),
    )

-- a source is one of the objects
pub source_numbers-exist : (objects : List Item) (i : ℕ) → i < length (source_numbers objects) → slice_index (source_numbers objects) i < length objects
unfolding sources_below
source_numbers-exist objects i within =
    All-filter (λ number. is_source (object_at objects number).kind) (λ number. number < length objects) (range_with_len 0 (length objects))
    (numbers_below (length objects)) i 0 within

-- one object more
below_more : (objects : List Item) (n : ℕ) (test : Bool) → is_source (object_at objects n).kind ≡ test
    → sources_below objects (n + 1) ≡ sources_below objects n ++ cond test (n ∷ []) []
unfolding sources_below
below_more objects n test at =
    let passes = λ (number : ℕ). is_source (object_at objects number).kind in
    ap (filter passes) (numbers-more 0 n n (omega arith)) ∙ filter-append passes (range_with_len 0 n) (n ∷ [])
    ∙ ap (λ b. filter passes (range_with_len 0 n) ++ cond b (n ∷ []) []) at

-- one source more
pub sources_below-more_source : (objects : List Item) (n : ℕ) (object : Item) → n < length objects → object ≡ get_or objects n object
    → is_source object.kind ≡ true → sources_below objects (n + 1) ≡ sources_below objects n ++ n ∷ []
sources_below-more_source objects n object within read source =
    below_more objects n true (at_read objects (λ o. is_source o.kind ≡ true) n object within read source no_object)

-- one object more that is no source
pub sources_below-more_other : (objects : List Item) (n : ℕ) (object : Item) → n < length objects → object ≡ get_or objects n object
    → is_source object.kind ≡ false → sources_below objects (n + 1) ≡ sources_below objects n
sources_below-more_other objects n object within read other =
    below_more objects n false (at_read objects (λ o. is_source o.kind ≡ false) n object within read other no_object)
    ∙ append-nil (sources_below objects n)

-- the initial events of the sources come first
pub start_of-source : (p : NetworkParts) (sources : List ℕ) (i number d : ℕ) → sources ≡ source_numbers p.objects → i < length sources
    → number ≡ get_or sources i d → (number < length p.objects) × (source_start p number ≡ start_of p i)
unfolding start_of
start_of-source p sources i number d listed within read =
    let numbers = source_numbers p.objects in
    let below : i < length numbers = omega (arith, ap length listed) in
    let at : number ≡ slice_index numbers i = read ∙ ap (λ (xs : List ℕ). get_or xs i d) listed ∙ get_or_default_zero numbers i d below in
    let exists : slice_index numbers i < length p.objects = source_numbers-exist p.objects i below in
    let early : nat_lt i (length numbers) ≡ true = grind (arith, nat_tests) in (
      omega arith,
      ap (source_start p) at
          ∙ sym (ap (λ b. if b then source_start p (slice_index numbers i) else job_start p (i - length numbers)) early),
    )

-- then come those of the jobs
pub start_of-job : (p : NetworkParts) (sources : List ℕ) (i : ℕ) → sources ≡ source_numbers p.objects → length sources ≤ i
    → job_start p (i - length sources) ≡ start_of p i
unfolding start_of
start_of-job p sources i listed past =
    let numbers = source_numbers p.objects in
    let same : i - length sources ≡ i - length numbers = ap (λ (xs : List ℕ). i - length xs) listed in
    let late : nat_lt i (length numbers) ≡ false = (let le : length numbers ≤ i = omega (arith, ap length listed) in grind (arith, nat_tests)) in
    ap (job_start p) same
    ∙ sym (ap (λ b. if b then source_start p (slice_index numbers i) else job_start p (i - length numbers)) late)
