-- Lemmas on the initial events: how many there are, the one with a number, and what holds of all.
use Rattle.std.proofs.Common.{◌≡◌, ℕ, zero, suc, ◌+◌, ◌-◌, ◌*◌, ◌/◌, ◌%◌, ◌<◌, ◌≤◌, List, length, get_or, map, replicate, sym, ◌∙◌, ap, arith, length-append, get_or-append-add}
use Rattle.std.specs.Prelude.{All, flat_map, slice_index_or}
use Rattle.std.specs.List.{range_with_len}
use Rattle.std.proofs.lemmas.List.{length-map, length-replicate, get_or-map, get_or-append_right, get_or_append_left, get_or-replicate}
use Rattle.std.proofs.lemmas.List.Elements.{All-nil, All-append, All-replicate, All-map}
use Rattle.std.proofs.lemmas.Nat.{div_below, div-add-mod'}
use Rattle.model_core.specs.declared.entry.Entry.{Entry}
use Rattle.model_core.specs.declared.event.Start.{Start}
use Rattle.phold_model.specs.Parts.{PholdParts}
use Rattle.phold_model.specs.Meaning.{starts_of, hop_start}

-- so many copies of the value of each of n numbers, from a on
abbrev copies : ℕ → (ℕ → Start) → ℕ → ℕ → List Start
copies each f a n = flat_map (λ i. replicate each (f i)) (range_with_len a n)

length-copies : (each : ℕ) (f : ℕ → Start) (a n : ℕ) → length (copies each f a n) ≡ n * each
length-copies each f a zero = omega arith
length-copies each f a (suc n) =
    omega (arith, length-append (replicate each (f a)) (copies each f (a + 1) n), length-replicate each (f a), length-copies each f (a + 1) n)

get_or-copies : (each : ℕ) (f : ℕ → Start) (a n i j : ℕ) (d : Start) → i < n → j < each → get_or (copies each f a n) (i * each + j) d ≡ f (a + i)
get_or-copies each f a zero i j d below within = absurd (omega arith)
get_or-copies each f a (suc n) zero j d below within =
    let first : 0 * each + j ≡ j = omega arith in
    let at : a + 0 ≡ a = omega arith in
    let here : j < length (replicate each (f a)) = omega (arith, length-replicate each (f a)) in
    ap (λ k. get_or (copies each f a (suc n)) k d) first
    ∙ get_or_append_left (replicate each (f a)) (copies each f (a + 1) n) d j here
    ∙ get_or-replicate each j (f a) d within ∙ ap f (sym at)
get_or-copies each f a (suc n) (suc i) j d below within =
    let past : suc i * each + j ≡ length (replicate each (f a)) + (i * each + j) = omega (arith, length-replicate each (f a)) in
    let at : a + 1 + i ≡ a + suc i = omega arith in
    ap (λ k. get_or (copies each f a (suc n)) k d) past
    ∙ get_or-append-add (replicate each (f a)) (copies each f (a + 1) n) (i * each + j) d
    ∙ get_or-copies each f (a + 1) n i j d (omega arith) within ∙ ap f at

All-copies : (P : Start → Type 0) (each : ℕ) (f : ℕ → Start) (a n : ℕ) → ((i : ℕ) → i < a + n → P (f i)) → All P (copies each f a n)
All-copies P each f a zero h = All-nil P
All-copies P each f a (suc n) h =
    All-append P (replicate each (f a)) (copies each f (a + 1) n) (All-replicate P each (f a) (h a (omega arith)))
    (All-copies P each f (a + 1) n (λ i l. h i (omega arith)))

pub length-starts_of : (p : PholdParts) → length (starts_of p) ≡ p.objects * p.each + length p.start
unfolding starts_of
length-starts_of p =
    let f : ℕ → Start = λ object. hop_start 0 object p.rank in
    let g : Entry → Start = λ entry. hop_start entry.time entry.at entry.rank in
    omega (arith, length-append (copies p.each f 0 p.objects) (map g p.start), length-copies p.each f 0 p.objects, length-map p.start g)

positive_factor : (a b i : ℕ) → i < a * b → 0 < b
positive_factor a zero i h = absurd (omega arith)
positive_factor a (suc b) i h = omega arith

-- those at time 0 come object by object
pub starts_of-early : (p : PholdParts) (i : ℕ) (d : Start) → i < p.objects * p.each → slice_index_or (starts_of p) i d ≡ hop_start 0 (i / p.each) p.rank
unfolding starts_of
starts_of-early p i d early =
    let f : ℕ → Start = λ object. hop_start 0 object p.rank in
    let g : Entry → Start = λ entry. hop_start entry.time entry.at entry.rank in
    let some : 0 < p.each = positive_factor p.objects p.each i early in
    let object : i / p.each < p.objects = div_below i p.each p.objects some early in
    let split : i ≡ i / p.each * p.each + i % p.each = sym (div-add-mod' i p.each) in
    let within : i % p.each < p.each = omega arith in
    let here : i < length (copies p.each f 0 p.objects) = omega (arith, length-copies p.each f 0 p.objects) in
    let from : 0 + i / p.each ≡ i / p.each = omega arith in
    get_or_append_left (copies p.each f 0 p.objects) (map g p.start) d i here
    ∙ ap (λ k. get_or (copies p.each f 0 p.objects) k d) split
    ∙ get_or-copies p.each f 0 p.objects (i / p.each) (i % p.each) d object within ∙ ap f from

-- then come the further ones
pub starts_of-late : (p : PholdParts) (i : ℕ) (d : Start) (e : Entry) → p.objects * p.each ≤ i → i < length (starts_of p)
    → slice_index_or (starts_of p) i d ≡ (let entry = slice_index_or p.start (i - p.objects * p.each) e in hop_start entry.time entry.at entry.rank)
unfolding starts_of
starts_of-late p i d e late below =
    let f : ℕ → Start = λ object. hop_start 0 object p.rank in
    let g : Entry → Start = λ entry. hop_start entry.time entry.at entry.rank in
    let within : i - p.objects * p.each < length p.start = omega (arith, length-starts_of p) in
    get_or-append_right (copies p.each f 0 p.objects) (map g p.start) (p.objects * p.each) i d (length-copies p.each f 0 p.objects) late
    ∙ get_or-map g p.start (i - p.objects * p.each) e d within

-- what holds of every initial event
pub All-starts_of : (P : Start → Type 0) (p : PholdParts) → ((object : ℕ) → object < p.objects → P (hop_start 0 object p.rank))
    → All (λ entry. P (hop_start entry.time entry.at entry.rank)) p.start → All P (starts_of p)
unfolding starts_of
All-starts_of P p first further =
    All-append P (copies p.each (λ object. hop_start 0 object p.rank) 0 p.objects)
    (map (λ entry. hop_start entry.time entry.at entry.rank) p.start)
    (All-copies P p.each (λ object. hop_start 0 object p.rank) 0 p.objects (λ object l. first object (omega arith)))
    (All-map P (λ entry. hop_start entry.time entry.at entry.rank) p.start further)
