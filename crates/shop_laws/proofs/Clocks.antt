-- Sums over the ticks, as the clock goes on.
use Rattle.std.proofs.Common.{◌≡◌, ℕ, zero, suc, ◌+◌, ◌-◌, ◌*◌, ◌≤◌, Bool, true, false, cond, List, [], ◌∷◌, ◌++◌, length, refl, sym, ap, ◌∙◌, arith, append_assoc, append-nil}
use Rattle.std.specs.Prelude.{if◌then◌else◌, ◌==◌, nat_lt, sum_by, count_by}
use Rattle.std.specs.List.{range_with_len, filter, flat_map, AllByRecursion as Each}
use Rattle.std.proofs.lemmas.Bool.{le-ltb, ltb-false}
use Rattle.std.proofs.lemmas.List.Elements.{All-from_recursion}
use Rattle.std.proofs.lemmas.List.Sums.{sum_by-cons}
use Rattle.event_key.specs.declared.key.Key.{Key}
use Rattle.event_key.specs.Stamps.{time_part}
use Rattle.key_order.proofs.EachLemmas.{Each-append}
use Rattle.model_core.specs.declared.note.Note.{Note}
use Rattle.model_core.specs.declared.note.Part.{Part}
use Rattle.shop_model.specs.declared.levels.TheConstants.{EMPTY}
use Rattle.shop_totals.specs.declared.kept.Kept.{Kept}
use Rattle.shop_totals.specs.Flows.{count_told}
use Rattle.shop_totals.specs.Kept.{number_after, ticks_of, kept_of, ticks_between}
use Rattle.shop_totals.specs.Records.{parts_at, timed_parts, told_at}
use Rattle.shop_totals.specs.Told.{TimedPart, AreBy}
use Rattle.shop_totals.proofs.KeptLemmas.{kept_pass, kept_more}
use Rattle.shop_laws.specs.Waiting.{sum_waiting}

-- the time goes on: the number counts for each tick of it
pub ticks_pass : (after : ℕ → Part → ℕ) (now : ℕ) (told : List TimedPart) (earlier later : ℕ) → AreBy earlier told → earlier ≤ later
    → ticks_of after now 0 told later ≡ ticks_of after now 0 told earlier + number_after after now told * (later - earlier)
ticks_pass after now told earlier later are le =
    let kept : Kept = kept_of after now 0 told earlier in
    let passed : Kept = record kept { ticks = kept.ticks + kept.number * ticks_between 0 earlier later } in
    let is : passed ≡ kept_of after now 0 told later = kept_pass after now 0 told earlier later (ticks_between 0 earlier later) kept passed are le refl refl refl in
    let between : ticks_between 0 earlier later ≡ later - earlier = omega arith in
    ap (λ (k : Kept). k.ticks) (sym is) ∙ ap (λ n. ticks_of after now 0 told earlier + number_after after now told * n) between

-- what is told at a time counts from then on
pub ticks_same : (after : ℕ → Part → ℕ) (now : ℕ) (told : List TimedPart) (time : ℕ) (note : Note)
    → ticks_of after now 0 (told ++ parts_at time note) time ≡ ticks_of after now 0 told time
ticks_same after now told time [] = ap (λ (parts : List TimedPart). ticks_of after now 0 parts time) (append-nil told)
ticks_same after now told time (part ∷ rest) =
    let one : TimedPart = record { time = time; part = part } in
    let kept : Kept = kept_of after now 0 told time in
    let is : record kept { number = after kept.number part } ≡ kept_of after now 0 (told ++ one ∷ []) time = kept_more after now 0 told one kept (after kept.number part) refl refl in
    ap (λ (parts : List TimedPart). ticks_of after now 0 parts time) (sym (append_assoc told (one ∷ []) (parts_at time rest)))
    ∙ ticks_same after now (told ++ one ∷ []) time rest
    ∙ ap (λ (k : Kept). k.ticks) (sym is)

-- what is told at one time, so many times over
pub times_told : (c : ℕ → Bool) (time : ℕ) (note : Note)
    → sum_by (λ (one : TimedPart). if c one.part.word then one.time else 0) (parts_at time note) ≡ count_told c (parts_at time note) * time
times_told c time [] = omega arith
times_told c time (part ∷ rest) =
    by (c part.word) (sum_by-cons (λ (one : TimedPart). if c one.part.word then one.time else 0) one (parts_at time rest))
    (sum_by-cons (λ (one : TimedPart). cond (c one.part.word) 1 0) one (parts_at time rest)) (times_told c time rest)
  where
    one : TimedPart
    one = record { time = time; part = part }

    times : List TimedPart → ℕ
    times told = sum_by (λ (one : TimedPart). if c one.part.word then one.time else 0) told

    by : (is : Bool) → times (parts_at time (part ∷ rest)) ≡ (if is then time else 0) + times (parts_at time rest)
        → count_told c (parts_at time (part ∷ rest)) ≡ cond is 1 0 + count_told c (parts_at time rest)
        → times (parts_at time rest) ≡ count_told c (parts_at time rest) * time
        → times (parts_at time (part ∷ rest)) ≡ count_told c (parts_at time (part ∷ rest)) * time
    by true sum count more =
        let all : count_told c (parts_at time (part ∷ rest)) * time ≡ (1 + count_told c (parts_at time rest)) * time = ap (λ n. n * time) count in
        omega (arith, sum, more, all)
    by false sum count more =
        let all : count_told c (parts_at time (part ∷ rest)) * time ≡ (0 + count_told c (parts_at time rest)) * time = ap (λ n. n * time) count in
        omega (arith, sum, more, all)

-- records by a time tell nothing later
parts_by : (time : ℕ) (r : Key × Note) → time_part r.0.stamp ≤ time → Each (λ (one : TimedPart). one.time ≤ time) (timed_parts r)
parts_by time r by_then = each r.1
  where
    each : (note : Note) → Each (λ (one : TimedPart). one.time ≤ time) (parts_at (time_part r.0.stamp) note)
    each [] = tt
    each (part ∷ rest) = (by_then, each rest)

each_by : (object time : ℕ) (records : List (Key × Note)) → Each (λ (r : Key × Note). time_part r.0.stamp ≤ time) records
    → Each (λ (one : TimedPart). one.time ≤ time) (flat_map timed_parts (filter (λ (told : Key × Note). told.0.dest == object) records))
each_by object time [] all = tt
each_by object time (r ∷ rest) all =
    elim (r.0.dest == object) as (λ b. Each (λ (one : TimedPart). one.time ≤ time)
    (flat_map timed_parts (cond b (r ∷ filter (λ (told : Key × Note). told.0.dest == object) rest) (filter (λ (told : Key × Note). told.0.dest == object) rest)))) [
      | true ↦ Each-append (λ (one : TimedPart). one.time ≤ time) (timed_parts r) (flat_map timed_parts (filter (λ (told : Key × Note). told.0.dest == object) rest)) (parts_by time r all.0)
          (each_by object time rest all.1)
      | false ↦ each_by object time rest all.1
    ]

pub told_by_then : (object time : ℕ) (records : List (Key × Note)) → Each (λ (r : Key × Note). time_part r.0.stamp ≤ time) records → AreBy time (told_at object records)
unfolding told_at
told_by_then object time records all =
    All-from_recursion (λ (one : TimedPart). one.time ≤ time) (flat_map timed_parts (filter (λ (told : Key × Note). told.0.dest == object) records)) (each_by object time records all)

-- who waits since later than this
abbrev pub later_than : ℕ → ℕ → ℕ → ℕ → ℕ
later_than clock a birth since = cond (nat_lt clock since) 1 0

abbrev pub waited_by : ℕ → ℕ → ℕ → ℕ → ℕ
waited_by clock a birth since = clock - since

abbrev pub as_one : ℕ → ℕ → ℕ → ℕ
as_one a birth since = 1

-- where nobody waits since later than an earlier time, each waits as much longer
pub level_pass : (earlier later : ℕ) (jobs births since : List ℕ) → earlier ≤ later → sum_waiting (later_than earlier) jobs births since ≡ 0
    → (sum_waiting (waited_by later) jobs births since ≡ sum_waiting (waited_by earlier) jobs births since + sum_waiting as_one jobs births since * (later - earlier))
    × (sum_waiting (later_than later) jobs births since ≡ 0)
unfolding sum_waiting
level_pass earlier later [] births since le none = (omega arith, refl)
level_pass earlier later (a ∷ jobs) [] since le none = (omega arith, refl)
level_pass earlier later (a ∷ jobs) (birth ∷ births) [] le none = (omega arith, refl)
level_pass earlier later (a ∷ jobs) (birth ∷ births) (time ∷ since) le none =
    by (nat_lt a EMPTY) (level_pass earlier later jobs births since le) none
  where
    rest : (ℕ → ℕ → ℕ → ℕ) → ℕ
    rest w = sum_waiting w jobs births since

    by : (live : Bool)
        → (rest (later_than earlier) ≡ 0 → (rest (waited_by later) ≡ rest (waited_by earlier) + rest as_one * (later - earlier)) × (rest (later_than later) ≡ 0))
        → (if live then cond (nat_lt earlier time) 1 0 else 0) + rest (later_than earlier) ≡ 0
        → ((if live then later - time else 0) + rest (waited_by later)
        ≡ (if live then earlier - time else 0) + rest (waited_by earlier) + ((if live then 1 else 0) + rest as_one) * (later - earlier))
        × ((if live then cond (nat_lt later time) 1 0 else 0) + rest (later_than later) ≡ 0)
    by false more none =
        let both = more (omega arith) in
        let all : (0 + rest as_one) * (later - earlier) ≡ rest as_one * (later - earlier) = omega arith in
        (omega (arith, both.0, all), omega (arith, both.1))
    by true more none = at (nat_lt earlier time) refl none
      where
        at : (past : Bool) → nat_lt earlier time ≡ past → cond past 1 0 + rest (later_than earlier) ≡ 0
            → ((later - time) + rest (waited_by later) ≡ (earlier - time) + rest (waited_by earlier) + (1 + rest as_one) * (later - earlier))
            × (cond (nat_lt later time) 1 0 + rest (later_than later) ≡ 0)
        at true past none = absurd (omega arith)
        at false past none =
            let early : time ≤ earlier = ltb-false earlier time past in
            let both = more (omega arith) in
            let on_time : ◌≡◌ {A = ℕ} (cond (nat_lt later time) 1 0) 0 = ap (λ b. cond b 1 0) (le-ltb later time (omega arith)) in
            let all : (1 + rest as_one) * (later - earlier) ≡ (later - earlier) + rest as_one * (later - earlier) = omega arith in
            (omega (arith, both.0, all), omega (arith, both.1, on_time))

-- as many as are jobs
pub level_count : (jobs births since : List ℕ) → length births ≡ length jobs → length since ≡ length jobs
    → sum_waiting as_one jobs births since ≡ count_by (λ a. nat_lt a EMPTY) jobs
unfolding sum_waiting
level_count [] births since as_births as_since = refl
level_count (a ∷ jobs) [] since as_births as_since = absurd (omega arith)
level_count (a ∷ jobs) (birth ∷ births) [] as_births as_since = absurd (omega arith)
level_count (a ∷ jobs) (birth ∷ births) (time ∷ since) as_births as_since =
    omega (arith, sum_by-cons (λ a. cond (nat_lt a EMPTY) 1 0) a jobs, level_count jobs births since (omega arith) (omega arith))

-- over all levels
pub levels_pass : (f g h late after : ℕ → ℕ) (d a n : ℕ) → ((k : ℕ) → late k ≡ 0 → (f k ≡ g k + h k * d) × (after k ≡ 0)) → sum_by late (range_with_len a n) ≡ 0
    → (sum_by f (range_with_len a n) ≡ sum_by g (range_with_len a n) + sum_by h (range_with_len a n) * d) × (sum_by after (range_with_len a n) ≡ 0)
levels_pass f g h late after d a zero each none = (omega arith, refl)
levels_pass f g h late after d a (suc n) each none =
    let first : sum_by late (range_with_len a (suc n)) ≡ late a + sum_by late (range_with_len (a + 1) n) = sum_by-cons late a (range_with_len (a + 1) n) in
    let here = each a (omega arith) in
    let rest = levels_pass f g h late after d (a + 1) n each (omega arith) in
    let all : sum_by h (range_with_len a (suc n)) * d ≡ (h a + sum_by h (range_with_len (a + 1) n)) * d = ap (λ m. m * d) (sum_by-cons h a (range_with_len (a + 1) n)) in (
      omega (arith, sum_by-cons f a (range_with_len (a + 1) n), sum_by-cons g a (range_with_len (a + 1) n), here.0, rest.0, all),
      omega (arith, sum_by-cons after a (range_with_len (a + 1) n), here.1, rest.1),
    )
