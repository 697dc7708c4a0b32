-- A demo runs to its end.
use Rattle.std.proofs.Common.{◌≡◌, ◌≢◌, ℕ, zero, suc, ◌+◌, ◌-◌, ◌*◌, ◌%◌, ◌<◌, ◌≤◌, Bool, true, false, cond, List, [], ◌∷◌, length, map, refl, sym, ap, ◌∙◌, subst, arith, eqb, eqb-true, eq-eqb, ltb, ltb-true, ltb-false, mul-le-mul_left}
use Rattle.std.specs.Prelude.{IsTrue, sum_by, slice_index_or, ◌==◌}
use Rattle.std.specs.List.{AllByRecursion as Each, range_with_len}
use Rattle.std.proofs.lemmas.List.{get_or_past}
use Rattle.std.proofs.lemmas.List.Elements.{All-from_recursion}
use Rattle.std.proofs.lemmas.List.FromFn.{length-map-range_with_len, get_or-map-range_with_len}
use Rattle.std.proofs.lemmas.List.Sums.{sum_by-cons, sum_by-le}
use Rattle.event_key.specs.declared.key.Key.{Key}
use Rattle.event_key.specs.Keys.{key_lt}
use Rattle.event_key.specs.Stamps.{time_part, end_stamp}
use Rattle.event_key.proofs.Order.{stamp-le}
use Rattle.delta_exchange.specs.Changes.{CellData, line_of, cells_after_all}
use Rattle.key_order.specs.Ascending.{IsAscending, Ascends}
use Rattle.key_order.proofs.EachLemmas.{Each-map, Each-both}
use Rattle.key_order.proofs.EnqueueLemmas.{Each-enqueue_all, length-enqueue_all}
use Rattle.model_core.specs.declared.effect.Effect.{Effect}
use Rattle.model_core.specs.declared.effect.Outcome.{Outcome}
use Rattle.model_core.specs.declared.effect.Outcome.TheVariants.{Goes, Fails}
use Rattle.model_core.specs.declared.entry.Entry.{Entry}
use Rattle.model_core.specs.declared.event.Event.{Event}
use Rattle.model_core.specs.declared.note.Note.{Note}
use Rattle.sim_spec.specs.declared.stop.Stop.{Stop}
use Rattle.sim_spec.specs.declared.stop.Stop.TheVariants.{End}
use Rattle.sim_spec.specs.Firing.{fire, fired_by, goes, fails, firing_of, has_endless_chain}
use Rattle.sim_spec.specs.State.{State, Lawful, initial_state, start_event, object_at as state_at}
use Rattle.sim_spec.specs.Run.{stops, does, next, next_fired}
use Rattle.sim_spec.proofs.RunEndsLemma.{run-ends}
use Rattle.sim_spec.proofs.RunLemmas.{first_sound, next-none, next-late, next-fires, state_after}
use Rattle.sim_spec.proofs.FiringLemmas.{goes-effect}
use Rattle.queue_models.specs.declared.kind.KindOver.{KindOver}
use Rattle.queue_models.specs.declared.delay.Delay.{Delay as DelayOver}
use Rattle.queue_models.specs.declared.site.Site.{Site}
use Rattle.queue_models.specs.declared.station.Station.{Station as StationOver}
use Rattle.queue_models.specs.Delays.{delay_effect}
use Rattle.queue_models.specs.Kinds.{IsKind, effect_at, is_lawful, is_source}
use Rattle.queue_models.specs.Meaning.{plain_meaning, network_meaning, site_of, job_start}
use Rattle.queue_models.specs.ModelLaws.{object_fine}
use Rattle.queue_models.specs.Objects.{NetworkParts, object_at, source_numbers}
use Rattle.queue_models.specs.Parts.{IsNetwork, IsLink}
use Rattle.queue_models.specs.Rings.{ring_objects, ring_jobs, ring_parts, ring_terms}
use Rattle.queue_models.specs.Stations.{waiting_jobs, station_effect, take_effect, wait_effect, lose_effect, serve_effect, free_effect}
use Rattle.queue_models.specs.Starts.{source_numbers-exist}
use Rattle.queue_models.proofs.RingLemmas.{objects-length, ring_is_network}
use Rattle.run_laws.specs.Reached.{Reaches}
use Rattle.run_laws.proofs.Induction.{each_reached}
use Rattle.run_laws.proofs.ReachedLemmas.{run_is_reached}
use Rattle.run_laws.proofs.Steps.{first_firing}
use Rattle.subject_laws.specs.Places.{word_told}
use Rattle.subject_laws.specs.RingLaws.{ring_run, RingsRunToTheirEnd}
use Rattle.subject_laws.specs.Stations.{cells_at, waiting_at}
use Rattle.subject_laws.proofs.JobLemmas.PlacesLaw.{first_line, source_number}
use Rattle.subject_laws.proofs.JobLemmas.Weights.{range-change}
use Rattle.subject_laws.proofs.QueueLemmas.Cases.{EventDoes, StationDoes, takes, waits, loses, serves, frees, event_does}
use Rattle.subject_laws.proofs.QueueLemmas.Leaves.{station_shape}
use Rattle.subject_laws.proofs.QueueLemmas.LossesLaw.{StationGives, lost, failed, other, station_gives}
use Rattle.subject_laws.proofs.QueueLemmas.NetworkStarts.{cells_at_start, start_cases}
use Rattle.subject_laws.proofs.QueueLemmas.NetworkSteps.{IsNetworkStep, network_step, reached_lawful, cells_here, cells_elsewhere, sum_before, sum_after}
use Rattle.subject_laws.proofs.QueueLemmas.PlainRuns.{same_next, same_after, plain_reaches}
use Rattle.subject_laws.proofs.QueueLemmas.TellingLaw.{stops_too}
use Rattle.subject_laws.proofs.RingLemmas.RingParts.{RingKind, at_station, at_delay, ring_kind}
use Rattle.subject_laws.proofs.RingLemmas.RingSteps.{weight, IsTurn, Moves, station_moves, delay_moves, station_free, delay_free}
use Rattle.subject_laws.proofs.TimeLemmas.SourcesLaw.{sum-zero, same_range}

-- how many jobs wait at all stations
all_waiting : ℕ → State → ℕ
all_waiting n s = sum_by (λ i. length (waiting_at s i)) (range_with_len 0 (2 * n))

-- a ring in the middle of its run: its jobs are there, each event took its time, and what is pending is soon
record Turns (n now : ℕ) (s : State) : Type 0 where
  pub upto : now ≤ 1000
  pub jobs : length s.pending + all_waiting n s ≤ n
  pub pace : 2 * s.count ≤ sum_by weight s.pending + all_waiting n s * (3 * now + 3)
  pub turns : Each (IsTurn now) s.pending

-- one of several numbers is at most their sum
part_of_sum : (f : ℕ → ℕ) (d a m : ℕ) → a ≤ d → d < a + m → f d ≤ sum_by f (range_with_len a m)
part_of_sum f d a zero from upto = absurd (omega arith)
part_of_sum f d a (suc m) from upto = by (eqb a d) refl (λ past. part_of_sum f d (a + 1) m past (omega arith))
  where
    by : (here : Bool) → eqb a d ≡ here → (a + 1 ≤ d → f d ≤ sum_by f (range_with_len (a + 1) m)) → f d ≤ sum_by f (range_with_len a (suc m))
    by true is more = let same : f a ≡ f d = ap f (eqb-true a d is) in omega (arith, sum_by-cons f a (range_with_len (a + 1) m))
    by false is more =
        let apart : (a ≡ d → ⊥) = λ same. let yes = eq-eqb a d same in cc in
        let rest : f d ≤ sum_by f (range_with_len (a + 1) m) = more (omega arith) in
        omega (arith, sum_by-cons f a (range_with_len (a + 1) m))

-- an event of a ring moves one job
event_moves : (n now : ℕ) (s : State) (told : Key × Note) (after : State) → IsNetwork (ring_parts n) → n ≤ 256 → (step : IsNetworkStep (ring_parts n) ring_terms s told after) → Turns n now s
    → IsTurn now step.step.event → time_part step.step.event.key.stamp ≤ 1000
    → Moves step.step.event (first_firing s step.step.event step.step.effect).events (length (waiting_at s step.step.event.key.dest))
    (waiting_jobs (cells_after_all step.step.effect.changes (cells_at s step.step.event.key.dest)))
unfolding plain_meaning network_meaning all_waiting
event_moves n now s told after fine few step before turn due =
    by (object_at (ring_objects n) step.step.event.key.dest).kind refl (ring_kind n step.step.event.key.dest (let long = objects-length n in let exists : step.step.event.key.dest < length (ring_objects n) = step.exists in omega arith))
  where
    by : (kind : KindOver ℕ) → (object_at (ring_objects n) step.step.event.key.dest).kind ≡ kind → RingKind step.step.event.key.dest kind
        → Moves step.step.event (first_firing s step.step.event step.step.effect).events (length (waiting_at s step.step.event.key.dest))
        (waiting_jobs (cells_after_all step.step.effect.changes (cells_at s step.step.event.key.dest)))
    by kind is (at_station even station ring) =
        let e : Event = step.step.event in
        let d : ℕ = e.key.dest in
        let cells : CellData = cells_at s d in
        let D : KindOver ℕ → Type 0 = λ kind. EventDoes (ring_objects n) (site_of (ring_parts n) d) cells e kind step.step.effect in
        let L : KindOver ℕ → Type 0 = λ kind. IsTrue (is_lawful kind cells) in
        let part : length (waiting_at s d) ≤ all_waiting n s =
        part_of_sum (λ i. length (waiting_at s i)) d 0 (2 * n) (omega arith) (let long = objects-length n in let exists : d < length (ring_objects n) = step.exists in omega arith) in
        let pending : length s.pending ≡ suc (length step.step.rest) = ap (λ (es : List Event). length es) step.step.pending in
        station_moves (site_of (ring_parts n) d) station cells e step.step.effect (state_at s.objects d).sent ring (station_shape station.servers station.line cells (subst L is step.cells))
        refl even (turn.step even) due (let all = before.jobs in omega arith) (subst D is step.does_so)
    by kind is (at_delay odd delay ring) =
        let e : Event = step.step.event in
        let d : ℕ = e.key.dest in
        let cells : CellData = cells_at s d in
        let L : KindOver ℕ → Type 0 = λ kind. IsTrue (is_lawful kind cells) in
        delay_moves (site_of (ring_parts n) d) delay cells e step.step.effect (state_at s.objects d).sent ring (subst L is step.cells) odd due
        (sym (ap (λ (kind : KindOver ℕ). effect_at (site_of (ring_parts n) d) kind cells e) is) ∙ step.step.outcome)

turns_on : (n now : ℕ) (s : State) (told : Key × Note) (after : State) → IsNetwork (ring_parts n) → n ≤ 256 → (step : IsNetworkStep (ring_parts n) ring_terms s told after) → Turns n now s
    → Turns n (time_part step.step.event.key.stamp) after
unfolding Ascends all_waiting
turns_on n now s told after fine few step before =
    let e : Event = step.step.event in
    let d : ℕ = e.key.dest in
    let time : ℕ = time_part e.key.stamp in
    let sent : List Event = (first_firing s e step.step.effect).events in
    let T : List Event → Type 0 = Each (IsTurn now) in
    let A : List Event → Type 0 = IsAscending in
    let turns : Each (IsTurn now) (e ∷ step.step.rest) = subst T step.step.pending before.turns in
    let up : IsAscending (e ∷ step.step.rest) = subst A step.step.pending step.lawful.ordered in
    let early : now ≤ time = turns.0.early in
    let due : time ≤ 1000 = (let early_enough : e.key.stamp < end_stamp 1000 = step.step.due in omega arith) in
    let moves = event_moves n now s told after fine few step before turns.0 due in
    let was : length s.pending ≡ suc (length step.step.rest) = ap (λ (es : List Event). length es) step.step.pending in
    let now_long : length after.pending ≡ length sent + length step.step.rest = ap (λ (s : State). length s.pending) step.step.leaves ∙ length-enqueue_all sent step.step.rest in
    let exists : d < 2 * n = (let long = objects-length n in let there : d < length (ring_objects n) = step.exists in omega arith) in
    let here : length (waiting_at after d) ≡ waiting_jobs (cells_after_all step.step.effect.changes (cells_at s d)) =
    ap (λ (c : CellData). length (line_of c 0)) (cells_here (ring_parts n) ring_terms s told after step) in
    let change : all_waiting n s + length (waiting_at after d) ≡ all_waiting n after + length (waiting_at s d) =
    range-change (λ i. length (waiting_at s i)) (λ i. length (waiting_at after i)) 0 (2 * n) d (omega arith) (omega arith)
    (λ i apart. sym (ap (λ (c : CellData). length (line_of c 0)) (cells_elsewhere (ring_parts n) ring_terms s told after step i apart))) in
    let K : ℕ → ℕ = λ w. w * (3 * time + 3) in
    let grows : all_waiting n s * (3 * now + 3) ≤ all_waiting n s * (3 * time + 3) = mul-le-mul_left (all_waiting n s) (let le : 3 * now + 3 ≤ 3 * time + 3 = omega arith in le) in
    let count : after.count ≡ s.count + 1 = ap (λ (s : State). s.count) step.step.leaves in
    record {
      upto = due;
      jobs = omega (arith, moves.jobs, was, now_long, here, change, before.jobs);
      pace = omega (
        arith,
        before.pace,
        moves.pace,
        grows,
        count,
        ap K here,
        ap K change,
        sum_before (ring_parts n) ring_terms s told after step weight,
        sum_after (ring_parts n) ring_terms s told after step weight,
      );
      turns =
          (let S : State → Type 0 = λ s. Each (IsTurn time) s.pending in
          subst S (sym step.step.leaves)
          (Each-enqueue_all (IsTurn time) sent step.step.rest moves.turns
          (Each-both (λ (x : Event). key_lt e.key x.key ≡ true) (IsTurn now) (IsTurn time) step.step.rest
          (λ x later turn. record {
            early = (let le = stamp-le e.key x.key later in omega arith);
            soon = turn.soon;
            step = turn.step;
          }) up.0 turns.1)));
    }

-- where it begins
no_sources : (n k : ℕ) → k < length (source_numbers (ring_objects n)) → ⊥
no_sources n k within =
    by (object_at (ring_objects n) number).kind
    (ring_kind n number (let long = objects-length n in let exists = source_numbers-exist (ring_objects n) k within in omega arith)) (source_number (ring_parts n) k within)
  where
    number : ℕ
    number = slice_index_or (source_numbers (ring_objects n)) k 0

    by : (kind : KindOver ℕ) → RingKind (slice_index_or (source_numbers (ring_objects n)) k 0) kind → is_source kind ≡ true → ⊥
    by kind (at_station even station ring) source = cc
    by kind (at_delay odd delay ring) source = cc

job_entry : (n k : ℕ) → (let e : Entry = slice_index_or (ring_jobs n) k (record { time = 0; at = 0; rank = 0 }) in (e.time ≡ 0) × (e.at % 2 ≡ 0))
job_entry n k = by (ltb k n) refl
  where
    none : Entry
    none = record { time = 0; at = 0; rank = 0 }

    E : Entry → Type 0
    E e = (e.time ≡ 0) × (e.at % 2 ≡ 0)

    by : (inside : Bool) → ltb k n ≡ inside → (let e : Entry = slice_index_or (ring_jobs n) k (record { time = 0; at = 0; rank = 0 }) in (e.time ≡ 0) × (e.at % 2 ≡ 0))
    by true inside =
        let is = get_or-map-range_with_len (λ i. let e : Entry = record { time = 0; at = 2 * i; rank = 0 } in e) 0 n k k (record { time = 0; at = 0; rank = 0 }) (ltb-true k n inside) (omega arith) in
        let E : Entry → Type 0 = λ e. (e.time ≡ 0) × (e.at % 2 ≡ 0) in
        let even : 2 * k % 2 ≡ 0 = omega arith in
        subst E (sym is) (refl, even)
    by false past =
        let long : length (ring_jobs n) ≡ n = length-map-range_with_len (λ i. let e : Entry = record { time = 0; at = 2 * i; rank = 0 } in e) 0 n in
        let beyond : n ≤ k = ltb-false k n past in
        let is = get_or_past (ring_jobs n) k (record { time = 0; at = 0; rank = 0 }) (omega arith) in
        let E : Entry → Type 0 = λ e. (e.time ≡ 0) × (e.at % 2 ≡ 0) in
        subst E (sym is) (refl, refl)

start_turn : (n k : ℕ) → IsTurn 0 (start_event (plain_meaning (ring_parts n)) k)
start_turn n k =
    start_cases (IsTurn 0) (ring_parts n) k
    (λ within. absurd (no_sources n k within))
    (λ past.
    let entry = job_entry n (k - length (source_numbers (ring_objects n))) in
    let first : (job_start (ring_parts n) (k - length (source_numbers (ring_objects n)))).time ≡ 0 = entry.0 in
    record { early = omega arith; soon = omega arith; step = λ even. omega arith })

start_turns : (n a m : ℕ) → Each (IsTurn 0) (map (start_event (plain_meaning (ring_parts n))) (range_with_len a m))
start_turns n a zero = tt
start_turns n a (suc m) = (start_turn n a, start_turns n (a + 1) m)

turns_first : (n : ℕ) → Turns n 0 (initial_state (plain_meaning (ring_parts n)))
unfolding initial_state plain_meaning network_meaning all_waiting
turns_first n =
    let m = plain_meaning (ring_parts n) in
    let starts : List Event = map (start_event m) (range_with_len 0 m.starts) in
    let none : length (source_numbers (ring_objects n)) ≡ 0 = zero_of (length (source_numbers (ring_objects n))) (λ some. no_sources n 0 some) in
    let jobs : length (ring_jobs n) ≡ n = length-map-range_with_len (λ i. let e : Entry = record { time = 0; at = 2 * i; rank = 0 } in e) 0 n in
    let long : length (initial_state m).pending ≡ length starts + 0 = length-enqueue_all starts [] in
    let count : length starts ≡ length (source_numbers (ring_objects n)) + length (ring_jobs n) = length-map-range_with_len (start_event m) 0 m.starts in
    let nobody : all_waiting n (initial_state m) ≡ 0 =
    same_range (λ i. length (waiting_at (initial_state m) i)) (λ i. 0) (2 * n) 0 (2 * n) (omega arith)
    (λ i within. ap (λ (c : CellData). length (line_of c 0)) (cells_at_start (ring_parts n) i (let long = objects-length n in omega arith)) ∙ ap (λ (xs : List ℕ). length xs) (first_line (object_at (ring_objects n) i).kind))
    ∙ sum-zero (range_with_len 0 (2 * n)) in
    record {
      upto = omega arith;
      jobs = omega (arith, none, jobs, long, count, nobody);
      pace = omega arith;
      turns = Each-enqueue_all (IsTurn 0) starts [] (start_turns n 0 m.starts) tt;
    }
  where
    zero_of : (k : ℕ) → (0 < k → ⊥) → k ≡ 0
    zero_of zero none = refl
    zero_of (suc k) none = absurd (none (omega arith))

-- each reached state is such
InTurn : ℕ → State → Type 0
InTurn n s = (now : ℕ) × Turns n now s

reached_in_turn : (n : ℕ) → IsNetwork (ring_parts n) → n ≤ 256 → (s : State) → Reaches (plain_meaning (ring_parts n)) ring_terms s → InTurn n s
unfolding InTurn
reached_in_turn n fine few =
    each_reached (plain_meaning (ring_parts n)) ring_terms (InTurn n) (0, turns_first n)
    (λ s told after reached is_next before.
    let step : IsNetworkStep (ring_parts n) ring_terms s told after = network_step (ring_parts n) ring_terms s told after fine reached is_next in
    (time_part step.step.event.key.stamp, turns_on n before.0 s told after fine few step before.1))

-- few events have happened then
few_events : (n now : ℕ) (s : State) → n ≤ 256 → Turns n now s → s.count < 400000
unfolding weight
few_events n now s few turns =
    let each : Each (λ (e : Event). weight e ≤ 3035) s.pending = Each-map (IsTurn now) (λ (e : Event). weight e ≤ 3035) s.pending (λ e turn. small e turn.soon) turns.turns in
    let pending : sum_by weight s.pending ≤ length s.pending * 3035 = sum_by-le weight 3035 s.pending (All-from_recursion (λ (e : Event). weight e ≤ 3035) s.pending each) in
    let waiting : all_waiting n s * (3 * now + 3) ≤ all_waiting n s * 3035 = mul-le-mul_left (all_waiting n s) (let upto = turns.upto in let le : 3 * now + 3 ≤ 3035 = omega arith in le) in
    omega (arith, turns.jobs, turns.pace, pending, waiting)
  where
    small : (e : Event) → time_part e.key.stamp ≤ 1011 → weight e ≤ 3035
    small e soon = by (e.key.dest % 2 == 0) (e.kind == 2)
      where
        by : (even done : Bool) → cond even (cond done (3 * time_part e.key.stamp) (3 * time_part e.key.stamp + 1)) (3 * time_part e.key.stamp + 2) ≤ 3035
        by true true = omega arith
        by true false = omega arith
        by false done = omega arith

-- nothing stops it but its end
not_loose : (site : Site) (station : StationOver ℕ) (cells : CellData) (e : Event) (o : Outcome) (code : ℕ) → station.strict ≡ false → StationGives station cells e o → o ≡ Fails code → ⊥
not_loose site station cells e o code loose (lost full is) same = cc
not_loose site station cells e o code loose (failed full strict) same = cc
not_loose site station cells e o code loose (other room x word) same = cc

never_fails : (site : Site) (delay : DelayOver ℕ) (cells : CellData) (e : Event) (code : ℕ) → delay_effect site delay cells e ≡ Fails code → ⊥
unfolding delay_effect
never_fails site delay cells e code same = cc

goes_on : (n now : ℕ) (s : State) (e : Event) (rest : List Event) → IsNetwork (ring_parts n) → Lawful (plain_meaning (ring_parts n)) ring_terms s → s.pending ≡ e ∷ rest → IsTurn now e
    → (x : Effect) × (effect_at (site_of (ring_parts n) e.key.dest) (object_at (ring_objects n) e.key.dest).kind (cells_at s e.key.dest) e ≡ Goes x) × (has_endless_chain e.key.stamp x.sends ≡ false)
unfolding plain_meaning network_meaning
goes_on n now s e rest fine lawful pending turn =
    by (object_at (ring_objects n) e.key.dest).kind refl (ring_kind n e.key.dest (let long = objects-length n in let there : e.key.dest < length (ring_objects n) = exists in omega arith))
    (effect_at (site_of (ring_parts n) e.key.dest) (object_at (ring_objects n) e.key.dest).kind (cells_at s e.key.dest) e) refl
  where
    exists : e.key.dest < length (ring_objects n)
    exists = (first_sound (plain_meaning (ring_parts n)) ring_terms s e rest lawful pending).dest

    good : IsKind (IsLink (ring_objects n)) (object_at (ring_objects n) e.key.dest).kind
    good = (object_fine (ring_parts n) fine e.key.dest (first_sound (plain_meaning (ring_parts n)) ring_terms s e rest lawful pending).dest).kind

    cells : IsTrue (is_lawful (object_at (ring_objects n) e.key.dest).kind (cells_at s e.key.dest))
    cells = lawful.cells e.key.dest (first_sound (plain_meaning (ring_parts n)) ring_terms s e rest lawful pending).dest

    by : (kind : KindOver ℕ) → (object_at (ring_objects n) e.key.dest).kind ≡ kind → RingKind e.key.dest kind
        → (o : Outcome) → effect_at (site_of (ring_parts n) e.key.dest) (object_at (ring_objects n) e.key.dest).kind (cells_at s e.key.dest) e ≡ o
        → (x : Effect) × (effect_at (site_of (ring_parts n) e.key.dest) (object_at (ring_objects n) e.key.dest).kind (cells_at s e.key.dest) e ≡ Goes x) × (has_endless_chain e.key.stamp x.sends ≡ false)
    by kind is (at_station even station ring) (Fails code) is_o =
        absurd (not_loose (site_of (ring_parts n) e.key.dest) station (cells_at s e.key.dest) e
        (station_effect (site_of (ring_parts n) e.key.dest) station (cells_at s e.key.dest) e) code ring.loose
        (station_gives (site_of (ring_parts n) e.key.dest) station (cells_at s e.key.dest) e)
        (sym (ap (λ (kind : KindOver ℕ). effect_at (site_of (ring_parts n) e.key.dest) kind (cells_at s e.key.dest) e) is) ∙ is_o))
    by kind is (at_station even station ring) (Goes x) is_o =
        let D : KindOver ℕ → Type 0 = λ kind. EventDoes (ring_objects n) (site_of (ring_parts n) e.key.dest) (cells_at s e.key.dest) e kind x in
        let does_so = event_does (ring_objects n) (site_of (ring_parts n) e.key.dest) (object_at (ring_objects n) e.key.dest).kind (cells_at s e.key.dest) e x good cells is_o in
        (x, is_o, station_free (site_of (ring_parts n) e.key.dest) station (cells_at s e.key.dest) e x ring (turn.step even) (subst D is does_so))
    by kind is (at_delay odd delay ring) (Fails code) is_o =
        absurd (never_fails (site_of (ring_parts n) e.key.dest) delay (cells_at s e.key.dest) e code (sym (ap (λ (kind : KindOver ℕ). effect_at (site_of (ring_parts n) e.key.dest) kind (cells_at s e.key.dest) e) is) ∙ is_o))
    by kind is (at_delay odd delay ring) (Goes x) is_o = (
      x,
      is_o,
      delay_free (site_of (ring_parts n) e.key.dest) delay (cells_at s e.key.dest) e x ring
          (sym (ap (λ (kind : KindOver ℕ). effect_at (site_of (ring_parts n) e.key.dest) kind (cells_at s e.key.dest) e) is) ∙ is_o),
    )

-- what comes next, when an event goes
next_goes : (n : ℕ) (s : State) (e : Event) (rest : List Event) (x : Effect) → s.pending ≡ e ∷ rest → e.key.stamp < end_stamp ring_terms.end → s.count ≢ ring_terms.limit
    → effect_at (site_of (ring_parts n) e.key.dest) (object_at (ring_objects n) e.key.dest).kind (cells_at s e.key.dest) e ≡ Goes x → has_endless_chain e.key.stamp x.sends ≡ false
    → next (plain_meaning (ring_parts n)) ring_terms s ≡ does (e.key, x.note) (state_after s e rest x)
unfolding plain_meaning network_meaning next_fired fire fired_by
next_goes n s e rest x pending due room is free =
    next-fires (plain_meaning (ring_parts n)) ring_terms s e rest pending due room
    ∙ ap (λ o. next_fired s e rest (fired_by e.key.dest (state_at s.objects e.key.dest) e o)) is
    ∙ ap (λ b. next_fired s e rest (cond b (fails 1) (goes (firing_of e.key.dest (state_at s.objects e.key.dest) e x)))) free

only_the_end : (n now : ℕ) (s : State) (stop : Stop) → IsNetwork (ring_parts n) → n ≤ 256 → Lawful (plain_meaning (ring_parts n)) ring_terms s → Turns n now s
    → next (plain_meaning (ring_parts n)) ring_terms s ≡ stops stop → stop ≡ End
only_the_end n now s stop fine few lawful turns is_stop = by s.pending refl
  where
    stop_is : (a b : Stop) → stops a ≡ stops b → b ≡ a
    stop_is a b same = cc

    by : (pending : List Event) → s.pending ≡ pending → stop ≡ End
    by [] is = stop_is End stop (sym (next-none (plain_meaning (ring_parts n)) ring_terms s is) ∙ is_stop)
    by (e ∷ rest) is = due (ltb e.key.stamp (end_stamp ring_terms.end)) refl
      where
        due : (early : Bool) → ltb e.key.stamp (end_stamp ring_terms.end) ≡ early → stop ≡ End
        due false late = stop_is End stop (sym (next-late (plain_meaning (ring_parts n)) ring_terms s e rest is (ltb-false e.key.stamp (end_stamp ring_terms.end) late)) ∙ is_stop)
        due true early =
            let T : List Event → Type 0 = Each (IsTurn now) in
            let all : Each (IsTurn now) (e ∷ rest) = subst T is turns.turns in
            let goes_so = goes_on n now s e rest fine lawful is all.0 in
            let count : s.count < 400000 = few_events n now s few turns in
            let happens : next (plain_meaning (ring_parts n)) ring_terms s ≡ does (e.key, goes_so.0.note) (state_after s e rest goes_so.0) =
            next_goes n s e rest goes_so.0 is (ltb-true e.key.stamp (end_stamp ring_terms.end) early) (λ full. absurd (let limit : s.count ≡ 10000000 = full in omega arith)) goes_so.1 goes_so.2 in
            absurd (differ (e.key, goes_so.0.note) (state_after s e rest goes_so.0) stop (sym happens ∙ is_stop))
          where
            differ : (told : Key × Note) (after : State) (stop : Stop) → does told after ≡ stops stop → ⊥
            differ told after stop same = cc

-- and no job is lost
no_loss : (n now : ℕ) (s : State) (told : Key × Note) (after : State) → n ≤ 256 → (step : IsNetworkStep (ring_parts n) ring_terms s told after) → Turns n now s → word_told step.step.effect.note ≡ 5 → ⊥
unfolding plain_meaning network_meaning all_waiting take_effect wait_effect lose_effect serve_effect free_effect delay_effect
no_loss n now s told after few step turns word =
    by (object_at (ring_objects n) step.step.event.key.dest).kind refl (ring_kind n step.step.event.key.dest (let long = objects-length n in let exists : step.step.event.key.dest < length (ring_objects n) = step.exists in omega arith))
  where
    part : length (waiting_at s step.step.event.key.dest) ≤ all_waiting n s
    part =
        part_of_sum (λ i. length (waiting_at s i)) step.step.event.key.dest 0 (2 * n) (omega arith)
        (let long = objects-length n in let exists : step.step.event.key.dest < length (ring_objects n) = step.exists in omega arith)

    at_a_station : (site : Site) (cells : CellData) (e : Event) (station : StationOver ℕ) (x : Effect) → station.line ≡ 256 → waiting_jobs cells < 256 → StationDoes site cells e station x → word_told x.note ≡ 5 → ⊥
    at_a_station site cells e station x line few (takes apart free) word = absurd (let w : ◌≡◌ {A = ℕ} 3 5 = word in omega arith)
    at_a_station site cells e station x line few (waits apart full room) word = absurd (let w : ◌≡◌ {A = ℕ} 4 5 = word in omega arith)
    at_a_station site cells e station x line few (loses apart full none) word = absurd (omega arith)
    at_a_station site cells e station x line few (serves done some) word = absurd (let w : ◌≡◌ {A = ℕ} 6 5 = word in omega arith)
    at_a_station site cells e station x line few (frees done none) word = absurd (let w : ◌≡◌ {A = ℕ} 6 5 = word in omega arith)

    by : (kind : KindOver ℕ) → (object_at (ring_objects n) step.step.event.key.dest).kind ≡ kind → RingKind step.step.event.key.dest kind → ⊥
    by kind is (at_station even a_station ring) =
        let e : Event = step.step.event in
        let D : KindOver ℕ → Type 0 = λ kind. EventDoes (ring_objects n) (site_of (ring_parts n) e.key.dest) (cells_at s e.key.dest) e kind step.step.effect in
        let pending : length s.pending ≡ suc (length step.step.rest) = ap (λ (es : List Event). length es) step.step.pending in
        at_a_station (site_of (ring_parts n) e.key.dest) (cells_at s e.key.dest) e a_station step.step.effect ring.line (let all = turns.jobs in let of_it = part in omega arith) (subst D is step.does_so) word
    by kind is (at_delay odd delay ring) =
        let e : Event = step.step.event in
        let same = goes-effect _ step.step.effect (sym (ap (λ (kind : KindOver ℕ). effect_at (site_of (ring_parts n) e.key.dest) kind (cells_at s e.key.dest) e) is) ∙ step.step.outcome) in
        absurd (let w : ◌≡◌ {A = ℕ} 7 5 = ap (λ (x : Effect). word_told x.note) same ∙ word in omega arith)

start_room : (n : ℕ) → (initial_state (network_meaning (ring_parts n))).count ≤ ring_terms.limit
unfolding initial_state
start_room n = omega arith

pub ring_law : RingsRunToTheirEnd
unfolding InTurn
ring_law n some few =
    let p : NetworkParts = ring_parts n in
    let fine : IsNetwork p = ring_is_network n some few in
    let there = run_is_reached (network_meaning p) ring_terms in
    let last : State = (ring_run n).last in
    let reached : Reaches (plain_meaning p) ring_terms last = (there.0, sym (same_after p ring_terms there.0) ∙ there.1.last) in
    let turns : InTurn n last = reached_in_turn n fine few last reached in
    let ends = run-ends (network_meaning p) ring_terms (initial_state (network_meaning p)) (start_room n) in
    record {
      stop = only_the_end n turns.0 last (ring_run n).stop fine few (reached_lawful p ring_terms last fine reached) turns.1
          (stops_too p _ _ (ring_run n).stop (same_next p ring_terms last) ends.stop);
      few = few_events n turns.0 last few turns.1;
      none_lost = λ s reached tells.
          let plain : Reaches (plain_meaning p) ring_terms s = plain_reaches p ring_terms s reached in
          let now : InTurn n s = reached_in_turn n fine few s plain in
          let step : IsNetworkStep p ring_terms s tells.told tells.after = network_step p ring_terms s tells.told tells.after fine plain tells.goes in
          no_loss n now.0 s tells.told tells.after few step now.1 (sym (ap (λ (r : Key × Note). word_told r.1) step.step.tells) ∙ tells.tells);
    }
