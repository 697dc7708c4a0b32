-- Waiting jobs times ticks are what each job waits.
use Rattle.std.proofs.Common.{◌≡◌, ℕ, suc, ◌+◌, ◌-◌, ◌*◌, ◌≤◌, List, [], ◌∷◌, ◌++◌, length, map, sym, ap, ◌∙◌, subst, arith, length-append, append-nil}
use Rattle.std.specs.Prelude.{sum}
use Rattle.std.proofs.lemmas.List.{length-map}
use Rattle.std.proofs.lemmas.List.Sums.{sum_by-cons}
use Rattle.event_key.specs.declared.key.Key.{Key}
use Rattle.event_key.specs.Stamps.{time_part}
use Rattle.delta_exchange.specs.Changes.{CellData, line_of}
use Rattle.model_core.specs.declared.note.Note.{Note}
use Rattle.sim_spec.specs.declared.terms.Terms.{Terms}
use Rattle.sim_spec.specs.State.{State}
use Rattle.sim_spec.specs.Run.{stops, does, next}
use Rattle.sim_stats.specs.declared.sums.Sums.{Sums}
use Rattle.sim_stats.specs.Sums.{sums_of}
use Rattle.sim_stats.specs.Words.{words_told}
use Rattle.queue_models.specs.declared.station.Station.{Station as StationOver}
use Rattle.queue_models.specs.Meaning.{plain_meaning}
use Rattle.queue_models.specs.Objects.{NetworkParts}
use Rattle.queue_models.specs.Parts.{IsNetwork}
use Rattle.run_laws.specs.Reached.{after_events, gathered, record_of, first_records}
use Rattle.run_laws.proofs.Induction.{after_events-does, after_events-stops, gathered-more, each_number}
use Rattle.subject_laws.specs.Orders.{jobs_told, is_coming, begins_at}
use Rattle.subject_laws.specs.Stations.{IsStationAt, waiting_at}
use Rattle.subject_laws.specs.TimeLaws.{waits, WaitsAddUp, LittleLaw}
use Rattle.subject_laws.specs.Times.{at_time, arrival_times, begin_times}
use Rattle.subject_laws.specs.TotalLaws.{totals_at}
use Rattle.subject_laws.proofs.QueueLemmas.NetworkStarts.{station_at_start}
use Rattle.subject_laws.proofs.QueueLemmas.PlainRuns.{same_after}
use Rattle.subject_laws.proofs.TotalLemmas.ToldTotals.{same_sums}
use Rattle.subject_laws.proofs.TotalLemmas.TotalsLaw.{plain_totals_at, last_is_early}
use Rattle.subject_laws.proofs.TimeLemmas.TimesLaw.{StationStep, moves, still, station_step, plain_adds}

-- each job began no sooner than it came, or came no later than now
abbrev ArePaired : ℕ → List ℕ → List ℕ → Type 0
ArePaired now [] [] = Unit {0}
ArePaired now [] (begun ∷ begins) = ⊥
ArePaired now (came ∷ arrivals) [] = (came ≤ now) × ArePaired now arrivals []
ArePaired now (came ∷ arrivals) (begun ∷ begins) = (came ≤ begun) × ArePaired now arrivals begins

-- more come and begin, all at one time
at_once : (time : ℕ) (coming beginning : List ℕ) → length beginning ≤ length coming
    → ArePaired time (map (λ (job : ℕ). time) coming) (map (λ (job : ℕ). time) beginning)
at_once time [] [] few = tt
at_once time [] (job ∷ jobs) few = absurd (omega arith)
at_once time (job ∷ coming) [] few = (omega arith, at_once time coming [] (omega arith))
at_once time (job ∷ coming) (one ∷ beginning) few = (omega arith, at_once time coming beginning (omega arith))

paired_more : (now time : ℕ) (arrivals begins coming beginning : List ℕ) → now ≤ time → ArePaired now arrivals begins → length begins + length beginning ≤ length arrivals + length coming
    → ArePaired time (arrivals ++ map (λ (job : ℕ). time) coming) (begins ++ map (λ (job : ℕ). time) beginning)
paired_more now time [] [] coming beginning later paired few = at_once time coming beginning (omega arith)
paired_more now time [] (begun ∷ begins) coming beginning later paired few = absurd paired
paired_more now time (came ∷ arrivals) [] coming [] later paired few = (omega (arith, paired.0), paired_more now time arrivals [] coming [] later paired.1 (omega arith))
paired_more now time (came ∷ arrivals) [] coming (job ∷ beginning) later paired few = (omega (arith, paired.0), paired_more now time arrivals [] coming beginning later paired.1 (omega arith))
paired_more now time (came ∷ arrivals) (begun ∷ begins) coming beginning later paired few =
    (paired.0, paired_more now time arrivals begins coming beginning later paired.1 (omega arith))

-- what they have waited, together
waited_in_all : (now waiting : ℕ) (arrivals begins : List ℕ) → ArePaired now arrivals begins → length arrivals ≡ length begins + waiting
    → sum (waits now arrivals begins) + sum arrivals ≡ sum begins + waiting * now
waited_in_all now waiting [] [] paired long = (let none : waiting ≡ 0 = omega arith in omega (arith, ap (λ k. k * now) none))
waited_in_all now waiting [] (begun ∷ begins) paired long = absurd paired
waited_in_all now waiting (came ∷ arrivals) [] paired long =
    let fewer : waiting ≡ (waiting - 1) + 1 = omega arith in
    omega (
      arith,
      paired.0,
      sum_by-cons (λ (k : ℕ). k) (now - came) (waits now arrivals []),
      sum_by-cons (λ (k : ℕ). k) came arrivals,
      waited_in_all now (waiting - 1) arrivals [] paired.1 (omega arith),
      ap (λ k. k * now) fewer,
    )
waited_in_all now waiting (came ∷ arrivals) (begun ∷ begins) paired long =
    omega (
      arith,
      paired.0,
      sum_by-cons (λ (k : ℕ). k) (begun - came) (waits now arrivals begins),
      sum_by-cons (λ (k : ℕ). k) came arrivals,
      sum_by-cons (λ (k : ℕ). k) begun begins,
      waited_in_all now waiting arrivals begins paired.1 (omega arith),
    )

-- a station after n events
record Paired (p : NetworkParts) (t : Terms) (i n now : ℕ) (s : State) : Type 0 where
  pub jobs : length (arrival_times p t i n) ≡ length (begin_times p t i n) + length (waiting_at s i)
  pub each : ArePaired now (arrival_times p t i n) (begin_times p t i n)

paired_step : (p : NetworkParts) (t : Terms) (i : ℕ) (n : ℕ) (told : Key × Note) (after : State) → IsNetwork p
    → next (plain_meaning p) t (after_events n (plain_meaning p) t) ≡ does told after → StationStep p t n told after i
    → Paired p t i n (plain_totals_at p t i n).last (after_events n (plain_meaning p) t)
    → Paired p t i (suc n) (sums_of (words_told i (first_records n (plain_meaning p) t ++ told ∷ []))).last after
paired_step p t i n told after fine is_next (still stays same) before =
    let m = plain_meaning p in
    let s : State = after_events n m t in
    let none : List ℕ → List ℕ = λ jobs. map (λ (job : ℕ). time_part told.0.stamp) jobs in
    let arrivals : arrival_times p t i (suc n) ≡ arrival_times p t i n =
    gathered-more (at_time (jobs_told is_coming i)) m t n (does told after) is_next ∙ ap (λ (jobs : List ℕ). arrival_times p t i n ++ none jobs) stays.coming ∙ append-nil (arrival_times p t i n) in
    let begins : begin_times p t i (suc n) ≡ begin_times p t i n =
    gathered-more (at_time (begins_at m i)) m t n (does told after) is_next ∙ ap (λ (jobs : List ℕ). begin_times p t i n ++ none jobs) stays.begins ∙ append-nil (begin_times p t i n) in
    let A : List ℕ → Type 0 = λ arrivals. ArePaired (plain_totals_at p t i n).last arrivals (begin_times p t i (suc n)) in
    let B : List ℕ → Type 0 = λ begins. ArePaired (plain_totals_at p t i n).last (arrival_times p t i n) begins in
    let L : Sums → Type 0 = λ sums. ArePaired sums.last (arrival_times p t i (suc n)) (begin_times p t i (suc n)) in
    record {
      jobs = omega (
        arith,
        before.jobs,
        ap (λ (xs : List ℕ). length xs) arrivals,
        ap (λ (xs : List ℕ). length xs) begins,
        ap (λ (xs : List ℕ). length xs) stays.waiting,
      );
      each = subst L (sym same) (subst A (sym arrivals) (subst B (sym begins) before.each));
    }
paired_step p t i n told after fine is_next (moves step word same) before =
    let m = plain_meaning p in
    let s : State = after_events n m t in
    let time : ℕ = time_part told.0.stamp in
    let coming : List ℕ = jobs_told is_coming i s (does told after) in
    let beginning : List ℕ = begins_at m i s (does told after) in
    let arrivals : arrival_times p t i (suc n) ≡ arrival_times p t i n ++ map (λ (job : ℕ). time) coming = gathered-more (at_time (jobs_told is_coming i)) m t n (does told after) is_next in
    let begins : begin_times p t i (suc n) ≡ begin_times p t i n ++ map (λ (job : ℕ). time) beginning = gathered-more (at_time (begins_at m i)) m t n (does told after) is_next in
    let A : List ℕ → Type 0 = λ arrivals. ArePaired time arrivals (begin_times p t i (suc n)) in
    let B : List ℕ → Type 0 = λ begins. ArePaired time (arrival_times p t i n ++ map (λ (job : ℕ). time) coming) begins in
    let L : Sums → Type 0 = λ sums. ArePaired sums.last (arrival_times p t i (suc n)) (begin_times p t i (suc n)) in
    record {
      jobs = omega (
        arith,
        before.jobs,
        step.waiting,
        ap (λ (xs : List ℕ). length xs) arrivals,
        ap (λ (xs : List ℕ). length xs) begins,
        length-append (arrival_times p t i n) (map (λ (job : ℕ). time) coming),
        length-append (begin_times p t i n) (map (λ (job : ℕ). time) beginning),
        length-map coming (λ (job : ℕ). time),
        length-map beginning (λ (job : ℕ). time),
      );
      each = subst L (sym same) (subst A (sym arrivals) (subst B (sym begins)
          (paired_more (plain_totals_at p t i n).last time (arrival_times p t i n) (begin_times p t i n) coming beginning (last_is_early p t n told after i fine is_next) before.each
          (omega (arith, before.jobs, step.waiting)))));
    }

paired_first : (p : NetworkParts) (t : Terms) (i : ℕ) (station : StationOver ℕ) → IsStationAt p i station → Paired p t i 0 (plain_totals_at p t i 0).last (after_events 0 (plain_meaning p) t)
unfolding gathered after_events
paired_first p t i station is = record {
  jobs = ap (λ k. 0 + k) (sym (ap (λ (c : CellData). length (line_of c 0)) (station_at_start p i station is)));
  each = tt;
}

plain_paired : (p : NetworkParts) (t : Terms) (i : ℕ) (station : StationOver ℕ) → IsNetwork p → IsStationAt p i station → (n : ℕ)
    → Paired p t i n (plain_totals_at p t i n).last (after_events n (plain_meaning p) t)
plain_paired p t i station fine is =
    let m = plain_meaning p in
    each_number m t (λ n. Paired p t i n (plain_totals_at p t i n).last (after_events n m t)) (paired_first p t i station is)
    (λ n stop is_next before.
    let S : State → Type 0 = λ s. Paired p t i (suc n) (plain_totals_at p t i (suc n)).last s in
    let R : List (Key × Note) → Type 0 = λ records. Paired p t i (suc n) (sums_of (words_told i records)).last (after_events n m t) in
    let arrivals : arrival_times p t i (suc n) ≡ arrival_times p t i n = gathered-more (at_time (jobs_told is_coming i)) m t n (stops stop) is_next ∙ append-nil (arrival_times p t i n) in
    let begins : begin_times p t i (suc n) ≡ begin_times p t i n = gathered-more (at_time (begins_at m i)) m t n (stops stop) is_next ∙ append-nil (begin_times p t i n) in
    let A : List ℕ → Type 0 = λ arrivals. ArePaired (plain_totals_at p t i n).last arrivals (begin_times p t i (suc n)) in
    let B : List ℕ → Type 0 = λ begins. ArePaired (plain_totals_at p t i n).last (arrival_times p t i n) begins in
    subst S (sym (after_events-stops m t n stop is_next))
    (subst R (sym (gathered-more record_of m t n (stops stop) is_next ∙ append-nil (first_records n m t)))
    (record {
      jobs = omega (arith, before.jobs, ap (λ (xs : List ℕ). length xs) arrivals, ap (λ (xs : List ℕ). length xs) begins);
      each = subst A (sym arrivals) (subst B (sym begins) before.each);
    })))
    (λ n told after is_next before.
    let S : State → Type 0 = λ s. Paired p t i (suc n) (plain_totals_at p t i (suc n)).last s in
    let R : List (Key × Note) → Type 0 = λ records. Paired p t i (suc n) (sums_of (words_told i records)).last after in
    subst S (sym (after_events-does m t n told after is_next))
    (subst R (sym (gathered-more record_of m t n (does told after) is_next))
    (paired_step p t i n told after fine is_next (station_step p t n told after i station fine is_next is) before)))

plain_waits : (p : NetworkParts) (t : Terms) (i : ℕ) (station : StationOver ℕ) (n : ℕ) → IsNetwork p → IsStationAt p i station
    → WaitsAddUp p t i n (plain_totals_at p t i n) (after_events n (plain_meaning p) t)
plain_waits p t i station n fine is =
    let s : State = after_events n (plain_meaning p) t in
    let sums : Sums = plain_totals_at p t i n in
    let paired : Paired p t i n sums.last s = plain_paired p t i station fine is n in
    let times : sums.waiting_ticks + sum (arrival_times p t i n) ≡ sum (begin_times p t i n) + length (waiting_at s i) * sums.last = (plain_adds p t i station fine is n).waited in
    record {
      times = times;
      jobs = paired.jobs;
      each = omega (arith, times, waited_in_all sums.last (length (waiting_at s i)) (arrival_times p t i n) (begin_times p t i n) paired.each paired.jobs);
    }

pub little_law : LittleLaw
little_law p t i station n fine is loud =
    let S : State → Type 0 = λ s. WaitsAddUp p t i n (totals_at p t i n) s in
    let T : Sums → Type 0 = λ totals. WaitsAddUp p t i n totals (after_events n (plain_meaning p) t) in
    subst S (sym (same_after p t n)) (subst T (sym (same_sums p t i fine loud n)) (plain_waits p t i station n fine is))
