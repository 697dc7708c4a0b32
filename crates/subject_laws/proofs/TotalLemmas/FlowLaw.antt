-- What comes to an object is what was sent to it, and the listed jobs that begin there.
use Rattle.std.proofs.Common.{◌≡◌, ◌≢◌, ℕ, suc, ◌+◌, ◌-◌, ◌<◌, Bool, true, false, cond, not, List, [], ◌∷◌, ◌++◌, length, refl, sym, ap, ◌∙◌, subst, arith, eqb, eqb-true, eq-eqb, ne_eqb, append-nil}
use Rattle.std.specs.Prelude.{sum_by, count_by, slice_index, ◌==◌, ◌&&◌, if◌then◌else◌}
use Rattle.std.specs.Int.{from_bool}
use Rattle.std.specs.List.{range_with_len}
use Rattle.std.proofs.lemmas.List.Sums.{sum_by-append}
use Rattle.event_key.specs.declared.key.Key.{Key}
use Rattle.event_key.specs.Stamps.{time_part}
use Rattle.delta_exchange.specs.Changes.{CellData}
use Rattle.model_core.specs.declared.effect.Effect.{Effect}
use Rattle.model_core.specs.declared.effect.Outcome.TheVariants.{Goes, Fails}
use Rattle.model_core.specs.declared.event.Event.{Event}
use Rattle.model_core.specs.declared.note.Note.{Note}
use Rattle.sim_spec.specs.declared.terms.Terms.{Terms}
use Rattle.sim_spec.specs.State.{State, initial_state, start_event}
use Rattle.sim_spec.specs.Run.{stops, does, next}
use Rattle.sim_spec.proofs.FiringLemmas.{goes-effect}
use Rattle.sim_stats.specs.declared.sums.Sums.{Sums}
use Rattle.sim_stats.specs.Occupancies.{intervals}
use Rattle.sim_stats.specs.Sums.{sums_of, last_told}
use Rattle.sim_stats.specs.Words.{TimedWord, is_arrival, words_told}
use Rattle.sim_stats.proofs.SumsLemmas.{with_word}
use Rattle.sim_stats.proofs.TotalsLemmas.{words_told-elsewhere}
use Rattle.queue_models.specs.declared.kind.KindOver.{KindOver}
use Rattle.queue_models.specs.declared.kind.KindOver.TheVariants.{Source, Station, Delay, Router, Sink}
use Rattle.queue_models.specs.declared.sink.Sink.{Sink as SinkOver}
use Rattle.queue_models.specs.declared.site.Site.{Site}
use Rattle.queue_models.specs.declared.station.Station.{Station as StationOver}
use Rattle.queue_models.specs.Delays.{delay_effect}
use Rattle.queue_models.specs.Kinds.{effect_at, is_source, is_station}
use Rattle.queue_models.specs.Meaning.{plain_meaning, network_meaning, site_of, job_start}
use Rattle.queue_models.specs.Objects.{NetworkParts, object_at, source_numbers}
use Rattle.queue_models.specs.Parts.{IsNetwork}
use Rattle.queue_models.specs.Routers.{router_effect}
use Rattle.queue_models.specs.Sinks.{is_late, sink_effect}
use Rattle.queue_models.specs.Stations.{take_effect, wait_effect, lose_effect, serve_effect, free_effect}
use Rattle.run_laws.specs.Reached.{after_events, gathered, record_of, first_records}
use Rattle.run_laws.specs.Sent.{sends_next, all_sent}
use Rattle.run_laws.proofs.Induction.{after_events-does, after_events-stops, gathered-more, each_number}
use Rattle.run_laws.proofs.Steps.{first_firing, sent_next-step}
use Rattle.subject_laws.specs.FlowLaws.{comes_to, listed_at, ArrivalsAddUp, FlowLaw}
use Rattle.subject_laws.specs.Places.{word_told}
use Rattle.subject_laws.specs.Stations.{cells_at}
use Rattle.subject_laws.specs.TotalLaws.{totals_at}
use Rattle.subject_laws.proofs.JobLemmas.PlacesLaw.{skip_first, shifted, source_number}
use Rattle.subject_laws.proofs.JobLemmas.Weights.{sum_by-map}
use Rattle.subject_laws.proofs.QueueLemmas.Cases.{EventDoes, StationDoes, takes, waits, loses, serves, frees}
use Rattle.subject_laws.proofs.QueueLemmas.NetworkStarts.{start_cases, sum_at_start}
use Rattle.subject_laws.proofs.QueueLemmas.NetworkSteps.{IsNetworkStep, network_step, sum_before, sum_after}
use Rattle.subject_laws.proofs.QueueLemmas.PlainRuns.{same_after}
use Rattle.subject_laws.proofs.TotalLemmas.ToldTotals.{single_part, same_sums, word_more}
use Rattle.subject_laws.proofs.TotalLemmas.TotalsLaw.{plain_totals_at}

-- an event at an object that isn't a source tells of an arrival, unless it is the end of a service
told_arrival : (site : Site) (cells : CellData) (e : Event) (station : StationOver ℕ) (x : Effect) → StationDoes site cells e station x
    → from_bool (is_arrival (word_told x.note)) ≡ cond (not (e.kind == 2)) 1 0
unfolding take_effect wait_effect lose_effect serve_effect free_effect
told_arrival site cells e station x (takes other free) = sym (ap (λ b. cond (not b) 1 0) (ne_eqb e.kind 2 other))
told_arrival site cells e station x (waits other full room) = sym (ap (λ b. cond (not b) 1 0) (ne_eqb e.kind 2 other))
told_arrival site cells e station x (loses other full none) = sym (ap (λ b. cond (not b) 1 0) (ne_eqb e.kind 2 other))
told_arrival site cells e station x (serves done some) = sym (ap (λ b. cond (not b) 1 0) (eq-eqb e.kind 2 done))
told_arrival site cells e station x (frees done none) = sym (ap (λ b. cond (not b) 1 0) (eq-eqb e.kind 2 done))

sink_arrival : (sink : SinkOver) (e : Event) (x : Effect) → sink_effect sink e ≡ Goes x → from_bool (is_arrival (word_told x.note)) ≡ 1
unfolding sink_effect
sink_arrival sink e x is = by (is_late sink.due (time_part e.key.stamp - e.b)) is
  where
    by : (late : Bool) → (if late then Fails 3 else Goes (record { changes = []; sends = []; note = record { word = 9; a = e.a; b = time_part e.key.stamp - e.b } ∷ [] })) ≡ Goes x
        → from_bool (is_arrival (word_told x.note)) ≡ 1
    by true is = absurd (cc)
    by false is = sym (ap (λ (y : Effect). from_bool (is_arrival (word_told y.note))) (goes-effect _ x is))

arrival_told : (site : Site) (kind : KindOver ℕ) (cells : CellData) (e : Event) (x : Effect) → is_source kind ≡ false → effect_at site kind cells e ≡ Goes x
    → ((station : StationOver ℕ) → kind ≡ Station station → StationDoes site cells e station x)
    → from_bool (is_arrival (word_told x.note)) ≡ cond (not (is_station kind && e.kind == 2)) 1 0
unfolding delay_effect router_effect
arrival_told site (Source source) cells e x no_source is does_so = absurd (cc)
arrival_told site (Station station) cells e x no_source is does_so = told_arrival site cells e station x (does_so station refl)
arrival_told site (Delay delay) cells e x no_source is does_so = sym (ap (λ (y : Effect). from_bool (is_arrival (word_told y.note))) (goes-effect _ x is))
arrival_told site (Router router) cells e x no_source is does_so = sym (ap (λ (y : Effect). from_bool (is_arrival (word_told y.note))) (goes-effect _ x is))
arrival_told site (Sink sink) cells e x no_source is does_so = sink_arrival sink e x is

abbrev weight : NetworkParts → ℕ → Event → ℕ
weight p i e = cond (comes_to p i e) 1 0

-- an object after n events
Flows : NetworkParts → Terms → ℕ → ℕ → Sums → State → Type 0
Flows p t i n sums s = ArrivalsAddUp p t i n sums s

-- one event more: what is told of the object, and what is sent
arrivals_more : (p : NetworkParts) (t : Terms) (n : ℕ) (told : Key × Note) (after : State) (i : ℕ) → IsNetwork p → is_source (object_at p.objects i).kind ≡ false
    → next (plain_meaning p) t (after_events n (plain_meaning p) t) ≡ does told after
    → (step : IsNetworkStep p t (after_events n (plain_meaning p) t) told after)
    → (sums_of (words_told i (first_records n (plain_meaning p) t ++ told ∷ []))).arrivals ≡ (plain_totals_at p t i n).arrivals + weight p i step.step.event
unfolding plain_meaning network_meaning
arrivals_more p t n told after i fine no_source is_next step = by (eqb i step.step.event.key.dest) refl
  where
    s : State
    s = after_events n (plain_meaning p) t

    e : Event
    e = step.step.event

    key : told.0 ≡ step.step.event.key
    key = ap (λ (r : Key × Note). r.0) step.step.tells

    at_dest : is_source (object_at p.objects step.step.event.key.dest).kind ≡ false
        → (sums_of (words_told step.step.event.key.dest (first_records n (plain_meaning p) t ++ told ∷ []))).arrivals
        ≡ (plain_totals_at p t step.step.event.key.dest n).arrivals + weight p step.step.event.key.dest step.step.event
    at_dest no_source =
        let d : ℕ = e.key.dest in
        let here : d ≡ told.0.dest = ap (λ (k : Key). k.dest) (sym key) in
        let records : List (Key × Note) = first_records n (plain_meaning p) t in
        let M : ℕ → Type 0 = λ j. sums_of (words_told j (records ++ told ∷ [])) ≡ with_word (sums_of (words_told j records)) (record { time = time_part told.0.stamp; word = word_told told.1 }) in
        let more : M d = subst M (sym here) (word_more records told (single_part p t s fine (n, refl) told after is_next)) in
        let word : word_told told.1 ≡ word_told step.step.effect.note = ap (λ (r : Key × Note). word_told r.1) step.step.tells in
        let kind : KindOver ℕ = (object_at p.objects d).kind in
        let arrival : from_bool (is_arrival (word_told step.step.effect.note)) ≡ cond (not (is_station kind && e.kind == 2)) 1 0 =
        arrival_told (site_of p d) kind (cells_at s d) e step.step.effect no_source step.step.outcome (λ station is. subst (λ (kind : KindOver ℕ). EventDoes p.objects (site_of p d) (cells_at s d) e kind step.step.effect) is step.does_so) in
        let weighs : weight p d e ≡ cond (not (is_station kind && e.kind == 2)) 1 0 = ap (λ b. cond (b && not (is_station kind && e.kind == 2)) 1 0) (eq-eqb d d refl) in
        ap (λ (sums : Sums). sums.arrivals) more
        ∙ ap (λ w. (plain_totals_at p t d n).arrivals + from_bool (is_arrival w)) word
        ∙ ap (λ k. (plain_totals_at p t d n).arrivals + k) (arrival ∙ sym weighs)

    by : (here : Bool) → eqb i step.step.event.key.dest ≡ here
        → (sums_of (words_told i (first_records n (plain_meaning p) t ++ told ∷ []))).arrivals ≡ (plain_totals_at p t i n).arrivals + weight p i step.step.event
    by true here_is =
        let same : i ≡ step.step.event.key.dest = eqb-true i step.step.event.key.dest here_is in
        let P : ℕ → Type 0 = λ j. is_source (object_at p.objects j).kind ≡ false
        → (sums_of (words_told j (first_records n (plain_meaning p) t ++ told ∷ []))).arrivals ≡ (plain_totals_at p t j n).arrivals + weight p j e in
        subst P (sym same) at_dest no_source
    by false apart_is =
        let apart : i ≢ step.step.event.key.dest = λ same. let yes = eq-eqb i step.step.event.key.dest same in cc in
        let away : i ≢ told.0.dest = λ same. apart (same ∙ ap (λ (k : Key). k.dest) key) in
        let none : weight p i e ≡ 0 = ap (λ b. cond (b && not (is_station (object_at p.objects i).kind && e.kind == 2)) 1 0) (ne_eqb e.key.dest i (λ same. apart (sym same))) in
        let stays = ap (λ (words : List TimedWord). (sums_of words).arrivals) (words_told-elsewhere i (first_records n (plain_meaning p) t) told away) in
        stays ∙ omega (arith, none)

-- at the start the jobs of the list are on their way
source_away : (p : NetworkParts) (i k : ℕ) → is_source (object_at p.objects i).kind ≡ false → k < length (source_numbers p.objects) → weight p i (start_event (plain_meaning p) k) ≡ 0
source_away p i k no_source early =
    start_cases (λ e. weight p i e ≡ 0) p k
    (λ within.
    let number : ℕ = slice_index (source_numbers p.objects) k in
    let apart : number ≢ i = λ same.
    let S : ℕ → Type 0 = λ j. is_source (object_at p.objects j).kind ≡ true in
    let yes : is_source (object_at p.objects i).kind ≡ true = subst S same (source_number p k within) in
    (cc) in
    ap (λ b. cond (b && not (is_station (object_at p.objects i).kind && 1 == 2)) 1 0) (ne_eqb number i apart))
    (λ past. absurd (omega arith))

listed_comes : (p : NetworkParts) (i k : ℕ) → weight p i (start_event (plain_meaning p) (length (source_numbers p.objects) + k)) ≡ cond ((job_start p k).dest == i) 1 0
listed_comes p i k =
    let S : ℕ = length (source_numbers p.objects) in
    start_cases (λ e. weight p i e ≡ cond ((job_start p k).dest == i) 1 0) p (S + k)
    (λ early. absurd (omega arith))
    (λ past.
    let back : S + k - S ≡ k = omega arith in
    once ((job_start p (S + k - S)).dest == i) (is_station (object_at p.objects i).kind) ∙ ap (λ j. cond ((job_start p j).dest == i) 1 0) back)
  where
    once : (here station : Bool) → ◌≡◌ {A = ℕ} (cond (here && not (station && (3 == 2))) 1 0) (cond here 1 0)
    once true true = refl
    once true false = refl
    once false station = refl

flows_first : (p : NetworkParts) (t : Terms) (i : ℕ) → is_source (object_at p.objects i).kind ≡ false → Flows p t i 0 (plain_totals_at p t i 0) (after_events 0 (plain_meaning p) t)
unfolding Flows gathered after_events words_told sums_of intervals last_told plain_meaning network_meaning
flows_first p t i no_source =
    let m = plain_meaning p in
    let S : ℕ = length (source_numbers p.objects) in
    let J : ℕ = length p.jobs in
    let F : ℕ → ℕ = λ k. weight p i (start_event m k) in
    let G : ℕ → ℕ = λ k. cond ((job_start p k).dest == i) 1 0 in
    let none : S + 0 ≡ S = omega arith in
    let starts : sum_by (weight p i) (initial_state m).pending ≡ sum_by F (range_with_len 0 (S + J)) =
    sum_at_start (weight p i) m ∙ sum_by-map (weight p i) (start_event m) (range_with_len 0 (S + J)) in
    let jobs : sum_by F (range_with_len (S + 0) J) ≡ sum_by G (range_with_len 0 J) = shifted F G S J 0 J (omega arith) (λ k within. listed_comes p i k) in
    omega (
      arith,
      starts,
      skip_first F S J 0 S (omega arith) (λ k early. source_away p i k no_source early),
      ap (λ b. sum_by F (range_with_len b J)) none,
      jobs,
    )

plain_flows : (p : NetworkParts) (t : Terms) (i : ℕ) → IsNetwork p → is_source (object_at p.objects i).kind ≡ false → (n : ℕ)
    → Flows p t i n (plain_totals_at p t i n) (after_events n (plain_meaning p) t)
unfolding Flows
plain_flows p t i fine no_source =
    let m = plain_meaning p in
    each_number m t (λ n. Flows p t i n (plain_totals_at p t i n) (after_events n m t)) (flows_first p t i no_source)
    (λ n stop is_next before.
    let S : State → Type 0 = λ s. Flows p t i (suc n) (plain_totals_at p t i (suc n)) s in
    let R : List (Key × Note) → Type 0 = λ records. Flows p t i (suc n) (sums_of (words_told i records)) (after_events n m t) in
    let sent : all_sent (suc n) m t ≡ all_sent n m t = gathered-more (sends_next m) m t n (stops stop) is_next ∙ append-nil (all_sent n m t) in
    subst S (sym (after_events-stops m t n stop is_next))
    (subst R (sym (gathered-more record_of m t n (stops stop) is_next ∙ append-nil (first_records n m t)))
    (before ∙ ap (λ (es : List Event). listed_at p i + count_by (comes_to p i) es) (sym sent))))
    (λ n told after is_next before.
    let s : State = after_events n m t in
    let step : IsNetworkStep p t s told after = network_step p t s told after fine (n, refl) is_next in
    let events : List Event = (first_firing s step.step.event step.step.effect).events in
    let S : State → Type 0 = λ s. Flows p t i (suc n) (plain_totals_at p t i (suc n)) s in
    let R : List (Key × Note) → Type 0 = λ records. Flows p t i (suc n) (sums_of (words_told i records)) after in
    let sent : all_sent (suc n) m t ≡ all_sent n m t ++ events =
    gathered-more (sends_next m) m t n (does told after) is_next ∙ ap (λ (es : List Event). all_sent n m t ++ es) (sent_next-step m t s told after step.step) in
    subst S (sym (after_events-does m t n told after is_next))
    (subst R (sym (gathered-more record_of m t n (does told after) is_next))
    (omega (
      arith,
      before,
      arrivals_more p t n told after i fine no_source is_next step,
      sum_before p t s told after step (weight p i),
      sum_after p t s told after step (weight p i),
      ap (λ (es : List Event). sum_by (weight p i) es) sent,
      sum_by-append (weight p i) (all_sent n m t) events,
    ))))

pub flow_law : FlowLaw
unfolding Flows
flow_law p t i n fine exists no_source loud =
    let S : State → Type 0 = λ s. ArrivalsAddUp p t i n (totals_at p t i n) s in
    let T : Sums → Type 0 = λ totals. ArrivalsAddUp p t i n totals (after_events n (plain_meaning p) t) in
    subst S (sym (same_after p t n)) (subst T (sym (same_sums p t i fine loud n)) (plain_flows p t i fine no_source n))
