-- What jobs wait at a station and what its servers work, exactly.
use Rattle.std.proofs.Common.{◌≡◌, ◌≢◌, ℕ, suc, ◌+◌, ◌-◌, ◌*◌, ◌≤◌, Bool, true, false, cond, List, [], ◌∷◌, ◌++◌, length, refl, sym, ap, ◌∙◌, subst, arith, eqb, eqb-true, eq-eqb, ne_eqb, get_or, length-append, append-nil}
use Rattle.std.specs.Prelude.{Contains, filter, sum, sum_by, ◌==◌, ◌&&◌}
use Rattle.std.specs.List.{AllByRecursion as Each}
use Rattle.std.proofs.lemmas.List.{length-map}
use Rattle.std.proofs.lemmas.List.Elements.{All-from_recursion}
use Rattle.std.proofs.lemmas.List.Sums.{length-filter}
use Rattle.event_key.specs.declared.key.Key.{Key}
use Rattle.event_key.specs.Keys.{key_lt}
use Rattle.event_key.specs.Stamps.{time_part}
use Rattle.event_key.proofs.Order.{stamp-le}
use Rattle.delta_exchange.specs.Changes.{CellData, line_of}
use Rattle.key_order.proofs.MemberLemmas.{each-member, each-contains, filter-contains}
use Rattle.model_core.specs.declared.effect.Effect.{Effect}
use Rattle.model_core.specs.declared.event.Event.{Event}
use Rattle.model_core.specs.declared.event.Send.{Send}
use Rattle.model_core.specs.declared.note.Note.{Note}
use Rattle.sim_spec.specs.declared.terms.Terms.{Terms}
use Rattle.sim_spec.specs.State.{State, initial_state, object_at as state_at}
use Rattle.sim_spec.specs.Run.{stops, does, next}
use Rattle.sim_stats.specs.declared.sums.Sums.{Sums}
use Rattle.sim_stats.specs.Sums.{sums_of, last_told}
use Rattle.sim_stats.specs.Occupancies.{intervals}
use Rattle.sim_stats.specs.Words.{TimedWord, words_told}
use Rattle.sim_stats.proofs.SumsLemmas.{with_word}
use Rattle.sim_stats.proofs.TotalsLemmas.{words_told-elsewhere}
use Rattle.queue_models.specs.declared.kind.KindOver.{KindOver}
use Rattle.queue_models.specs.declared.site.Site.{Site}
use Rattle.queue_models.specs.declared.station.Station.{Station as StationOver}
use Rattle.queue_models.specs.Meaning.{plain_meaning, site_of}
use Rattle.queue_models.specs.ModelLaws.{plain_laws}
use Rattle.queue_models.specs.Objects.{NetworkParts, object_at}
use Rattle.queue_models.specs.Parts.{IsNetwork}
use Rattle.queue_models.specs.Stations.{busy_servers, take_effect, wait_effect, lose_effect, serve_effect, free_effect}
use Rattle.run_laws.specs.Reached.{after_events, gathered, record_of, first_records}
use Rattle.run_laws.proofs.Induction.{after_events-does, after_events-stops, gathered-more, each_number}
use Rattle.run_laws.proofs.OrderLaw.{records_first}
use Rattle.run_laws.proofs.Steps.{first_firing}
use Rattle.subject_laws.specs.Draws.{delays_of, shown_by}
use Rattle.subject_laws.specs.Orders.{jobs_told, is_coming, is_done, numbers_of, begins_at}
use Rattle.subject_laws.specs.Places.{word_told}
use Rattle.subject_laws.specs.ServerLaws.{AreServing}
use Rattle.subject_laws.specs.Stations.{IsStationAt, cells_at, busy_at, waiting_at, ends_service_at, in_service_at}
use Rattle.subject_laws.specs.TimeLaws.{WorkAddsUp, UtilisationLaw}
use Rattle.subject_laws.specs.Times.{at_time, arrival_times, begin_times, done_times}
use Rattle.subject_laws.specs.TotalLaws.{totals_at, IsAccountedFor}
use Rattle.subject_laws.proofs.DrawLemmas.DrawsLaw.{plain_draws, plain_drawn, drawn_here, same_drawn}
use Rattle.subject_laws.proofs.JobLemmas.Weights.{sum_by-filter}
use Rattle.subject_laws.proofs.QueueLemmas.Cases.{EventDoes, StationDoes, takes, waits, loses, serves, frees}
use Rattle.subject_laws.proofs.QueueLemmas.NetworkStarts.{station_at_start}
use Rattle.subject_laws.proofs.QueueLemmas.NetworkSteps.{IsNetworkStep, network_step, cells_elsewhere, sum_before, sum_after}
use Rattle.subject_laws.proofs.QueueLemmas.OrderLaw.{IsMoved, moved, jobs_of, told_here, begins_are, empty_list}
use Rattle.subject_laws.proofs.QueueLemmas.PlainRuns.{same_after}
use Rattle.subject_laws.proofs.QueueLemmas.ServersLaw.{ends, ends_elsewhere, plain_servers_law}
use Rattle.subject_laws.proofs.TotalLemmas.ToldTotals.{single_part, same_sums, word_more}
use Rattle.subject_laws.proofs.TotalLemmas.TotalsLaw.{plain_totals_at, plain_totals, last_is_before, last_is_early}
use Rattle.subject_laws.proofs.TimeLemmas.Ticks.{gathered-sum, sum-same, ticks_more, sum_by-less, end_time, end_time-none, ends_sent}

-- a job is done by an event of kind 2, and by no other
done_told : (site : Site) (cells : CellData) (e : Event) (station : StationOver ℕ) (x : Effect) → StationDoes site cells e station x
    → length (jobs_of is_done x.note) ≡ cond (e.kind == 2) 1 0
unfolding jobs_of take_effect wait_effect lose_effect serve_effect free_effect
done_told site cells e station x (takes other free) = sym (ap (λ b. cond b 1 0) (ne_eqb e.kind 2 other))
done_told site cells e station x (waits other full room) = sym (ap (λ b. cond b 1 0) (ne_eqb e.kind 2 other))
done_told site cells e station x (loses other full none) = sym (ap (λ b. cond b 1 0) (ne_eqb e.kind 2 other))
done_told site cells e station x (serves done some) = sym (ap (λ b. cond b 1 0) (eq-eqb e.kind 2 done))
done_told site cells e station x (frees done none) = sym (ap (λ b. cond b 1 0) (eq-eqb e.kind 2 done))

-- a station sends the ends of its own services alone
own_ends : (site : Site) (cells : CellData) (e : Event) (station : StationOver ℕ) (x : Effect) → StationDoes site cells e station x
    → Each (λ (s : Send). s.kind ≡ 2 → s.dest ≡ site.object) x.sends
unfolding take_effect wait_effect lose_effect serve_effect free_effect
own_ends site cells e station x (takes other free) = (λ two. refl, tt)
own_ends site cells e station x (waits other full room) = tt
own_ends site cells e station x (loses other full none) = tt
own_ends site cells e station x (serves done some) = (λ two. absurd (let w : 3 ≡ 2 = two in omega arith), (λ two. refl, tt))
own_ends site cells e station x (frees done none) = (λ two. absurd (let w : 3 ≡ 2 = two in omega arith), tt)

-- what one event moves at a station: how many come, begin and are done; and when the services that begin will end
pub record MovesInTime (p : NetworkParts) (s : State) (told : Key × Note) (after : State) (i : ℕ) : Type 0 where
  pub waiting : length (waiting_at s i) + length (jobs_told is_coming i s (does told after)) ≡ length (begins_at (plain_meaning p) i s (does told after)) + length (waiting_at after i)
  pub busy : busy_at s i + length (begins_at (plain_meaning p) i s (does told after)) ≡ length (jobs_told is_done i s (does told after)) + busy_at after i
  pub ends : sum_by (end_time i) after.pending + length (jobs_told is_done i s (does told after)) * time_part told.0.stamp
      ≡ sum_by (end_time i) s.pending + length (begins_at (plain_meaning p) i s (does told after)) * time_part told.0.stamp + sum (plain_draws p i s (does told after))

waiting_moves : (p : NetworkParts) (s : State) (told : Key × Note) (after : State) (i : ℕ) (station : StationOver ℕ) → IsMoved p s told after i station
    → length (waiting_at s i) + length (jobs_told is_coming i s (does told after)) ≡ length (begins_at (plain_meaning p) i s (does told after)) + length (waiting_at after i)
waiting_moves p s told after i station is_moved =
    sym (length-append (waiting_at s i) (jobs_told is_coming i s (does told after)))
    ∙ ap length is_moved.in_order
    ∙ length-append (begins_at (plain_meaning p) i s (does told after)) (waiting_at after i)

-- an event of the station
moves_here : (p : NetworkParts) (t : Terms) (s : State) (told : Key × Note) (after : State) (n : IsNetworkStep p t s told after) (station : StationOver ℕ)
    → IsStationAt p n.step.event.key.dest station → IsMoved p s told after n.step.event.key.dest station
    → busy_at s n.step.event.key.dest ≡ length (in_service_at s n.step.event.key.dest) → busy_at after n.step.event.key.dest ≡ length (in_service_at after n.step.event.key.dest)
    → MovesInTime p s told after n.step.event.key.dest
unfolding end_time
moves_here p t s told after n station is is_moved busy_before busy_after =
    let e : Event = n.step.event in
    let d : ℕ = e.key.dest in
    let x : Effect = n.step.effect in
    let sent : List Event = (first_firing s e x).events in
    let D : KindOver ℕ → Type 0 = λ kind. EventDoes p.objects (site_of p d) (cells_at s d) e kind x in
    let does_so : StationDoes (site_of p d) (cells_at s d) e station x = subst D is n.does_so in
    let here : (e.key.dest == d) ≡ true = eq-eqb d d refl in
    let ending : ends_service_at d e ≡ (e.kind == 2) = ap (λ b. (e.kind == 2) && b) here ∙ and_true (e.kind == 2) in
    let done : length (jobs_told is_done d s (does told after)) ≡ cond (e.kind == 2) 1 0 =
    ap (λ (jobs : List ℕ). length jobs) (told_here is_done d s after told e x.note true n.step.tells here) ∙ done_told (site_of p d) (cells_at s d) e station x does_so in
    let begins : length (begins_at (plain_meaning p) d s (does told after)) ≡ length (filter (ends_service_at d) sent) =
    ap (λ (jobs : List ℕ). length jobs) (begins_are p t s told after n d) ∙ length-map (filter (ends_service_at d) sent) (λ (e : Event). e.a) in
    let drawn : plain_draws p d s (does told after) ≡ delays_of 2 x.sends =
    drawn_here p t s told after n d true here ∙ ap (λ (kind : KindOver ℕ). shown_by kind x.sends) is in
    let stamp : told.0.stamp ≡ e.key.stamp = ap (λ (r : Key × Note). r.0.stamp) n.step.tells in
    let weight : (b : Bool) → cond b (time_part e.key.stamp) 0 ≡ cond b 1 0 * time_part e.key.stamp = λ b. once b (time_part e.key.stamp) in
    let count : length (in_service_at s d) ≡ cond (e.kind == 2) 1 0 + length (filter (ends_service_at d) n.step.rest) =
    length-filter (ends_service_at d) s.pending ∙ sum_before p t s told after n (λ (x : Event). cond (ends_service_at d x) 1 0)
    ∙ ap (λ b. cond b 1 0 + sum_by (λ (x : Event). cond (ends_service_at d x) 1 0) n.step.rest) ending
    ∙ ap (λ k. cond (e.kind == 2) 1 0 + k) (sym (length-filter (ends_service_at d) n.step.rest)) in
    let count_after : length (in_service_at after d) ≡ length (filter (ends_service_at d) sent) + length (filter (ends_service_at d) n.step.rest) =
    length-filter (ends_service_at d) after.pending ∙ sum_after p t s told after n (λ (x : Event). cond (ends_service_at d x) 1 0)
    ∙ ap (λ k. k + sum_by (λ (x : Event). cond (ends_service_at d x) 1 0) n.step.rest) (sym (length-filter (ends_service_at d) sent))
    ∙ ap (λ k. length (filter (ends_service_at d) sent) + k) (sym (length-filter (ends_service_at d) n.step.rest)) in
    let E : ℕ → ℕ = λ k. k * time_part e.key.stamp in
    let sending : sum_by (end_time d) sent ≡ length (filter (ends_service_at d) sent) * time_part e.key.stamp + sum (delays_of 2 x.sends) =
    ends_sent d e.key.stamp d (state_at s.objects d).sent x.sends n.step.no_chain (own_ends (site_of p d) (cells_at s d) e station x does_so) in
    let was : end_time d e ≡ cond (e.kind == 2) 1 0 * time_part e.key.stamp = ap (λ b. cond b (time_part e.key.stamp) 0) ending ∙ weight (e.kind == 2) in
    let T : ℕ → Type 0 = λ stamp. sum_by (end_time d) after.pending + length (jobs_told is_done d s (does told after)) * time_part stamp
    ≡ sum_by (end_time d) s.pending + length (begins_at (plain_meaning p) d s (does told after)) * time_part stamp + sum (plain_draws p d s (does told after)) in
    record {
      waiting = waiting_moves p s told after d station is_moved;
      busy = omega (arith, busy_before, busy_after, done, begins, count, count_after);
      ends = subst T (sym stamp)
          (omega (
            arith,
            sum_before p t s told after n (end_time d),
            sum_after p t s told after n (end_time d),
            sending,
            was,
            ap E done,
            ap E begins,
            ap (λ (xs : List ℕ). sum xs) drawn,
          ));
    }
  where
    and_true : (b : Bool) → (b && true) ≡ b
    and_true true = refl
    and_true false = refl

    once : (b : Bool) (time : ℕ) → cond b time 0 ≡ cond b 1 0 * time
    once true time = omega arith
    once false time = omega arith

-- nothing moves at a station
pub record StaysStill (p : NetworkParts) (s : State) (told : Key × Note) (after : State) (i : ℕ) : Type 0 where
  pub coming : jobs_told is_coming i s (does told after) ≡ []
  pub begins : begins_at (plain_meaning p) i s (does told after) ≡ []
  pub done : jobs_told is_done i s (does told after) ≡ []
  pub waiting : waiting_at after i ≡ waiting_at s i
  pub busy : busy_at after i ≡ busy_at s i
  pub ends : sum_by (end_time i) after.pending ≡ sum_by (end_time i) s.pending
  pub drawn : plain_draws p i s (does told after) ≡ []

-- by an event elsewhere
still_elsewhere : (p : NetworkParts) (t : Terms) (s : State) (told : Key × Note) (after : State) (n : IsNetworkStep p t s told after) (i : ℕ)
    → i ≢ n.step.event.key.dest → StaysStill p s told after i
unfolding end_time ends
still_elsewhere p t s told after n i apart =
    let e : Event = n.step.event in
    let x : Effect = n.step.effect in
    let away : (e.key.dest == i) ≡ false = ne_eqb e.key.dest i (λ same. apart (sym same)) in
    let cells = cells_elsewhere p t s told after n i apart in
    let sent : List Event = (first_firing s e x).events in
    let none_sent : ends i sent ≡ 0 =
    ends_elsewhere p.objects (site_of p e.key.dest) (cells_at s e.key.dest) e (object_at p.objects e.key.dest).kind x i e.key.stamp e.key.dest _ (λ eq. apart (sym eq)) n.does_so in
    let none : filter (ends_service_at i) sent ≡ [] = empty_list (filter (ends_service_at i) sent) (length-filter (ends_service_at i) sent ∙ none_sent) in
    let it_is_not : end_time i e ≡ 0 = ap (λ b. cond b (time_part e.key.stamp) 0) (ap (λ b. (e.kind == 2) && b) away ∙ and_false (e.kind == 2)) in
    record {
      coming = told_here is_coming i s after told e x.note false n.step.tells away;
      begins = begins_are p t s told after n i ∙ ap numbers_of none;
      done = told_here is_done i s after told e x.note false n.step.tells away;
      waiting = ap (λ (c : CellData). line_of c 0) cells;
      busy = ap (λ (c : CellData). busy_servers c) cells;
      ends = omega (arith, sum_before p t s told after n (end_time i), sum_after p t s told after n (end_time i), end_time-none i sent none_sent, it_is_not);
      drawn = drawn_here p t s told after n i false away;
    }
  where
    and_false : (b : Bool) → (b && false) ≡ false
    and_false true = refl
    and_false false = refl

-- an event moves jobs at a station, of which it tells by a word; or nothing moves there, and nothing is told
pub data StationStep (p : NetworkParts) (t : Terms) (n : ℕ) (told : Key × Note) (after : State) (i : ℕ) : Type 0 where
  moves : MovesInTime p (after_events n (plain_meaning p) t) told after i → (word : ℕ)
      → sums_of (words_told i (first_records n (plain_meaning p) t ++ told ∷ [])) ≡ with_word (plain_totals_at p t i n) (record { time = time_part told.0.stamp; word = word })
      → StationStep p t n told after i
  still : StaysStill p (after_events n (plain_meaning p) t) told after i
      → sums_of (words_told i (first_records n (plain_meaning p) t ++ told ∷ [])) ≡ plain_totals_at p t i n → StationStep p t n told after i

pub station_step : (p : NetworkParts) (t : Terms) (n : ℕ) (told : Key × Note) (after : State) (i : ℕ) (station : StationOver ℕ) → IsNetwork p
    → next (plain_meaning p) t (after_events n (plain_meaning p) t) ≡ does told after → IsStationAt p i station → StationStep p t n told after i
station_step p t n told after i station fine is_next is = by (eqb i step.step.event.key.dest) refl
  where
    s : State
    s = after_events n (plain_meaning p) t

    step : IsNetworkStep p t (after_events n (plain_meaning p) t) told after
    step = network_step p t (after_events n (plain_meaning p) t) told after fine (n, refl) is_next

    serving : AreServing (after_events n (plain_meaning p) t) i station
    serving = plain_servers_law p t (after_events n (plain_meaning p) t) i station fine (n, refl) is

    serving_after : AreServing after i station
    serving_after = plain_servers_law p t after i station fine (suc n, after_events-does (plain_meaning p) t n told after is_next) is

    is_moved : IsMoved p (after_events n (plain_meaning p) t) told after i station
    is_moved = moved p t (after_events n (plain_meaning p) t) told after i station fine (n, refl) is_next is

    key : told.0 ≡ step.step.event.key
    key = ap (λ (r : Key × Note). r.0) step.step.tells

    by : (here : Bool) → eqb i step.step.event.key.dest ≡ here → StationStep p t n told after i
    by false apart_is =
        let apart : i ≢ step.step.event.key.dest = λ same. let yes = eq-eqb i step.step.event.key.dest same in cc in
        let away : i ≢ told.0.dest = λ same. apart (same ∙ ap (λ (k : Key). k.dest) key) in
        still (still_elsewhere p t s told after step i apart)
        (ap (λ (words : List TimedWord). sums_of words) (words_told-elsewhere i (first_records n (plain_meaning p) t) told away))
    by true here_is =
        let same : i ≡ step.step.event.key.dest = eqb-true i step.step.event.key.dest here_is in
        let at : i ≡ told.0.dest = same ∙ sym (ap (λ (k : Key). k.dest) key) in
        let P : ℕ → Type 0 = λ j. IsStationAt p j station → IsMoved p s told after j station → busy_at s j ≡ length (in_service_at s j)
        → busy_at after j ≡ length (in_service_at after j) → MovesInTime p s told after j in
        let records : List (Key × Note) = first_records n (plain_meaning p) t in
        let W : ℕ → Type 0 = λ j. sums_of (words_told j (records ++ told ∷ [])) ≡ with_word (sums_of (words_told j records)) (record { time = time_part told.0.stamp; word = word_told told.1 }) in
        let more : W i = subst W (sym at) (word_more records told (single_part p t s fine (n, refl) told after is_next)) in
        moves (subst P (sym same) (moves_here p t s told after step station) is is_moved serving.under_way serving_after.under_way) (word_told told.1) more

-- a station after n events, by the totals over what would be told if no object were quiet
pub record Adds (p : NetworkParts) (t : Terms) (i n : ℕ) (sums : Sums) (s : State) : Type 0 where
  pub waited : sums.waiting_ticks + sum (arrival_times p t i n) ≡ sum (begin_times p t i n) + length (waiting_at s i) * sums.last
  pub worked : sums.busy_ticks + sum (begin_times p t i n) ≡ sum (done_times p t i n) + busy_at s i * sums.last
  pub drawn : sum (done_times p t i n) + sum_by (end_time i) s.pending ≡ sum (begin_times p t i n) + sum (plain_drawn p t i n)

-- what an event adds to the sums of times
record TimesMore (p : NetworkParts) (t : Terms) (i n : ℕ) (told : Key × Note) (after : State) : Type 0 where
  pub arrivals : sum (arrival_times p t i (suc n)) ≡ sum (arrival_times p t i n) + length (jobs_told is_coming i (after_events n (plain_meaning p) t) (does told after)) * time_part told.0.stamp
  pub begins : sum (begin_times p t i (suc n)) ≡ sum (begin_times p t i n) + length (begins_at (plain_meaning p) i (after_events n (plain_meaning p) t) (does told after)) * time_part told.0.stamp
  pub dones : sum (done_times p t i (suc n)) ≡ sum (done_times p t i n) + length (jobs_told is_done i (after_events n (plain_meaning p) t) (does told after)) * time_part told.0.stamp
  pub drawn : sum (plain_drawn p t i (suc n)) ≡ sum (plain_drawn p t i n) + sum (plain_draws p i (after_events n (plain_meaning p) t) (does told after))

times_more : (p : NetworkParts) (t : Terms) (i n : ℕ) (told : Key × Note) (after : State) → next (plain_meaning p) t (after_events n (plain_meaning p) t) ≡ does told after
    → TimesMore p t i n told after
times_more p t i n told after is_next =
    let m = plain_meaning p in
    let s : State = after_events n m t in
    let time : ℕ = time_part told.0.stamp in
    record {
      arrivals = gathered-sum (at_time (jobs_told is_coming i)) m t n (does told after) is_next
          ∙ ap (λ k. sum (arrival_times p t i n) + k) (sum-same time (jobs_told is_coming i s (does told after)));
      begins = gathered-sum (at_time (begins_at m i)) m t n (does told after) is_next
          ∙ ap (λ k. sum (begin_times p t i n) + k) (sum-same time (begins_at m i s (does told after)));
      dones = gathered-sum (at_time (jobs_told is_done i)) m t n (does told after) is_next
          ∙ ap (λ k. sum (done_times p t i n) + k) (sum-same time (jobs_told is_done i s (does told after)));
      drawn = gathered-sum (plain_draws p i) m t n (does told after) is_next;
    }

adds_step : (p : NetworkParts) (t : Terms) (i : ℕ) (station : StationOver ℕ) (n : ℕ) (told : Key × Note) (after : State) → IsNetwork p → IsStationAt p i station
    → next (plain_meaning p) t (after_events n (plain_meaning p) t) ≡ does told after → StationStep p t n told after i
    → Adds p t i n (plain_totals_at p t i n) (after_events n (plain_meaning p) t)
    → Adds p t i (suc n) (sums_of (words_told i (first_records n (plain_meaning p) t ++ told ∷ []))) after
adds_step p t i station n told after fine is is_next (still stays same) before =
    let more : TimesMore p t i n told after = times_more p t i n told after is_next in
    let time : ℕ = time_part told.0.stamp in
    let sums : Sums = plain_totals_at p t i n in
    let none : (jobs : List ℕ) → jobs ≡ [] → length jobs * time ≡ 0 = λ jobs is_none. ap (λ (xs : List ℕ). length xs * time) is_none ∙ nothing time in
    let arrivals : sum (arrival_times p t i (suc n)) ≡ sum (arrival_times p t i n) = omega (arith, more.arrivals, none _ stays.coming) in
    let begins : sum (begin_times p t i (suc n)) ≡ sum (begin_times p t i n) = omega (arith, more.begins, none _ stays.begins) in
    let dones : sum (done_times p t i (suc n)) ≡ sum (done_times p t i n) = omega (arith, more.dones, none _ stays.done) in
    let draws : sum (plain_drawn p t i (suc n)) ≡ sum (plain_drawn p t i n) = omega (arith, more.drawn, ap (λ (xs : List ℕ). sum xs) stays.drawn) in
    let A : Sums → Type 0 = λ sums. Adds p t i (suc n) sums after in
    subst A (sym same) (record {
      waited = ap (λ k. sums.waiting_ticks + k) arrivals ∙ before.waited ∙ ap (λ k. k + length (waiting_at (after_events n (plain_meaning p) t) i) * sums.last) (sym begins)
          ∙ ap (λ (line : List ℕ). sum (begin_times p t i (suc n)) + length line * sums.last) (sym stays.waiting);
      worked = ap (λ k. sums.busy_ticks + k) begins ∙ before.worked ∙ ap (λ k. k + busy_at (after_events n (plain_meaning p) t) i * sums.last) (sym dones)
          ∙ ap (λ busy. sum (done_times p t i (suc n)) + busy * sums.last) (sym stays.busy);
      drawn = omega (arith, before.drawn, begins, dones, draws, stays.ends);
    })
  where
    nothing : (time : ℕ) → ◌≡◌ {A = ℕ} (0 * time) 0
    nothing time = omega arith
adds_step p t i station n told after fine is is_next (moves step word same) before =
    let m = plain_meaning p in
    let s : State = after_events n m t in
    let more : TimesMore p t i n told after = times_more p t i n told after is_next in
    let time : ℕ = time_part told.0.stamp in
    let sums : Sums = plain_totals_at p t i n in
    let kept : IsAccountedFor sums s i station = plain_totals p t i station n fine is in
    let later : sums.last ≤ time = last_is_early p t n told after i fine is_next in
    let waiting : sums.waiting_ticks + (time - sums.last) * sums.occupancy.waiting ≡ sums.waiting_ticks + (time - sums.last) * length (waiting_at s i) =
    ap (λ k. sums.waiting_ticks + (time - sums.last) * k) kept.waiting in
    let busy : sums.busy_ticks + (time - sums.last) * sums.occupancy.busy ≡ sums.busy_ticks + (time - sums.last) * busy_at s i =
    ap (λ k. sums.busy_ticks + (time - sums.last) * k) kept.busy in
    let waits_on = ticks_more sums.waiting_ticks (sum (arrival_times p t i n)) (sum (begin_times p t i n)) (length (waiting_at s i))
    (length (jobs_told is_coming i s (does told after))) (length (begins_at m i s (does told after))) (length (waiting_at after i)) sums.last time later before.waited step.waiting in
    let works_on = ticks_more sums.busy_ticks (sum (begin_times p t i n)) (sum (done_times p t i n)) (busy_at s i)
    (length (begins_at m i s (does told after))) (length (jobs_told is_done i s (does told after))) (busy_at after i) sums.last time later before.worked step.busy in
    let A : Sums → Type 0 = λ sums. Adds p t i (suc n) sums after in
    subst A (sym same) (record {
      waited = ap (λ k. k + sum (arrival_times p t i (suc n))) waiting
          ∙ ap (λ k. sums.waiting_ticks + (time - sums.last) * length (waiting_at s i) + k) more.arrivals
          ∙ waits_on ∙ ap (λ k. k + length (waiting_at after i) * time) (sym more.begins);
      worked = ap (λ k. k + sum (begin_times p t i (suc n))) busy
          ∙ ap (λ k. sums.busy_ticks + (time - sums.last) * busy_at s i + k) more.begins
          ∙ works_on ∙ ap (λ k. k + busy_at after i * time) (sym more.dones);
      drawn = omega (arith, before.drawn, more.begins, more.dones, more.drawn, step.ends);
    })

adds_first : (p : NetworkParts) (t : Terms) (i : ℕ) (station : StationOver ℕ) → IsNetwork p → IsStationAt p i station → Adds p t i 0 (plain_totals_at p t i 0) (after_events 0 (plain_meaning p) t)
unfolding gathered after_events words_told sums_of intervals last_told end_time ends
adds_first p t i station fine is =
    let s : State = initial_state (plain_meaning p) in
    let good : AreServing s i station = plain_servers_law p t s i station fine (0, refl) is in
    let line : length (waiting_at s i) ≡ 0 = ap (λ (c : CellData). length (line_of c 0)) (station_at_start p i station is) in
    let busy : busy_at s i ≡ 0 = ap (λ (c : CellData). busy_servers c) (station_at_start p i station is) in
    let none : ends i s.pending ≡ 0 = sym (length-filter (ends_service_at i) s.pending) ∙ sym good.under_way ∙ busy in
    record {
      waited = ap (λ k. 0 + k * 0) (sym line);
      worked = ap (λ k. 0 + k * 0) (sym busy);
      drawn = ap (λ k. 0 + k) (end_time-none i s.pending none);
    }

-- the law over the plain meaning
pub plain_adds : (p : NetworkParts) (t : Terms) (i : ℕ) (station : StationOver ℕ) → IsNetwork p → IsStationAt p i station → (n : ℕ)
    → Adds p t i n (plain_totals_at p t i n) (after_events n (plain_meaning p) t)
plain_adds p t i station fine is =
    let m = plain_meaning p in
    each_number m t (λ n. Adds p t i n (plain_totals_at p t i n) (after_events n m t)) (adds_first p t i station fine is)
    (λ n stop is_next before.
    let S : State → Type 0 = λ s. Adds p t i (suc n) (plain_totals_at p t i (suc n)) s in
    let R : List (Key × Note) → Type 0 = λ records. Adds p t i (suc n) (sums_of (words_told i records)) (after_events n m t) in
    let sums : Sums = plain_totals_at p t i n in
    let s : State = after_events n m t in
    let arrivals : arrival_times p t i (suc n) ≡ arrival_times p t i n = gathered-more (at_time (jobs_told is_coming i)) m t n (stops stop) is_next ∙ append-nil (arrival_times p t i n) in
    let begins : begin_times p t i (suc n) ≡ begin_times p t i n = gathered-more (at_time (begins_at m i)) m t n (stops stop) is_next ∙ append-nil (begin_times p t i n) in
    let dones : done_times p t i (suc n) ≡ done_times p t i n = gathered-more (at_time (jobs_told is_done i)) m t n (stops stop) is_next ∙ append-nil (done_times p t i n) in
    let draws : plain_drawn p t i (suc n) ≡ plain_drawn p t i n = gathered-more (plain_draws p i) m t n (stops stop) is_next ∙ append-nil (plain_drawn p t i n) in
    subst S (sym (after_events-stops m t n stop is_next))
    (subst R (sym (gathered-more record_of m t n (stops stop) is_next ∙ append-nil (first_records n m t)))
    (record {
      waited = ap (λ (xs : List ℕ). sums.waiting_ticks + sum xs) arrivals ∙ before.waited ∙ ap (λ (xs : List ℕ). sum xs + length (waiting_at s i) * sums.last) (sym begins);
      worked = ap (λ (xs : List ℕ). sums.busy_ticks + sum xs) begins ∙ before.worked ∙ ap (λ (xs : List ℕ). sum xs + busy_at s i * sums.last) (sym dones);
      drawn = omega (
        arith,
        before.drawn,
        ap (λ (xs : List ℕ). sum xs) begins,
        ap (λ (xs : List ℕ). sum xs) dones,
        ap (λ (xs : List ℕ). sum xs) draws,
      );
    })))
    (λ n told after is_next before.
    let S : State → Type 0 = λ s. Adds p t i (suc n) (plain_totals_at p t i (suc n)) s in
    let R : List (Key × Note) → Type 0 = λ records. Adds p t i (suc n) (sums_of (words_told i records)) after in
    subst S (sym (after_events-does m t n told after is_next))
    (subst R (sym (gathered-more record_of m t n (does told after) is_next))
    (adds_step p t i station n told after fine is is_next (station_step p t n told after i station fine is_next is) before)))

-- what is pending comes no sooner than the last word that was told
last_before : (p : NetworkParts) (t : Terms) (i n : ℕ) → IsNetwork p
    → Each (λ (e : Event). (plain_totals_at p t i n).last ≤ time_part e.key.stamp) (after_events n (plain_meaning p) t).pending
last_before p t i n fine =
    each_member-of (after_events n (plain_meaning p) t).pending
    (λ e is_in. last_is_before p t i n (time_part e.key.stamp)
    (λ k none within.
    let later : key_lt (get_or (first_records n (plain_meaning p) t) k none).0 e.key ≡ true =
    each-contains (λ (e : Event). key_lt (get_or (first_records n (plain_meaning p) t) k none).0 e.key ≡ true) e (after_events n (plain_meaning p) t).pending
    (records_first (plain_meaning p) t (plain_laws p fine) n k none within) is_in in
    let le = stamp-le (get_or (first_records n (plain_meaning p) t) k none).0 e.key later in
    omega arith))
  where
    each_member-of : (es : List Event) → ((e : Event) → Contains es e → (plain_totals_at p t i n).last ≤ time_part e.key.stamp)
        → Each (λ (e : Event). (plain_totals_at p t i n).last ≤ time_part e.key.stamp) es
    each_member-of es all = each-member (λ (e : Event). (plain_totals_at p t i n).last ≤ time_part e.key.stamp) es all

plain_work : (p : NetworkParts) (t : Terms) (i : ℕ) (station : StationOver ℕ) (n : ℕ) → IsNetwork p → IsStationAt p i station
    → WorkAddsUp p t i n (plain_totals_at p t i n) (after_events n (plain_meaning p) t)
unfolding end_time
plain_work p t i station n fine is =
    let s : State = after_events n (plain_meaning p) t in
    let sums : Sums = plain_totals_at p t i n in
    let adds : Adds p t i n sums s = plain_adds p t i station fine is n in
    let good : AreServing s i station = plain_servers_law p t s i station fine (n, refl) is in
    let later : Each (λ (e : Event). sums.last ≤ time_part e.key.stamp) (in_service_at s i) =
    each-member (λ (e : Event). sums.last ≤ time_part e.key.stamp) (in_service_at s i)
    (λ e is_in. each-contains (λ (e : Event). sums.last ≤ time_part e.key.stamp) e s.pending (last_before p t i n fine) (filter-contains (ends_service_at i) e s.pending is_in)) in
    record {
      times = adds.worked;
      under_way = All-from_recursion (λ (e : Event). sums.last ≤ time_part e.key.stamp) (in_service_at s i) later;
      drawn = omega (
        arith,
        adds.worked,
        adds.drawn,
        sum_by-less (λ (e : Event). time_part e.key.stamp) sums.last (in_service_at s i) later,
        ap (λ k. k * sums.last) good.under_way,
        sum_by-filter (λ (e : Event). time_part e.key.stamp) (ends_service_at i) s.pending,
        ap (λ (xs : List ℕ). sum xs) (same_drawn p t i n),
      );
    }

pub utilisation_law : UtilisationLaw
utilisation_law p t i station n fine is loud =
    let S : State → Type 0 = λ s. WorkAddsUp p t i n (totals_at p t i n) s in
    let T : Sums → Type 0 = λ totals. WorkAddsUp p t i n totals (after_events n (plain_meaning p) t) in
    subst S (sym (same_after p t n)) (subst T (sym (same_sums p t i fine loud n)) (plain_work p t i station n fine is))
