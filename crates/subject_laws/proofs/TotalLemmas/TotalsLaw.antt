-- The totals of a station account for its jobs and for the time of its servers.
use Rattle.std.proofs.Common.{◌≡◌, ◌≢◌, ℕ, suc, ◌+◌, ◌-◌, ◌*◌, ◌<◌, ◌≤◌, Bool, true, false, cond, List, [], ◌∷◌, ◌++◌, length, drop, refl, sym, ap, ◌∙◌, subst, arith, eqb, eqb-true, eq-eqb, append-nil, get_or, length-append, mul-le-mul_left}
use Rattle.std.specs.Prelude.{IsTrue, All, nat_lt, ◌==◌, ◌&&◌, if◌then◌else◌}
use Rattle.std.specs.List.{filter, flat_map}
use Rattle.std.proofs.Math.ListN.{get_or-append}
use Rattle.std.proofs.Math.Seq.{get_or-append_seam}
use Rattle.std.proofs.lemmas.Bool.Decides.{nat_tests}
use Rattle.event_key.specs.Keys.{key_lt}
use Rattle.event_key.proofs.Order.{stamp-le}
use Rattle.event_key.specs.declared.key.Key.{Key}
use Rattle.event_key.specs.Stamps.{time_part}
use Rattle.delta_exchange.specs.Changes.{CellData, line_of, cells_after_all}
use Rattle.model_core.specs.declared.effect.Effect.{Effect}
use Rattle.model_core.specs.declared.event.Event.{Event}
use Rattle.model_core.specs.declared.note.Note.{Note}
use Rattle.sim_spec.specs.declared.terms.Terms.{Terms}
use Rattle.sim_spec.specs.declared.stop.Stop.{Stop}
use Rattle.sim_spec.specs.State.{State}
use Rattle.sim_spec.specs.Run.{stops, does, next}
use Rattle.sim_stats.specs.declared.occupancy.Occupancy.{Occupancy}
use Rattle.sim_stats.specs.declared.sums.Sums.{Sums}
use Rattle.sim_stats.specs.Occupancies.{after_done, after_words, intervals}
use Rattle.sim_stats.specs.Sums.{last_told, sums_of}
use Rattle.sim_stats.specs.Words.{TimedWord, words_at, timed_words, words_told}
use Rattle.sim_stats.proofs.SumsLemmas.{with_word, sums_of-more}
use Rattle.sim_stats.proofs.TotalsLemmas.{words_told-here, words_told-elsewhere}
use Rattle.queue_models.specs.declared.station.Station.{Station as StationOver}
use Rattle.queue_models.specs.declared.kind.KindOver.{KindOver}
use Rattle.queue_models.specs.declared.site.Site.{Site}
use Rattle.queue_models.specs.Meaning.{plain_meaning, site_of}
use Rattle.queue_models.specs.ModelLaws.{plain_laws}
use Rattle.queue_models.specs.Objects.{NetworkParts}
use Rattle.queue_models.specs.Parts.{IsNetwork}
use Rattle.queue_models.specs.Stations.{busy_servers, waiting_jobs, is_station_cells, take_effect, wait_effect, lose_effect, serve_effect, free_effect}
use Rattle.run_laws.specs.Reached.{after_events, record_of, first_records, gathered}
use Rattle.run_laws.proofs.Induction.{after_events-does, after_events-stops, gathered-more, each_number}
use Rattle.run_laws.proofs.OrderLaw.{records_ascend}
use Rattle.subject_laws.specs.ServerLaws.{AreServing}
use Rattle.subject_laws.specs.Stations.{IsStationAt, cells_at, busy_at, waiting_at, in_service_at, ends_service_at}
use Rattle.subject_laws.proofs.QueueLemmas.Cases.{EventDoes, StationDoes, takes, waits, loses, serves, frees}
use Rattle.subject_laws.proofs.QueueLemmas.Leaves.{HasStationCells, station_shape, take_leaves, wait_leaves, serve_leaves, free_leaves}
use Rattle.subject_laws.proofs.QueueLemmas.NetworkStarts.{station_at_start}
use Rattle.subject_laws.proofs.QueueLemmas.NetworkSteps.{IsNetworkStep, network_step, cells_here, cells_elsewhere}
use Rattle.subject_laws.proofs.QueueLemmas.ServersLaw.{lose_leaves, station_lawful, plain_servers_law}
use Rattle.subject_laws.specs.TotalLaws.{totals_at, IsAccountedFor, EachStationIsAccountedFor}
use Rattle.subject_laws.proofs.QueueLemmas.PlainRuns.{same_after}
use Rattle.subject_laws.proofs.TotalLemmas.ToldTotals.{same_sums}

-- totals beside so many busy servers and waiting jobs
record Balanced (servers busy waiting : ℕ) (sums : Sums) : Type 0 where
  pub jobs : sums.arrivals ≡ sums.served + sums.lost + waiting + busy
  pub busy_now : sums.occupancy.busy ≡ busy
  pub waiting_now : sums.occupancy.waiting ≡ waiting
  pub ticks : sums.busy_ticks ≤ servers * sums.last

-- some of the servers, for the time since the last word
ticks_on : (servers last time busy ticks : ℕ) → last ≤ time → busy ≤ servers → ticks ≤ servers * last → ticks + (time - last) * busy ≤ servers * time
ticks_on servers last time busy ticks later few so_far =
    let more : (time - last) * busy ≤ (time - last) * servers = mul-le-mul_left (time - last) few in
    let whole : servers * time ≡ servers * last + (time - last) * servers =
    ap (λ n. servers * n) (let split : time ≡ last + (time - last) = omega arith in split) ∙ omega arith in
    omega arith

-- a word more, after which so many servers are busy and jobs wait
word_on : (servers busy waiting more_busy more_waiting : ℕ) (sums : Sums) (one : TimedWord) → Balanced servers busy waiting sums → busy ≤ servers → sums.last ≤ one.time
    → (with_word sums one).arrivals ≡ (with_word sums one).served + (with_word sums one).lost + more_waiting + more_busy
    → (with_word sums one).occupancy ≡ record { busy = more_busy; waiting = more_waiting }
    → Balanced servers more_busy more_waiting (with_word sums one)
word_on servers busy waiting more_busy more_waiting sums one before few later jobs now = record {
  jobs = jobs;
  busy_now = ap (λ (o : Occupancy). o.busy) now;
  waiting_now = ap (λ (o : Occupancy). o.waiting) now;
  ticks = ticks_on servers sums.last one.time sums.occupancy.busy sums.busy_ticks later (omega (arith, before.busy_now)) before.ticks;
}

occupied : (o : Occupancy) (busy waiting : ℕ) → o.busy ≡ busy → o.waiting ≡ waiting → o ≡ record { busy = busy; waiting = waiting }
occupied o busy waiting same_busy same_waiting =
    ap (λ b. let p : Occupancy = record { busy = b; waiting = o.waiting } in p) same_busy ∙ ap (λ w. let p : Occupancy = record { busy = busy; waiting = w } in p) same_waiting

done_while_some_wait : (o : Occupancy) → 0 < o.waiting → after_done o ≡ record { busy = o.busy; waiting = o.waiting - 1 }
done_while_some_wait o some =
    let yes : nat_lt 0 o.waiting ≡ true = grind (arith, nat_tests) in
    ap (λ b. let p : Occupancy = if b then record { busy = o.busy; waiting = o.waiting - 1 } else record { busy = o.busy - 1; waiting = o.waiting } in p) yes

done_while_none_waits : (o : Occupancy) → o.waiting ≡ 0 → after_done o ≡ record { busy = o.busy - 1; waiting = o.waiting }
done_while_none_waits o none =
    let no : nat_lt 0 o.waiting ≡ false = grind (arith, nat_tests) in
    ap (λ b. let p : Occupancy = if b then record { busy = o.busy; waiting = o.waiting - 1 } else record { busy = o.busy - 1; waiting = o.waiting } in p) no

-- what is told of an event at a station, at this time
moved_on : (site : Site) (cells : CellData) (e : Event) (station : StationOver ℕ) (x : Effect) (told : List TimedWord) (time : ℕ)
    → HasStationCells cells → busy_servers cells ≤ station.servers → (e.kind ≡ 2 → 0 < busy_servers cells) → (sums_of told).last ≤ time
    → Balanced station.servers (busy_servers cells) (waiting_jobs cells) (sums_of told) → StationDoes site cells e station x
    → Balanced station.servers (busy_servers (cells_after_all x.changes cells)) (waiting_jobs (cells_after_all x.changes cells)) (sums_of (told ++ words_at time x.note))
unfolding take_effect wait_effect lose_effect serve_effect free_effect
moved_on site cells e station x told time has few serving later before (takes other free) =
    let one : TimedWord = record { time = time; word = 3 } in
    let left = take_leaves site station cells e has in
    let S : CellData → Type 0 = λ c. Balanced station.servers (busy_servers c) (waiting_jobs c) (sums_of (told ++ one ∷ [])) in
    let T : Sums → Type 0 = Balanced station.servers (busy_servers cells + 1) (waiting_jobs cells) in
    subst S (sym left) (subst T (sym (sums_of-more told one))
    (word_on station.servers (busy_servers cells) (waiting_jobs cells) (busy_servers cells + 1) (waiting_jobs cells) (sums_of told) one before few later
    (omega (arith, before.jobs)) (occupied _ _ _ (ap (λ n. n + 1) before.busy_now) before.waiting_now)))
moved_on site cells e station x told time has few serving later before (waits other full room) =
    let one : TimedWord = record { time = time; word = 4 } in
    let left = wait_leaves cells e has in
    let S : CellData → Type 0 = λ c. Balanced station.servers (busy_servers c) (waiting_jobs c) (sums_of (told ++ one ∷ [])) in
    let long : length (line_of cells 0 ++ e.a ∷ []) ≡ waiting_jobs cells + 1 = length-append (line_of cells 0) (e.a ∷ []) in
    let W : ℕ → Type 0 = λ w. Balanced station.servers (busy_servers cells) w (sums_of (told ++ one ∷ [])) in
    let T : Sums → Type 0 = Balanced station.servers (busy_servers cells) (waiting_jobs cells + 1) in
    subst S (sym left) (subst W (sym long) (subst T (sym (sums_of-more told one))
    (word_on station.servers (busy_servers cells) (waiting_jobs cells) (busy_servers cells) (waiting_jobs cells + 1) (sums_of told) one before few later
    (omega (arith, before.jobs)) (occupied _ _ _ before.busy_now (ap (λ n. n + 1) before.waiting_now)))))
moved_on site cells e station x told time has few serving later before (loses other full none) =
    let one : TimedWord = record { time = time; word = 5 } in
    let S : CellData → Type 0 = λ c. Balanced station.servers (busy_servers c) (waiting_jobs c) (sums_of (told ++ one ∷ [])) in
    let T : Sums → Type 0 = Balanced station.servers (busy_servers cells) (waiting_jobs cells) in
    subst S (sym (lose_leaves cells e)) (subst T (sym (sums_of-more told one))
    (word_on station.servers (busy_servers cells) (waiting_jobs cells) (busy_servers cells) (waiting_jobs cells) (sums_of told) one before few later
    (omega (arith, before.jobs)) (occupied _ _ _ before.busy_now before.waiting_now)))
moved_on site cells e station x told time has few serving later before (serves done some) =
    let one : TimedWord = record { time = time; word = 6 } in
    let left = serve_leaves site station cells e has in
    let S : CellData → Type 0 = λ c. Balanced station.servers (busy_servers c) (waiting_jobs c) (sums_of (told ++ one ∷ [])) in
    let long = one_less (line_of cells 0) in
    let W : ℕ → Type 0 = λ w. Balanced station.servers (busy_servers cells) w (sums_of (told ++ one ∷ [])) in
    let T : Sums → Type 0 = Balanced station.servers (busy_servers cells) (waiting_jobs cells - 1) in
    subst S (sym left) (subst W (sym long) (subst T (sym (sums_of-more told one))
    (word_on station.servers (busy_servers cells) (waiting_jobs cells) (busy_servers cells) (waiting_jobs cells - 1) (sums_of told) one before few later
    (omega (arith, before.jobs, some))
    (done_while_some_wait (sums_of told).occupancy (omega (arith, before.waiting_now, some)) ∙ occupied _ _ _ before.busy_now (ap (λ n. n - 1) before.waiting_now)))))
  where
    one_less : (xs : List ℕ) → length (drop 1 xs) ≡ length xs - 1
    one_less [] = refl
    one_less (x ∷ xs) = omega arith
moved_on site cells e station x told time has few serving later before (frees done none) =
    let one : TimedWord = record { time = time; word = 6 } in
    let left = free_leaves site station cells e has in
    let some : 0 < busy_servers cells = serving done in
    let S : CellData → Type 0 = λ c. Balanced station.servers (busy_servers c) (waiting_jobs c) (sums_of (told ++ one ∷ [])) in
    let T : Sums → Type 0 = Balanced station.servers (busy_servers cells - 1) (waiting_jobs cells) in
    subst S (sym left) (subst T (sym (sums_of-more told one))
    (word_on station.servers (busy_servers cells) (waiting_jobs cells) (busy_servers cells - 1) (waiting_jobs cells) (sums_of told) one before few later
    (omega (arith, before.jobs, some))
    (done_while_none_waits (sums_of told).occupancy (before.waiting_now ∙ none) ∙ occupied _ _ _ (ap (λ n. n - 1) before.busy_now) before.waiting_now)))

-- what is told of an object is told at the times of its records
last_of_note : (time at : ℕ) (note : Note) (rest : List TimedWord) (most : ℕ) → time ≤ most → at ≤ most → ((from : ℕ) → from ≤ most → last_told from rest ≤ most)
    → last_told time (words_at at note ++ rest) ≤ most
unfolding last_told
last_of_note time at [] rest most early below others = others time early
last_of_note time at (part ∷ note) rest most early below others = last_of_note at at note rest most below below others

pub last_of_records : (i : ℕ) (most : ℕ) (records : List (Key × Note)) → All (λ (told : Key × Note). time_part told.0.stamp ≤ most) records
    → (from : ℕ) → from ≤ most → last_told from (words_told i records) ≤ most
unfolding words_told last_told
last_of_records i most [] below from early = early
last_of_records i most (told ∷ records) below from early =
    by (last_of_records i most records (λ k none within. below (suc k) none (omega arith))) (told.0.dest == i)
  where
    by : ((from : ℕ) → from ≤ most → last_told from (words_told i records) ≤ most) → (here : Bool)
        → last_told from (flat_map timed_words (cond here (told ∷ filter (λ (told : Key × Note). told.0.dest == i) records) (filter (λ (told : Key × Note). told.0.dest == i) records))) ≤ most
    by others true = last_of_note from (time_part told.0.stamp) told.1 (words_told i records) most early (below 0 told (omega arith)) others
    by others false = others from early

pub last_is : (told : List TimedWord) → (sums_of told).last ≡ last_told 0 told
unfolding sums_of
last_is told = refl

-- the totals over what would be told if no object were quiet or traced
abbrev pub plain_totals_at : NetworkParts → Terms → ℕ → ℕ → Sums
plain_totals_at p t i n = sums_of (words_told i (first_records n (plain_meaning p) t))

-- a station after n events
Accounts : NetworkParts → Terms → ℕ → StationOver ℕ → ℕ → Type 0
Accounts p t i station n =
    Balanced station.servers (busy_at (after_events n (plain_meaning p) t) i) (length (waiting_at (after_events n (plain_meaning p) t) i)) (plain_totals_at p t i n)

-- each record before an event is told no later
told_before : (p : NetworkParts) (t : Terms) (n : ℕ) (told : Key × Note) (after : State) → IsNetwork p
    → next (plain_meaning p) t (after_events n (plain_meaning p) t) ≡ does told after
    → All (λ (r : Key × Note). time_part r.0.stamp ≤ time_part told.0.stamp) (first_records n (plain_meaning p) t)
told_before p t n told after fine is_next = λ k none within.
    let m = plain_meaning p in
    let records = first_records n m t in
    let more : first_records (suc n) m t ≡ records ++ told ∷ [] = gathered-more record_of m t n (does told after) is_next in
    let long : length (records ++ told ∷ []) ≡ length records + 1 = length-append records (told ∷ []) in
    let P : List (Key × Note) → Type 0 = λ rs. (i j : ℕ) (d : Key × Note) → i < j → j < length rs → key_lt (get_or rs i d).0 (get_or rs j d).0 ≡ true in
    let pairs : P (records ++ told ∷ []) = subst P more (records_ascend m t (plain_laws p fine) (suc n)) in
    let lt : key_lt (get_or (records ++ told ∷ []) k none).0 (get_or (records ++ told ∷ []) (length records) none).0 ≡ true =
    pairs k (length records) none within (omega arith) in
    let first = get_or-append records (told ∷ []) none k within in
    let last = get_or-append_seam records told [] none in
    let A : Key × Note → Type 0 = λ r. key_lt r.0 (get_or (records ++ told ∷ []) (length records) none).0 ≡ true in
    let B : Key × Note → Type 0 = λ r. key_lt (get_or records k none).0 r.0 ≡ true in
    let le : (get_or records k none).0.stamp ≤ told.0.stamp = stamp-le (get_or records k none).0 told.0 (subst B last (subst A first lt)) in
    omega arith

-- the last word of an object comes no later than a time by which each record came
pub last_is_before : (p : NetworkParts) (t : Terms) (i n most : ℕ) → All (λ (told : Key × Note). time_part told.0.stamp ≤ most) (first_records n (plain_meaning p) t)
    → (plain_totals_at p t i n).last ≤ most
last_is_before p t i n most early =
    let records = first_records n (plain_meaning p) t in
    omega (arith, last_is (words_told i records), last_of_records i most records early 0 (omega arith))

-- nor later than the next event
pub last_is_early : (p : NetworkParts) (t : Terms) (n : ℕ) (told : Key × Note) (after : State) (i : ℕ) → IsNetwork p
    → next (plain_meaning p) t (after_events n (plain_meaning p) t) ≡ does told after → (plain_totals_at p t i n).last ≤ time_part told.0.stamp
last_is_early p t n told after i fine is_next = last_is_before p t i n (time_part told.0.stamp) (told_before p t n told after fine is_next)

-- an event of the station
told_here : (p : NetworkParts) (t : Terms) (n : ℕ) (told : Key × Note) (after : State) (station : StationOver ℕ) → IsNetwork p
    → next (plain_meaning p) t (after_events n (plain_meaning p) t) ≡ does told after
    → (step : IsNetworkStep p t (after_events n (plain_meaning p) t) told after) → IsStationAt p step.step.event.key.dest station
    → Accounts p t step.step.event.key.dest station n
    → Balanced station.servers (busy_at after step.step.event.key.dest) (length (waiting_at after step.step.event.key.dest))
    (sums_of (words_told step.step.event.key.dest (first_records n (plain_meaning p) t ++ told ∷ [])))
unfolding Accounts
told_here p t n told after station fine is_next step is before =
    let m = plain_meaning p in
    let s : State = after_events n m t in
    let records = first_records n m t in
    let e : Event = step.step.event in
    let d : ℕ = e.key.dest in
    let x : Effect = step.step.effect in
    let cells : CellData = cells_at s d in
    let good : AreServing s d station = plain_servers_law p t s d station fine (n, refl) is in
    let lawful : IsTrue (is_station_cells station.servers station.line cells) = station_lawful p s d station is step.cells in
    let D : KindOver ℕ → Type 0 = λ kind. EventDoes p.objects (site_of p d) cells e kind x in
    let pending : length (in_service_at s d) ≡ length (filter (ends_service_at d) (e ∷ step.step.rest)) =
    ap (λ (es : List Event). length (filter (ends_service_at d) es)) step.step.pending in
    let serving : e.kind ≡ 2 → 0 < busy_servers cells =
    λ done.
    let ends : ends_service_at d e ≡ true =
    ap (λ b. b && (e.key.dest == d)) (eq-eqb e.kind 2 done) ∙ eq-eqb d d refl in
    let one : length (filter (ends_service_at d) (e ∷ step.step.rest)) ≡ suc (length (filter (ends_service_at d) step.step.rest)) =
    ap (λ b. length (cond b (e ∷ filter (ends_service_at d) step.step.rest) (filter (ends_service_at d) step.step.rest))) ends in
    omega (arith, good.under_way) in
    let at : told ≡ (e.key, x.note) = step.step.tells in
    let R : Key × Note → Type 0 = λ told. (sums_of (words_told d records)).last ≤ time_part told.0.stamp in
    let early : (sums_of (words_told d records)).last ≤ time_part e.key.stamp = subst R at (last_is_early p t n told after d fine is_next) in
    let on : Balanced station.servers (busy_servers (cells_after_all x.changes cells)) (waiting_jobs (cells_after_all x.changes cells))
    (sums_of (words_told d records ++ words_at (time_part e.key.stamp) x.note)) =
    moved_on (site_of p d) cells e station x (words_told d records) (time_part e.key.stamp) (station_shape station.servers station.line cells lawful)
    good.no_more serving early before (subst D is step.does_so) in
    let C : CellData → Type 0 = λ c. Balanced station.servers (busy_servers c) (waiting_jobs c) (sums_of (words_told d records ++ words_at (time_part e.key.stamp) x.note)) in
    let W : List TimedWord → Type 0 = λ words. Balanced station.servers (busy_at after d) (length (waiting_at after d)) (sums_of words) in
    let T : Key × Note → Type 0 = λ told. Balanced station.servers (busy_at after d) (length (waiting_at after d)) (sums_of (words_told d (records ++ told ∷ []))) in
    subst T (sym at) (subst W (sym (words_told-here records (e.key, x.note))) (subst C (sym (cells_here p t s told after step)) on))

accounts_on : (p : NetworkParts) (t : Terms) (i : ℕ) (station : StationOver ℕ) (n : ℕ) (told : Key × Note) (after : State) → IsNetwork p → IsStationAt p i station
    → next (plain_meaning p) t (after_events n (plain_meaning p) t) ≡ does told after → Accounts p t i station n → Accounts p t i station (suc n)
unfolding Accounts
accounts_on p t i station n told after fine is is_next before =
    let B : State → Type 0 = λ s. Balanced station.servers (busy_at s i) (length (waiting_at s i)) (plain_totals_at p t i (suc n)) in
    let R : List (Key × Note) → Type 0 = λ records. Balanced station.servers (busy_at after i) (length (waiting_at after i)) (sums_of (words_told i records)) in
    subst B (sym (after_events-does (plain_meaning p) t n told after is_next))
    (subst R (sym (gathered-more record_of (plain_meaning p) t n (does told after) is_next)) (by (eqb i step.step.event.key.dest) refl))
  where
    s : State
    s = after_events n (plain_meaning p) t

    records : List (Key × Note)
    records = first_records n (plain_meaning p) t

    step : IsNetworkStep p t (after_events n (plain_meaning p) t) told after
    step = network_step p t (after_events n (plain_meaning p) t) told after fine (n, refl) is_next

    by : (here : Bool) → eqb i step.step.event.key.dest ≡ here
        → Balanced station.servers (busy_at after i) (length (waiting_at after i)) (sums_of (words_told i (first_records n (plain_meaning p) t ++ told ∷ [])))
    by true here_is =
        let same : i ≡ step.step.event.key.dest = eqb-true i step.step.event.key.dest here_is in
        let P : ℕ → Type 0 = λ j. IsStationAt p j station → Accounts p t j station n
        → Balanced station.servers (busy_at after j) (length (waiting_at after j)) (sums_of (words_told j (first_records n (plain_meaning p) t ++ told ∷ []))) in
        subst P (sym same) (told_here p t n told after station fine is_next step) is before
    by false apart_is =
        let apart : i ≢ step.step.event.key.dest = λ same. let yes = eq-eqb i step.step.event.key.dest same in cc in
        let key : told.0 ≡ step.step.event.key = ap (λ (r : Key × Note). r.0) step.step.tells in
        let away : i ≢ told.0.dest = λ same. apart (same ∙ ap (λ (k : Key). k.dest) key) in
        let C : CellData → Type 0 = λ c. Balanced station.servers (busy_servers c) (waiting_jobs c) (sums_of (words_told i (records ++ told ∷ []))) in
        let W : List TimedWord → Type 0 = λ words. Balanced station.servers (busy_at s i) (length (waiting_at s i)) (sums_of words) in
        subst C (sym (cells_elsewhere p t s told after step i apart)) (subst W (sym (words_told-elsewhere i records told away)) before)

nothing_told : (servers : ℕ) → Balanced servers 0 0 (sums_of [])
unfolding sums_of intervals after_words last_told
nothing_told servers = record { jobs = refl; busy_now = refl; waiting_now = refl; ticks = omega arith }

accounts_first : (p : NetworkParts) (t : Terms) (i : ℕ) (station : StationOver ℕ) → IsStationAt p i station → Accounts p t i station 0
unfolding Accounts gathered after_events words_told
accounts_first p t i station is =
    let C : CellData → Type 0 = λ c. Balanced station.servers (busy_servers c) (waiting_jobs c) (sums_of []) in
    subst C (sym (station_at_start p i station is)) (nothing_told station.servers)

accounts_halted : (p : NetworkParts) (t : Terms) (i : ℕ) (station : StationOver ℕ) (n : ℕ) (stop : Stop)
    → next (plain_meaning p) t (after_events n (plain_meaning p) t) ≡ stops stop → Accounts p t i station n → Accounts p t i station (suc n)
unfolding Accounts
accounts_halted p t i station n stop is_next before =
    let m = plain_meaning p in
    let B : State → Type 0 = λ s. Balanced station.servers (busy_at s i) (length (waiting_at s i)) (plain_totals_at p t i (suc n)) in
    let R : List (Key × Note) → Type 0 = λ records. Balanced station.servers (busy_at (after_events n m t) i) (length (waiting_at (after_events n m t) i)) (sums_of (words_told i records)) in
    subst B (sym (after_events-stops m t n stop is_next))
    (subst R (sym (gathered-more record_of m t n (stops stop) is_next ∙ append-nil (first_records n m t))) before)

-- the law over the plain meaning
pub plain_totals : (p : NetworkParts) (t : Terms) (i : ℕ) (station : StationOver ℕ) (n : ℕ) → IsNetwork p → IsStationAt p i station
    → IsAccountedFor (plain_totals_at p t i n) (after_events n (plain_meaning p) t) i station
unfolding Accounts
plain_totals p t i station n fine is =
    let m = plain_meaning p in
    let accounts : Accounts p t i station n =
    each_number m t (Accounts p t i station) (accounts_first p t i station is)
    (λ n stop is_next before. accounts_halted p t i station n stop is_next before)
    (λ n told after is_next before. accounts_on p t i station n told after fine is is_next before) n in
    let good : AreServing (after_events n m t) i station = plain_servers_law p t (after_events n m t) i station fine (n, refl) is in
    record {
      jobs = omega (arith, accounts.jobs, good.under_way);
      busy = accounts.busy_now;
      waiting = accounts.waiting_now;
      busy_ticks = accounts.ticks;
    }

pub totals_law : EachStationIsAccountedFor
totals_law p t i station n fine is loud =
    let S : State → Type 0 = λ s. IsAccountedFor (totals_at p t i n) s i station in
    let T : Sums → Type 0 = λ totals. IsAccountedFor totals (after_events n (plain_meaning p) t) i station in
    subst S (sym (same_after p t n)) (subst T (sym (same_sums p t i fine loud n)) (plain_totals p t i station n fine is))
