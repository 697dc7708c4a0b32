-- Servers keep their count, and none idles while a job waits.
use Rattle.std.proofs.Common.{◌≡◌, ◌≢◌, ℕ, ◌+◌, ◌-◌, ◌<◌, ◌≤◌, Bool, true, false, cond, List, length, refl, sym, ap, ◌∙◌, subst, arith, eqb, eqb-true, eq-eqb, ne_eqb}
use Rattle.std.specs.Prelude.{IsTrue, count_by, slice_index, ◌==◌, ◌&&◌}
use Rattle.std.proofs.lemmas.Bool.Decides.{nat_tests}
use Rattle.std.proofs.lemmas.List.Sums.{length-filter}
use Rattle.event_key.specs.declared.key.Key.{Key}
use Rattle.delta_exchange.specs.Changes.{CellData, cells_after_all}
use Rattle.model_core.specs.declared.effect.Effect.{Effect}
use Rattle.model_core.specs.declared.event.Event.{Event}
use Rattle.model_core.specs.declared.note.Note.{Note}
use Rattle.sim_spec.specs.declared.terms.Terms.{Terms}
use Rattle.sim_spec.specs.Firing.{emissions}
use Rattle.sim_spec.specs.State.{State, initial_state, start_event, event_of_start, object_at as state_at}
use Rattle.queue_models.specs.declared.kind.KindOver.TheVariants.{Source, Station}
use Rattle.queue_models.specs.declared.source.Source.{Source as SourceOver}
use Rattle.queue_models.specs.declared.station.Station.{Station as StationOver}
use Rattle.queue_models.specs.declared.kind.KindOver.{KindOver}
use Rattle.queue_models.specs.declared.site.Site.{Site}
use Rattle.queue_models.specs.Kinds.{is_lawful}
use Rattle.queue_models.specs.Meaning.{plain_meaning, network_meaning, site_of, source_start, job_start}
use Rattle.queue_models.specs.Objects.{Item, NetworkParts, object_at, source_numbers}
use Rattle.queue_models.specs.Sources.{idle_effect, last_effect, make_effect}
use Rattle.queue_models.specs.Stations.{busy_servers, waiting_jobs, is_station_cells, take_effect, wait_effect, lose_effect, serve_effect, free_effect}
use Rattle.queue_models.specs.Parts.{IsNetwork}
use Rattle.run_laws.specs.Reached.{Reaches}
use Rattle.run_laws.proofs.Induction.{each_reached}
use Rattle.run_laws.proofs.Steps.{first_firing}
use Rattle.subject_laws.specs.ServerLaws.{AreServing, ServersLaw}
use Rattle.subject_laws.specs.Stations.{IsStationAt, cells_at, ends_service_at}
use Rattle.subject_laws.proofs.QueueLemmas.Cases.{SourceDoes, idles, makes_last, makes, StationDoes, takes, waits, loses, serves, frees, PlainDoes, hands_on, leaves, EventDoes}
use Rattle.subject_laws.proofs.QueueLemmas.Leaves.{HasStationCells, station_shape, take_leaves, wait_leaves, serve_leaves, free_leaves}
use Rattle.subject_laws.proofs.QueueLemmas.NetworkStarts.{station_exists, station_at_start, start_cases, sum_at_start, starts_none}
use Rattle.subject_laws.proofs.QueueLemmas.NetworkSteps.{IsNetworkStep, network_step, reached_lawful, cells_here, cells_elsewhere, sum_before, sum_after}
use Rattle.subject_laws.proofs.QueueLemmas.PlainRuns.{plain_reaches}

-- how many of the events are ends of services at this object
unfoldable pub ends : ℕ → List Event → ℕ
ends i es = count_by (ends_service_at i) es

-- no object sends the end of a service to another one
source_ends : (site : Site) (cells : CellData) (e : Event) (source : SourceOver ℕ) (x : Effect) (i stamp object serial : ℕ) → SourceDoes site cells e source x
    → ends i (emissions stamp object serial x.sends) ≡ 0
unfolding ends emissions idle_effect last_effect make_effect
source_ends site cells e source x i stamp object serial (idles none) = refl
source_ends site cells e source x i stamp object serial (makes_last one) = refl
source_ends site cells e source x i stamp object serial (makes more) = refl

station_ends : (site : Site) (cells : CellData) (e : Event) (station : StationOver ℕ) (x : Effect) (i stamp object serial : ℕ) → site.object ≢ i → StationDoes site cells e station x
    → ends i (emissions stamp object serial x.sends) ≡ 0
unfolding ends emissions take_effect wait_effect lose_effect serve_effect free_effect
station_ends site cells e station x i stamp object serial apart (takes other free) = ap (λ b. 0 + cond b 1 0) (ne_eqb site.object i apart)
station_ends site cells e station x i stamp object serial apart (waits other full room) = refl
station_ends site cells e station x i stamp object serial apart (loses other full none) = refl
station_ends site cells e station x i stamp object serial apart (serves done some) = ap (λ b. 0 + cond b 1 0) (ne_eqb site.object i apart)
station_ends site cells e station x i stamp object serial apart (frees done none) = refl

plain_ends : (objects : List Item) (site : Site) (cells : CellData) (e : Event) (kind : KindOver ℕ) (x : Effect) (i stamp object serial : ℕ) → PlainDoes objects site cells e kind x
    → ends i (emissions stamp object serial x.sends) ≡ 0
unfolding ends emissions
plain_ends objects site cells e kind x i stamp object serial (hands_on there moving after draws) = refl
plain_ends objects site cells e kind x i stamp object serial (leaves none) = refl

pub ends_elsewhere : (objects : List Item) (site : Site) (cells : CellData) (e : Event) (kind : KindOver ℕ) (x : Effect) (i stamp object serial : ℕ) → site.object ≢ i
    → EventDoes objects site cells e kind x → ends i (emissions stamp object serial x.sends) ≡ 0
ends_elsewhere objects site cells e (Source source) x i stamp object serial apart does_so = source_ends site cells e source x i stamp object serial does_so
ends_elsewhere objects site cells e (Station station) x i stamp object serial apart does_so = station_ends site cells e station x i stamp object serial apart does_so
ends_elsewhere objects site cells e other x i stamp object serial apart does_so = plain_ends objects site cells e other x i stamp object serial does_so

-- a station's servers, where this many of its services are under way
record Serving (station : StationOver ℕ) (cells : CellData) (services : ℕ) : Type 0 where
  pub under_way : busy_servers cells ≡ services
  pub none_idle : 0 < waiting_jobs cells → busy_servers cells ≡ station.servers

-- how many ends of services an event sends to its own station
take_ends : (site : Site) (station : StationOver ℕ) (cells : CellData) (e : Event) (stamp object serial : ℕ)
    → ends site.object (emissions stamp object serial (take_effect site station cells e).sends) ≡ 1
unfolding ends emissions take_effect
take_ends site station cells e stamp object serial = ap (λ b. 0 + cond b 1 0) (eq-eqb site.object site.object refl)

serve_ends : (site : Site) (station : StationOver ℕ) (cells : CellData) (e : Event) (stamp object serial : ℕ)
    → ends site.object (emissions stamp object serial (serve_effect site station cells e).sends) ≡ 1
unfolding ends emissions serve_effect
serve_ends site station cells e stamp object serial = ap (λ b. 0 + cond b 1 0) (eq-eqb site.object site.object refl)

wait_ends : (i stamp object serial : ℕ) (cells : CellData) (e : Event) → ends i (emissions stamp object serial (wait_effect cells e).sends) ≡ 0
unfolding ends emissions wait_effect
wait_ends i stamp object serial cells e = refl

lose_ends : (i stamp object serial : ℕ) (cells : CellData) (e : Event) → ends i (emissions stamp object serial (lose_effect cells e).sends) ≡ 0
unfolding ends emissions lose_effect
lose_ends i stamp object serial cells e = refl

pub lose_leaves : (cells : CellData) (e : Event) → cells_after_all (lose_effect cells e).changes cells ≡ cells
unfolding lose_effect cells_after_all
lose_leaves cells e = refl

free_ends : (i stamp object serial : ℕ) (site : Site) (station : StationOver ℕ) (cells : CellData) (e : Event) → ends i (emissions stamp object serial (free_effect site station cells e).sends) ≡ 0
unfolding ends emissions free_effect
free_ends i stamp object serial site station cells e = refl

-- an event at a station, where so many services are under way besides it
serving_on : (site : Site) (cells : CellData) (e : Event) (station : StationOver ℕ) (x : Effect) (stamp object serial others : ℕ)
    → HasStationCells cells → busy_servers cells ≤ station.servers
    → (e.kind ≢ 2 → Serving station cells others) → (e.kind ≡ 2 → Serving station cells (1 + others)) → StationDoes site cells e station x
    → Serving station (cells_after_all x.changes cells) (ends site.object (emissions stamp object serial x.sends) + others)
serving_on site cells e station x stamp object serial others has upto arrives done (takes other free) =
    let S : CellData → Type 0 = λ c. Serving station c (ends site.object (emissions stamp object serial (take_effect site station cells e).sends) + others) in
    let before : Serving station cells others = arrives other in
    subst S (sym (take_leaves site station cells e has)) (record {
      under_way = omega (arith, before.under_way, take_ends site station cells e stamp object serial);
      none_idle = λ some. absurd (let full = before.none_idle some in omega arith);
    })
serving_on site cells e station x stamp object serial others has upto arrives done (waits other full room) =
    let S : CellData → Type 0 = λ c. Serving station c (ends site.object (emissions stamp object serial (wait_effect cells e).sends) + others) in
    let before : Serving station cells others = arrives other in
    subst S (sym (wait_leaves cells e has)) (record {
      under_way = omega (arith, before.under_way, wait_ends site.object stamp object serial cells e);
      none_idle = λ some. omega arith;
    })
serving_on site cells e station x stamp object serial others has upto arrives done (loses other full none) =
    let S : CellData → Type 0 = λ c. Serving station c (ends site.object (emissions stamp object serial (lose_effect cells e).sends) + others) in
    let before : Serving station cells others = arrives other in
    subst S (sym (lose_leaves cells e)) (record {
      under_way = omega (arith, before.under_way, lose_ends site.object stamp object serial cells e);
      none_idle = before.none_idle;
    })
serving_on site cells e station x stamp object serial others has upto arrives done (serves is_done some) =
    let S : CellData → Type 0 = λ c. Serving station c (ends site.object (emissions stamp object serial (serve_effect site station cells e).sends) + others) in
    let before : Serving station cells (1 + others) = done is_done in
    subst S (sym (serve_leaves site station cells e has)) (record {
      under_way = omega (arith, before.under_way, serve_ends site station cells e stamp object serial);
      none_idle = λ more. before.none_idle some;
    })
serving_on site cells e station x stamp object serial others has upto arrives done (frees is_done none) =
    let S : CellData → Type 0 = λ c. Serving station c (ends site.object (emissions stamp object serial (free_effect site station cells e).sends) + others) in
    let before : Serving station cells (1 + others) = done is_done in
    subst S (sym (free_leaves site station cells e has)) (record {
      under_way = omega (arith, before.under_way, free_ends site.object stamp object serial site station cells e);
      none_idle = λ more. absurd (omega arith);
    })

-- of a state: each station is serving
AllServing : NetworkParts → State → Type 0
AllServing p s = (i : ℕ) (station : StationOver ℕ) → IsStationAt p i station → Serving station (cells_at s i) (ends i s.pending)

-- a station's cells in a lawful state
pub station_lawful : (p : NetworkParts) (s : State) (i : ℕ) (station : StationOver ℕ) → IsStationAt p i station → IsTrue (is_lawful (object_at p.objects i).kind (cells_at s i))
    → IsTrue (is_station_cells station.servers station.line (cells_at s i))
station_lawful p s i station is lawful = let L : KindOver ℕ → Type 0 = λ kind. IsTrue (is_lawful kind (cells_at s i)) in subst L is lawful

weight : ℕ → Event → ℕ
weight i x = cond (ends_service_at i x) 1 0

weight_elsewhere : (i : ℕ) (e : Event) → e.key.dest ≢ i → weight i e ≡ 0
unfolding weight
weight_elsewhere i e apart = by (e.kind == 2) (e.key.dest == i) (ne_eqb e.key.dest i apart)
  where
    by : (done here : Bool) → here ≡ false → ◌≡◌ {A = ℕ} (cond (done && here) 1 0) 0
    by true true is = absurd (cc)
    by true false is = refl
    by false here is = refl

weight_arrival : (i : ℕ) (e : Event) → e.kind ≢ 2 → weight i e ≡ 0
unfolding weight
weight_arrival i e other = ap (λ b. cond (b && (e.key.dest == i)) 1 0) (ne_eqb e.kind 2 other)

weight_done : (e : Event) → e.kind ≡ 2 → weight e.key.dest e ≡ 1
unfolding weight
weight_done e done =
    ap (λ b. cond (b && (e.key.dest == e.key.dest)) 1 0) (eq-eqb e.kind 2 done) ∙ ap (λ b. cond b 1 0) (eq-eqb e.key.dest e.key.dest refl)

serving_here : (p : NetworkParts) (t : Terms) (s : State) (told : Key × Note) (after : State) (n : IsNetworkStep p t s told after) (station : StationOver ℕ)
    → IsStationAt p n.step.event.key.dest station → Serving station (cells_at s n.step.event.key.dest) (ends n.step.event.key.dest s.pending)
    → Serving station (cells_at after n.step.event.key.dest) (ends n.step.event.key.dest after.pending)
unfolding ends weight
serving_here p t s told after n station is before =
    let e : Event = n.step.event in
    let d : ℕ = e.key.dest in
    let cells : CellData = cells_at s d in
    let x : Effect = n.step.effect in
    let others : ℕ = ends d n.step.rest in
    let lawful : IsTrue (is_station_cells station.servers station.line cells) = station_lawful p s d station is n.cells in
    let D : KindOver ℕ → Type 0 = λ kind. EventDoes p.objects (site_of p d) cells e kind x in
    let C : ℕ → Type 0 = Serving station cells in
    let had : ends d s.pending ≡ weight d e + others = sum_before p t s told after n (weight d) in
    let on : Serving station (cells_after_all x.changes cells) (ends d (first_firing s e x).events + others) =
    serving_on (site_of p d) cells e station x e.key.stamp d (state_at s.objects d).sent others (station_shape station.servers station.line cells lawful)
    (grind (arith, nat_tests))
    (λ other. subst C (omega (arith, weight_arrival d e other)) before)
    (λ done. subst C (omega (arith, weight_done e done)) before)
    (subst D is n.does_so) in
    let S : CellData → Type 0 = λ c. Serving station c (ends d after.pending) in
    let K : ℕ → Type 0 = λ k. Serving station (cells_after_all x.changes cells) k in
    subst S (sym (cells_here p t s told after n)) (subst K (sym (sum_after p t s told after n (weight d))) on)

serving_kept : (p : NetworkParts) (t : Terms) (s : State) (told : Key × Note) (after : State) → IsNetworkStep p t s told after → AllServing p s → AllServing p after
unfolding AllServing ends weight
serving_kept p t s told after n before i station is = by (eqb i n.step.event.key.dest) refl
  where
    by : (here : Bool) → eqb i n.step.event.key.dest ≡ here → Serving station (cells_at after i) (ends i after.pending)
    by false apart_is =
        let e : Event = n.step.event in
        let apart : i ≢ e.key.dest = λ same. let yes = eq-eqb i e.key.dest same in cc in
        let same : cells_at after i ≡ cells_at s i = cells_elsewhere p t s told after n i apart in
        let none_sent : ends i (first_firing s e n.step.effect).events ≡ 0 =
        ends_elsewhere p.objects (site_of p e.key.dest) (cells_at s e.key.dest) e (object_at p.objects e.key.dest).kind n.step.effect i e.key.stamp e.key.dest _ (λ eq. apart (sym eq)) n.does_so in
        let not_it : weight i e ≡ 0 = weight_elsewhere i e (λ eq. apart (sym eq)) in
        let now : ends i after.pending ≡ ends i s.pending = omega (arith, sum_before p t s told after n (weight i), sum_after p t s told after n (weight i)) in
        let S : CellData → Type 0 = λ c. Serving station c (ends i after.pending) in
        let C : ℕ → Type 0 = λ k. Serving station (cells_at s i) k in
        subst S (sym same) (subst C (sym now) (before i station is))
    by true here_is =
        let same : i ≡ n.step.event.key.dest = eqb-true i n.step.event.key.dest here_is in
        let P : ℕ → Type 0 = λ j. IsStationAt p j station → Serving station (cells_at s j) (ends j s.pending) → Serving station (cells_at after j) (ends j after.pending) in
        subst P (sym same) (serving_here p t s told after n station) is (before i station is)

-- at the start no server is busy, and no service is under way
start_weight : (p : NetworkParts) (i k : ℕ) → weight i (start_event (plain_meaning p) k) ≡ 0
start_weight p i k =
    start_cases (λ e. weight i e ≡ 0) p k
    (λ early. weight_arrival i (event_of_start k (source_start p (slice_index (source_numbers p.objects) k))) (λ two. let w : 1 ≡ 2 = two in absurd (omega arith)))
    (λ late. weight_arrival i (event_of_start k (job_start p (k - length (source_numbers p.objects)))) (λ two. let w : 3 ≡ 2 = two in absurd (omega arith)))

serving_first : (p : NetworkParts) → AllServing p (initial_state (plain_meaning p))
unfolding AllServing ends weight
serving_first p i station is =
    let m = plain_meaning p in
    let S : CellData → Type 0 = λ c. Serving station c (ends i (initial_state m).pending) in
    let none : ends i (initial_state m).pending ≡ 0 = sum_at_start (weight i) m ∙ starts_none (weight i) m 0 m.starts (start_weight p i) in
    subst S (sym (station_at_start p i station is)) (record { under_way = sym none; none_idle = λ some. absurd (omega arith) })

-- the law over the plain meaning
pub plain_servers_law : (p : NetworkParts) (t : Terms) (s : State) (i : ℕ) (station : StationOver ℕ)
    → IsNetwork p → Reaches (plain_meaning p) t s → IsStationAt p i station → AreServing s i station
unfolding AllServing ends plain_meaning network_meaning
plain_servers_law p t s i station fine reached is =
    let all : AllServing p s = each_reached (plain_meaning p) t (AllServing p) (serving_first p)
    (λ s told after here is_next before. serving_kept p t s told after (network_step p t s told after fine here is_next) before) s reached in
    let here : Serving station (cells_at s i) (ends i s.pending) = all i station is in
    let lawful : IsTrue (is_station_cells station.servers station.line (cells_at s i)) = station_lawful p s i station is ((reached_lawful p t s fine reached).cells i (station_exists p i station is)) in
    record {
      no_more = grind (arith, nat_tests);
      under_way = here.under_way ∙ sym (length-filter (ends_service_at i) s.pending);
      none_idle = here.none_idle;
      line = grind (arith, nat_tests);
    }

pub servers_law : ServersLaw
servers_law p t s i station fine reached is = plain_servers_law p t s i station fine (plain_reaches p t s reached) is
