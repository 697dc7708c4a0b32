-- A job goes where its object sends it, when it should.
use Rattle.std.proofs.Common.{◌≡◌, ◌≢◌, ℕ, ◌+◌, ◌-◌, ◌<◌, Bool, true, false, List, [], ◌∷◌, length, inl, inr, refl, sym, ap, ◌∙◌, subst, arith, eq-eqb}
use Rattle.std.specs.Prelude.{Contains, if◌then◌else◌}
use Rattle.std.specs.List.{AllByRecursion as Each}
use Rattle.std.proofs.lemmas.List.Elements.{Contains-get_or}
use Rattle.event_key.specs.declared.key.Key.{Key}
use Rattle.event_key.specs.Stamps.{next_stamp, time_part}
use Rattle.delta_exchange.specs.Changes.{CellData}
use Rattle.key_order.proofs.MemberLemmas.{first-or-later, none-in}
use Rattle.model_core.specs.declared.effect.Effect.{Effect}
use Rattle.model_core.specs.declared.effect.Outcome.TheVariants.{Goes, Fails}
use Rattle.model_core.specs.declared.event.Event.{Event}
use Rattle.model_core.specs.declared.event.Send.{Send}
use Rattle.model_core.specs.declared.note.Note.{Note}
use Rattle.random_streams.specs.declared.law.Law.TheVariants.{Choice}
use Rattle.sim_spec.specs.Firing.{emission, emissions}
use Rattle.sim_spec.specs.State.{object_at as state_at}
use Rattle.sim_spec.specs.Run.{does, next}
use Rattle.sim_spec.proofs.FiringLemmas.{goes-effect}
use Rattle.queue_models.specs.declared.kind.KindOver.{KindOver}
use Rattle.queue_models.specs.declared.kind.KindOver.TheVariants.{Source, Station, Delay, Router, Sink}
use Rattle.queue_models.specs.declared.sink.Sink.{Sink as SinkOver}
use Rattle.queue_models.specs.declared.site.Site.{Site}
use Rattle.queue_models.specs.declared.source.Source.{Source as SourceOver}
use Rattle.queue_models.specs.declared.station.Station.{Station as StationOver}
use Rattle.queue_models.specs.Delays.{delay_effect}
use Rattle.queue_models.specs.Kinds.{IsKind, effect_at}
use Rattle.queue_models.specs.Meaning.{plain_meaning, network_meaning, site_of}
use Rattle.queue_models.specs.ModelLaws.{object_fine}
use Rattle.queue_models.specs.Objects.{Item, object_at}
use Rattle.queue_models.specs.Parts.{IsLink}
use Rattle.queue_models.specs.Routers.{router_effect}
use Rattle.queue_models.specs.Sinks.{is_late, sink_effect}
use Rattle.queue_models.specs.Sites.{drawn_at}
use Rattle.queue_models.specs.Sources.{idle_effect, last_effect, make_effect}
use Rattle.queue_models.specs.Stations.{take_effect, wait_effect, lose_effect, serve_effect, free_effect}
use Rattle.run_laws.proofs.Steps.{sent_next-step}
use Rattle.subject_laws.specs.Draws.{shown_by, draws_next}
use Rattle.subject_laws.specs.Places.{job_told}
use Rattle.subject_laws.specs.Stations.{cells_at}
use Rattle.subject_laws.specs.WayLaws.{ways_of, is_router, keeps_for, GoesOn, WaysLaw, OthersStayLaw}
use Rattle.subject_laws.proofs.DrawLemmas.DrawsLaw.{drawn_here}
use Rattle.subject_laws.proofs.QueueLemmas.Cases.{SourceDoes, idles, makes_last, makes, StationDoes, takes, waits, loses, serves, frees, PlainDoes, hands_on, leaves, EventDoes, way_within}
use Rattle.subject_laws.proofs.QueueLemmas.NetworkSteps.{IsNetworkStep, network_step}

-- a job that is sent goes one of the ways of its object, at once or after what is drawn
record SendsOn (kind : KindOver ℕ) (note : Note) (drawn : List ℕ) (s : Send) : Type 0 where
  pub job : s.a ≡ job_told note
  pub way : Contains (ways_of kind) s.dest
  pub chosen : is_router kind ≡ true → drawn ≡ s.dest ∷ []
  pub delay : s.delay ≡ keeps_for kind drawn

abbrev AllSendOn : KindOver ℕ → Effect → Type 0
AllSendOn kind x = Each (λ (s : Send). s.kind ≡ 3 → SendsOn kind x.note (shown_by kind x.sends) s) x.sends

only : (next : ℕ) → Contains (next ∷ []) next
only next = (0, (omega arith), refl)

source_ways : (site : Site) (cells : CellData) (e : Event) (source : SourceOver ℕ) (x : Effect) → SourceDoes site cells e source x → AllSendOn (Source source) x
unfolding idle_effect last_effect make_effect
source_ways site cells e source x (idles none) = tt
source_ways site cells e source x (makes_last one) = (λ job. record { job = refl; way = only source.next; chosen = λ router. absurd (cc); delay = refl }, tt)
source_ways site cells e source x (makes more) = (
  λ job. record { job = refl; way = only source.next; chosen = λ router. absurd (cc); delay = refl },
  (λ job. absurd (let w : ◌≡◌ {A = ℕ} 1 3 = job in omega arith), tt),
)

station_ways : (site : Site) (cells : CellData) (e : Event) (station : StationOver ℕ) (x : Effect) → StationDoes site cells e station x → AllSendOn (Station station) x
unfolding take_effect wait_effect lose_effect serve_effect free_effect
station_ways site cells e station x (takes other free) = (λ job. absurd (let w : ◌≡◌ {A = ℕ} 2 3 = job in omega arith), tt)
station_ways site cells e station x (waits other full room) = tt
station_ways site cells e station x (loses other full none) = tt
station_ways site cells e station x (serves done some) = (
  λ job. record { job = refl; way = only station.next; chosen = λ router. absurd (cc); delay = refl },
  (λ job. absurd (let w : ◌≡◌ {A = ℕ} 2 3 = job in omega arith), tt),
)
station_ways site cells e station x (frees done none) = (λ job. record { job = refl; way = only station.next; chosen = λ router. absurd (cc); delay = refl }, tt)

sink_ways : (sink : SinkOver) (e : Event) (x : Effect) → sink_effect sink e ≡ Goes x → AllSendOn (Sink sink) x
unfolding sink_effect
sink_ways sink e x is = by (is_late sink.due (time_part e.key.stamp - e.b)) is
  where
    by : (late : Bool) → (if late then Fails 3 else Goes (record { changes = []; sends = []; note = record { word = 9; a = e.a; b = time_part e.key.stamp - e.b } ∷ [] })) ≡ Goes x → AllSendOn (Sink sink) x
    by true is = absurd (cc)
    by false is = let A : Effect → Type 0 = AllSendOn (Sink sink) in subst A (goes-effect _ x is) tt

all_ways : (objects : List Item) (site : Site) (kind : KindOver ℕ) (cells : CellData) (e : Event) (x : Effect) → IsKind (IsLink objects) kind → effect_at site kind cells e ≡ Goes x
    → EventDoes objects site cells e kind x → AllSendOn kind x
unfolding delay_effect router_effect
all_ways objects site (Source source) cells e x fine is does_so = source_ways site cells e source x does_so
all_ways objects site (Station station) cells e x fine is does_so = station_ways site cells e station x does_so
all_ways objects site (Delay delay) cells e x fine is does_so =
    let A : Effect → Type 0 = AllSendOn (Delay delay) in
    subst A (goes-effect _ x is) (λ job. record { job = refl; way = only delay.next; chosen = λ router. absurd (cc); delay = refl }, tt)
all_ways objects site (Router router) cells e x fine is does_so =
    let A : Effect → Type 0 = AllSendOn (Router router) in
    let within : (drawn_at site cells (Choice router.weights)).0 < length router.next = way_within objects site router cells fine in
    subst A (goes-effect _ x is)
    (λ job. record { job = refl; way = Contains-get_or router.next (drawn_at site cells (Choice router.weights)).0 0 within; chosen = λ router. refl; delay = refl }, tt)
all_ways objects site (Sink sink) cells e x fine is does_so = sink_ways sink e x is

-- what is sent is an event of the same kind, job and destination, after its delay
sent_on : (kind : KindOver ℕ) (note : Note) (drawn : List ℕ) (stamp object serial : ℕ) (key : Key) (sends : List Send) (e : Event) → stamp ≡ key.stamp
    → Each (λ (s : Send). s.kind ≡ 3 → SendsOn kind note drawn s) sends → Contains (emissions stamp object serial sends) e → e.kind ≡ 3 → GoesOn kind (key, note) drawn e
unfolding emissions
sent_on kind note drawn stamp object serial key [] e at all is_in job = none-in e is_in
sent_on kind note drawn stamp object serial key (s ∷ sends) e at all is_in job =
    elim (first-or-later e (emission stamp object serial s) (emissions stamp object (serial + 1) sends) is_in) [
      | inl same ↦ first_one same
      | inr later ↦ sent_on kind note drawn stamp object (serial + 1) key sends e at all.1 later job
    ]
  where
    first_one : emission stamp object serial s ≡ e → GoesOn kind (key, note) drawn e
    first_one same =
        let is_job : s.kind ≡ 3 = ap (λ (x : Event). x.kind) same ∙ job in
        let on : SendsOn kind note drawn s = all.0 is_job in
        let dest : s.dest ≡ e.key.dest = ap (λ (x : Event). x.key.dest) same in
        let W : ℕ → Type 0 = λ dest. Contains (ways_of kind) dest in
        record {
          job = sym (ap (λ (x : Event). x.a) same) ∙ on.job;
          way = subst W dest on.way;
          chosen = λ router. on.chosen router ∙ ap (λ d. d ∷ []) dest;
          time = sym (ap (λ (x : Event). x.key.stamp) same) ∙ ap (λ k. next_stamp stamp k) on.delay ∙ ap (λ at. next_stamp at (keeps_for kind drawn)) at;
        }

pub ways_law : WaysLaw
unfolding plain_meaning network_meaning
ways_law p t s told after e fine reached is_next is_in job =
    let step : IsNetworkStep p t s told after = network_step p t s told after fine reached is_next in
    let x : Effect = step.step.effect in
    let key : Key = step.step.event.key in
    let d : ℕ = key.dest in
    let kind : KindOver ℕ = (object_at p.objects d).kind in
    let C : List Event → Type 0 = λ es. Contains es e in
    let all : AllSendOn kind x =
    all_ways p.objects (site_of p d) kind (cells_at s d) step.step.event x (object_fine p fine d step.exists).kind step.step.outcome step.does_so in
    let goes : GoesOn kind (key, x.note) (shown_by kind x.sends) e =
    sent_on kind x.note (shown_by kind x.sends) key.stamp d (state_at s.objects d).sent key x.sends e refl all (subst C (sent_next-step (plain_meaning p) t s told after step.step) is_in) job in
    let drawn : draws_next (plain_meaning p) kind d s (does told after) ≡ shown_by kind x.sends = drawn_here p t s told after step d true (eq-eqb d d refl) in
    let D : List ℕ → Type 0 = λ drawn. GoesOn kind (key, x.note) drawn e in
    let R : Key × Note → Type 0 = λ r. (let kind = (object_at p.objects r.0.dest).kind in GoesOn kind r (draws_next (plain_meaning p) kind r.0.dest s (does told after)) e) in
    subst R (sym step.step.tells) (subst D (sym drawn) goes)

-- whatever else is sent is sent to the object itself
abbrev OthersStay : Site → Effect → Type 0
OthersStay site x = Each (λ (s : Send). s.kind ≢ 3 → s.dest ≡ site.object) x.sends

source_stays : (site : Site) (cells : CellData) (e : Event) (source : SourceOver ℕ) (x : Effect) → SourceDoes site cells e source x → OthersStay site x
unfolding idle_effect last_effect make_effect
source_stays site cells e source x (idles none) = tt
source_stays site cells e source x (makes_last one) = (λ other. absurd (other refl), tt)
source_stays site cells e source x (makes more) = (λ other. absurd (other refl), (λ other. refl, tt))

station_stays : (site : Site) (cells : CellData) (e : Event) (station : StationOver ℕ) (x : Effect) → StationDoes site cells e station x → OthersStay site x
unfolding take_effect wait_effect lose_effect serve_effect free_effect
station_stays site cells e station x (takes other free) = (λ other. refl, tt)
station_stays site cells e station x (waits other full room) = tt
station_stays site cells e station x (loses other full none) = tt
station_stays site cells e station x (serves done some) = (λ other. absurd (other refl), (λ other. refl, tt))
station_stays site cells e station x (frees done none) = (λ other. absurd (other refl), tt)

plain_stays : (objects : List Item) (site : Site) (cells : CellData) (e : Event) (kind : KindOver ℕ) (x : Effect) → PlainDoes objects site cells e kind x → OthersStay site x
plain_stays objects site cells e kind x (hands_on takes_jobs moving keeps draws) = (λ other. absurd (other refl), tt)
plain_stays objects site cells e kind x (leaves shown) = tt

all_stay : (objects : List Item) (site : Site) (kind : KindOver ℕ) (cells : CellData) (e : Event) (x : Effect) → EventDoes objects site cells e kind x → OthersStay site x
all_stay objects site (Source source) cells e x does_so = source_stays site cells e source x does_so
all_stay objects site (Station station) cells e x does_so = station_stays site cells e station x does_so
all_stay objects site (Delay delay) cells e x does_so = plain_stays objects site cells e (Delay delay) x does_so
all_stay objects site (Router router) cells e x does_so = plain_stays objects site cells e (Router router) x does_so
all_stay objects site (Sink sink) cells e x does_so = plain_stays objects site cells e (Sink sink) x does_so

sent_stays : (stamp object serial : ℕ) (sends : List Send) (e : Event) → Each (λ (s : Send). s.kind ≢ 3 → s.dest ≡ object) sends
    → Contains (emissions stamp object serial sends) e → e.kind ≢ 3 → e.key.dest ≡ object
unfolding emissions
sent_stays stamp object serial [] e all is_in other = none-in e is_in
sent_stays stamp object serial (s ∷ sends) e all is_in other =
    elim (first-or-later e (emission stamp object serial s) (emissions stamp object (serial + 1) sends) is_in) [
      | inl same ↦
          sym (ap (λ (x : Event). x.key.dest) same) ∙ all.0 (λ job. other (sym (ap (λ (x : Event). x.kind) same) ∙ job))
      | inr later ↦ sent_stays stamp object (serial + 1) sends e all.1 later other
    ]

pub others_stay_law : OthersStayLaw
unfolding plain_meaning network_meaning
others_stay_law p t s told after e fine reached is_next is_in other =
    let step : IsNetworkStep p t s told after = network_step p t s told after fine reached is_next in
    let x : Effect = step.step.effect in
    let key : Key = step.step.event.key in
    let d : ℕ = key.dest in
    let C : List Event → Type 0 = λ es. Contains es e in
    let all : OthersStay (site_of p d) x = all_stay p.objects (site_of p d) (object_at p.objects d).kind (cells_at s d) step.step.event x step.does_so in
    sent_stays key.stamp d (state_at s.objects d).sent x.sends e all (subst C (sent_next-step (plain_meaning p) t s told after step.step) is_in) other
    ∙ sym (ap (λ (r : Key × Note). r.0.dest) step.step.tells)
