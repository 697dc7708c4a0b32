-- First come, first served.
use Rattle.std.proofs.Common.{◌≡◌, ◌≢◌, ℕ, zero, suc, ◌+◌, ◌<◌, ◌≤◌, Bool, true, false, cond, List, [], ◌∷◌, ◌++◌, length, drop, map, refl, sym, ap, ◌∙◌, subst, arith, eqb, eqb-true, eq-eqb, ne_eqb, append_assoc, append-nil}
use Rattle.std.specs.Prelude.{IsTrue, filter, ◌==◌, ◌&&◌, slice_index, if◌then◌else◌}
use Rattle.std.proofs.lemmas.List.Sums.{length-filter}
use Rattle.event_key.specs.declared.key.Key.{Key}
use Rattle.delta_exchange.specs.Changes.{CellData, line_of, cells_after_all}
use Rattle.model_core.specs.declared.effect.Effect.{Effect}
use Rattle.model_core.specs.declared.event.Event.{Event}
use Rattle.model_core.specs.declared.note.Note.{Note}
use Rattle.model_core.specs.declared.note.Part.{Part}
use Rattle.sim_spec.specs.declared.terms.Terms.{Terms}
use Rattle.sim_spec.specs.declared.stop.Stop.{Stop}
use Rattle.sim_spec.specs.Firing.{emission, emissions}
use Rattle.key_order.specs.Pending.{enqueue, enqueue_all}
use Rattle.key_order.specs.Ascending.{IsAscending}
use Rattle.sim_spec.specs.State.{State, initial_state, object_at as state_at}
use Rattle.sim_spec.specs.Run.{stops, does, next}
use Rattle.sim_spec.proofs.LawfulLemmas.{next-lawful}
use Rattle.key_order.proofs.ShareLemmas.{filter-enqueue_all}
use Rattle.queue_models.specs.declared.station.Station.{Station as StationOver}
use Rattle.queue_models.specs.declared.kind.KindOver.{KindOver}
use Rattle.queue_models.specs.declared.site.Site.{Site}
use Rattle.queue_models.specs.Meaning.{plain_meaning, site_of}
use Rattle.queue_models.specs.ModelLaws.{plain_laws}
use Rattle.queue_models.specs.Objects.{NetworkParts, object_at}
use Rattle.queue_models.specs.Parts.{IsNetwork}
use Rattle.queue_models.specs.Sites.{drawn_at}
use Rattle.queue_models.specs.Stations.{busy_servers, waiting_jobs, is_station_cells, done_after, take_effect, wait_effect, lose_effect, serve_effect, free_effect}
use Rattle.run_laws.specs.Reached.{after_events, Reaches, gathered}
use Rattle.run_laws.proofs.Induction.{after_events-does, after_events-stops, gathered-more, each_number}
use Rattle.run_laws.proofs.Steps.{first_firing, sent_next-step}
use Rattle.subject_laws.specs.OrderLaws.{IsFirstComeFirstServed, FirstComeFirstServed}
use Rattle.subject_laws.specs.Orders.{jobs_told, is_coming, is_done, arrived_at, done_at, numbers_of, begins_at, begun_at}
use Rattle.subject_laws.specs.ServerLaws.{AreServing}
use Rattle.subject_laws.specs.Stations.{IsStationAt, cells_at, busy_at, waiting_at, ends_service_at, in_service_at}
use Rattle.subject_laws.proofs.QueueLemmas.Cases.{EventDoes, StationDoes, takes, waits, loses, serves, frees}
use Rattle.subject_laws.proofs.QueueLemmas.Leaves.{HasStationCells, station_shape, take_leaves, wait_leaves, serve_leaves, free_leaves}
use Rattle.subject_laws.proofs.QueueLemmas.NetworkStarts.{station_at_start}
use Rattle.subject_laws.proofs.QueueLemmas.NetworkSteps.{IsNetworkStep, network_step, reached_lawful, cells_here, cells_elsewhere}
use Rattle.subject_laws.proofs.QueueLemmas.ServersLaw.{ends, ends_elsewhere, lose_leaves, station_lawful, plain_servers_law}
use Rattle.subject_laws.proofs.QueueLemmas.PlainRuns.{same_after}

-- the jobs of which a note tells
unfoldable pub jobs_of : (ℕ → Bool) → Note → List ℕ
jobs_of is_word note = map (λ (part : Part). part.a) (filter (λ (part : Part). is_word part.word) note)

pub empty_list : {A : Type 0} (xs : List A) → length xs ≡ 0 → xs ≡ []
empty_list [] none = refl
empty_list (x ∷ xs) none = absurd (omega arith)

-- the first element of a list with one, and the others
pub first_of_line : (xs : List ℕ) → 0 < length xs → xs ≡ slice_index xs 0 ∷ drop 1 xs
first_of_line [] some = absurd (omega arith)
first_of_line (x ∷ xs) some = refl

-- what one event moves at a station: a line of jobs, those that come in, those whose service begins, those that wait then;
-- and, where it has one server, who is in service before and after
record Moves (servers : ℕ) (line coming begins after : List ℕ) (done : List ℕ) (serving served : List Event) : Type 0 where
  pub in_order : line ++ coming ≡ begins ++ after
  pub one_by_one : servers ≡ 1 → numbers_of serving ++ begins ≡ done ++ numbers_of served

-- the services under way, where the event is one of them or not, and others are besides it
serving_of : Event → List Event → List Event
serving_of e others = cond (e.kind == 2) (e ∷ others) others

serving_arrival : (e : Event) (others : List Event) → e.kind ≢ 2 → serving_of e others ≡ others
unfolding serving_of
serving_arrival e others other = ap (λ b. cond b (e ∷ others) others) (ne_eqb e.kind 2 other)

serving_done : (e : Event) (others : List Event) → e.kind ≡ 2 → serving_of e others ≡ e ∷ others
unfolding serving_of
serving_done e others done = ap (λ b. cond b (e ∷ others) others) (eq-eqb e.kind 2 done)

-- lists that are equal part by part
joined : (a b c d a' b' c' d' : List ℕ) → a ≡ a' → b ≡ b' → c ≡ c' → d ≡ d' → a' ++ b' ≡ c' ++ d' → a ++ b ≡ c ++ d
joined a b c d a' b' c' d' p q r s same = cc

-- the ends of services among what an event sends
take_sends : (site : Site) (station : StationOver ℕ) (cells : CellData) (e : Event) (stamp object serial : ℕ)
    → (end : Event) × (filter (ends_service_at site.object) (emissions stamp object serial (take_effect site station cells e).sends) ≡ end ∷ []) × (end.a ≡ e.a)
unfolding emissions take_effect
take_sends site station cells e stamp object serial =
    let end : Event = emission stamp object serial (done_after site (drawn_at site cells station.service).0 e.a e.b) in
    (end, ap (λ b. cond b (end ∷ []) []) (eq-eqb site.object site.object refl), refl)

serve_sends : (site : Site) (station : StationOver ℕ) (cells : CellData) (e : Event) (stamp object serial : ℕ)
    → (end : Event) × (filter (ends_service_at site.object) (emissions stamp object serial (serve_effect site station cells e).sends) ≡ end ∷ []) × (end.a ≡ slice_index (line_of cells 0) 0)
unfolding emissions serve_effect
serve_sends site station cells e stamp object serial =
    let end : Event = emission stamp object (serial + 1) (done_after site (drawn_at site cells station.service).0 (slice_index (line_of cells 0) 0) (slice_index (line_of cells 1) 0)) in
    (end, ap (λ b. cond b (end ∷ []) []) (eq-eqb site.object site.object refl), refl)

one_number : (es : List Event) (e : Event) (job : ℕ) → es ≡ e ∷ [] → e.a ≡ job → numbers_of es ≡ job ∷ []
one_number es e job is number = ap numbers_of is ∙ ap (λ j. j ∷ []) number

-- one that is alone at its place
alone : (es others : List Event) (e : Event) → es ≡ e ∷ [] → others ≡ [] → enqueue_all es others ≡ e ∷ []
unfolding enqueue_all enqueue
alone es others e is none = ap (λ xs. enqueue_all xs others) is ∙ ap (λ xs. enqueue_all (e ∷ []) xs) none

none_sent : (es others : List Event) → es ≡ [] → enqueue_all es others ≡ others
unfolding enqueue_all
none_sent es others none = ap (λ xs. enqueue_all xs others) none

moves_on : (site : Site) (cells : CellData) (e : Event) (station : StationOver ℕ) (x : Effect) (stamp object serial : ℕ) (others : List Event)
    → HasStationCells cells → busy_servers cells ≡ length (serving_of e others) → (0 < waiting_jobs cells → busy_servers cells ≡ station.servers) → busy_servers cells ≤ station.servers
    → StationDoes site cells e station x
    → (let sent : List Event = filter (ends_service_at site.object) (emissions stamp object serial x.sends) in
    Moves station.servers (line_of cells 0) (jobs_of is_coming x.note) (numbers_of sent) (line_of (cells_after_all x.changes cells) 0) (jobs_of is_done x.note) (serving_of e others) (enqueue_all sent others))
unfolding jobs_of emissions take_effect wait_effect lose_effect serve_effect free_effect
moves_on site cells e station x stamp object serial others has busy full upto (takes other free) =
    let line : List ℕ = line_of cells 0 in
    let sent = take_sends site station cells e stamp object serial in
    let begins = one_number _ sent.0 e.a sent.1 sent.2 in
    let none : line ≡ [] = empty_list line (by_waiting (length line) (λ some. absurd (let all = full some in omega arith))) in
    let kept = ap (λ c. line_of c 0) (take_leaves site station cells e has) in
    record {
      in_order = joined line (e.a ∷ []) _ _ [] (e.a ∷ []) (e.a ∷ []) [] none refl begins (kept ∙ none) refl;
      one_by_one = λ one.
          let serving = serving_arrival e others other in
          let no_others : others ≡ [] = empty_list others (let long = ap length serving in omega arith) in
          joined _ _ [] _ [] (e.a ∷ []) [] (e.a ∷ []) (ap numbers_of (serving ∙ no_others)) begins refl (one_number _ sent.0 e.a (alone _ others sent.0 sent.1 no_others) sent.2) refl;
    }
  where
    by_waiting : (n : ℕ) → (0 < n → n ≡ 0) → n ≡ 0
    by_waiting zero h = refl
    by_waiting (suc n) h = h (omega arith)
moves_on site cells e station x stamp object serial others has busy full upto (waits other all room) =
    let line : List ℕ = line_of cells 0 in
    let kept = ap (λ c. line_of c 0) (wait_leaves cells e has) in
    record {
      in_order = joined line (e.a ∷ []) [] _ line (e.a ∷ []) [] (line ++ e.a ∷ []) refl refl refl kept refl;
      one_by_one = λ one.
          joined _ [] [] _ (numbers_of others) [] [] (numbers_of others) (ap numbers_of (serving_arrival e others other)) refl refl (ap numbers_of (none_sent [] others refl))
          (append-nil (numbers_of others));
    }
moves_on site cells e station x stamp object serial others has busy full upto (loses other all none) =
    let line : List ℕ = line_of cells 0 in
    let kept = ap (λ c. line_of c 0) (lose_leaves cells e) in
    record {
      in_order = joined line [] [] _ line [] [] line refl refl refl kept (append-nil line);
      one_by_one = λ one.
          joined _ [] [] _ (numbers_of others) [] [] (numbers_of others) (ap numbers_of (serving_arrival e others other)) refl refl (ap numbers_of (none_sent [] others refl))
          (append-nil (numbers_of others));
    }
moves_on site cells e station x stamp object serial others has busy full upto (serves is_done some) =
    let line : List ℕ = line_of cells 0 in
    let job : ℕ = slice_index line 0 in
    let sent = serve_sends site station cells e stamp object serial in
    let begins = one_number _ sent.0 job sent.1 sent.2 in
    let kept = ap (λ c. line_of c 0) (serve_leaves site station cells e has) in
    record {
      in_order = joined line [] _ _ (job ∷ drop 1 line) [] (job ∷ []) (drop 1 line) (first_of_line line some) refl begins kept (append-nil (job ∷ drop 1 line));
      one_by_one = λ one.
          let serving = serving_done e others is_done in
          let no_others : others ≡ [] = empty_list others (let long = ap length serving in omega arith) in
          joined _ _ (e.a ∷ []) _ (e.a ∷ []) (job ∷ []) (e.a ∷ []) (job ∷ []) (ap numbers_of (serving ∙ ap (λ es. e ∷ es) no_others)) begins refl
          (one_number _ sent.0 job (alone _ others sent.0 sent.1 no_others) sent.2) refl;
    }
moves_on site cells e station x stamp object serial others has busy full upto (frees is_done none) =
    let line : List ℕ = line_of cells 0 in
    let kept = ap (λ c. line_of c 0) (free_leaves site station cells e has) in
    record {
      in_order = joined line [] [] _ line [] [] line refl refl refl kept (append-nil line);
      one_by_one = λ one.
          let serving = serving_done e others is_done in
          let no_others : others ≡ [] = empty_list others (let long = ap length serving in omega arith) in
          joined _ [] (e.a ∷ []) _ (e.a ∷ []) [] (e.a ∷ []) [] (ap numbers_of (serving ∙ ap (λ es. e ∷ es) no_others)) refl refl (ap numbers_of (none_sent [] others refl ∙ no_others)) refl;
    }

-- what one event moves at a station, as the run tells it
pub record IsMoved (p : NetworkParts) (s : State) (told : Key × Note) (after : State) (i : ℕ) (station : StationOver ℕ) : Type 0 where
  pub in_order : waiting_at s i ++ jobs_told is_coming i s (does told after) ≡ begins_at (plain_meaning p) i s (does told after) ++ waiting_at after i
  pub one_by_one : station.servers ≡ 1
      → numbers_of (in_service_at s i) ++ begins_at (plain_meaning p) i s (does told after) ≡ jobs_told is_done i s (does told after) ++ numbers_of (in_service_at after i)

pub told_here : (is_word : ℕ → Bool) (i : ℕ) (s after : State) (told : Key × Note) (e : Event) (note : Note) (here : Bool) → told ≡ (e.key, note) → (e.key.dest == i) ≡ here
    → jobs_told is_word i s (does told after) ≡ (if here then jobs_of is_word note else [])
unfolding jobs_of
told_here is_word i s after told e note here tells is_here =
    ap (λ (told : Key × Note). jobs_told is_word i s (does told after)) tells ∙ ap (λ b. if b then jobs_of is_word note else []) is_here

-- the services under way, before and after
served_before : (p : NetworkParts) (t : Terms) (s : State) (told : Key × Note) (after : State) (n : IsNetworkStep p t s told after) (i : ℕ)
    → in_service_at s i ≡ cond (ends_service_at i n.step.event) (n.step.event ∷ filter (ends_service_at i) n.step.rest) (filter (ends_service_at i) n.step.rest)
served_before p t s told after n i = ap (filter (ends_service_at i)) n.step.pending

served_after : (p : NetworkParts) (t : Terms) (s : State) (told : Key × Note) (after : State) (n : IsNetworkStep p t s told after) (i : ℕ) → IsAscending after.pending
    → in_service_at after i ≡ enqueue_all (filter (ends_service_at i) (first_firing s n.step.event n.step.effect).events) (filter (ends_service_at i) n.step.rest)
served_after p t s told after n i up =
    let events : List Event = (first_firing s n.step.event n.step.effect).events in
    let is : after.pending ≡ enqueue_all events n.step.rest = ap (λ (s : State). s.pending) n.step.leaves in
    let A : List Event → Type 0 = IsAscending in
    ap (filter (ends_service_at i)) is ∙ filter-enqueue_all (ends_service_at i) events n.step.rest (subst A is up)

pub begins_are : (p : NetworkParts) (t : Terms) (s : State) (told : Key × Note) (after : State) (n : IsNetworkStep p t s told after) (i : ℕ)
    → begins_at (plain_meaning p) i s (does told after) ≡ numbers_of (filter (ends_service_at i) (first_firing s n.step.event n.step.effect).events)
begins_are p t s told after n i =
    ap (λ (es : List Event). numbers_of (filter (ends_service_at i) es)) (sent_next-step (plain_meaning p) t s told after n.step)

moved_elsewhere : (p : NetworkParts) (t : Terms) (s : State) (told : Key × Note) (after : State) (n : IsNetworkStep p t s told after) (i : ℕ) (station : StationOver ℕ)
    → IsAscending after.pending → i ≢ n.step.event.key.dest → IsMoved p s told after i station
unfolding ends
moved_elsewhere p t s told after n i station up apart =
    let e : Event = n.step.event in
    let events : List Event = (first_firing s e n.step.effect).events in
    let others : List Event = filter (ends_service_at i) n.step.rest in
    let away : (e.key.dest == i) ≡ false = ne_eqb e.key.dest i (λ same. apart (sym same)) in
    let none : filter (ends_service_at i) events ≡ [] =
    empty_list (filter (ends_service_at i) events) (length-filter (ends_service_at i) events
    ∙ ends_elsewhere p.objects (site_of p e.key.dest) (cells_at s e.key.dest) e (object_at p.objects e.key.dest).kind n.step.effect i e.key.stamp e.key.dest _ (λ eq. apart (sym eq)) n.does_so) in
    let begins : begins_at (plain_meaning p) i s (does told after) ≡ [] = begins_are p t s told after n i ∙ ap numbers_of none in
    let line : List ℕ = waiting_at s i in
    let kept : waiting_at after i ≡ line = ap (λ (c : CellData). line_of c 0) (cells_elsewhere p t s told after n i apart) in
    let coming = told_here is_coming i s after told e n.step.effect.note false n.step.tells away in
    let done = told_here is_done i s after told e n.step.effect.note false n.step.tells away in
    let not_it : ends_service_at i e ≡ false = by (e.kind == 2) (e.key.dest == i) away in
    let was : in_service_at s i ≡ others = served_before p t s told after n i ∙ ap (λ b. cond b (e ∷ others) others) not_it in
    let now : in_service_at after i ≡ others = served_after p t s told after n i up ∙ none_sent _ others none in
    record {
      in_order = joined _ _ _ _ line [] [] line refl coming begins kept (append-nil line);
      one_by_one = λ one. joined _ _ _ _ (numbers_of others) [] [] (numbers_of others) (ap numbers_of was) begins done (ap numbers_of now) (append-nil (numbers_of others));
    }
  where
    by : (done here : Bool) → here ≡ false → (done && here) ≡ false
    by true here is = is
    by false here is = refl

moved_here : (p : NetworkParts) (t : Terms) (s : State) (told : Key × Note) (after : State) (n : IsNetworkStep p t s told after) (station : StationOver ℕ)
    → IsAscending after.pending → IsStationAt p n.step.event.key.dest station → AreServing s n.step.event.key.dest station → IsMoved p s told after n.step.event.key.dest station
unfolding serving_of
moved_here p t s told after n station up is good =
    let e : Event = n.step.event in
    let d : ℕ = e.key.dest in
    let x : Effect = n.step.effect in
    let cells : CellData = cells_at s d in
    let events : List Event = (first_firing s e x).events in
    let others : List Event = filter (ends_service_at d) n.step.rest in
    let here : (e.key.dest == d) ≡ true = eq-eqb d d refl in
    let R : KindOver ℕ → Type 0 = λ kind. EventDoes p.objects (site_of p d) cells e kind x in
    let lawful : IsTrue (is_station_cells station.servers station.line cells) = station_lawful p s d station is n.cells in
    let was : in_service_at s d ≡ serving_of e others =
    served_before p t s told after n d ∙ ap (λ b. cond b (e ∷ others) others) (ap (λ b. (e.kind == 2) && b) here ∙ and_true (e.kind == 2)) in
    let moves : Moves station.servers (line_of cells 0) (jobs_of is_coming x.note) (numbers_of (filter (ends_service_at d) events)) (line_of (cells_after_all x.changes cells) 0) (jobs_of is_done x.note) (serving_of e others) (enqueue_all (filter (ends_service_at d) events) others) =
    moves_on (site_of p d) cells e station x e.key.stamp d (state_at s.objects d).sent others (station_shape station.servers station.line cells lawful)
    (good.under_way ∙ ap length was) good.none_idle good.no_more (subst R is n.does_so) in
    let begins = begins_are p t s told after n d in
    let coming = told_here is_coming d s after told e x.note true n.step.tells here in
    let done = told_here is_done d s after told e x.note true n.step.tells here in
    let line_after : waiting_at after d ≡ line_of (cells_after_all x.changes cells) 0 = ap (λ (c : CellData). line_of c 0) (cells_here p t s told after n) in
    let now = served_after p t s told after n d up in
    record {
      in_order = joined _ _ _ _ (line_of cells 0) _ _ _ refl coming begins line_after moves.in_order;
      one_by_one = λ one. joined _ _ _ _ _ _ _ _ (ap numbers_of was) begins done (ap numbers_of now) (moves.one_by_one one);
    }
  where
    and_true : (b : Bool) → (b && true) ≡ b
    and_true true = refl
    and_true false = refl

pub moved : (p : NetworkParts) (t : Terms) (s : State) (told : Key × Note) (after : State) (i : ℕ) (station : StationOver ℕ) → IsNetwork p → Reaches (plain_meaning p) t s
    → next (plain_meaning p) t s ≡ does told after → IsStationAt p i station → IsMoved p s told after i station
moved p t s told after i station fine reached is_next is = by (eqb i n.step.event.key.dest) refl
  where
    n : IsNetworkStep p t s told after
    n = network_step p t s told after fine reached is_next

    up : IsAscending after.pending
    up = (next-lawful (plain_meaning p) t s told after (plain_laws p fine) (reached_lawful p t s fine reached) is_next).ordered

    by : (here : Bool) → eqb i n.step.event.key.dest ≡ here → IsMoved p s told after i station
    by false apart_is = moved_elsewhere p t s told after n i station up (λ same. let yes = eq-eqb i n.step.event.key.dest same in cc)
    by true here_is =
        let same : i ≡ n.step.event.key.dest = eqb-true i n.step.event.key.dest here_is in
        let P : ℕ → Type 0 = λ j. IsStationAt p j station → IsMoved p s told after j station in
        subst P (sym same) (λ is. moved_here p t s told after n station up is (plain_servers_law p t s n.step.event.key.dest station fine reached is)) is

-- lists that go on as one event moves jobs
goes_on : (came bs line coming begins after : List ℕ) → came ≡ bs ++ line → line ++ coming ≡ begins ++ after → came ++ coming ≡ (bs ++ begins) ++ after
goes_on came bs line coming begins after so_far step =
    ap (λ (xs : List ℕ). xs ++ coming) so_far ∙ append_assoc bs line coming ∙ ap (λ (xs : List ℕ). bs ++ xs) step ∙ sym (append_assoc bs begins after)

both : {xs us ys vs : List ℕ} → xs ≡ us → ys ≡ vs → xs ++ ys ≡ us ++ vs
both {xs} {us} {ys} {vs} same more = ap (λ (l : List ℕ). l ++ ys) same ∙ ap (λ (l : List ℕ). us ++ l) more

-- the law over the plain meaning
abbrev Served : NetworkParts → Terms → ℕ → StationOver ℕ → ℕ → Type 0
Served p t i station n = IsFirstComeFirstServed p t i station n (after_events n (plain_meaning p) t)

first_moves : (p : NetworkParts) (t : Terms) (i : ℕ) (station : StationOver ℕ) → IsNetwork p → IsStationAt p i station → Served p t i station 0
unfolding gathered after_events
first_moves p t i station fine is = record {
  begun = sym (ap (λ (c : CellData). line_of c 0) (station_at_start p i station is));
  done = λ one.
      let good : AreServing (initial_state (plain_meaning p)) i station = plain_servers_law p t (initial_state (plain_meaning p)) i station fine (0, refl) is in
      let idle : busy_at (initial_state (plain_meaning p)) i ≡ 0 = ap (λ (c : CellData). busy_servers c) (station_at_start p i station is) in
      sym (ap numbers_of (empty_list (in_service_at (initial_state (plain_meaning p)) i) (omega (arith, good.under_way, idle))));
}

halted : (p : NetworkParts) (t : Terms) (i : ℕ) (station : StationOver ℕ) (n : ℕ) (stop : Stop) → next (plain_meaning p) t (after_events n (plain_meaning p) t) ≡ stops stop
    → Served p t i station n → Served p t i station (suc n)
halted p t i station n stop is_next before =
    let m = plain_meaning p in
    let same = after_events-stops m t n stop is_next in
    let line = ap (λ (s : State). waiting_at s i) same in
    let served = ap (λ (s : State). numbers_of (in_service_at s i)) same in
    let begun : begun_at p t i (suc n) ≡ begun_at p t i n = gathered-more (begins_at m i) m t n (stops stop) is_next ∙ append-nil (begun_at p t i n) in
    record {
      begun = gathered-more (jobs_told is_coming i) m t n (stops stop) is_next ∙ append-nil (arrived_at p t i n) ∙ before.begun ∙ sym (both begun line);
      done = λ one. begun ∙ before.done one ∙ sym (both (gathered-more (jobs_told is_done i) m t n (stops stop) is_next ∙ append-nil (done_at p t i n)) served);
    }

happened : (p : NetworkParts) (t : Terms) (i : ℕ) (station : StationOver ℕ) → IsNetwork p → IsStationAt p i station → (n : ℕ) (told : Key × Note) (after : State)
    → next (plain_meaning p) t (after_events n (plain_meaning p) t) ≡ does told after → Served p t i station n → Served p t i station (suc n)
happened p t i station fine is n told after is_next before =
    let m = plain_meaning p in
    let s : State = after_events n m t in
    let same = after_events-does m t n told after is_next in
    let step : IsMoved p s told after i station = moved p t s told after i station fine (n, refl) is_next is in
    let coming : List ℕ = jobs_told is_coming i s (does told after) in
    let begins : List ℕ = begins_at m i s (does told after) in
    let ending : List ℕ = jobs_told is_done i s (does told after) in
    let line = ap (λ (s : State). waiting_at s i) same in
    let served = ap (λ (s : State). numbers_of (in_service_at s i)) same in
    record {
      begun = gathered-more (jobs_told is_coming i) m t n (does told after) is_next
          ∙ goes_on (arrived_at p t i n) (begun_at p t i n) (waiting_at s i) coming begins (waiting_at after i) before.begun step.in_order
          ∙ sym (both (gathered-more (begins_at m i) m t n (does told after) is_next) line);
      done = λ one. gathered-more (begins_at m i) m t n (does told after) is_next
          ∙ goes_on (begun_at p t i n) (done_at p t i n) (numbers_of (in_service_at s i)) begins ending (numbers_of (in_service_at after i)) (before.done one) (step.one_by_one one)
          ∙ sym (both (gathered-more (jobs_told is_done i) m t n (does told after) is_next) served);
    }

pub first_come_first_served : FirstComeFirstServed
first_come_first_served p t i station n fine is =
    subst (IsFirstComeFirstServed p t i station n) (sym (same_after p t n))
    (each_number (plain_meaning p) t (Served p t i station) (first_moves p t i station fine is)
    (λ n stop is_next before. halted p t i station n stop is_next before)
    (λ n told after is_next before. happened p t i station fine is n told after is_next before) n)
