-- A source makes its jobs when it drew that it would.
use Rattle.std.proofs.Common.{◌≡◌, ◌≢◌, ℕ, zero, suc, ◌+◌, ◌-◌, ◌*◌, ◌<◌, ◌≤◌, Bool, true, false, cond, List, [], ◌∷◌, ◌++◌, length, map, refl, sym, ap, ◌∙◌, subst, arith, eqb, eqb-true, eq-eqb, ne_eqb, append-nil}
use Rattle.std.specs.Prelude.{IsTrue, filter, sum_by, slice_index, ◌==◌}
use Rattle.std.specs.List.{AllByRecursion as Each, range_with_len}
use Rattle.std.proofs.lemmas.Bool.{or_parts}
use Rattle.std.proofs.lemmas.List.{ext_get_or}
use Rattle.std.proofs.lemmas.List.FromFn.{length-map-range_with_len, get_or-map-range_with_len}
use Rattle.std.proofs.lemmas.List.Sums.{length-filter, sum_by-cons}
use Rattle.event_key.specs.declared.key.Key.{Key}
use Rattle.event_key.specs.Stamps.{time_part}
use Rattle.delta_exchange.specs.Changes.{CellData, cells_after_all}
use Rattle.key_order.specs.Ascending.{IsAscending}
use Rattle.key_order.specs.Pending.{enqueue, enqueue_all}
use Rattle.key_order.proofs.ShareLemmas.{filter-enqueue_all}
use Rattle.model_core.specs.declared.effect.Effect.{Effect}
use Rattle.model_core.specs.declared.event.Event.{Event}
use Rattle.model_core.specs.declared.event.Send.{Send}
use Rattle.model_core.specs.declared.note.Note.{Note}
use Rattle.sim_spec.specs.declared.terms.Terms.{Terms}
use Rattle.sim_spec.specs.Firing.{emission, emissions, has_endless_chain}
use Rattle.sim_spec.specs.State.{State, initial_state, start_event, event_of_start, object_at as state_at}
use Rattle.sim_spec.specs.Run.{stops, does, next}
use Rattle.sim_spec.proofs.LawfulLemmas.{next-lawful}
use Rattle.queue_models.specs.declared.kind.KindOver.{KindOver}
use Rattle.queue_models.specs.declared.kind.KindOver.TheVariants.{Source, Station}
use Rattle.queue_models.specs.declared.site.Site.{Site}
use Rattle.queue_models.specs.declared.source.Source.{Source as SourceOver}
use Rattle.queue_models.specs.declared.station.Station.{Station as StationOver}
use Rattle.queue_models.specs.Kinds.{IsKind, is_lawful, is_source, first_cells_of, first_time_of}
use Rattle.queue_models.specs.Meaning.{plain_meaning, network_meaning, site_of, job_start}
use Rattle.queue_models.specs.ModelLaws.{object_fine, plain_laws}
use Rattle.queue_models.specs.Objects.{NetworkParts, object_at, source_numbers, sources_below}
use Rattle.queue_models.specs.Parts.{IsNetwork, IsLink}
use Rattle.queue_models.specs.Sites.{drawn_at, job_to}
use Rattle.queue_models.specs.Sources.{left_of, made_of, idle_effect, last_effect, make_effect}
use Rattle.queue_models.specs.Stations.{take_effect, wait_effect, lose_effect, serve_effect, free_effect}
use Rattle.run_laws.specs.Reached.{after_events, gathered}
use Rattle.run_laws.proofs.Induction.{after_events-does, after_events-stops, gathered-more, each_number}
use Rattle.run_laws.proofs.Steps.{first_firing}
use Rattle.subject_laws.specs.Draws.{shown_by}
use Rattle.subject_laws.specs.Orders.{jobs_told}
use Rattle.subject_laws.specs.SourceLaws.{IsSourceAt, is_made, make_times, next_make_at, epochs, SourcesLaw}
use Rattle.subject_laws.specs.Stations.{cells_at}
use Rattle.subject_laws.specs.Times.{at_time}
use Rattle.subject_laws.proofs.DrawLemmas.DrawsLaw.{plain_draws, plain_drawn, drawn_here, same_drawn}
use Rattle.subject_laws.proofs.JobLemmas.PlacesLaw.{shifted}
use Rattle.subject_laws.proofs.JobLemmas.Weights.{sum_by-map, sum_by-filter, range-change}
use Rattle.subject_laws.proofs.QueueLemmas.Cases.{SourceDoes, idles, makes_last, makes, StationDoes, takes, waits, loses, serves, frees, PlainDoes, hands_on, leaves, EventDoes}
use Rattle.subject_laws.proofs.QueueLemmas.Leaves.{source_shape, last_leaves, make_leaves}
use Rattle.subject_laws.proofs.QueueLemmas.NetworkStarts.{source_exists, cells_at_start, start_cases, sum_at_start}
use Rattle.subject_laws.proofs.QueueLemmas.NetworkSteps.{IsNetworkStep, network_step, reached_lawful, cells_here, cells_elsewhere}
use Rattle.subject_laws.proofs.QueueLemmas.OrderLaw.{jobs_of, told_here, empty_list}
use Rattle.subject_laws.proofs.QueueLemmas.PlainRuns.{same_after}
use Rattle.event_key.proofs.StampLemmas.{next_time}

-- an event is at an object
abbrev is_at : ℕ → Event → Bool
is_at i e = e.key.dest == i

-- epochs with one gap more
epochs-more : (first : ℕ) (gaps times : List ℕ) (last gap : ℕ) → times ++ last ∷ [] ≡ epochs first gaps → (times ++ last ∷ []) ++ (last + gap) ∷ [] ≡ epochs first (gaps ++ gap ∷ [])
epochs-more first [] times last gap so_far = ap (λ (ts : List ℕ). ts ++ (last + gap) ∷ []) so_far ∙ ap (λ k. first ∷ (k + gap) ∷ []) (the_last times last first so_far)
  where
    the_last : (times : List ℕ) (last first : ℕ) → times ++ last ∷ [] ≡ first ∷ [] → last ≡ first
    the_last [] last first same = cc
    the_last (time ∷ []) last first same = absurd (let long = ap (λ (xs : List ℕ). length xs) same in omega arith)
    the_last (time ∷ more ∷ times) last first same = absurd (let long = ap (λ (xs : List ℕ). length xs) same in omega arith)
epochs-more first (one ∷ gaps) [] last gap so_far = absurd (let long = ap (λ (xs : List ℕ). length xs) so_far in let some = epochs-some (first + one) gaps in omega arith)
  where
    epochs-some : (first : ℕ) (gaps : List ℕ) → 1 ≤ length (epochs first gaps)
    epochs-some first [] = omega arith
    epochs-some first (gap ∷ gaps) = omega arith
epochs-more first (one ∷ gaps) (time ∷ times) last gap so_far =
    ap (λ k. k ∷ ((times ++ last ∷ []) ++ (last + gap) ∷ [])) (head_is time first _ _ so_far)
    ∙ ap (λ (ts : List ℕ). first ∷ ts) (epochs-more (first + one) gaps times last gap (tail_is time first _ _ so_far))
  where
    head_is : (a b : ℕ) (xs ys : List ℕ) → a ∷ xs ≡ b ∷ ys → a ≡ b
    head_is a b xs ys same = cc

    tail_is : (a b : ℕ) (xs ys : List ℕ) → a ∷ xs ≡ b ∷ ys → xs ≡ ys
    tail_is a b xs ys same = cc

-- what is sent elsewhere isn't at the object
none_at : (i stamp object serial : ℕ) (sends : List Send) → Each (λ (s : Send). s.dest ≢ i) sends → filter (is_at i) (emissions stamp object serial sends) ≡ []
unfolding emissions
none_at i stamp object serial [] apart = refl
none_at i stamp object serial (s ∷ sends) apart =
    ap (λ b. cond b (emission stamp object serial s ∷ filter (is_at i) (emissions stamp object (serial + 1) sends)) (filter (is_at i) (emissions stamp object (serial + 1) sends))) (ne_eqb s.dest i apart.0)
    ∙ none_at i stamp object (serial + 1) sends apart.1

-- an object that makes no jobs is not a source
apart_from : (p : NetworkParts) (i j : ℕ) → is_source (object_at p.objects i).kind ≡ true → is_source (object_at p.objects j).kind ≡ false → j ≢ i
apart_from p i j source other same =
    let S : ℕ → Type 0 = λ k. is_source (object_at p.objects k).kind ≡ true in
    let yes : is_source (object_at p.objects j).kind ≡ true = subst S (sym same) source in
    (cc)

-- no object sends to a source but itself
source_sends : (p : NetworkParts) (i : ℕ) (site : Site) (cells : CellData) (e : Event) (source : SourceOver ℕ) (x : Effect) → is_source (object_at p.objects i).kind ≡ true
    → is_source (object_at p.objects source.next).kind ≡ false → site.object ≢ i → SourceDoes site cells e source x → Each (λ (s : Send). s.dest ≢ i) x.sends
unfolding idle_effect last_effect make_effect
source_sends p i site cells e source x is next apart (idles none) = tt
source_sends p i site cells e source x is next apart (makes_last one) = (apart_from p i source.next is next, tt)
source_sends p i site cells e source x is next apart (makes more) = (apart_from p i source.next is next, (apart, tt))

station_sends : (p : NetworkParts) (i : ℕ) (site : Site) (cells : CellData) (e : Event) (station : StationOver ℕ) (x : Effect) → is_source (object_at p.objects i).kind ≡ true
    → is_source (object_at p.objects station.next).kind ≡ false → site.object ≢ i → StationDoes site cells e station x → Each (λ (s : Send). s.dest ≢ i) x.sends
unfolding take_effect wait_effect lose_effect serve_effect free_effect
station_sends p i site cells e station x is next apart (takes other free) = (apart, tt)
station_sends p i site cells e station x is next apart (waits other full room) = tt
station_sends p i site cells e station x is next apart (loses other full none) = tt
station_sends p i site cells e station x is next apart (serves done some) = (apart_from p i station.next is next, (apart, tt))
station_sends p i site cells e station x is next apart (frees done none) = (apart_from p i station.next is next, tt)

plain_sends : (p : NetworkParts) (i : ℕ) (site : Site) (cells : CellData) (e : Event) (kind : KindOver ℕ) (x : Effect) → is_source (object_at p.objects i).kind ≡ true
    → PlainDoes p.objects site cells e kind x → Each (λ (s : Send). s.dest ≢ i) x.sends
plain_sends p i site cells e kind x is (hands_on {dest = dest} there moving after draws) = (apart_from p i dest is there, tt)
plain_sends p i site cells e kind x is (leaves none) = tt

sends_elsewhere : (p : NetworkParts) (i : ℕ) (site : Site) (cells : CellData) (e : Event) (kind : KindOver ℕ) (x : Effect) → is_source (object_at p.objects i).kind ≡ true
    → IsKind (IsLink p.objects) kind → site.object ≢ i → EventDoes p.objects site cells e kind x → Each (λ (s : Send). s.dest ≢ i) x.sends
sends_elsewhere p i site cells e (Source source) x is fine apart does_so = source_sends p i site cells e source x is fine.1.takes apart does_so
sends_elsewhere p i site cells e (Station station) x is fine apart does_so = station_sends p i site cells e station x is fine.1.takes apart does_so
sends_elsewhere p i site cells e other x is fine apart does_so = plain_sends p i site cells e other x is does_so

-- a source after n events: its times, and that it has an event as long as a job is left
record IsTimed (p : NetworkParts) (t : Terms) (i n : ℕ) (source : SourceOver ℕ) (s : State) : Type 0 where
  pub times : make_times p t i n ++ next_make_at s i ≡ epochs source.first (plain_drawn p t i n)
  pub one : length (filter (is_at i) s.pending) ≡ cond (left_of (cells_at s i) == 0) 0 1

-- what an event of the source leaves there: the times that it tells, its next event, and what it draws
record Makes (source : SourceOver ℕ) (time : ℕ) (cells after : CellData) (made : List ℕ) (pending : List Event) (drawn : List ℕ) : Type 0 where
  pub tells : length made ≡ 1
  pub one : length pending ≡ cond (left_of after == 0) 0 1
  pub next : (times before : List ℕ) → times ++ time ∷ [] ≡ epochs source.first before
      → (times ++ time ∷ []) ++ map (λ (e : Event). time_part e.key.stamp) pending ≡ epochs source.first (before ++ drawn)

source_makes : (p : NetworkParts) (site : Site) (cells : CellData) (e : Event) (source : SourceOver ℕ) (x : Effect) (serial : ℕ)
    → is_source (object_at p.objects site.object).kind ≡ true → is_source (object_at p.objects source.next).kind ≡ false → IsTrue (is_lawful (Source source) cells)
    → has_endless_chain e.key.stamp x.sends ≡ false → left_of cells ≢ 0 → SourceDoes site cells e source x
    → Makes source (time_part e.key.stamp) cells (cells_after_all x.changes cells) (jobs_of is_made x.note) (filter (is_at site.object) (emissions e.key.stamp site.object serial x.sends)) (shown_by (Source source) x.sends)
unfolding emissions has_endless_chain jobs_of idle_effect last_effect make_effect
source_makes p site cells e source x serial is next lawful free some (idles none) = absurd (some none)
source_makes p site cells e source x serial is next lawful free some (makes_last one) =
    let none : filter (is_at site.object) (emissions e.key.stamp site.object serial (job_to site source.next 0 (made_of cells + 1) (time_part e.key.stamp) ∷ [])) ≡ [] =
    none_at site.object e.key.stamp site.object serial (job_to site source.next 0 (made_of cells + 1) (time_part e.key.stamp) ∷ []) (apart_from p site.object source.next is next, tt) in
    let after = last_leaves site source cells (time_part e.key.stamp) (source_shape source.count cells lawful) in
    record {
      tells = refl;
      one = ap (λ (es : List Event). length es) none ∙ sym (ap (λ (c : CellData). cond (left_of c == 0) 0 1) after);
      next = λ times before so_far.
          ap (λ (es : List Event). (times ++ time_part e.key.stamp ∷ []) ++ map (λ (e : Event). time_part e.key.stamp) es) none
          ∙ append-nil (times ++ time_part e.key.stamp ∷ []) ∙ so_far ∙ sym (ap (epochs source.first) (append-nil before));
    }
source_makes p site cells e source x serial is next lawful free some (makes more) =
    let o : ℕ = site.object in
    let every : ℕ = (drawn_at site cells source.every).0 in
    let job : Event = emission e.key.stamp o serial (job_to site source.next 0 (made_of cells + 1) (time_part e.key.stamp)) in
    let again : Event = emission e.key.stamp o (serial + 1) (record { dest = o; delay = every; kind = 1; a = 0; b = 0; rank = site.rank }) in
    let rest : List Event = cond (o == o) (again ∷ []) [] in
    let alone : cond (source.next == o) (job ∷ rest) rest ≡ again ∷ [] =
    ap (λ b. cond b (job ∷ rest) rest) (ne_eqb source.next o (apart_from p o source.next is next)) ∙ ap (λ b. cond b (again ∷ []) []) (eq-eqb o o refl) in
    let after = make_leaves site source cells (time_part e.key.stamp) (source_shape source.count cells lawful) in
    let later : left_of cells - 1 ≢ 0 = λ zero. omega arith in
    let is_left : ◌≡◌ {A = ℕ} (cond (left_of (cells_after_all (make_effect site source cells (time_part e.key.stamp)).changes cells) == 0) 0 1) 1 =
    ap (λ (c : CellData). cond (left_of c == 0) 0 1) after ∙ ap (λ b. cond b 0 1) (ne_eqb (left_of cells - 1) 0 later) in
    let parts = or_parts _ _ free in
    let steps = or_parts _ _ parts.1 in
    record {
      tells = refl;
      one = ap (λ (es : List Event). length es) alone ∙ sym is_left;
      next = λ times before so_far.
          ap (λ (es : List Event). (times ++ time_part e.key.stamp ∷ []) ++ map (λ (e : Event). time_part e.key.stamp) es) alone
          ∙ ap (λ k. (times ++ time_part e.key.stamp ∷ []) ++ k ∷ []) (next_time e.key.stamp every steps.0)
          ∙ epochs-more source.first before times (time_part e.key.stamp) every so_far;
    }

-- one that is alone at its place
few_alone : (es : List Event) → length es ≤ 1 → enqueue_all es [] ≡ es
unfolding enqueue_all enqueue
few_alone [] few = refl
few_alone (e ∷ []) few = refl
few_alone (e ∷ more ∷ es) few = absurd (omega arith)

one_time : (time : ℕ) (jobs : List ℕ) → length jobs ≡ 1 → map (λ (job : ℕ). time) jobs ≡ time ∷ []
one_time time [] one = absurd (omega arith)
one_time time (job ∷ []) one = refl
one_time time (job ∷ more ∷ jobs) one = absurd (omega arith)

nothing_placed : (es : List Event) → enqueue_all [] es ≡ es
unfolding enqueue_all
nothing_placed es = refl

-- while an event is pending a job is left, and no other event is pending there
record IsAlone (left others : ℕ) : Type 0 where
  pub some : left ≢ 0
  pub none : others ≡ 0

is_alone : (left others : ℕ) → suc others ≡ cond (left == 0) 0 1 → IsAlone left others
is_alone left others one = by (left == 0) refl one
  where
    by : (none : Bool) → (left == 0) ≡ none → suc others ≡ cond none 0 1 → IsAlone left others
    by true is one = absurd (omega arith)
    by false is one = record { some = λ zero. (let yes : (left == 0) ≡ true = eq-eqb left 0 zero in cc); none = omega arith }

at_most_one : (b : Bool) → cond b 0 1 ≤ 1
at_most_one true = omega arith
at_most_one false = omega arith

module _ (p : NetworkParts) (t : Terms) (n : ℕ) (told : Key × Note) (after : State) (fine : IsNetwork p) (is_next : next (plain_meaning p) t (after_events n (plain_meaning p) t) ≡ does told after)
    (step : IsNetworkStep p t (after_events n (plain_meaning p) t) told after) where
  abbrev before_it : State
  before_it = after_events n (plain_meaning p) t

  abbrev it : Event
  it = step.step.event

  abbrev it_sends : List Event
  it_sends = (first_firing (after_events n (plain_meaning p) t) step.step.event step.step.effect).events

  pending_before : (i : ℕ) (here : Bool) → is_at i it ≡ here → filter (is_at i) before_it.pending ≡ cond here (it ∷ filter (is_at i) step.step.rest) (filter (is_at i) step.step.rest)
  pending_before i here is_here =
      ap (λ (es : List Event). filter (is_at i) es) step.step.pending ∙ ap (λ b. cond b (it ∷ filter (is_at i) step.step.rest) (filter (is_at i) step.step.rest)) is_here

  pending_after : (i : ℕ) → filter (is_at i) after.pending ≡ enqueue_all (filter (is_at i) it_sends) (filter (is_at i) step.step.rest)
  pending_after i =
      let up : IsAscending after.pending =
      (next-lawful (plain_meaning p) t before_it told after (plain_laws p fine) (reached_lawful p t before_it fine (n, refl)) is_next).ordered in
      let is : after.pending ≡ enqueue_all it_sends step.step.rest = ap (λ (s : State). s.pending) step.step.leaves in
      let A : List Event → Type 0 = IsAscending in
      ap (filter (is_at i)) is ∙ filter-enqueue_all (is_at i) it_sends step.step.rest (subst A is up)

  made_then : (i : ℕ) → make_times p t i (suc n) ≡ make_times p t i n ++ map (λ (job : ℕ). time_part told.0.stamp) (jobs_told is_made i before_it (does told after))
  made_then i = gathered-more (at_time (jobs_told is_made i)) (plain_meaning p) t n (does told after) is_next

  drawn_then : (i : ℕ) → plain_drawn p t i (suc n) ≡ plain_drawn p t i n ++ plain_draws p i before_it (does told after)
  drawn_then i = gathered-more (plain_draws p i) (plain_meaning p) t n (does told after) is_next

  timed_here : (source : SourceOver ℕ) → IsSourceAt p it.key.dest source → IsTimed p t it.key.dest n source before_it → IsTimed p t it.key.dest (suc n) source after
  timed_here source is before =
      let d : ℕ = it.key.dest in
      let cells : CellData = cells_at before_it d in
      let x : Effect = step.step.effect in
      let here : (it.key.dest == d) ≡ true = eq-eqb d d refl in
      let D : KindOver ℕ → Type 0 = λ kind. EventDoes p.objects (site_of p d) cells it kind x in
      let L : KindOver ℕ → Type 0 = λ kind. IsTrue (is_lawful kind cells) in
      let F : KindOver ℕ → Type 0 = IsKind (IsLink p.objects) in
      let good : IsKind (IsLink p.objects) (Source source) = subst F is (object_fine p fine d step.exists).kind in
      let was : filter (is_at d) before_it.pending ≡ it ∷ filter (is_at d) step.step.rest = pending_before d true here in
      let alone : IsAlone (left_of cells) (length (filter (is_at d) step.step.rest)) =
      is_alone (left_of cells) (length (filter (is_at d) step.step.rest)) (sym (ap (λ (es : List Event). length es) was) ∙ before.one) in
      let none : filter (is_at d) step.step.rest ≡ [] = empty_list (filter (is_at d) step.step.rest) alone.none in
      let makes : Makes source (time_part it.key.stamp) cells (cells_after_all x.changes cells) (jobs_of is_made x.note) (filter (is_at d) it_sends) (shown_by (Source source) x.sends) =
      source_makes p (site_of p d) cells it source x (state_at before_it.objects d).sent (ap is_source is) good.1.takes (subst L is step.cells) step.step.no_chain alone.some (subst D is step.does_so) in
      let stays : cells_at after d ≡ cells_after_all x.changes cells = cells_here p t before_it told after step in
      let few : length (filter (is_at d) it_sends) ≤ 1 = (let at_most = at_most_one (left_of (cells_after_all x.changes cells) == 0) in let is_one = makes.one in omega arith) in
      let now : filter (is_at d) after.pending ≡ filter (is_at d) it_sends =
      pending_after d ∙ ap (λ (es : List Event). enqueue_all (filter (is_at d) it_sends) es) none ∙ few_alone (filter (is_at d) it_sends) few in
      let time : time_part told.0.stamp ≡ time_part it.key.stamp = ap (λ (r : Key × Note). time_part r.0.stamp) step.step.tells in
      let jobs : jobs_told is_made d before_it (does told after) ≡ jobs_of is_made x.note = told_here is_made d before_it after told it x.note true step.step.tells here in
      let made : map (λ (job : ℕ). time_part told.0.stamp) (jobs_told is_made d before_it (does told after)) ≡ time_part it.key.stamp ∷ [] =
      one_time (time_part told.0.stamp) (jobs_told is_made d before_it (does told after)) (ap (λ (js : List ℕ). length js) jobs ∙ makes.tells) ∙ ap (λ k. k ∷ []) time in
      let drawn : plain_draws p d before_it (does told after) ≡ shown_by (Source source) x.sends =
      drawn_here p t before_it told after step d true here ∙ ap (λ (kind : KindOver ℕ). shown_by kind x.sends) is in
      let so_far : make_times p t d n ++ time_part it.key.stamp ∷ [] ≡ epochs source.first (plain_drawn p t d n) =
      sym (ap (λ (es : List Event). make_times p t d n ++ map (λ (e : Event). time_part e.key.stamp) es) (was ∙ ap (λ (es : List Event). it ∷ es) none)) ∙ before.times in
      record {
        times = ap (λ (ts : List ℕ). ts ++ next_make_at after d) (made_then d ∙ ap (λ (ts : List ℕ). make_times p t d n ++ ts) made)
            ∙ ap (λ (es : List Event). (make_times p t d n ++ time_part it.key.stamp ∷ []) ++ map (λ (e : Event). time_part e.key.stamp) es) now
            ∙ makes.next (make_times p t d n) (plain_drawn p t d n) so_far
            ∙ sym (ap (epochs source.first) (drawn_then d ∙ ap (λ (ds : List ℕ). plain_drawn p t d n ++ ds) drawn));
        one = ap (λ (es : List Event). length es) now ∙ makes.one ∙ sym (ap (λ (c : CellData). cond (left_of c == 0) 0 1) stays);
      }

  timed_elsewhere : (i : ℕ) (source : SourceOver ℕ) → IsSourceAt p i source → i ≢ it.key.dest → IsTimed p t i n source before_it → IsTimed p t i (suc n) source after
  timed_elsewhere i source is apart before =
      let d : ℕ = it.key.dest in
      let x : Effect = step.step.effect in
      let away : (it.key.dest == i) ≡ false = ne_eqb d i (λ same. apart (sym same)) in
      let was : filter (is_at i) before_it.pending ≡ filter (is_at i) step.step.rest = pending_before i false away in
      let none : filter (is_at i) it_sends ≡ [] =
      none_at i it.key.stamp d (state_at before_it.objects d).sent x.sends
      (sends_elsewhere p i (site_of p d) (cells_at before_it d) it (object_at p.objects d).kind x (ap is_source is) (object_fine p fine d step.exists).kind (λ same. apart (sym same)) step.does_so) in
      let now : filter (is_at i) after.pending ≡ filter (is_at i) before_it.pending =
      pending_after i ∙ ap (λ (es : List Event). enqueue_all es (filter (is_at i) step.step.rest)) none ∙ nothing_placed (filter (is_at i) step.step.rest) ∙ sym was in
      let jobs : jobs_told is_made i before_it (does told after) ≡ [] = told_here is_made i before_it after told it x.note false step.step.tells away in
      let made : make_times p t i (suc n) ≡ make_times p t i n =
      made_then i ∙ ap (λ (js : List ℕ). make_times p t i n ++ map (λ (job : ℕ). time_part told.0.stamp) js) jobs ∙ append-nil (make_times p t i n) in
      let drawn : plain_drawn p t i (suc n) ≡ plain_drawn p t i n =
      drawn_then i ∙ ap (λ (ds : List ℕ). plain_drawn p t i n ++ ds) (drawn_here p t before_it told after step i false away) ∙ append-nil (plain_drawn p t i n) in
      record {
        times = ap (λ (es : List Event). make_times p t i (suc n) ++ map (λ (e : Event). time_part e.key.stamp) es) now
            ∙ ap (λ (ts : List ℕ). ts ++ next_make_at before_it i) made ∙ before.times ∙ sym (ap (epochs source.first) drawn);
        one = ap (λ (es : List Event). length es) now ∙ before.one
            ∙ sym (ap (λ (c : CellData). cond (left_of c == 0) 0 1) (cells_elsewhere p t before_it told after step i apart));
      }

  timed_on : (i : ℕ) (source : SourceOver ℕ) → IsSourceAt p i source → IsTimed p t i n source before_it → IsTimed p t i (suc n) source after
  timed_on i source is before = by (eqb i it.key.dest) refl
    where
      by : (here : Bool) → eqb i step.step.event.key.dest ≡ here → IsTimed p t i (suc n) source after
      by true here_is =
          let same : i ≡ it.key.dest = eqb-true i it.key.dest here_is in
          let P : ℕ → Type 0 = λ j. IsSourceAt p j source → IsTimed p t j n source before_it → IsTimed p t j (suc n) source after in
          subst P (sym same) (timed_here source) is before
      by false apart_is = timed_elsewhere i source is (λ same. let yes = eq-eqb i it.key.dest same in cc) before

-- at the start a source has its first event alone

pub sum-zero : {X : Type 0} (xs : List X) → sum_by (λ (x : X). 0) xs ≡ 0
sum-zero [] = refl
sum-zero (x ∷ xs) = omega (arith, sum_by-cons (λ x. 0) x xs, sum-zero xs)

range_split : (F : ℕ → ℕ) (a n J : ℕ) → sum_by F (range_with_len a (n + J)) ≡ sum_by F (range_with_len a n) + sum_by F (range_with_len (a + n) J)
range_split F a zero J =
    let no : 0 + J ≡ J = omega arith in
    let at : a + 0 ≡ a = omega arith in
    omega (arith, ap (λ j. sum_by F (range_with_len a j)) no, ap (λ b. sum_by F (range_with_len b J)) at)
range_split F a (suc n) J =
    let more : suc n + J ≡ suc (n + J) = omega arith in
    let at : a + 1 + n ≡ a + suc n = omega arith in
    omega (
      arith,
      ap (λ j. sum_by F (range_with_len a j)) more,
      sum_by-cons F a (range_with_len (a + 1) (n + J)),
      sum_by-cons F a (range_with_len (a + 1) n),
      range_split F (a + 1) n J,
      ap (λ b. sum_by F (range_with_len b J)) at,
    )

pub same_range : (F G : ℕ → ℕ) (most a n : ℕ) → a + n ≤ most → ((k : ℕ) → k < most → F k ≡ G k) → sum_by F (range_with_len a n) ≡ sum_by G (range_with_len a n)
same_range F G most a zero room same = refl
same_range F G most a (suc n) room same =
    let here : F a ≡ G a = same a (omega arith) in
    omega (arith, sum_by-cons F a (range_with_len (a + 1) n), sum_by-cons G a (range_with_len (a + 1) n), same_range F G most (a + 1) n (omega arith) same)

-- a list by its places
by_places : (xs : List ℕ) → map (slice_index xs) (range_with_len 0 (length xs)) ≡ xs
by_places xs =
    let long : length (map (slice_index xs) (range_with_len 0 (length xs))) ≡ length xs = length-map-range_with_len (slice_index xs) 0 (length xs) in
    ext_get_or 0 (map (slice_index xs) (range_with_len 0 (length xs))) xs long
    (λ i within. get_or-map-range_with_len (slice_index xs) 0 (length xs) i i 0 (omega arith) (omega arith))

-- what one source weighs among all
source_weighs : (p : NetworkParts) (i value : ℕ) (h : ℕ → ℕ) → is_source (object_at p.objects i).kind ≡ true → h i ≡ value → ((j : ℕ) → j ≢ i → h j ≡ 0)
    → sum_by h (source_numbers p.objects) ≡ value
unfolding sources_below
source_weighs p i value h is at apart =
    let f : ℕ → ℕ = λ j. cond (is_source (object_at p.objects j).kind) (h j) 0 in
    let all : sum_by h (source_numbers p.objects) ≡ sum_by f (range_with_len 0 (length p.objects)) =
    sum_by-filter h (λ number. is_source (object_at p.objects number).kind) (range_with_len 0 (length p.objects)) in
    let change : sum_by f (range_with_len 0 (length p.objects)) + 0 ≡ sum_by (λ (j : ℕ). 0) (range_with_len 0 (length p.objects)) + f i =
    range-change f (λ j. 0) 0 (length p.objects) i (omega arith) (let exists = source_exists p i is in omega arith)
    (λ j other. by j (is_source (object_at p.objects j).kind) (apart j other)) in
    let here : f i ≡ value = ap (λ b. cond b (h i) 0) is ∙ at in
    omega (arith, all, change, here, sum-zero (range_with_len 0 (length p.objects)))
  where
    by : (j : ℕ) (b : Bool) → h j ≡ 0 → cond b (h j) 0 ≡ 0
    by j true none = none
    by j false none = refl

module _ (p : NetworkParts) (t : Terms) (i : ℕ) (source : SourceOver ℕ) (fine : IsNetwork p) (is : IsSourceAt p i source) where
  -- a sum over what is pending there at the start
  first_sum : (g : ℕ → ℕ) → sum_by (λ (e : Event). cond (is_at i e) (g (time_part e.key.stamp)) 0) (initial_state (plain_meaning p)).pending ≡ g source.first
  unfolding plain_meaning network_meaning
  first_sum g =
      let m = plain_meaning p in
      let f : Event → ℕ = λ e. cond (is_at i e) (g (time_part e.key.stamp)) 0 in
      let S : ℕ = length (source_numbers p.objects) in
      let J : ℕ = length p.jobs in
      let F : ℕ → ℕ = λ k. f (start_event m k) in
      let h : ℕ → ℕ = λ j. cond (j == i) (g (time_part (first_time_of (object_at p.objects j).kind * 65536))) 0 in
      let none : 0 + S ≡ S = omega arith in
      let also : S + 0 ≡ S = omega arith in
      let starts : sum_by f (initial_state m).pending ≡ sum_by F (range_with_len 0 (S + J)) = sum_at_start f m ∙ sum_by-map f (start_event m) (range_with_len 0 (S + J)) in
      let jobs : sum_by F (range_with_len (S + 0) J) ≡ sum_by (λ (k : ℕ). 0) (range_with_len 0 J) = shifted F (λ k. 0) S J 0 J (omega arith) (λ k within. no_job k within) in
      let sources : sum_by F (range_with_len 0 S) ≡ sum_by h (source_numbers p.objects) =
      same_range F (λ k. h (slice_index (source_numbers p.objects) k)) S 0 S (omega arith) (λ k within. of_source k within)
      ∙ sym (sum_by-map h (slice_index (source_numbers p.objects)) (range_with_len 0 S))
      ∙ ap (λ (xs : List ℕ). sum_by h xs) (by_places (source_numbers p.objects)) in
      let one : h i ≡ g source.first =
      ap (λ b. cond b (g (time_part (first_time_of (object_at p.objects i).kind * 65536))) 0) (eq-eqb i i refl)
      ∙ ap (λ (kind : KindOver ℕ). g (time_part (first_time_of kind * 65536))) is ∙ ap g (whole source.first) in
      omega (
        arith,
        starts,
        range_split F 0 S J,
        ap (λ b. sum_by F (range_with_len b J)) none,
        ap (λ b. sum_by F (range_with_len b J)) also,
        jobs,
        sum-zero (range_with_len 0 J),
        sources,
        source_weighs p i (g source.first) h (ap is_source is) one (λ j apart. ap (λ b. cond b (g (time_part (first_time_of (object_at p.objects j).kind * 65536))) 0) (ne_eqb j i apart)),
      )
    where
      whole : (time : ℕ) → time_part (time * 65536) ≡ time
      whole time = omega arith

      of_source : (k : ℕ) → k < length (source_numbers p.objects)
          → cond (is_at i (start_event (plain_meaning p) k)) (g (time_part (start_event (plain_meaning p) k).key.stamp)) 0
          ≡ cond (slice_index (source_numbers p.objects) k == i) (g (time_part (first_time_of (object_at p.objects (slice_index (source_numbers p.objects) k)).kind * 65536))) 0
      of_source k within =
          start_cases (λ e. cond (is_at i e) (g (time_part e.key.stamp)) 0 ≡ cond (slice_index (source_numbers p.objects) k == i) (g (time_part (first_time_of (object_at p.objects (slice_index (source_numbers p.objects) k)).kind * 65536))) 0) p k
          (λ early. ap (λ stamp. cond (slice_index (source_numbers p.objects) k == i) (g (time_part stamp)) 0) (no_step (first_time_of (object_at p.objects (slice_index (source_numbers p.objects) k)).kind)))
          (λ past. absurd (omega arith))
        where
          no_step : (time : ℕ) → time * 65536 + 0 ≡ time * 65536
          no_step time = omega arith

      no_job : (k : ℕ) → k < length p.jobs → cond (is_at i (start_event (plain_meaning p) (length (source_numbers p.objects) + k))) (g (time_part (start_event (plain_meaning p) (length (source_numbers p.objects) + k)).key.stamp)) 0 ≡ 0
      no_job k within =
          let S : ℕ = length (source_numbers p.objects) in
          start_cases (λ e. cond (is_at i e) (g (time_part e.key.stamp)) 0 ≡ 0) p (S + k)
          (λ early. absurd (omega arith))
          (λ past.
          let job = fine.jobs (S + k - S) (record { time = 0; at = 0; rank = 0 }) (omega arith) in
          let e : Event = event_of_start (S + k) (job_start p (S + k - S)) in
          ap (λ b. cond b (g (time_part e.key.stamp)) 0) (ne_eqb (job_start p (S + k - S)).dest i (apart_from p i (job_start p (S + k - S)).dest (ap is_source is) job.at.takes)))

  timed_first : IsTimed p t i 0 source (after_events 0 (plain_meaning p) t)
  unfolding gathered after_events
  timed_first =
      let pending : List Event = (initial_state (plain_meaning p)).pending in
      let there : List Event = filter (is_at i) pending in
      let count : length there ≡ 1 = length-filter (is_at i) pending ∙ first_sum (λ time. 1) in
      let times : sum_by (λ (e : Event). time_part e.key.stamp) there ≡ source.first = sum_by-filter (λ (e : Event). time_part e.key.stamp) (is_at i) pending ∙ first_sum (λ time. time) in
      let kind : cells_at (initial_state (plain_meaning p)) i ≡ first_cells_of (Source source) = cells_at_start p i (source_exists p i (ap is_source is)) ∙ ap first_cells_of is in
      let some : source.count ≢ 0 = (let F : KindOver ℕ → Type 0 = IsKind (IsLink p.objects) in
      let good : IsKind (IsLink p.objects) (Source source) = subst F is (object_fine p fine i (source_exists p i (ap is_source is))).kind in λ zero. (let least = good.0.some in omega arith)) in
      record {
        times = single there count times;
        one = count ∙ sym (ap (λ (c : CellData). cond (left_of c == 0) 0 1) kind ∙ ap (λ b. cond b 0 1) (ne_eqb source.count 0 some));
      }
    where
      single : (es : List Event) → length es ≡ 1 → sum_by (λ (e : Event). time_part e.key.stamp) es ≡ source.first → map (λ (e : Event). time_part e.key.stamp) es ≡ source.first ∷ []
      single [] one total = absurd (omega arith)
      single (e ∷ []) one total = ap (λ k. k ∷ []) (let own : time_part e.key.stamp ≡ source.first = omega arith in own)
      single (e ∷ more ∷ es) one total = absurd (omega arith)

plain_sources : (p : NetworkParts) (t : Terms) (i : ℕ) (source : SourceOver ℕ) → IsNetwork p → IsSourceAt p i source → (n : ℕ) → IsTimed p t i n source (after_events n (plain_meaning p) t)
plain_sources p t i source fine is =
    let m = plain_meaning p in
    each_number m t (λ n. IsTimed p t i n source (after_events n m t)) (timed_first p t i source fine is)
    (λ n stop is_next before.
    let made : make_times p t i (suc n) ≡ make_times p t i n = gathered-more (at_time (jobs_told is_made i)) m t n (stops stop) is_next ∙ append-nil (make_times p t i n) in
    let drawn : plain_drawn p t i (suc n) ≡ plain_drawn p t i n = gathered-more (plain_draws p i) m t n (stops stop) is_next ∙ append-nil (plain_drawn p t i n) in
    let S : State → Type 0 = λ s. IsTimed p t i (suc n) source s in
    subst S (sym (after_events-stops m t n stop is_next)) (record {
      times = ap (λ (ts : List ℕ). ts ++ next_make_at (after_events n m t) i) made ∙ before.times ∙ sym (ap (epochs source.first) drawn);
      one = before.one;
    }))
    (λ n told after is_next before.
    let S : State → Type 0 = λ s. IsTimed p t i (suc n) source s in
    subst S (sym (after_events-does m t n told after is_next))
    (timed_on p t n told after fine is_next (network_step p t (after_events n m t) told after fine (n, refl) is_next) i source is before))

pub sources_law : SourcesLaw
sources_law p t i n source fine is =
    ap (λ (s : State). make_times p t i n ++ next_make_at s i) (same_after p t n)
    ∙ (plain_sources p t i source fine is n).times
    ∙ sym (ap (epochs source.first) (same_drawn p t i n))
