-- Each object draws from its own stream.
use Rattle.std.proofs.Common.{◌≡◌, ◌≢◌, ℕ, suc, ◌+◌, ◌<◌, Bool, true, false, List, [], ◌∷◌, ◌++◌, length, map, inl, inr, refl, sym, ap, ◌∙◌, subst, arith, eqb, eqb-true, eq-eqb, ne_eqb, append-nil, length-append, get_or}
use Rattle.std.specs.Prelude.{IsTrue, slice_index, ◌==◌, if◌then◌else◌}
use Rattle.std.specs.List.{range_with_len}
use Rattle.std.proofs.lemmas.List.FromFn.{map-range_with_len_more, get_or-map-range_with_len}
use Rattle.event_key.specs.declared.key.Key.{Key}
use Rattle.event_key.specs.Stamps.{time_part}
use Rattle.delta_exchange.specs.Changes.{CellData, cells_after_all}
use Rattle.model_core.specs.declared.effect.Effect.{Effect}
use Rattle.model_core.specs.declared.effect.Outcome.{Outcome}
use Rattle.model_core.specs.declared.effect.Outcome.TheVariants.{Goes, Fails}
use Rattle.model_core.specs.declared.event.Event.{Event}
use Rattle.model_core.specs.declared.event.Send.{Send}
use Rattle.model_core.specs.declared.note.Note.{Note}
use Rattle.random_streams.specs.declared.law.Law.{Law}
use Rattle.random_streams.specs.Laws.{draw}
use Rattle.sim_spec.specs.declared.terms.Terms.{Terms}
use Rattle.sim_spec.specs.State.{State, object_at as state_at}
use Rattle.sim_spec.specs.Run.{Next, stops, does}
use Rattle.queue_models.specs.declared.kind.KindOver.{KindOver}
use Rattle.queue_models.specs.declared.kind.KindOver.TheVariants.{Source, Station}
use Rattle.queue_models.specs.declared.site.Site.{Site}
use Rattle.queue_models.specs.declared.source.Source.{Source as SourceOver}
use Rattle.queue_models.specs.declared.station.Station.{Station as StationOver}
use Rattle.queue_models.specs.Kinds.{is_lawful, first_cells_of, effect_at}
use Rattle.queue_models.specs.Meaning.{plain_meaning, network_meaning, site_of}
use Rattle.queue_models.specs.Objects.{Item, NetworkParts, object_at}
use Rattle.queue_models.specs.Parts.{IsNetwork}
use Rattle.queue_models.specs.Sites.{place_of, job_to}
use Rattle.queue_models.specs.Telling.{as_told}
use Rattle.queue_models.specs.Sources.{idle_effect, last_effect, make_effect}
use Rattle.queue_models.specs.Stations.{take_effect, wait_effect, lose_effect, serve_effect, free_effect}
use Rattle.run_laws.specs.Reached.{after_events, gathered}
use Rattle.run_laws.proofs.Induction.{after_events-does, after_events-stops, gathered-more, each_number}
use Rattle.subject_laws.specs.Stations.{cells_at}
use Rattle.subject_laws.proofs.QueueLemmas.Cases.{DrawsOnce, SourceDoes, idles, makes_last, makes, StationDoes, takes, waits, loses, serves, frees, PlainDoes, hands_on, leaves, EventDoes}
use Rattle.subject_laws.proofs.QueueLemmas.Leaves.{station_shape, source_shape, take_leaves, wait_leaves, serve_leaves, free_leaves, last_leaves, make_leaves, no_change_leaves}
use Rattle.subject_laws.proofs.QueueLemmas.NetworkStarts.{cells_at_start}
use Rattle.subject_laws.proofs.QueueLemmas.PlainRuns.{SameNext, both_stop, both_do, same_next, same_gathered}
use Rattle.subject_laws.proofs.QueueLemmas.NetworkSteps.{IsNetworkStep, network_step, cells_here, cells_elsewhere}
use Rattle.subject_laws.specs.Draws.{draw_place, nth_draw, law_of, as_shown, shown_by, sends_of, first_sends, draws_next, drawn_by}
use Rattle.subject_laws.specs.DrawLaws.{first_draws, EachDrawsItsOwn, DrawsStay}

-- what an event draws at its object
abbrev DrawsAt : Site → CellData → KindOver ℕ → List Send → CellData → Type 0
DrawsAt site cells kind sends after = DrawsOnce site cells kind sends (place_of after)

place_same : (a b : CellData) → a ≡ b → place_of a ≡ place_of b
place_same a b same = ap (λ (c : CellData). place_of c) same

source_draws : (site : Site) (cells : CellData) (e : Event) (source : SourceOver ℕ) (x : Effect) → IsTrue (is_lawful (Source source) cells) → SourceDoes site cells e source x
    → DrawsAt site cells (Source source) x.sends (cells_after_all x.changes cells)
unfolding idle_effect last_effect make_effect cells_after_all
source_draws site cells e source x lawful (idles none) = inl (refl, refl)
source_draws site cells e source x lawful (makes_last one) =
    inl (refl, place_same _ _ (last_leaves site source cells (time_part e.key.stamp) (source_shape source.count cells lawful)))
source_draws site cells e source x lawful (makes more) =
    inr (refl, place_same _ _ (make_leaves site source cells (time_part e.key.stamp) (source_shape source.count cells lawful)))

station_draws : (site : Site) (cells : CellData) (e : Event) (station : StationOver ℕ) (x : Effect) → IsTrue (is_lawful (Station station) cells) → StationDoes site cells e station x
    → DrawsAt site cells (Station station) x.sends (cells_after_all x.changes cells)
unfolding take_effect wait_effect lose_effect serve_effect free_effect cells_after_all
station_draws site cells e station x lawful (takes other free) =
    inr (refl, place_same _ _ (take_leaves site station cells e (station_shape station.servers station.line cells lawful)))
station_draws site cells e station x lawful (waits other full room) =
    inl (refl, place_same _ _ (wait_leaves cells e (station_shape station.servers station.line cells lawful)))
station_draws site cells e station x lawful (loses other full none) = inl (refl, refl)
station_draws site cells e station x lawful (serves done some) =
    inr (refl, place_same _ _ (serve_leaves site station cells e (station_shape station.servers station.line cells lawful)))
station_draws site cells e station x lawful (frees done none) =
    inl (refl, place_same _ _ (free_leaves site station cells e (station_shape station.servers station.line cells lawful)))

draws_alone : (objects : List Item) (site : Site) (cells : CellData) (e : Event) (kind : KindOver ℕ) (x : Effect) → PlainDoes objects site cells e kind x
    → DrawsAt site cells kind x.sends (cells_after_all x.changes cells)
draws_alone objects site cells e kind x (hands_on {dest = dest} {delay = delay} there moving after draws) =
    subst (DrawsOnce site cells kind (job_to site dest delay e.a e.b ∷ [])) (sym (place_same _ _ after)) draws
draws_alone objects site cells e kind x (leaves none) = inl (none, place_same _ _ (no_change_leaves cells))

draws_at : (objects : List Item) (site : Site) (cells : CellData) (e : Event) (kind : KindOver ℕ) (x : Effect) → IsTrue (is_lawful kind cells) → EventDoes objects site cells e kind x
    → DrawsAt site cells kind x.sends (cells_after_all x.changes cells)
draws_at objects site cells e (Source source) x lawful does_so = source_draws site cells e source x lawful does_so
draws_at objects site cells e (Station station) x lawful does_so = station_draws site cells e station x lawful does_so
draws_at objects site cells e other x lawful does_so = draws_alone objects site cells e other x does_so

-- an object drew its first draws, and stands behind the words that they read
record DrewItsOwn (p : NetworkParts) (i : ℕ) (s : State) (drawn : List ℕ) : Type 0 where
  pub values : drawn ≡ first_draws p.seed i (object_at p.objects i).kind (length drawn)
  pub place : place_of (cells_at s i) ≡ draw_place p.seed i (law_of (object_at p.objects i).kind) (length drawn)

drew_none : (p : NetworkParts) (i : ℕ) (s after : State) (drawn new : List ℕ) → new ≡ [] → place_of (cells_at after i) ≡ place_of (cells_at s i)
    → DrewItsOwn p i s drawn → DrewItsOwn p i after (drawn ++ new)
drew_none p i s after drawn new none stays before =
    let same : drawn ++ new ≡ drawn = ap (λ xs. drawn ++ xs) none ∙ append-nil drawn in
    let D : List ℕ → Type 0 = λ xs. DrewItsOwn p i after xs in
    subst D (sym same) (record { values = before.values; place = stays ∙ before.place })

drew_one : (p : NetworkParts) (i : ℕ) (s after : State) (drawn new : List ℕ)
    → (let kind = (object_at p.objects i).kind in
    let value = draw p.seed i (place_of (cells_at s i)) (law_of kind) in
    new ≡ as_shown kind value.0 ∷ [] → place_of (cells_at after i) ≡ value.1
    → DrewItsOwn p i s drawn → DrewItsOwn p i after (drawn ++ new))
unfolding draw_place
drew_one p i s after drawn new one moves before =
    let kind : KindOver ℕ = (object_at p.objects i).kind in
    let law : Law = law_of kind in
    let L : ℕ = length drawn in
    let f : ℕ → ℕ = λ k. as_shown kind (nth_draw p.seed i law k) in
    let value : as_shown kind (draw p.seed i (place_of (cells_at s i)) law).0 ≡ f L = ap (λ place. as_shown kind (draw p.seed i place law).0) before.place in
    let grown : drawn ++ new ≡ drawn ++ f L ∷ [] = ap (λ xs. drawn ++ xs) (one ∙ ap (λ v. v ∷ []) value) in
    let long : length (drawn ++ f L ∷ []) ≡ L + 1 = length-append drawn (f L ∷ []) in
    let next : suc L ≡ length (drawn ++ f L ∷ []) = omega arith in
    let D : List ℕ → Type 0 = λ xs. DrewItsOwn p i after xs in
    subst D (sym grown) (record {
      values = ap (λ xs. xs ++ f L ∷ []) before.values ∙ sym (map-range_with_len_more f 0 L L (omega arith)) ∙ ap (λ k. map f (range_with_len 0 k)) (sym long);
      place = moves ∙ ap (λ place. (draw p.seed i place law).1) before.place ∙ ap (λ k. draw_place p.seed i law k) next;
    })

-- what is drawn in the run of the plain meaning
abbrev pub plain_draws : NetworkParts → ℕ → State → Next → List ℕ
plain_draws p i = draws_next (plain_meaning p) (object_at p.objects i).kind i

abbrev pub plain_drawn : NetworkParts → Terms → ℕ → ℕ → List ℕ
plain_drawn p t i n = gathered (plain_draws p i) n (plain_meaning p) t

-- what an event draws at its object and elsewhere
pub drawn_here : (p : NetworkParts) (t : Terms) (s : State) (told : Key × Note) (after : State) (n : IsNetworkStep p t s told after) (i : ℕ) (here : Bool) → (n.step.event.key.dest == i) ≡ here
    → plain_draws p i s (does told after) ≡ (if here then shown_by (object_at p.objects i).kind n.step.effect.sends else [])
drawn_here p t s told after n i here is_here =
    let kind : KindOver ℕ = (object_at p.objects i).kind in
    let sends : first_sends (plain_meaning p) s s.pending ≡ n.step.effect.sends =
    ap (first_sends (plain_meaning p) s) n.step.pending ∙ ap sends_of n.step.outcome in
    ap (λ (r : Key × Note). if r.0.dest == i then shown_by kind (first_sends (plain_meaning p) s s.pending) else []) n.step.tells
    ∙ ap (λ (xs : List Send). if n.step.event.key.dest == i then shown_by kind xs else []) sends
    ∙ ap (λ b. if b then shown_by kind n.step.effect.sends else []) is_here

own_on : (p : NetworkParts) (t : Terms) (s : State) (told : Key × Note) (after : State) (n : IsNetworkStep p t s told after) (i : ℕ) (drawn : List ℕ)
    → DrewItsOwn p i s drawn → DrewItsOwn p i after (drawn ++ plain_draws p i s (does told after))
own_on p t s told after n i drawn before = by (eqb i n.step.event.key.dest) refl
  where
    at_event : (drawn : List ℕ) → DrewItsOwn p n.step.event.key.dest s drawn
        → DrewItsOwn p n.step.event.key.dest after (drawn ++ plain_draws p n.step.event.key.dest s (does told after))
    at_event drawn before =
        let d : ℕ = n.step.event.key.dest in
        let shown : plain_draws p d s (does told after) ≡ shown_by (object_at p.objects d).kind n.step.effect.sends =
        drawn_here p t s told after n d true (eq-eqb d d refl) in
        let moves : place_of (cells_at after d) ≡ place_of (cells_after_all n.step.effect.changes (cells_at s d)) = place_same _ _ (cells_here p t s told after n) in
        elim (draws_at p.objects (site_of p d) (cells_at s d) n.step.event (object_at p.objects d).kind n.step.effect n.cells n.does_so) [
          | inl none ↦ drew_none p d s after drawn (plain_draws p d s (does told after)) (shown ∙ none.0) (moves ∙ none.1) before
          | inr one ↦ drew_one p d s after drawn (plain_draws p d s (does told after)) (shown ∙ one.0) (moves ∙ one.1) before
        ]

    by : (here : Bool) → eqb i n.step.event.key.dest ≡ here → DrewItsOwn p i after (drawn ++ plain_draws p i s (does told after))
    by true here_is =
        let same : i ≡ n.step.event.key.dest = eqb-true i n.step.event.key.dest here_is in
        let P : ℕ → Type 0 = λ j. DrewItsOwn p j s drawn → DrewItsOwn p j after (drawn ++ plain_draws p j s (does told after)) in
        subst P (sym same) (at_event drawn) before
    by false apart_is =
        let apart : i ≢ n.step.event.key.dest = λ same. let yes = eq-eqb i n.step.event.key.dest same in cc in
        let shown : plain_draws p i s (does told after) ≡ [] = drawn_here p t s told after n i false (ne_eqb n.step.event.key.dest i (λ same. apart (sym same))) in
        drew_none p i s after drawn (plain_draws p i s (does told after)) shown (place_same _ _ (cells_elsewhere p t s told after n i apart)) before

first_place : (kind : KindOver ℕ) → place_of (first_cells_of kind) ≡ 0
first_place (Source source) = refl
first_place (Station station) = refl
first_place other = refl

own : (p : NetworkParts) (t : Terms) (i : ℕ) → IsNetwork p → i < length p.objects → (n : ℕ) → DrewItsOwn p i (after_events n (plain_meaning p) t) (plain_drawn p t i n)
unfolding gathered after_events draw_place
own p t i fine exists =
    let m = plain_meaning p in
    each_number m t (λ n. DrewItsOwn p i (after_events n m t) (plain_drawn p t i n))
    (record { values = refl; place = place_same _ _ (cells_at_start p i exists) ∙ first_place (object_at p.objects i).kind })
    (λ n stop is_next before.
    let D : List ℕ → Type 0 = λ xs. DrewItsOwn p i (after_events (suc n) m t) xs in
    let S : State → Type 0 = λ s. DrewItsOwn p i s (plain_drawn p t i n) in
    subst D (sym (gathered-more (plain_draws p i) m t n (stops stop) is_next ∙ append-nil (plain_drawn p t i n)))
    (subst S (sym (after_events-stops m t n stop is_next)) before))
    (λ n told after is_next before.
    let s : State = after_events n m t in
    let D : List ℕ → Type 0 = λ xs. DrewItsOwn p i (after_events (suc n) m t) xs in
    let S : State → Type 0 = λ s. DrewItsOwn p i s (plain_drawn p t i n ++ plain_draws p i (after_events n m t) (does told after)) in
    subst D (sym (gathered-more (plain_draws p i) m t n (does told after) is_next))
    (subst S (sym (after_events-does m t n told after is_next))
    (own_on p t s told after (network_step p t s told after fine (n, refl) is_next) i (plain_drawn p t i n) before)))

-- what is drawn is the same, whatever is told
first_sends-same : (p : NetworkParts) (s : State) (pending : List Event) → first_sends (network_meaning p) s pending ≡ first_sends (plain_meaning p) s pending
unfolding network_meaning plain_meaning
first_sends-same p s [] = refl
first_sends-same p s (e ∷ rest) =
    same_sends (object_at p.objects e.key.dest) (state_at s.objects e.key.dest).cells
    (effect_at (site_of p e.key.dest) (object_at p.objects e.key.dest).kind (state_at s.objects e.key.dest).cells e)
  where
    same_sends : (object : Item) (cells : CellData) (outcome : Outcome) → sends_of (as_told object cells outcome) ≡ sends_of outcome
    same_sends object cells (Goes x) = refl
    same_sends object cells (Fails code) = refl

draws-same : (p : NetworkParts) (i : ℕ) (s : State) (one other : Next) → SameNext p one other
    → draws_next (network_meaning p) (object_at p.objects i).kind i s one ≡ draws_next (plain_meaning p) (object_at p.objects i).kind i s other
draws-same p i s one other (both_stop stop) = refl
draws-same p i s one other (both_do key cells x after) =
    ap (λ sends. if key.dest == i then shown_by (object_at p.objects i).kind sends else []) (first_sends-same p s s.pending)

pub same_drawn : (p : NetworkParts) (t : Terms) (i n : ℕ) → drawn_by p t i n ≡ plain_drawn p t i n
same_drawn p t i n =
    same_gathered p t (draws_next (network_meaning p) (object_at p.objects i).kind i) (plain_draws p i) (λ s. draws-same p i s _ _ (same_next p t s)) n

pub draws_own : EachDrawsItsOwn
draws_own p t i n fine exists =
    subst (λ (drawn : List ℕ). drawn ≡ first_draws p.seed i (object_at p.objects i).kind (length drawn)) (sym (same_drawn p t i n)) (own p t i fine exists n).values

-- a draw by its number
draw_number : (p : NetworkParts) (t : Terms) (i n k : ℕ) → IsNetwork p → i < length p.objects → k < length (drawn_by p t i n)
    → slice_index (drawn_by p t i n) k ≡ as_shown (object_at p.objects i).kind (nth_draw p.seed i (law_of (object_at p.objects i).kind) k)
draw_number p t i n k fine exists within =
    let kind : KindOver ℕ = (object_at p.objects i).kind in
    let f : ℕ → ℕ = λ k. as_shown kind (nth_draw p.seed i (law_of kind) k) in
    ap (λ (xs : List ℕ). get_or xs k 0) (draws_own p t i n fine exists)
    ∙ get_or-map-range_with_len f 0 (length (drawn_by p t i n)) k k 0 within (omega arith)

pub draws_stay : DrawsStay
draws_stay p q t u i n m k fine_p fine_q in_p in_q seed kind within_p within_q =
    draw_number p t i n k fine_p in_p within_p
    ∙ ap (λ s. as_shown (object_at p.objects i).kind (nth_draw s i (law_of (object_at p.objects i).kind) k)) seed
    ∙ ap (λ r. as_shown r (nth_draw q.seed i (law_of r) k)) kind
    ∙ sym (draw_number q u i m k fine_q in_q within_q)
