-- Events that go in turn, below a bound that nothing of what they send is below, are the next ones of the run.
use Rattle.std.proofs.Common.{◌≡◌, ℕ, suc, ◌+◌, ◌<◌, ◌≤◌, List, [], ◌∷◌, ◌++◌, length, drop, sym, ap, ◌∙◌, subst, arith, append_assoc}
use Rattle.std.proofs.lemmas.List.{append-nil}
use Rattle.std.proofs.Math.Seq.{drop-append_seam}
use Rattle.std.specs.List.{AllByRecursion as Each}
use Rattle.event_key.specs.Stamps.{end_stamp}
use Rattle.model_core.specs.declared.event.Event.{Event}
use Rattle.model_core.specs.Meaning.{Meaning}
use Rattle.sim_spec.specs.declared.terms.Terms.{Terms}
use Rattle.sim_spec.specs.Firing.{ObjectState, Firing, goes}
use Rattle.key_order.specs.Pending.{enqueue_all}
use Rattle.sim_spec.specs.State.{State}
use Rattle.sim_spec.specs.Run.{does, next, next_fired, Leads}
use Rattle.sim_spec.specs.Cut.{events_of, records_of, emissions_of, objects_after, state_with_done}
use Rattle.key_order.specs.Stamps.{NoneBelow}
use Rattle.sim_spec.specs.Replay.{EmitsFrom}
use Rattle.key_order.proofs.EnqueueLemmas.{enqueue_all-append, enqueue_all-behind}
use Rattle.sim_spec.proofs.PartLemmas.{length-events_of}
use Rattle.sim_spec.proofs.RunLemmas.{next-fires}
use Rattle.key_order.proofs.EachLemmas.{Each-append}
use Rattle.key_order.proofs.StampLemmas.{after-below}
use Rattle.sim_spec.proofs.BucketInduction.{fire_at, objects_with}
use Rattle.sim_spec.proofs.BucketFacts.{GoInTurn}

-- events that go in turn, with a bound between their own stamps and those of what they send
pub record ComeBelow (m : Meaning) (objects : List ObjectState) (h : ℕ) (ds : List (Event × Firing)) : Type 0 where
  pub turn : GoInTurn m objects ds
  pub early : Each (λ (e : Event). e.key.stamp < h) (events_of ds)
  pub emits : EmitsFrom h ds

-- a state in whose pending list these events went to their places
abbrev pub state_with_aside : List ObjectState → List Event → List Event → ℕ → State
state_with_aside objects aside pending count = record { objects = objects; pending = enqueue_all aside pending; count = count }

-- an event below all that went to its place is the next one
next-below : (m : Meaning) (t : Terms) (h : ℕ) (objects : List ObjectState) (aside : List Event) (e : Event) (rest : List Event) (count : ℕ) (x : Firing)
    → NoneBelow h aside → e.key.stamp < h → h ≤ end_stamp t.end → count < t.limit → fire_at m objects e ≡ goes x
    → next m t (state_with_aside objects aside (e ∷ rest) count) ≡ does (e.key, x.note) (state_with_aside (objects_with objects e x) (aside ++ x.events) rest (count + 1))
unfolding next_fired
next-below m t h objects aside e rest count x late early within room is_x =
    let s = state_with_aside objects aside (e ∷ rest) count in
    next-fires m t s e (enqueue_all aside rest) (enqueue_all-behind aside e rest (after-below h e.key aside late early)) (omega arith) (λ full. omega arith)
    ∙ ap (next_fired s e (enqueue_all aside rest)) is_x
    ∙ ap (λ p. does (e.key, x.note) (record { objects = objects_with objects e x; pending = p; count = count + 1 })) (sym (enqueue_all-append aside x.events rest))

-- the state after events, with what they send at its place
abbrev aside_after : List ObjectState → List Event → List (Event × Firing) → List Event → ℕ → State
aside_after objects aside ds rest count = state_with_aside (objects_after objects ds) (aside ++ emissions_of ds) rest (count + length ds)

nothing_after : (objects : List ObjectState) (aside rest : List Event) (count : ℕ) → state_with_aside objects aside rest count ≡ aside_after objects aside [] rest count
unfolding objects_after emissions_of
nothing_after objects aside rest count =
    let front : aside ≡ aside ++ [] = sym (append-nil aside) in
    let same : count ≡ count + 0 = omega arith in
    λ i. record { objects = objects; pending = enqueue_all (front i) rest; count = same i }

one_after : (objects : List ObjectState) (aside : List Event) (d : Event × Firing) (ds : List (Event × Firing)) (rest : List Event) (count : ℕ)
    → aside_after (objects_with objects d.0 d.1) (aside ++ d.1.events) ds rest (count + 1) ≡ aside_after objects aside (d ∷ ds) rest count
unfolding objects_after emissions_of
one_after objects aside d ds rest count =
    let front : (aside ++ d.1.events) ++ emissions_of ds ≡ aside ++ (d.1.events ++ emissions_of ds) = append_assoc aside d.1.events (emissions_of ds) in
    let same : (count + 1) + length ds ≡ count + suc (length ds) = omega arith in
    λ i. record { objects = objects_after (objects_with objects d.0 d.1) ds; pending = enqueue_all (front i) rest; count = same i }

aside_leads : (m : Meaning) (t : Terms) (h : ℕ) (ds : List (Event × Firing)) (objects : List ObjectState) (aside rest : List Event) (count : ℕ)
    → ComeBelow m objects h ds → NoneBelow h aside → h ≤ end_stamp t.end → count + length ds ≤ t.limit
    → Leads m t (state_with_aside objects aside (events_of ds ++ rest) count) (records_of ds) (aside_after objects aside ds rest count)
unfolding Leads GoInTurn
aside_leads m t h [] objects aside rest count come late within room = nothing_after objects aside rest count
aside_leads m t h (d ∷ ds) objects aside rest count come late within room =
    let mid = state_with_aside (objects_with objects d.0 d.1) (aside ++ d.1.events) (events_of ds ++ rest) (count + 1) in
    let behind : ComeBelow m (objects_with objects d.0 d.1) h ds = record { turn = come.turn.1; early = come.early.1; emits = come.emits.1 } in
    let lead = aside_leads m t h ds (objects_with objects d.0 d.1) (aside ++ d.1.events) rest (count + 1) behind
    (Each-append (λ (e : Event). h ≤ e.key.stamp) aside d.1.events late come.emits.0) within (omega arith) in
    let Q : State → Type 0 = Leads m t mid (records_of ds) in (
      mid,
      next-below m t h objects aside d.0 (events_of ds ++ rest) count d.1 late come.early.0 within (omega arith) come.turn.0,
      subst Q (one_after objects aside d ds rest count) lead,
    )

pub drop-front : (ds : List (Event × Firing)) (rest : List Event) → drop (length ds) (events_of ds ++ rest) ≡ rest
drop-front ds rest = ap (λ n. drop n (events_of ds ++ rest)) (sym (length-events_of ds)) ∙ drop-append_seam (events_of ds) rest

-- the first pending events lead to the state in which they are done
pub in-turn-leads : (m : Meaning) (t : Terms) (s : State) (h : ℕ) (ds : List (Event × Firing)) (rest : List Event)
    → s.pending ≡ events_of ds ++ rest → ComeBelow m s.objects h ds → h ≤ end_stamp t.end → s.count + length ds ≤ t.limit
    → Leads m t s (records_of ds) (state_with_done s ds)
unfolding state_with_done enqueue_all
in-turn-leads m t s h ds rest is_pending come within room =
    let L : List Event → List Event → Type 0 = λ pending behind. Leads m t (state_with_aside s.objects [] pending s.count) (records_of ds) (state_with_aside (objects_after s.objects ds) (emissions_of ds) behind (s.count + length ds)) in
    let at_front : L (events_of ds ++ rest) rest = aside_leads m t h ds s.objects [] rest s.count come tt within room in
    let P : List Event → Type 0 = L (events_of ds ++ rest) in
    let Q : List Event → Type 0 = λ pending. L pending (drop (length ds) pending) in
    subst Q (sym is_pending) (subst P (sym (drop-front ds rest)) at_front)

-- and the first event behind them stays the first one
pub done-pending : (s : State) (h : ℕ) (ds : List (Event × Firing)) (e : Event) (behind : List Event)
    → drop (length ds) s.pending ≡ e ∷ behind → NoneBelow h (emissions_of ds) → e.key.stamp < h
    → (state_with_done s ds).pending ≡ e ∷ enqueue_all (emissions_of ds) behind
unfolding state_with_done
done-pending s h ds e behind is_first late early = ap (enqueue_all (emissions_of ds)) is_first ∙ enqueue_all-behind (emissions_of ds) e behind (after-below h e.key (emissions_of ds) late early)
