-- An event of a stretch is the next one of the run.
use Rattle.std.proofs.Common.{◌≡◌, ℕ, ◌<◌, List, [], ◌∷◌, length, Option, inl, inr, sym, refl, ap, ◌∙◌, subst, arith}
use Rattle.std.specs.Prelude.{Some, None}
use Rattle.std.proofs.lemmas.Bool.{cases_lt}
use Rattle.event_key.specs.declared.key.Key.{Key}
use Rattle.event_key.specs.Stamps.{end_stamp}
use Rattle.model_core.specs.declared.event.Event.{Event}
use Rattle.model_core.specs.declared.note.Note.{Note}
use Rattle.model_core.specs.Meaning.{Meaning}
use Rattle.sim_spec.specs.declared.stop.Stop.TheVariants.{End, Limit, Fault}
use Rattle.sim_spec.specs.declared.terms.Terms.{Terms}
use Rattle.sim_spec.specs.Run.{stops, does, next, next_fired, Leads}
use Rattle.sim_spec.specs.Standing.{Standing, stands, ended, end_or_limit}
use Rattle.sim_spec.specs.State.{State}
use Rattle.sim_spec.proofs.RunLemmas.{next-none, next-late, next-full, next-fires}
use Rattle.one_thread.specs.declared.bucket_end.BucketEnd.{BucketEnd}
use Rattle.one_thread.specs.declared.bucket_end.BucketEnd.TheVariants.{Whole, Limit as AtLimit, Fault as AtFault}
use Rattle.one_thread.specs.Ends.{fault_of, HasToldStretch}
use Rattle.one_thread.specs.Engines.{Course, EngineView, state_of, standing_of}
use Rattle.one_thread.specs.Telling.{TellsAll}
use Rattle.one_thread.specs.Turns.{horizon_of, NoneDue, IsOpen, IsDone, IsFailed, IsFull, EndsSo}
use Rattle.one_thread.proofs.EngineLemmas.{engine_of, begins_at}

-- the event that goes is the next one
pub next_done : (m : Meaning) (t : Terms) (old : Course) (key : Key) (note : Note) (new : Course) → IsDone m t old key note new → next m t (state_of old) ≡ does (key, note) (state_of new)
unfolding next_fired
next_done m t old key note new one =
    let early = one.went.due.early in
    let free = one.went.free in
    next-fires m t (state_of old) one.went.event one.went.rest one.went.due.first (omega arith) (λ full. omega arith)
    ∙ ap (next_fired (state_of old) one.went.event one.went.rest) one.went.fires
    ∙ (λ i. does (sym one.went.key_is i, sym one.went.note_is i) (record { objects = sym one.objects i; pending = sym one.pending i; count = sym one.count i }))

-- so is one that fails
pub next_failed : (m : Meaning) (t : Terms) (c : Course) (key : Key) (code : ℕ) → IsFailed m t c key code → next m t (state_of c) ≡ stops (Fault key code)
unfolding next_fired
next_failed m t c key code one =
    let early = one.due.early in
    let free = one.free in
    next-fires m t (state_of c) one.event one.rest one.due.first (omega arith) (λ full. omega arith)
    ∙ ap (next_fired (state_of c) one.event one.rest) one.fires
    ∙ ap (λ k. stops (Fault k code)) (sym one.key_is)

pub next_limited : (m : Meaning) (t : Terms) (c : Course) → IsFull t c → next m t (state_of c) ≡ stops Limit
next_limited m t c full = let early = full.due.early in next-full m t (state_of c) full.event full.rest full.due.first (omega arith) full.full

-- a bucket that is begun has an event, unless the end comes next
pub some_or_ended : (m : Meaning) (t : Terms) (c : Course) (done : List (Key × Note)) (h : ℕ) → h ≡ horizon_of t c → NoneDue h c.queue.pending → (done ≡ [] → IsOpen c)
    → ended m t (stands (state_of c) None) ≡ None → 0 < length done
unfolding ended end_or_limit
some_or_ended m t c (told ∷ done) h is_h late begun goes = omega arith
some_or_ended m t c [] h is_h late begun goes = by_first c.queue.pending refl
  where
    no_end : next m t (state_of c) ≡ stops End → 0 < 0
    no_end is_end = let some = ap end_or_limit (sym is_end) ∙ goes in absurd (cc)

    by_first : (es : List Event) → c.queue.pending ≡ es → 0 < 0
    by_first [] is = no_end (next-none m t (state_of c) is)
    by_first (e ∷ rest) is =
        let P : List Event → Type 0 = NoneDue h in
        let past = subst P is late in
        elim (cases_lt e.key.stamp (end_stamp t.end)) [
          | inl early ↦ let due = begun refl t e rest is early in absurd (omega arith)
          | inr over ↦ no_end (next-late m t (state_of c) e rest is over)
        ]

-- an engine that has ended goes on with no event
pub ended_limited : (m : Meaning) (t : Terms) (s : State) → next m t s ≡ stops Limit → ended m t (stands s None) ≡ None → ⊥
unfolding ended end_or_limit
ended_limited m t s is_limit goes = let some = ap end_or_limit (sym is_limit) ∙ goes in absurd (cc)

pub ended_failed : (m : Meaning) (t : Terms) (s : State) (fault : Key × ℕ) → ended m t (stands s (Some fault)) ≡ None → ⊥
unfolding ended
ended_failed m t s fault goes = absurd (cc)

-- the fault that comes next is the one that is told
pub failed_so : (m : Meaning) (t : Terms) (s : State) (fault : Key × ℕ) → next m t s ≡ stops (Fault fault.0 fault.1) → (f : Key × ℕ) → Some fault ≡ Some f → next m t s ≡ stops (Fault f.0 f.1)
failed_so m t s fault is_next f is =
    let same : fault ≡ f = cc in
    is_next ∙ ap (λ (f : Key × ℕ). stops (Fault f.0 f.1)) same

-- a stretch ends where no more is done
pub stretch_ends : {T : Type 0} (Holds : T → List (Key × Note) → Type 0) (m : Meaning) (t : Terms) (from mid last : State) (done : List (Key × Note)) (before after : T) (fault : Option (Key × ℕ))
    → Leads m t from done mid → last ≡ mid → TellsAll Holds before done after
    → ((f : Key × ℕ) → fault ≡ Some f → next m t mid ≡ stops (Fault f.0 f.1)) → (ended m t (stands mid fault) ≡ None → 0 < length done)
    → HasToldStretch Holds m t (stands from None) before after (stands last fault)
stretch_ends Holds m t from mid last done before after fault leads same told failed some = record {
  done = done;
  told = told;
  stretch = record {
    from = from;
    begins = refl;
    last = mid;
    fault = fault;
    ends = ap (λ s. stands s fault) same;
    leads = leads;
    failed = failed;
    some = λ goes. some (ap (λ s. ended m t (stands s fault)) (sym same) ∙ goes);
  };
}

-- so one ends where its bucket does
pub stretch_ends_so : {T : Type 0} (Holds : T → List (Key × Note) → Type 0) (m : Meaning) (t : Terms) (from : State) (c new : Course) (done : List (Key × Note)) (before after : T) (end : BucketEnd)
    → Leads m t from done (state_of c) → new ≡ c → TellsAll Holds before done after → EndsSo m t c end → (done ≡ [] → IsOpen c)
    → HasToldStretch Holds m t (stands from None) before after (stands (state_of new) (fault_of end))
stretch_ends_so Holds m t from c new done before after (Whole horizon) leads same told so begun =
    stretch_ends Holds m t from (state_of c) (state_of new) done before after None leads (ap state_of same) told (λ f is. cc) (some_or_ended m t c done horizon so.0 so.1 begun)
stretch_ends_so Holds m t from c new done before after AtLimit leads same told so begun =
    stretch_ends Holds m t from (state_of c) (state_of new) done before after None leads (ap state_of same) told (λ f is. cc) (λ goes. absurd (ended_limited m t _ (next_limited m t c so) goes))
stretch_ends_so Holds m t from c new done before after (AtFault key code) leads same told so begun =
    stretch_ends Holds m t from (state_of c) (state_of new) done before after (Some (key, code)) leads (ap state_of same) told
    (failed_so m t _ _ (next_failed m t c key code so)) (λ goes. absurd (ended_failed m t _ _ goes))

-- the engine has done the stretch of its simulation
pub stretch_given : {M T : Type 0} (meaning : M → Meaning) (Holds : Meaning → T → List (Key × Note) → Type 0) (value : EngineView M) (model read : M) (terms : Terms) (place : Option Course) (fault : Option (Key × ℕ))
    (c : Course) (before after : T) (new : Standing)
    → engine_of model terms place fault ≡ value → place ≡ Some c → read ≡ model → ended (meaning value.model) value.terms value.standing ≡ None
    → HasToldStretch (Holds (meaning read)) (meaning read) terms (stands (state_of c) None) before after new
    → HasToldStretch (Holds (meaning value.model)) (meaning value.model) value.terms value.standing before after new
stretch_given {M} {T} meaning Holds value model read terms place fault c before after new is is_place is_read begins has =
    let P : EngineView M → Type 0 = λ v. HasToldStretch (Holds (meaning v.model)) (meaning v.model) v.terms v.standing before after new in
    let Q : EngineView M → Type 0 = λ v. ended (meaning v.model) v.terms v.standing ≡ None in
    let R : Option Course → Type 0 = λ place. ended (meaning model) terms (standing_of place fault) ≡ None in
    let S : Standing → Type 0 = λ s. HasToldStretch (Holds (meaning model)) (meaning model) terms s before after new in
    let U : M → Type 0 = λ x. HasToldStretch (Holds (meaning x)) (meaning x) terms (stands (state_of c) None) before after new in
    let not_ended : ended (meaning model) terms (stands (state_of c) fault) ≡ None = subst R is_place (subst Q (sym is) begins) in
    let same = ap (λ place. standing_of place fault) is_place ∙ begins_at (meaning model) terms c fault not_ended in
    subst P is (subst S (sym same) (subst U is_read has))
