-- Where the engine stands.
use Rattle.std.proofs.Common.{◌≡◌, ℕ, List, [], sym, refl, ap, ◌∙◌, subst}
use Rattle.std.specs.Prelude.{Option, Some, None, Result, Ok, Err, IsErrAnd}
use Rattle.event_key.specs.declared.key.Key.{Key}
use Rattle.delta_exchange.specs.declared.memory.OutOfMemory.{OutOfMemory}
use Rattle.model_core.specs.declared.note.Note.{Note}
use Rattle.model_core.specs.Meaning.{Meaning}
use Rattle.model_core.specs.Records.{RecordsView}
use Rattle.sim_spec.specs.declared.bucket.Bucket.{Bucket}
use Rattle.sim_spec.specs.declared.stop.Stop.{Stop}
use Rattle.sim_spec.specs.declared.stop.Stop.TheVariants.{Fault}
use Rattle.sim_spec.specs.declared.terms.Terms.{Terms}
use Rattle.sim_spec.specs.State.{State, Lawful, initial_state}
use Rattle.sim_spec.specs.Run.{next}
use Rattle.sim_spec.specs.Cut.{cut, after}
use Rattle.sim_spec.specs.Standing.{Standing, stands, spent, end_or_limit, ended, IsLawfulStanding, CycleGives}
use Rattle.one_thread.specs.declared.bucket_end.BucketEnd.{BucketEnd}
use Rattle.one_thread.specs.Ends.{bucket_of, fault_of, HasEnd, HasTold}
use Rattle.one_thread.specs.Telling.{TellsAll}
use Rattle.one_thread.specs.Engines.{Course, EngineView, state_of, standing_of}

-- the engine with these parts
abbrev pub engine_of : {M : Type 0} → M → Terms → Option Course → Option (Key × ℕ) → EngineView M
engine_of model terms place fault = record { model = model; terms = terms; standing = standing_of place fault }

pub ended_spent : {M : Type 0} (meaning : M → Meaning) (value : EngineView M) (model : M) (terms : Terms) (place : Option Course) (fault : Option (Key × ℕ))
    → engine_of model terms place fault ≡ value → place ≡ None → None ≡ ended (meaning value.model) value.terms value.standing
unfolding ended
ended_spent meaning value model terms place fault is no_place =
    ap (λ place. ended (meaning model) terms (standing_of place fault)) (sym no_place) ∙ ap (λ v. ended (meaning v.model) v.terms v.standing) is

pub ended_fault : {M : Type 0} (meaning : M → Meaning) (value : EngineView M) (model : M) (terms : Terms) (place : Option Course) (fault : Option (Key × ℕ)) (c : Course) (key : Key) (code : ℕ)
    → engine_of model terms place fault ≡ value → place ≡ Some c → fault ≡ Some (key, code) → Some (Fault key code) ≡ ended (meaning value.model) value.terms value.standing
unfolding ended
ended_fault meaning value model terms place fault c key code is is_place is_fault =
    (λ i. ended (meaning model) terms (standing_of (sym is_place i) (sym is_fault i))) ∙ ap (λ v. ended (meaning v.model) v.terms v.standing) is

pub ended_next : {M : Type 0} (meaning : M → Meaning) (value : EngineView M) (model read : M) (terms : Terms) (place : Option Course) (fault : Option (Key × ℕ)) (c : Course) (stop : Option Stop)
    → engine_of model terms place fault ≡ value → place ≡ Some c → fault ≡ None → read ≡ model → stop ≡ end_or_limit (next (meaning read) terms (state_of c))
    → stop ≡ ended (meaning value.model) value.terms value.standing
unfolding ended
ended_next meaning value model read terms place fault c stop is is_place is_fault is_read is_stop =
    is_stop ∙ ap (λ m. end_or_limit (next (meaning m) terms (state_of c))) is_read
    ∙ (λ i. ended (meaning model) terms (standing_of (sym is_place i) (sym is_fault i))) ∙ ap (λ v. ended (meaning v.model) v.terms v.standing) is

-- an engine that has not ended and has a simulation had no fault
pub begins_at : (m : Meaning) (t : Terms) (c : Course) (fault : Option (Key × ℕ)) → ended m t (stands (state_of c) fault) ≡ None → stands (state_of c) fault ≡ stands (state_of c) None
unfolding ended
begins_at m t c None none = refl
begins_at m t c (Some fault) some = absurd (cc)

-- the state of an engine is lawful
pub lawful_at : (m read : Meaning) (t : Terms) (place : Option Course) (fault : Option (Key × ℕ)) (c : Course) → IsLawfulStanding m t (standing_of place fault) → place ≡ Some c → read ≡ m → Lawful read t (state_of c)
unfolding IsLawfulStanding
lawful_at m read t place fault c lawful is_place is_read =
    let P : Option Course → Type 0 = λ place. IsLawfulStanding m t (standing_of place fault) in
    let Q : Meaning → Type 0 = λ m. Lawful m t (state_of c) in
    let here : Lawful m t (state_of c) = subst P is_place lawful in
    subst Q (sym is_read) here

pub cycle_given : {M : Type 0} (meaning : M → Meaning) (value : EngineView M) (model read : M) (terms : Terms) (place : Option Course) (fault : Option (Key × ℕ)) (c new : Course) (bucket : Bucket)
    → engine_of model terms place fault ≡ value → place ≡ Some c → read ≡ model → ended (meaning value.model) value.terms value.standing ≡ None
    → bucket ≡ cut (meaning read) terms (state_of c) → state_of new ≡ after (meaning read) terms (state_of c)
    → CycleGives (meaning value.model) value.terms value.standing (Ok bucket) (stands (state_of new) bucket.fault)
unfolding CycleGives
cycle_given {M} meaning value model read terms place fault c new bucket is is_place is_read begins is_bucket is_after =
    let P : EngineView M → Type 0 = λ v. CycleGives (meaning v.model) v.terms v.standing (Ok bucket) (stands (state_of new) bucket.fault) in
    let Q : EngineView M → Type 0 = λ v. ended (meaning v.model) v.terms v.standing ≡ None in
    let R : Option Course → Type 0 = λ place. ended (meaning model) terms (standing_of place fault) ≡ None in
    let not_ended : ended (meaning model) terms (stands (state_of c) fault) ≡ None = subst R is_place (subst Q (sym is) begins) in
    subst P is (record {
      state = state_of c;
      begins = ap (λ place. standing_of place fault) is_place ∙ begins_at (meaning model) terms c fault not_ended;
      bucket_is = is_bucket ∙ ap (λ m. cut (meaning m) terms (state_of c)) is_read;
      ends = ap (λ s. stands s bucket.fault) (is_after ∙ ap (λ m. after (meaning m) terms (state_of c)) is_read);
    })

-- a bucket was told, and ended so
pub told_given : {M T : Type 0} (meaning : M → Meaning) (Holds : Meaning → T → List (Key × Note) → Type 0) (value : EngineView M) (model read : M) (terms : Terms) (place : Option Course) (fault : Option (Key × ℕ))
    (c new : Course) (before told : T) (end : BucketEnd)
    → engine_of model terms place fault ≡ value → place ≡ Some c → read ≡ model → ended (meaning value.model) value.terms value.standing ≡ None
    → HasEnd (cut (meaning read) terms (state_of c)) end
    → TellsAll (Holds (meaning read)) before (cut (meaning read) terms (state_of c)).done told
    → state_of new ≡ after (meaning read) terms (state_of c)
    → HasTold (Holds (meaning value.model)) (meaning value.model) value.terms value.standing before end told (stands (state_of new) (fault_of end))
told_given {M} {T} meaning Holds value model read terms place fault c new before told end is is_place is_read begins is_end all is_after =
    let done = (cut (meaning read) terms (state_of c)).done in
    let same : read ≡ value.model = is_read ∙ ap (λ (v : EngineView M). v.model) is in
    let P : M → Type 0 = λ x. TellsAll (Holds (meaning x)) before done told in
    record {
      done = done;
      told = subst P same all;
      gives = cycle_given meaning value model read terms place fault c new (bucket_of done end) is is_place is_read begins (sym is_end) is_after;
    }

-- and its records are all
pub bucket_given : (m : Meaning) (t : Terms) (old new : Standing) (before after : RecordsView) (end : BucketEnd) (bucket : Bucket) → before.items ≡ []
    → HasTold (λ (buffer : RecordsView) (records : List (Key × Note)). buffer.items ≡ records) m t old before end after new
    → bucket ≡ bucket_of after.items end → CycleGives m t old (Ok bucket) new
bucket_given m t old new before after end bucket empty has is =
    let all : after.items ≡ has.done = has.told [] empty in
    let P : Bucket → Type 0 = λ b. CycleGives m t old (Ok b) new in
    subst P (sym (is ∙ ap (λ done. bucket_of done end) all)) has.gives

-- a refused bucket leaves a spent engine
pub cycle_refused : (m : Meaning) (t : Terms) (old new : Standing) (P : OutOfMemory → Type 0) (answer : Result Bucket OutOfMemory) → IsErrAnd answer P → new ≡ spent → CycleGives m t old answer new
unfolding CycleGives
cycle_refused m t old new P (Ok bucket) is refused = absurd is
cycle_refused m t old new P (Err e) is refused = refused

-- after a refusal the engine is spent
pub refusal_given : (m : Meaning) (t : Terms) (old : Standing) (place : Option Course) (fault : Option (Key × ℕ)) (refused : OutOfMemory) → place ≡ None → CycleGives m t old (Err refused) (standing_of place fault)
unfolding CycleGives
refusal_given m t old place fault refused is = ap (λ place. standing_of place fault) is

pub spent_lawful : (m : Meaning) (t : Terms) → IsLawfulStanding m t spent
unfolding IsLawfulStanding
spent_lawful m t = tt

pub stands_lawful : (m read : Meaning) (t : Terms) (s : State) (fault : Option (Key × ℕ)) → read ≡ m → Lawful read t s → IsLawfulStanding m t (stands s fault)
unfolding IsLawfulStanding
stands_lawful m read t s fault is lawful = let P : Meaning → Type 0 = λ m. Lawful m t s in subst P is lawful

pub begins_lawful : {M : Type 0} (meaning : M → Meaning) (model read again : M) (t : Terms) (c : Course) → read ≡ model → again ≡ model → Lawful (meaning read) t (initial_state (meaning read))
    → state_of c ≡ initial_state (meaning again) → IsLawfulStanding (meaning model) t (stands (state_of c) None)
unfolding IsLawfulStanding
begins_lawful {M} meaning model read again t c is_read is_again lawful is_initial =
    let P : M → Type 0 = λ m. Lawful (meaning m) t (initial_state (meaning m)) in
    let Q : State → Type 0 = Lawful (meaning model) t in
    subst Q (sym (is_initial ∙ ap (λ m. initial_state (meaning m)) is_again)) (subst P is_read lawful)
