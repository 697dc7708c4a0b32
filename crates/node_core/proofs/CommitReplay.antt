-- The replay of a log whose first events went.
use Rattle.sim_spec.proofs.FiringLemmas.{goes-firing}
use Rattle.std.proofs.Common.{◌≡◌, ℕ, ◌+◌, ◌<◌, ◌≤◌, List, [], ◌∷◌, ◌++◌, length, refl, sym, ap, ◌∙◌, subst, arith}
use Rattle.std.specs.Prelude.{IsTrue}
use Rattle.std.specs.List.{AllByRecursion as Each}
use Rattle.model_core.specs.Meaning.{Meaning, MeaningLaws, OutcomeLaws, SendsInRange}
use Rattle.model_core.specs.declared.effect.Outcome.{Outcome}
use Rattle.model_core.specs.declared.effect.Outcome.TheVariants.{Fails, Goes}
use Rattle.model_core.specs.declared.event.Event.{Event}
use Rattle.model_core.specs.declared.event.Send.{Send}
use Rattle.sim_spec.specs.Firing.{Firing, ObjectState, emissions, fire, fired_by, goes}
use Rattle.sim_spec.specs.Replay.{Replay, replay}
use Rattle.sim_spec.proofs.BucketInduction.{replay-goes}
use Rattle.sim_spec.proofs.SerialLemmas.{length-emissions}
use Rattle.object_log.specs.Dones.{Done}
use Rattle.object_log.specs.declared.done.Verdict.{Verdict}
use Rattle.object_log.specs.declared.done.Verdict.TheVariants.{Noted, Failed}
use Rattle.object_log.specs.Logs.{undone, events_of}
use Rattle.object_log.specs.Replays.{IsReplayed, IsTold, firing_of}
use Rattle.object_log.specs.Tellings.{IsNoted}

-- lawful cells are left, and little is sent, to objects that there are
pub record IsLittle (m : Meaning) (object : ℕ) (later : ObjectState) (sends : List Event) : Type 0 where
  pub lawful : IsTrue (m.lawful object later.cells)
  pub few : length sends ≤ 8
  pub homed : Each (λ (e : Event). e.key.dest < m.objects) sends

emissions-homed : (objects stamp object serial : ℕ) (sends : List Send) → SendsInRange objects sends → Each (λ (e : Event). e.key.dest < objects) (emissions stamp object serial sends)
unfolding emissions
emissions-homed objects stamp object serial [] all = tt
emissions-homed objects stamp object serial (s ∷ sends) all = (all.0, emissions-homed objects stamp object (serial + 1) sends all.3)

fired-little : (m : Meaning) (object : ℕ) (state : ObjectState) (e : Event) (o : Outcome) (x : Firing) → OutcomeLaws m object state.cells o → fired_by object state e o ≡ goes x → IsLittle m object x.state x.events
unfolding fired_by
fired-little m object state e (Fails code) x laws is_x = absurd (cc)
fired-little m object state e (Goes y) x laws is_x =
    let P : Firing → Type 0 = λ x. IsLittle m object x.state x.events in
    let count = length-emissions e.key.stamp object state.sent y.sends in
    subst P (goes-firing object state e y x is_x)
    (record { lawful = laws.lawful; few = omega (arith, laws.few_sends); homed = emissions-homed m.objects e.key.stamp object state.sent y.sends laws.sends })

-- so it is with each event of a log
told-little : (m : Meaning) (object : ℕ) (earlier later : ObjectState) (d : Done) (v : Verdict) → MeaningLaws m → object < m.objects → IsTrue (m.lawful object earlier.cells) → IsTold (fire m object earlier d.event) earlier later d v
    → IsLittle m object later d.sends
unfolding fire
told-little m object earlier later d (Noted note) laws exists lawful is =
    fired-little m object earlier d.event (m.effect object earlier.cells d.event) (firing_of later d note) (laws.outcome object earlier.cells d.event exists lawful) is
told-little m object earlier later d (Failed code) laws exists lawful is =
    let C : ObjectState → Type 0 = λ s. IsTrue (m.lawful object s.cells) in
    let E : List Event → Type 0 = Each (λ (e : Event). e.key.dest < m.objects) in
    let none = ap length is.3 in
    record { lawful = subst C (sym is.1) lawful; few = omega arith; homed = subst E (sym is.3) tt }

pub log-little : (m : Meaning) (object : ℕ) (s : ObjectState) (ds : List Done) → MeaningLaws m → object < m.objects → IsReplayed m object s ds → IsTrue (m.lawful object (undone s ds).cells)
    → Each (λ (d : Done). length d.sends ≤ 8) ds × Each (λ (d : Done). Each (λ (e : Event). e.key.dest < m.objects) d.sends) ds
unfolding IsReplayed
log-little m object s [] laws exists all lawful = (tt, tt)
log-little m object s (d ∷ ds) laws exists all lawful =
    let first = told-little m object (undone s (d ∷ ds)) (undone s ds) d d.verdict laws exists lawful all.0 in
    let more = log-little m object s ds laws exists all.1 first.lawful in
    ((first.few, more.0), (first.homed, more.1))

-- the state behind the first events is lawful, and that of their replay where they went
pub base-lawful : (m : Meaning) (object : ℕ) (s : ObjectState) (gone rest : List Done) → MeaningLaws m → object < m.objects → IsReplayed m object s (gone ++ rest) → IsTrue (m.lawful object (undone s (gone ++ rest)).cells)
    → IsTrue (m.lawful object (undone s rest).cells)
unfolding IsReplayed
base-lawful m object s [] rest laws exists all lawful = lawful
base-lawful m object s (d ∷ gone) rest laws exists all lawful =
    let first = told-little m object (undone s (d ∷ gone ++ rest)) (undone s (gone ++ rest)) d d.verdict laws exists lawful all.0 in
    base-lawful m object s gone rest laws exists all.1 first.lawful

pub front-state : (m : Meaning) (object : ℕ) (s : ObjectState) (gone rest : List Done) → Each (λ (d : Done). IsNoted d.verdict) gone → IsReplayed m object s (gone ++ rest)
    → (replay m object (undone s (gone ++ rest)) (events_of gone)).state ≡ undone s rest
unfolding IsReplayed replay undone
front-state m object s [] rest noted all = refl
front-state m object s (d ∷ gone) rest noted all = by_verdict d.verdict noted.0 all.0 (front-state m object s gone rest noted.1 all.1)
  where
    by_verdict : (v : Verdict) → IsNoted v → IsTold (fire m object (undone s (d ∷ gone ++ rest)) d.event) (undone s (d ∷ gone ++ rest)) (undone s (gone ++ rest)) d v
        → (replay m object (undone s (gone ++ rest)) (events_of gone)).state ≡ undone s rest
        → (replay m object (undone s (d ∷ gone ++ rest)) (d.event ∷ events_of gone)).state ≡ undone s rest
    by_verdict (Noted note) noted is more =
        ap (λ (r : Replay). r.state) (replay-goes m object (undone s (d ∷ gone ++ rest)) d.event (events_of gone) (firing_of (undone s (gone ++ rest)) d note) is) ∙ more
    by_verdict (Failed code) noted is more = absurd noted
