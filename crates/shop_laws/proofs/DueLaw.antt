-- Jobs are as old as is told, and late exactly above their due.
use Rattle.std.proofs.Common.{◌≡◌, ◌≢◌, ◌⊎◌, ℕ, ◌+◌, ◌-◌, ◌<◌, ◌≤◌, Bool, true, false, List, [], ◌∷◌, ◌++◌, length, inl, refl, sym, ap, ◌∙◌, subst, ⊎_elim, arith, eq-eqb, eqb-true, lt-ltb, le-ltb, suc, append-nil}
use Rattle.std.specs.Prelude.{if◌then◌else◌, ◌==◌, ◌&&◌, nat_lt, sum_by, Contains, Option, None, Some}
use Rattle.std.specs.Int.{from_bool}
use Rattle.std.proofs.lemmas.Bool.{cases_lt}
use Rattle.std.proofs.lemmas.List.Sums.{sum_by-cons}
use Rattle.event_key.specs.declared.key.Key.{Key}
use Rattle.event_key.specs.Stamps.{time_part}
use Rattle.key_order.proofs.EachLemmas.{Each-append, Each-front, Each-back}
use Rattle.std.specs.List.{AllByRecursion as Each}
use Rattle.key_order.proofs.MemberLemmas.{each-contains, is-first, is-later}
use Rattle.delta_exchange.specs.Changes.{CellData}
use Rattle.model_core.specs.declared.effect.Effect.{Effect}
use Rattle.model_core.specs.declared.event.Event.{Event}
use Rattle.model_core.specs.declared.note.Note.{Note}
use Rattle.model_core.specs.declared.note.Part.{Part}
use Rattle.model_core.specs.declared.words.TheConstants.{LEFT_WORD, DROPPED_WORD, OVERDUE_WORD, MADE_WORD}
use Rattle.sim_spec.specs.declared.terms.Terms.{Terms}
use Rattle.sim_spec.specs.State.{State}
use Rattle.sim_spec.specs.Run.{stops, does, next}
use Rattle.run_laws.specs.Reached.{after_events, first_records, gathered, record_of}
use Rattle.run_laws.proofs.Induction.{gathered-more, each_number}
use Rattle.shop_model.specs.declared.class.Class.{Class}
use Rattle.shop_model.specs.declared.job.Job.{Job}
use Rattle.shop_model.specs.declared.routes.Routes.{Routes}
use Rattle.shop_model.specs.declared.site.Site.{Site}
use Rattle.shop_model.specs.declared.station.Station.{Station}
use Rattle.shop_model.specs.Classes.{one_made, overdue, stay_effect, go_effect, leave_effect}
use Rattle.shop_model.specs.Jobs.{birth_of}
use Rattle.shop_model.specs.Meaning.{class_of_object, shop_meaning, site_of}
use Rattle.shop_model.specs.ShopParts.{ShopParts, IsShop, routes_of}
use Rattle.shop_model.specs.StationEffects.{take_effect, wait_effect, lose_effect, begin_effect, pass_effect, renege_effect, still_effect, works_effect}
use Rattle.shop_laws.specs.DueLaws.{IsOfAge, AgesAreTold, IsLate, LateIsTold}
use Rattle.shop_laws.specs.Places.{at_event, made_jobs, this_job, weight_of, made_next}
use Rattle.shop_laws.specs.Told.{word_told, first_told, second_told, rest_told}
use Rattle.shop_laws.proofs.Cases.{StationDoes, rests, goes_on, frees, takes, waits, loses, passes, begins, ends, puts_off, reneges, shifts, stands, works}
use Rattle.shop_laws.proofs.ClassCases.{ClassDoes, idles, makes_none, makes, holds, branches, leaves, ComesHome}
use Rattle.shop_laws.proofs.Fine.{named_of}
use Rattle.shop_laws.proofs.Holding.{come_weight}
use Rattle.shop_laws.proofs.JobsLaw.{all_once}
use Rattle.shop_laws.proofs.Serving.{serving, station_step, class_step}
use Rattle.shop_laws.proofs.Steps.{AllBy, earlier, IsShopStep, shop_step, sum_before}

-- a job leaves, or is given up
abbrev IsGoing : ℕ → Type 0
IsGoing word = (word ≡ LEFT_WORD) ⊎ (word ≡ DROPPED_WORD)

other_word : {A : Type 0} (word : ℕ) → word ≢ LEFT_WORD → word ≢ DROPPED_WORD → IsGoing word → A
other_word word no_leave no_drop going = ⊎_elim (λ (e : word ≡ LEFT_WORD). absurd (no_leave e)) (λ (e : word ≡ DROPPED_WORD). absurd (no_drop e)) going

-- at a station no job goes
station_lets_none : {A : Type 0} (site : Site) (routes : Routes) (station : Station) (cells : CellData) (e : Event) (x : Effect) → StationDoes site routes station cells e x
    → IsGoing (word_told x.note) → A
unfolding take_effect wait_effect lose_effect begin_effect pass_effect renege_effect still_effect works_effect
station_lets_none site routes station cells e x (rests no_come no_done no_call no_turn) going = other_word 0 (λ e. absurd (omega arith)) (λ e. absurd (omega arith)) going
station_lets_none site routes station cells e x (goes_on job at) going = other_word 0 (λ e. absurd (omega arith)) (λ e. absurd (omega arith)) going
station_lets_none site routes station cells e x (frees job at some) going = other_word 17 (λ e. absurd (omega arith)) (λ e. absurd (omega arith)) going
station_lets_none site routes station cells e x (takes job visit at visits nobody spare) going = other_word 3 (λ e. absurd (omega arith)) (λ e. absurd (omega arith)) going
station_lets_none site routes station cells e x (waits job visit level at visits below busy) going = other_word 4 (λ e. absurd (omega arith)) (λ e. absurd (omega arith)) going
station_lets_none site routes station cells e x (loses job visit at visits) going = other_word 5 (λ e. absurd (omega arith)) (λ e. absurd (omega arith)) going
station_lets_none site routes station cells e x (passes level calls empty) going = other_word 0 (λ e. absurd (omega arith)) (λ e. absurd (omega arith)) going
station_lets_none site routes station cells e x (begins level job visit calls there) going = other_word 16 (λ e. absurd (omega arith)) (λ e. absurd (omega arith)) going
station_lets_none site routes station cells e x (ends job at below some on_time) going = other_word 6 (λ e. absurd (omega arith)) (λ e. absurd (omega arith)) going
station_lets_none site routes station cells e x (puts_off job at served below late) going = other_word 0 (λ e. absurd (omega arith)) (λ e. absurd (omega arith)) going
station_lets_none site routes station cells e x (reneges level place job visit kind below within now there) going = other_word 18 (λ e. absurd (omega arith)) (λ e. absurd (omega arith)) going
station_lets_none site routes station cells e x (shifts kind within) going = other_word 19 (λ e. absurd (omega arith)) (λ e. absurd (omega arith)) going
station_lets_none site routes station cells e x (stands breakdowns kind has up) going = other_word 20 (λ e. absurd (omega arith)) (λ e. absurd (omega arith)) going
station_lets_none site routes station cells e x (works breakdowns kind has) going = other_word 21 (λ e. absurd (omega arith)) (λ e. absurd (omega arith)) going

-- what is late by a due
late_by_due : (due : Option ℕ) (id age : ℕ) → IsLate due id age (overdue due id age)
late_by_due None id age = record { never = λ e. refl; on_time = λ most e upto. absurd (cc); late = λ most e above. absurd (cc) }
late_by_due (Some most) id age = record {
  never = λ e. absurd (cc);
  on_time = λ most2 e upto.
      let same : most ≡ most2 = cc in
      ap (λ b. if b then record { word = OVERDUE_WORD; a = id; b = age - most } ∷ [] else []) (le-ltb most age (omega arith));
  late = λ most2 e above.
      let same : most ≡ most2 = cc in
      ap (λ b. if b then record { word = OVERDUE_WORD; a = id; b = age - most } ∷ [] else []) (lt-ltb most age (omega arith))
      ∙ ap (λ m. let one : Part = record { word = OVERDUE_WORD; a = id; b = age - m } in one ∷ []) same;
}

-- a job that goes from its class comes there by the event, and as old as is told; one that leaves is late as is told
record Goes (site : Site) (routes : Routes) (class : Class) (e : Event) (note : Note) : Type 0 where
  pub job : Job
  pub home : ComesHome site routes e job
  pub id : first_told note ≡ job.id
  pub age : second_told note ≡ site.tick - birth_of e.b
  pub late : word_told note ≡ LEFT_WORD → IsLate class.due (first_told note) (second_told note) (rest_told note)

class_lets : (site : Site) (routes : Routes) (class : Class) (cells : CellData) (e : Event) (x : Effect) → ClassDoes site routes class cells e x → IsGoing (word_told x.note)
    → Goes site routes class e x.note
unfolding one_made stay_effect go_effect leave_effect
class_lets site routes class cells e x (idles no_come) going = other_word 0 (λ e. absurd (omega arith)) (λ e. absurd (omega arith)) going
class_lets site routes class cells e x (makes_none arrival next kind arrival_is some) going = other_word 0 (λ e. absurd (omega arith)) (λ e. absurd (omega arith)) going
class_lets site routes class cells e x (makes arrival next kind arrival_is some) going = other_word 2 (λ e. absurd (omega arith)) (λ e. absurd (omega arith)) going
class_lets site routes class cells e x (holds law job at steps) going = other_word 12 (λ e. absurd (omega arith)) (λ e. absurd (omega arith)) going
class_lets site routes class cells e x (branches branch job at steps) going = other_word 13 (λ e. absurd (omega arith)) (λ e. absurd (omega arith)) going
class_lets site routes class cells e x (leaves job at steps) going = by (nat_lt (length class.route) job.step)
  where
    age : ℕ
    age = site.tick - birth_of e.b

    by : (drop : Bool) → Goes site routes class e (if drop then record { word = DROPPED_WORD; a = job.id; b = age } ∷ [] else (record { word = LEFT_WORD; a = job.id; b = age } ∷ []) ++ overdue class.due job.id age)
    by true = record { job = job; home = at; id = refl; age = refl; late = λ left. absurd (omega arith) }
    by false = record { job = job; home = at; id = refl; age = refl; late = λ left. late_by_due class.due job.id age }

-- who weighs something among jobs is one of them
found_there : (id birth : ℕ) (jobs : List (ℕ × ℕ)) → 0 < sum_by (weight_of (this_job id birth)) jobs → Contains jobs (id, birth)
found_there id birth [] some = absurd (omega arith)
found_there id birth (job ∷ jobs) some =
    by (job.0 == id) refl (job.1 == birth) refl (sum_by-cons (weight_of (this_job id birth)) job jobs) (λ more. found_there id birth jobs more)
  where
    by : (a : Bool) → (job.0 == id) ≡ a → (b : Bool) → (job.1 == birth) ≡ b
        → sum_by (weight_of (this_job id birth)) (job ∷ jobs) ≡ from_bool (a && b) + sum_by (weight_of (this_job id birth)) jobs
        → (0 < sum_by (weight_of (this_job id birth)) jobs → Contains jobs (id, birth)) → Contains (job ∷ jobs) (id, birth)
    by true a true b sum rest =
        let first : job.0 ≡ id = eqb-true job.0 id a in
        let second : job.1 ≡ birth = eqb-true job.1 birth b in
        is-first (id, birth) job jobs (ap (λ n. (n, job.1)) first ∙ ap (λ n. (id, n)) second)
    by true a false b sum rest = is-later (id, birth) job jobs (rest (omega arith))
    by false a second b sum rest = is-later (id, birth) job jobs (rest (omega arith))

itself : (id birth : ℕ) → this_job id birth id birth ≡ 1
itself id birth = ap (λ b. from_bool (b && birth == birth)) (eq-eqb id id refl) ∙ ap (λ b. from_bool b) (eq-eqb birth birth refl)

one_by_then : (clock : ℕ) (told : Key × Note) → time_part told.0.stamp ≤ clock
    → Each (λ (job : ℕ × ℕ). job.1 ≤ clock) (if word_told told.1 == MADE_WORD then (first_told told.1, time_part told.0.stamp) ∷ [] else [])
one_by_then clock told early = by (word_told told.1 == MADE_WORD)
  where
    by : (makes_one : Bool) → Each (λ (job : ℕ × ℕ). job.1 ≤ clock) (if makes_one then (first_told told.1, time_part told.0.stamp) ∷ [] else [])
    by true = (early, tt)
    by false = tt

-- jobs are made no later than a clock
made_by_then : (p : ShopParts) (t : Terms) (n clock : ℕ) → AllBy clock (first_records n (shop_meaning p) t) → Each (λ (job : ℕ × ℕ). job.1 ≤ clock) (made_jobs p t n)
unfolding gathered
made_by_then p t n clock =
    each_number (shop_meaning p) t (λ n. AllBy clock (first_records n (shop_meaning p) t) → Each (λ (job : ℕ × ℕ). job.1 ≤ clock) (made_jobs p t n))
    (λ by_then. tt)
    (λ n stop is_next before by_then.
    let records : first_records (suc n) (shop_meaning p) t ≡ first_records n (shop_meaning p) t =
    gathered-more record_of (shop_meaning p) t n (stops stop) is_next ∙ append-nil (first_records n (shop_meaning p) t) in
    let made : made_jobs p t (suc n) ≡ made_jobs p t n = gathered-more made_next (shop_meaning p) t n (stops stop) is_next ∙ append-nil (made_jobs p t n) in
    subst (λ (jobs : List (ℕ × ℕ)). Each (λ (job : ℕ × ℕ). job.1 ≤ clock) jobs) (sym made) (before (subst (AllBy clock) records by_then)))
    (λ n told after is_next before by_then.
    let records : first_records (suc n) (shop_meaning p) t ≡ first_records n (shop_meaning p) t ++ told ∷ [] = gathered-more record_of (shop_meaning p) t n (does told after) is_next in
    let made : made_jobs p t (suc n) ≡ made_jobs p t n ++ made_next (after_events n (shop_meaning p) t) (does told after) = gathered-more made_next (shop_meaning p) t n (does told after) is_next in
    let all : AllBy clock (first_records n (shop_meaning p) t ++ told ∷ []) = subst (AllBy clock) records by_then in
    let front = Each-front (λ (r : Key × Note). time_part r.0.stamp ≤ clock) (first_records n (shop_meaning p) t) (told ∷ []) all in
    let back = Each-back (λ (r : Key × Note). time_part r.0.stamp ≤ clock) (first_records n (shop_meaning p) t) (told ∷ []) all in
    subst (λ (jobs : List (ℕ × ℕ)). Each (λ (job : ℕ × ℕ). job.1 ≤ clock) jobs) (sym made)
    (Each-append (λ (job : ℕ × ℕ). job.1 ≤ clock) (made_jobs p t n) (made_next (after_events n (shop_meaning p) t) (does told after)) (before front) (one_by_then clock told back.0)))
    n

-- what is known of an event by which a job goes
module _ (p : ShopParts) (t : Terms) (n : ℕ) (told : Key × Note) (after : State) (fine : IsShop p)
    (is_next : next (shop_meaning p) t (after_events n (shop_meaning p) t) ≡ does told after) (going : IsGoing (word_told told.1)) where
  abbrev s : State
  s = after_events n (shop_meaning p) t

  step : IsShopStep p t s told after
  step = shop_step p t s told after fine (n, refl) is_next

  note_is : told.1 ≡ step.effect.note
  note_is = ap (λ (r : Key × Note). r.1) step.tells

  key_is : told.0 ≡ step.event.key
  key_is = ap (λ (r : Key × Note). r.0) step.tells

  its_word : IsGoing (word_told step.effect.note)
  its_word = subst (λ (note : Note). IsGoing (word_told note)) note_is going

  goes : Goes (site_of p step.dest step.event) (routes_of p) (class_of_object p step.dest) step.event step.effect.note
  goes = ⊎_elim
      (λ (early : step.dest < length p.stations).
      station_lets_none _ _ _ _ step.event step.effect (station_step p t s told after fine step (serving p t s fine (n, refl)) early).does_so its_word)
      (λ (past : length p.stations ≤ step.dest).
      class_lets _ _ _ _ step.event step.effect (class_step p t s told after fine step (serving p t s fine (n, refl)) past).does_so its_word)
      (cases_lt step.dest (length p.stations))

  of_age : IsOfAge p t n (first_told told.1) (time_part told.0.stamp) (second_told told.1)
  of_age =
      let go = goes in
      let id : ℕ = go.job.id in
      let birth : ℕ = birth_of step.event.b in
      let w : ℕ → ℕ → ℕ = this_job id birth in
      let here : w id birth ≡ 1 = itself id birth in
      let weighs : at_event w step.event ≡ 1 =
      come_weight w step.dest step.event.kind step.event.a step.event.b go.home.kind ∙ ap (λ k. w k birth) (named_of (routes_of p) step.event.a go.job go.home.here.is).1 ∙ here in
      let some : 0 < sum_by (weight_of w) (made_jobs p t n) = omega (arith, all_once p t fine w n, sum_before p t s told after step (at_event w), weighs) in
      let told_id : first_told told.1 ≡ id = ap (λ (note : Note). first_told note) note_is ∙ go.id in
      record {
        birth = birth;
        made = subst (λ k. Contains (made_jobs p t n) (k, birth)) (sym told_id) (found_there id birth (made_jobs p t n) some);
        before =
            let now : ℕ = time_part step.event.key.stamp in
            let there : birth ≤ now =
            each-contains (λ (job : ℕ × ℕ). job.1 ≤ now) (id, birth) (made_jobs p t n) (made_by_then p t n now (earlier p t fine n step.event step.rest step.pending)) (found_there id birth (made_jobs p t n) some) in
            subst (λ (k : Key). birth ≤ time_part k.stamp) (sym key_is) there;
        old = ap (λ (note : Note). second_told note) note_is ∙ go.age ∙ ap (λ (k : Key). time_part k.stamp - birth) (sym key_is);
      }

  is_late : word_told told.1 ≡ LEFT_WORD → IsLate (class_of_object p told.0.dest).due (first_told told.1) (second_told told.1) (rest_told told.1)
  is_late left =
      let Late : ℕ → Note → Type 0 = λ d note. IsLate (class_of_object p d).due (first_told note) (second_told note) (rest_told note) in
      let its_left : word_told step.effect.note ≡ LEFT_WORD = ap (λ (note : Note). word_told note) (sym note_is) ∙ left in
      subst (λ (k : Key). Late k.dest told.1) (sym key_is) (subst (λ (note : Note). Late step.dest note) (sym note_is) (goes.late its_left))

pub ages_are_told : AgesAreTold
ages_are_told p t n told after fine is_next going = of_age p t n told after fine is_next going

pub late_is_told : LateIsTold
late_is_told p t n told after fine is_next left = is_late p t n told after fine is_next (inl left) left
