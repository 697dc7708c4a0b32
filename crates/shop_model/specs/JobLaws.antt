-- What is known of a job that an event names, and of one that waits.
use Rattle.std.proofs.Common.{◌≡◌, ℕ, ◌+◌, ◌-◌, ◌^◌, ◌<◌, ◌≤◌, Bool, true, false, refl, sym, ap, ◌∙◌, subst, length, arith}
use Rattle.std.specs.Prelude.{if◌then◌else◌, ◌==◌, min, is_some, Option, None, Some}
use Rattle.std.specs.Option.{option_and_then}
use Rattle.std.proofs.lemmas.Bool.{and_parts, ltb-true, leb-true, eqb-true, eq-eqb}
use Rattle.shop_model.specs.declared.job.Job.{Job}
use Rattle.shop_model.specs.declared.levels.TheConstants.{EMPTY}
use Rattle.shop_model.specs.declared.routes.Routes.{Routes}
use Rattle.shop_model.specs.declared.step.Step.TheVariants.{Visit}
use Rattle.shop_model.specs.declared.step.Visit.{Visit as AVisit}
use Rattle.shop_model.specs.EffectKeeps.{class_fine}
use Rattle.shop_model.specs.Jobs.{id_of, step_of, class_of, job_at}
use Rattle.shop_model.specs.Meaning.{job_here}
use Rattle.shop_model.specs.Parts.{AreRoutes}
use Rattle.shop_model.specs.Routes.{class_at, step_at, is_job, job_of, stands_at, object_at, visit_of, visit_at, HasJob}
use Rattle.shop_model.specs.Stations.{is_entry}

-- a number names a job, which is one of the shop's
pub record Names (routes : Routes) (a : ℕ) (job : Job) : Type 0 where
  pub has : HasJob routes job
  pub named : job_at job.step job.id ≡ a
  pub small : a < EMPTY

pub job_named : (routes : Routes) (a : ℕ) (job : Job) → AreRoutes routes → job_of routes a ≡ Some job → Names routes a job
unfolding job_of is_job
job_named routes a job fine is = by (is_job routes a) refl is
  where
    by : (names : Bool) → is_job routes a ≡ names
        → (if names then Some (record { class = class_of a; step = step_of a; id = id_of a }) else None) ≡ Some job → Names routes a job
    by false fails is = absurd (cc)
    by true passes is =
        let p = and_parts _ _ passes in
        let q = and_parts _ _ p.0 in
        let class : class_of a < length routes.classes = ltb-true _ _ q.0 in
        let step : step_of a ≤ length (class_at routes (class_of a)).route + 1 = leb-true _ _ p.1 in
        let short : length (class_at routes (class_of a)).route ≤ 1024 = (class_fine routes (class_of a) fine class).few_steps in
        let same : record { class = class_of a; step = step_of a; id = id_of a } ≡ job = cc in
        subst (λ j. Names routes a j) same (record {
          has = record { class = class; step = step; id = omega arith };
          named = omega arith;
          small = omega (arith, step, short);
        })

-- it stands at an object
pub record HasHere (routes : Routes) (object a : ℕ) (job : Job) : Type 0 where
  pub is : job_of routes a ≡ Some job
  pub names : Names routes a job
  pub here : object_at routes job.class job.step ≡ object

pub job_here_is : (routes : Routes) (object a : ℕ) (job : Job) → AreRoutes routes → job_here routes object a ≡ Some job → HasHere routes object a job
unfolding job_here
job_here_is routes object a job fine is = by (job_of routes a) refl is
  where
    by : (found : Option Job) → job_of routes a ≡ found
        → option_and_then (λ (j : Job). if object_at routes j.class j.step == object then Some j else None) found ≡ Some job
        → HasHere routes object a job
    by None none is = absurd (cc)
    by (Some j) some is = at (object_at routes j.class j.step == object) refl is
      where
        at : (here : Bool) → (object_at routes j.class j.step == object) ≡ here → (if here then Some j else None) ≡ Some job
            → HasHere routes object a job
        at false fails is = absurd (cc)
        at true passes is =
            let same : j ≡ job = cc in
            subst (λ k. HasHere routes object a k) same
            (record { is = some; names = job_named routes a j fine some; here = eqb-true _ _ passes })

-- a job that visits a station may wait there
pub waits_here : (routes : Routes) (object a : ℕ) (job : Job) (visit : AVisit) → HasHere routes object a job
    → step_at routes job.class job.step ≡ Some (Visit visit)
    → is_entry object routes a ≡ true
unfolding is_entry visit_at object_at
waits_here routes object a job visit has visits =
    let small : a < EMPTY = has.names.small in
    let low : min a (2 ^ 64 - 1 - a) ≡ a = omega arith in
    let station : visit.station ≡ object = ap (λ step. stands_at (routes.stations + job.class) step) (sym visits) ∙ has.here in
    let visits_here : visit_of object (Some (Visit visit)) ≡ Some visit = ap (λ b. if b then Some visit else None) (eq-eqb _ _ station) in
    ap (λ n. is_some (visit_at routes object n)) low
    ∙ ap (λ found. is_some (option_and_then (λ (j : Job). visit_of object (step_at routes j.class j.step)) found)) has.is
    ∙ ap (λ step. is_some (visit_of object step)) visits
    ∙ ap (λ v. is_some v) visits_here
