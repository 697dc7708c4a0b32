-- What is known of the step at which a job stands.
use Rattle.std.proofs.Common.{◌≡◌, ◌<◌, true, false, length, refl, sym, arith}
use Rattle.std.specs.Prelude.{Option, None, Some, IsTrue}
use Rattle.random_streams.specs.declared.delay_law.DelayLaw.{DelayLaw}
use Rattle.random_streams.specs.Delays.{is_delay_law}
use Rattle.shop_model.specs.declared.class.TheConstants.{MOST_STEPS}
use Rattle.shop_model.specs.declared.job.Job.{Job}
use Rattle.shop_model.specs.declared.routes.Routes.{Routes}
use Rattle.shop_model.specs.declared.step.Branch.{Branch}
use Rattle.shop_model.specs.declared.step.Step.{Step}
use Rattle.shop_model.specs.declared.step.Step.TheVariants.{Visit, Delay, Go}
use Rattle.shop_model.specs.declared.step.Visit.{Visit as AVisit}
use Rattle.std.proofs.lemmas.Option.{slice_get_within}
use Rattle.shop_model.specs.EffectKeeps.{class_fine, step_fine}
use Rattle.shop_model.specs.Meaning.{is_served}
use Rattle.shop_model.specs.Parts.{AreRoutes, IsBranch, IsVisit}
use Rattle.shop_model.specs.Routes.{HasJob, class_at, step_at}

pub step-within : (routes : Routes) (job : Job) (step : Step) → AreRoutes routes → HasJob routes job
    → Some step ≡ step_at routes job.class job.step → job.step < MOST_STEPS
step-within routes job step fine has is =
    let within : job.step < length (class_at routes job.class).route = slice_get_within (class_at routes job.class).route job.step step (sym is) in
    let few = (class_fine routes job.class fine has.class).few_steps in
    omega arith

pub visit-there : (routes : Routes) (job : Job) (visit : AVisit) → AreRoutes routes → HasJob routes job
    → Some (Visit visit) ≡ step_at routes job.class job.step → IsVisit routes.stations MOST_STEPS visit
visit-there routes job visit fine has is =
    let few = (class_fine routes job.class fine has.class).few_steps in
    let known : IsVisit routes.stations (length (class_at routes job.class).route) visit =
    step_fine routes job.class job.step fine has.class (Visit visit) (sym is) in
    let away = known.away in
    let full = known.full in
    record { exists = known.exists; service = known.service; patience = known.patience; away = omega arith; full = omega arith }

pub law-there : (routes : Routes) (job : Job) (law : DelayLaw) → AreRoutes routes → HasJob routes job
    → Some (Delay law) ≡ step_at routes job.class job.step → IsTrue (is_delay_law law)
law-there routes job law fine has is = step_fine routes job.class job.step fine has.class (Delay law) (sym is)

pub branch-there : (routes : Routes) (job : Job) (branch : Branch) → AreRoutes routes → HasJob routes job
    → Some (Go branch) ≡ step_at routes job.class job.step → IsBranch MOST_STEPS branch
branch-there routes job branch fine has is =
    let few = (class_fine routes job.class fine has.class).few_steps in
    let known : IsBranch (length (class_at routes job.class).route) branch =
    step_fine routes job.class job.step fine has.class (Go branch) (sym is) in
    record { matched = known.matched; choice = known.choice; links = λ k d within. let link = known.links k d within in omega arith }

-- a job that is served stands at a step
pub served-within : (routes : Routes) (job : Job) → AreRoutes routes → HasJob routes job
    → true ≡ is_served (step_at routes job.class job.step) → job.step < MOST_STEPS
served-within routes job fine has served = by (step_at routes job.class job.step) refl served
  where
    by : (found : Option Step) → step_at routes job.class job.step ≡ found → true ≡ is_served found → job.step < MOST_STEPS
    by None is served = let never : true ≡ false = served in cc
    by (Some step) is served = step-within routes job step fine has (sym is)
