-- Where the jobs of each class go.
use Rattle.std.specs.Prelude.{ℕ, ◌+◌, ◌^◌, ◌<◌, ◌≤◌, Bool, ◌&&◌, ◌==◌, if◌then◌else◌, [], length, nat_lt, nat_le, slice_get, slice_index_or, Option}
use Rattle.std.specs.Prelude.{None, Some}
use Rattle.std.specs.Option.{option_and_then}
use Rattle.model_core.specs.declared.event.Send.{Send}
use Rattle.shop_model.specs.declared.class.Class.{Class}
use Rattle.shop_model.specs.declared.job.Job.{Job}
use Rattle.shop_model.specs.declared.kinds.TheConstants.{COME, COME_RANK}
use Rattle.shop_model.specs.declared.routes.Routes.{Routes}
use Rattle.shop_model.specs.declared.step.Step.{Step}
use Rattle.shop_model.specs.declared.step.Step.TheVariants.{Visit, Free, Delay, Go}
use Rattle.shop_model.specs.declared.step.Visit.{Visit as AVisit}
use Rattle.shop_model.specs.Jobs.{id_of, step_of, class_of, number_of, birth_of, job_at}

-- what stands for a class where there is none
abbrev pub no_class : Class
no_class = record { name = []; every = None; first = 0; until = 0; times = []; batch = None; count = 0; priority = 0; due = None; route = [] }

abbrev pub class_at : Routes → ℕ → Class
class_at routes class = slice_index_or routes.classes class no_class

-- a step of a class; after the last one a job is out, and after that given up
abbrev pub step_at : Routes → ℕ → ℕ → Option Step
step_at routes class step = slice_get (class_at routes class).route step

-- there is such a class, its jobs are numbered from 1, and it has such a step or end
unfoldable pub is_job : Routes → ℕ → Bool
is_job routes a =
    nat_lt (class_of a) (length routes.classes) && nat_le 1 (number_of a)
    && nat_le (step_of a) (length (class_at routes (class_of a)).route + 1)

-- the job that an event names, where there is one
unfoldable pub job_of : Routes → ℕ → Option Job
job_of routes a = if is_job routes a then Some (record { class = class_of a; step = step_of a; id = id_of a }) else None

-- at a station for a visit or to give a server back, and else at the job's class
abbrev pub stands_at : ℕ → Option Step → ℕ
stands_at home None = home
stands_at home (Some (Visit visit)) = visit.station
stands_at home (Some (Free station)) = station
stands_at home (Some (Delay law)) = home
stands_at home (Some (Go branch)) = home

unfoldable pub object_at : Routes → ℕ → ℕ → ℕ
object_at routes class step = stands_at (routes.stations + class) (step_at routes class step)

-- the visit of a station, where the step is one
abbrev pub visit_of : ℕ → Option Step → Option AVisit
visit_of station (Some (Visit visit)) = if visit.station == station then Some visit else None
visit_of station None = None
visit_of station (Some (Free other)) = None
visit_of station (Some (Delay law)) = None
visit_of station (Some (Go branch)) = None

unfoldable pub visit_at : Routes → ℕ → ℕ → Option AVisit
visit_at routes station a = option_and_then (λ job. visit_of station (step_at routes job.class job.step)) (job_of routes a)

-- a job on its way to a step
unfoldable pub moved : Routes → Job → ℕ → ℕ → ℕ → Send
moved routes job b step delay = record {
  dest = object_at routes job.class step;
  delay = delay;
  kind = COME;
  a = job_at step job.id;
  b = birth_of b;
  rank = COME_RANK + (class_at routes job.class).priority;
}

-- a job of one of the classes, at one of its steps or ends
pub record HasJob (routes : Routes) (job : Job) : Type 0 where
  pub class : job.class < length routes.classes
  pub step : job.step ≤ length (class_at routes job.class).route + 1
  pub id : job.id < 2 ^ 40
