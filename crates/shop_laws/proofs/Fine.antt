-- Each pending event that is a job's names a job that stands there.
use Rattle.std.proofs.Common.{◌≡◌, ◌≢◌, ℕ, ◌+◌, ◌/◌, ◌%◌, ◌^◌, ◌<◌, ◌≤◌, Bool, true, false, List, [], ◌∷◌, length, refl, ap, ◌∙◌, subst, arith}
use Rattle.std.specs.Prelude.{if◌then◌else◌, sum_by, None, Some}
use Rattle.std.specs.List.{AllByRecursion as Each}
use Rattle.std.proofs.lemmas.Bool.{and_parts, and_from, ltb-true, leb-true, lt-ltb, le-leb}
use Rattle.std.proofs.lemmas.List.Sums.{sum_by-cons}
use Rattle.model_core.specs.declared.event.Event.{Event}
use Rattle.model_core.specs.declared.event.Send.{Send}
use Rattle.shop_model.specs.declared.job.Job.{Job}
use Rattle.shop_model.specs.declared.job.TheConstants.{JOBS_A_CLASS}
use Rattle.shop_model.specs.declared.kinds.TheConstants.{COME, DONE}
use Rattle.shop_model.specs.declared.routes.Routes.{Routes}
use Rattle.shop_model.specs.JobLaws.{HasHere, job_named}
use Rattle.shop_model.specs.Jobs.{id_of, step_of, class_of, number_of, server_of, job_at}
use Rattle.shop_model.specs.Meaning.{is_served}
use Rattle.shop_model.specs.Parts.{AreRoutes}
use Rattle.shop_model.specs.Routes.{class_at, step_at, is_job, job_of, moved}
use Rattle.shop_model.specs.ShopParts.{ShopParts, routes_of, station_at}
use Rattle.sim_spec.specs.Firing.{emission, emissions}

-- the end of a service at a station, by one of its servers
pub record IsService (p : ShopParts) (dest a b : ℕ) : Type 0 where
  pub station : dest < length p.stations
  pub job : Job
  pub here : HasHere (routes_of p) dest a job
  pub served : is_served (step_at (routes_of p) job.class job.step) ≡ true
  pub server : server_of b < (station_at p.stations dest).most

-- an event to this object, of this kind and with these values, names a job that stands there, if it is a job's
pub record IsFine (p : ShopParts) (dest kind a b : ℕ) : Type 0 where
  pub comes : kind ≡ COME → (job : Job) × HasHere (routes_of p) dest a job
  pub serves : kind ≡ DONE → IsService p dest a b

-- what holds of each send holds of each event that is sent
pub each_emission : (P : ℕ → ℕ → ℕ → ℕ → Type 0) (stamp object serial : ℕ) (sends : List Send) → Each (λ (s : Send). P s.dest s.kind s.a s.b) sends
    → Each (λ (e : Event). P e.key.dest e.kind e.a e.b) (emissions stamp object serial sends)
unfolding emissions
each_emission P stamp object serial [] all = tt
each_emission P stamp object serial (s ∷ rest) all = (all.0, each_emission P stamp object (serial + 1) rest all.1)

-- and so do sums
pub sum_emissions : (f : ℕ → ℕ → ℕ → ℕ → ℕ) (stamp object serial : ℕ) (sends : List Send)
    → sum_by (λ (e : Event). f e.key.dest e.kind e.a e.b) (emissions stamp object serial sends) ≡ sum_by (λ (s : Send). f s.dest s.kind s.a s.b) sends
unfolding emissions
sum_emissions f stamp object serial [] = refl
sum_emissions f stamp object serial (s ∷ rest) =
    omega (
      arith,
      sum_by-cons (λ (e : Event). f e.key.dest e.kind e.a e.b) (emission stamp object serial s) (emissions stamp object (serial + 1) rest),
      sum_by-cons (λ (s : Send). f s.dest s.kind s.a s.b) s rest,
      sum_emissions f stamp object (serial + 1) rest,
    )

-- a job of the class that its id says, where its numbers start from 1
pub record IsNamed (routes : Routes) (job : Job) : Type 0 where
  pub class : job.class < length routes.classes
  pub own : job.id / JOBS_A_CLASS ≡ job.class
  pub some : 1 ≤ job.id % JOBS_A_CLASS
  pub small : job.id < 2 ^ 40

abbrev a_job : ℕ → ℕ → ℕ → Job
a_job class step id = record { class = class; step = step; id = id }

pub named_of : (routes : Routes) (a : ℕ) (job : Job) → job_of routes a ≡ Some job → IsNamed routes job × (id_of a ≡ job.id)
unfolding job_of is_job
named_of routes a job is = by (is_job routes a) refl is
  where
    by : (names : Bool) → is_job routes a ≡ names → (if names then Some (a_job (class_of a) (step_of a) (id_of a)) else None) ≡ Some job → IsNamed routes job × (id_of a ≡ job.id)
    by false fails is = absurd (cc)
    by true passes is =
        let p = and_parts _ _ passes in
        let q = and_parts _ _ p.0 in
        let class : class_of a < length routes.classes = ltb-true _ _ q.0 in
        let number : 1 ≤ number_of a = leb-true _ _ q.1 in
        let same : a_job (class_of a) (step_of a) (id_of a) ≡ job = cc in
        subst (λ (j : Job). IsNamed routes j × (id_of a ≡ j.id)) same (record { class = class; own = refl; some = number; small = omega arith }, refl)

-- the job at a step is named by its number there
pub job_at-named : (routes : Routes) (job : Job) (step : ℕ) → IsNamed routes job → step ≤ length (class_at routes job.class).route + 1
    → job_of routes (job_at step job.id) ≡ Some (a_job job.class step job.id)
unfolding job_of is_job
job_at-named routes job step named within =
    let a : ℕ = job_at step job.id in
    let small : job.id < 2 ^ 40 = named.small in
    let id_is : id_of a ≡ job.id = omega arith in
    let step_is : step_of a ≡ step = omega arith in
    let class_is : class_of a ≡ job.class = ap (λ n. n / JOBS_A_CLASS) id_is ∙ named.own in
    let number_is : number_of a ≡ job.id % JOBS_A_CLASS = ap (λ n. n % JOBS_A_CLASS) id_is in
    let long : length (class_at routes (class_of a)).route ≡ length (class_at routes job.class).route = ap (λ c. length (class_at routes c).route) class_is in
    let class_there : class_of a < length routes.classes = (let there : job.class < length routes.classes = named.class in omega (arith, class_is, there)) in
    let some : 1 ≤ number_of a = (let one : 1 ≤ job.id % JOBS_A_CLASS = named.some in omega (arith, number_is, one)) in
    let test : is_job routes a ≡ true =
    and_from _ _ (and_from _ _ (lt-ltb _ _ class_there) (le-leb _ _ some))
    (le-leb _ _ (let few : step_of a ≤ length (class_at routes (class_of a)).route + 1 = omega (arith, step_is, long, within) in few)) in
    ap (λ b. if b then Some (a_job (class_of a) (step_of a) (id_of a)) else None) test
    ∙ ap (λ c. Some (a_job c (step_of a) (id_of a))) class_is
    ∙ ap (λ k. Some (a_job job.class k (id_of a))) step_is
    ∙ ap (λ n. Some (a_job job.class step n)) id_is

-- a job that moves names itself where it goes
pub moved_fine : (p : ShopParts) (job : Job) (b step delay : ℕ) → AreRoutes (routes_of p) → IsNamed (routes_of p) job
    → step ≤ length (class_at (routes_of p) job.class).route + 1
    → (let s = moved (routes_of p) job b step delay in IsFine p s.dest s.kind s.a s.b)
unfolding moved
moved_fine p job b step delay routes named within =
    let is = job_at-named (routes_of p) job step named within in
    record {
      comes = λ come. (a_job job.class step job.id, record { is = is; names = job_named (routes_of p) (job_at step job.id) (a_job job.class step job.id) routes is; here = refl });
      serves = λ done. absurd (omega arith);
    }

-- any other event is no job's
pub other_fine : (p : ShopParts) (dest kind a b : ℕ) → kind ≢ COME → kind ≢ DONE → IsFine p dest kind a b
other_fine p dest kind a b no_come no_done = record { comes = λ come. absurd (no_come come); serves = λ done. absurd (no_done done) }
