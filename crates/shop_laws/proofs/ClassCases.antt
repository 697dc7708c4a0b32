-- What an event does at a class, case by case.
use Rattle.std.proofs.Common.{◌≡◌, ◌≢◌, ℕ, ◌+◌, ◌-◌, ◌<◌, ◌≤◌, Bool, true, false, [], ◌∷◌, ◌++◌, length, refl, sym, ap, ◌∙◌, subst, ⊎_elim, arith}
use Rattle.std.specs.Prelude.{if◌then◌else◌, ◌==◌, ◌&&◌, nat_lt, nat_le, slice_index, Option, None, Some}
use Rattle.std.specs.List.{AllByRecursion as Each}
use Rattle.std.proofs.lemmas.Bool.{ltb-true, eqb-true, eqb-false, cases_lt}
use Rattle.std.proofs.lemmas.List.{get_or_past}
use Rattle.key_order.proofs.EachLemmas.{Each-append}
use Rattle.delta_exchange.specs.Changes.{CellData}
use Rattle.model_core.specs.declared.effect.Effect.{Effect}
use Rattle.model_core.specs.declared.event.Event.{Event}
use Rattle.model_core.specs.declared.event.Send.{Send}
use Rattle.model_core.specs.Effects.{blank}
use Rattle.model_core.specs.Places.{place_changes}
use Rattle.random_streams.specs.declared.delay_law.DelayLaw.{DelayLaw}
use Rattle.random_streams.specs.declared.law.Law.TheVariants.{Choice}
use Rattle.random_streams.specs.Laws.{draw}
use Rattle.shop_model.specs.declared.class.Class.{Class}
use Rattle.shop_model.specs.declared.job.Job.{Job}
use Rattle.shop_model.specs.declared.kinds.TheConstants.{MAKE, COME, DONE}
use Rattle.shop_model.specs.declared.make.Arrival.{Arrival}
use Rattle.shop_model.specs.declared.routes.Routes.{Routes}
use Rattle.shop_model.specs.declared.site.Site.{Site}
use Rattle.shop_model.specs.declared.step.Branch.{Branch}
use Rattle.shop_model.specs.declared.step.Step.{Step}
use Rattle.shop_model.specs.declared.step.Step.TheVariants.{Visit, Free, Delay, Go}
use Rattle.shop_model.specs.Classes.{made_jobs, arrival_of, next_job, others_sent, next_arrival, one_made, make_effect, stay_effect, go_effect, leave_effect, come_home}
use Rattle.shop_model.specs.EffectKeeps.{class_fine, step_fine}
use Rattle.shop_model.specs.JobLaws.{HasHere}
use Rattle.shop_model.specs.Meaning.{job_here, home_by, class_effect}
use Rattle.shop_model.specs.Parts.{AreRoutes, IsBranch}
use Rattle.shop_model.specs.Routes.{class_at, step_at, stands_at, object_at, moved}
use Rattle.shop_model.specs.ShopParts.{ShopParts, routes_of}
use Rattle.shop_model.specs.Sites.{to_self, place_of, drawn_at}
use Rattle.shop_laws.proofs.Cases.{job_here-there, step_within}
use Rattle.shop_laws.proofs.Fine.{IsFine, IsNamed, named_of, moved_fine, other_fine}

-- an arrival that brings no job
abbrev pub none_effect : Site → Class → CellData → Arrival → ℕ → Effect
none_effect site class cells arrival next =
    record { changes = place_changes (place_of cells) next; sends = next_arrival site class (made_jobs cells) arrival.pause; note = [] }

-- one that brings some
abbrev pub some_effect : Site → Routes → Class → CellData → Arrival → ℕ → Effect
some_effect site routes class cells arrival next =
    let one = one_made site routes class cells arrival.jobs in
    record {
      changes = place_changes (place_of cells) next ++ one.changes;
      sends = one.sends ++ next_arrival site class (made_jobs cells + 1) arrival.pause;
      note = one.note;
    }

-- a job comes to its class
pub record ComesHome (site : Site) (routes : Routes) (e : Event) (job : Job) : Type 0 where
  pub kind : e.kind ≡ COME
  pub here : HasHere routes site.object e.a job

-- an event at a class does one of these
pub data ClassDoes (site : Site) (routes : Routes) (class : Class) (cells : CellData) (e : Event) : Effect → Type 0 where
  idles : e.kind ≢ COME → ClassDoes site routes class cells e blank
  makes_none : (arrival : Arrival) (next : ℕ) → e.kind ≡ MAKE → arrival_of site class cells e ≡ (arrival, next) → made_jobs cells < class.count
      → ClassDoes site routes class cells e (none_effect site class cells arrival next)
  makes : (arrival : Arrival) (next : ℕ) → e.kind ≡ MAKE → arrival_of site class cells e ≡ (arrival, next) → made_jobs cells < class.count
      → ClassDoes site routes class cells e (some_effect site routes class cells arrival next)
  holds : (law : DelayLaw) (job : Job) → ComesHome site routes e job → step_at routes job.class job.step ≡ Some (Delay law)
      → ClassDoes site routes class cells e (stay_effect site routes law job cells e)
  branches : (branch : Branch) (job : Job) → ComesHome site routes e job → step_at routes job.class job.step ≡ Some (Go branch)
      → ClassDoes site routes class cells e (go_effect site routes branch job cells e)
  leaves : (job : Job) → ComesHome site routes e job → step_at routes job.class job.step ≡ None → ClassDoes site routes class cells e (leave_effect site class job cells e)

-- what is known where an event is at a class
pub record IsEventHome (p : ShopParts) (site : Site) (class : Class) (cells : CellData) (e : Event) : Type 0 where
  pub routes : AreRoutes (routes_of p)
  pub past : length p.stations ≤ site.object
  pub exists : site.object < length p.stations + length p.classes
  pub is : class ≡ class_at (routes_of p) (site.object - length p.stations)
  pub comes : e.kind ≡ COME → (job : Job) × HasHere (routes_of p) site.object e.a job

module _ (p : ShopParts) (site : Site) (class : Class) (cells : CellData) (e : Event) (is : IsEventHome p site class cells e) where
  abbrev routes : Routes
  routes = routes_of p

  abbrev Does : Effect → Type 0
  Does x = ClassDoes site routes class cells e x

  place_is : (job : Job) → HasHere routes site.object e.a job → (step : Option Step) → step_at routes job.class job.step ≡ step
      → stands_at (routes.stations + job.class) step ≡ site.object
  unfolding object_at
  place_is job has step steps = ap (λ s. stands_at (routes.stations + job.class) s) (sym steps) ∙ has.here

  home_does : (job : Job) → ComesHome site routes e job → (step : Option Step) → step_at routes job.class job.step ≡ step → Does (come_home site routes class step job cells e)
  home_does job at None steps = leaves job at steps
  home_does job at (Some (Delay law)) steps = holds law job at steps
  home_does job at (Some (Go branch)) steps = branches branch job at steps
  home_does job at (Some (Visit visit)) steps = absurd (
      let there : visit.station ≡ site.object = place_is job at.here (Some (Visit visit)) steps in
      let fine = step_fine routes job.class job.step is.routes at.here.names.has.class (Visit visit) steps in
      let below : visit.station < length p.stations = fine.exists in
      omega (arith, is.past)
      )
  home_does job at (Some (Free station)) steps = absurd (
      let there : station ≡ site.object = place_is job at.here (Some (Free station)) steps in
      let below : station < length p.stations = step_fine routes job.class job.step is.routes at.here.names.has.class (Free station) steps in
      omega (arith, is.past)
      )

  comes_does : e.kind ≡ COME → Does (home_by site routes class cells e (job_here routes site.object e.a))
  comes_does kind =
      let found = is.comes kind in
      let job : Job = found.0 in
      subst (λ (j : Option Job). Does (home_by site routes class cells e j)) (sym (job_here-there routes site.object e.a job found.1))
      (home_does job (record { kind = kind; here = found.1 }) (step_at routes job.class job.step) refl)

  make_does : e.kind ≡ MAKE → Does (make_effect site routes class cells e)
  unfolding make_effect
  make_does kind = by (nat_lt (made_jobs cells) class.count) (arrival.jobs == 0) refl
    where
      arrival : Arrival
      arrival = (arrival_of site class cells e).0

      next : ℕ
      next = (arrival_of site class cells e).1

      by : (some none : Bool) → nat_lt (made_jobs cells) class.count ≡ some
          → Does (if some then (if none then none_effect site class cells arrival next else some_effect site routes class cells arrival next) else blank)
      by false none some_is = idles (λ come. absurd (omega arith))
      by true true some_is = makes_none arrival next kind refl (ltb-true _ _ some_is)
      by true false some_is = makes arrival next kind refl (ltb-true _ _ some_is)

  pub class_does : Does (class_effect site routes class cells e)
  unfolding class_effect
  class_does = by (e.kind == MAKE) (e.kind == COME) refl refl
    where
      by : (make come : Bool) → (e.kind == MAKE) ≡ make → (e.kind == COME) ≡ come → Does
          (if make then make_effect site routes class cells e
          else if come then home_by site routes class cells e (job_here routes site.object e.a)
          else blank)
      by true come make_is come_is = make_does (eqb-true _ _ make_is)
      by false true make_is come_is = comes_does (eqb-true _ _ come_is)
      by false false make_is come_is = idles (eqb-false _ _ come_is)

  -- the job that is made is named by its class and its number
  pub next_named : made_jobs cells < class.count → IsNamed routes (next_job site routes cells)
  next_named some =
      let there : site.object - length p.stations < length p.classes = omega (arith, is.past, is.exists) in
      let fine = class_fine routes (site.object - length p.stations) is.routes there in
      let few : class.count ≤ 9999999 = subst (λ (c : Class). c.count ≤ 9999999) (sym is.is) fine.few in
      let all : length p.stations + length p.classes ≤ 65536 = is.routes.few in
      record {
        class = there;
        own = omega arith;
        some = omega arith;
        small = omega arith;
      }

  -- the steps to which a branch leads
  branch_within : (branch : Branch) (steps k : ℕ) → IsBranch steps branch → slice_index branch.steps k ≤ steps + 1
  branch_within branch steps k fine = ⊎_elim
      (λ (within : k < length branch.steps). fine.links k 0 within)
      (λ (past : length branch.steps ≤ k). let none : slice_index branch.steps k ≡ 0 = get_or_past branch.steps k 0 past in omega arith)
      (cases_lt k (length branch.steps))

  -- what holds of each arrival that it sends to itself and of each job that it moves holds of all that a class sends
  module _ (P : Send → Type 0) (makes_so : (delay a b : ℕ) → P (to_self site delay MAKE a b)) where
    pub arrival_each : (made : ℕ) (pause : Option ℕ) → Each P (next_arrival site class made pause)
    arrival_each made None = tt
    arrival_each made (Some pause) = by (nat_lt made class.count && nat_le (site.tick + pause) class.until)
      where
        by : (comes : Bool) → Each P (if comes then to_self site pause MAKE 0 1 ∷ [] else [])
        by true = (makes_so pause 0 1, tt)
        by false = tt

    pub others_each : (jobs : ℕ) → Each P (others_sent site class cells jobs)
    others_each jobs = by (nat_lt 1 jobs && nat_lt (made_jobs cells + 1) class.count)
      where
        by : (more : Bool) → Each P (if more then to_self site 0 MAKE (jobs - 1) 0 ∷ [] else [])
        by true = (makes_so 0 (jobs - 1) 0, tt)
        by false = tt

  module _ (P : Send → Type 0) (makes_so : (delay a b : ℕ) → P (to_self site delay MAKE a b))
      (moves_so : (job : Job) (b step delay : ℕ) → IsNamed routes job → step ≤ length (class_at routes job.class).route + 1 → P (moved routes job b step delay)) where
    pub class_sends_each : (x : Effect) → Does x → Each P x.sends
    unfolding one_made stay_effect go_effect leave_effect
    class_sends_each x (idles no_come) = tt
    class_sends_each x (makes_none arrival next kind arrival_is some) = arrival_each P makes_so (made_jobs cells) arrival.pause
    class_sends_each x (makes arrival next kind arrival_is some) =
        Each-append P (moved routes (next_job site routes cells) site.tick 0 0 ∷ others_sent site class cells arrival.jobs) (next_arrival site class (made_jobs cells + 1) arrival.pause)
        (moves_so (next_job site routes cells) site.tick 0 0 (next_named some) (omega arith), others_each P makes_so arrival.jobs)
        (arrival_each P makes_so (made_jobs cells + 1) arrival.pause)
    class_sends_each x (holds law job at steps) =
        let within = step_within routes job.class job.step (Delay law) steps in
        (moves_so job e.b (job.step + 1) (drawn_at site (place_of cells) law).0 (named_of routes e.a job at.here.is).0 (omega (arith, within)), tt)
    class_sends_each x (branches branch job at steps) =
        let drawn = draw site.seed site.object (place_of cells) (Choice branch.weights) in
        let named = (named_of routes e.a job at.here.is).0 in
        let fine = step_fine routes job.class job.step is.routes named.class (Go branch) steps in
        (moves_so job e.b (slice_index branch.steps drawn.0) 0 named (branch_within branch (length (class_at routes job.class).route) drawn.0 fine), tt)
    class_sends_each x (leaves job at steps) = tt

  pub class_sends_fine : (x : Effect) → Does x → Each (λ (s : Send). IsFine p s.dest s.kind s.a s.b) x.sends
  class_sends_fine x does_so =
      class_sends_each (λ (s : Send). IsFine p s.dest s.kind s.a s.b)
      (λ delay a b. other_fine p site.object MAKE a b (λ come. absurd (omega arith)) (λ done. absurd (omega arith)))
      (λ job b step delay named within. moved_fine p job b step delay is.routes named within) x does_so

  pub class_no_service : (x : Effect) → Does x → Each (λ (s : Send). s.kind ≢ DONE) x.sends
  unfolding moved
  class_no_service x does_so =
      class_sends_each (λ (s : Send). s.kind ≢ DONE) (λ delay a b. λ done. absurd (omega arith)) (λ job b step delay named within. λ done. absurd (omega arith)) x does_so
