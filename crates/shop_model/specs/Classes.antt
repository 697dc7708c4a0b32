-- What a class does: it makes jobs, and jobs come to it for a delay, a branch and their end.
use Rattle.std.specs.Prelude.{ℕ, ◌+◌, ◌-◌, ◌*◌, ◌%◌, ◌^◌, ◌<◌, ◌≤◌, Bool, ◌&&◌, ◌==◌, if◌then◌else◌, List, [], ◌∷◌, ◌++◌, length, nat_lt, nat_le}
use Rattle.std.specs.Prelude.{slice_index, Option, None, Some}
use Rattle.delta_exchange.specs.declared.change.Change.TheVariants.{Set}
use Rattle.delta_exchange.specs.Changes.{CellData}
use Rattle.model_core.specs.declared.effect.Effect.{Effect}
use Rattle.model_core.specs.declared.event.Event.{Event}
use Rattle.model_core.specs.declared.event.Send.{Send}
use Rattle.model_core.specs.declared.note.Part.{Part}
use Rattle.model_core.specs.declared.words.TheConstants.{MADE_WORD, LEFT_WORD, DROPPED_WORD, OVERDUE_WORD, DELAYED_WORD, WENT_WORD}
use Rattle.model_core.specs.Effects.{blank}
use Rattle.model_core.specs.Places.{place_changes}
use Rattle.random_streams.specs.declared.delay_law.DelayLaw.{DelayLaw}
use Rattle.random_streams.specs.declared.law.Law.TheVariants.{Choice}
use Rattle.random_streams.specs.Delays.{draw_delay}
use Rattle.random_streams.specs.Laws.{draw}
use Rattle.random_streams.specs.Words.{StreamView}
use Rattle.shop_model.specs.declared.class.Class.{Class}
use Rattle.shop_model.specs.declared.class.TheConstants.{MADE, INSIDE}
use Rattle.shop_model.specs.declared.job.Job.{Job}
use Rattle.shop_model.specs.declared.job.TheConstants.{JOBS_A_CLASS}
use Rattle.shop_model.specs.declared.kinds.TheConstants.{MAKE}
use Rattle.shop_model.specs.declared.make.Arrival.{Arrival}
use Rattle.shop_model.specs.declared.routes.Routes.{Routes}
use Rattle.shop_model.specs.declared.site.Site.{Site}
use Rattle.shop_model.specs.declared.step.Branch.{Branch}
use Rattle.shop_model.specs.declared.step.Step.{Step}
use Rattle.shop_model.specs.declared.step.Step.TheVariants.{Visit, Free, Delay, Go}
use Rattle.shop_model.specs.Jobs.{birth_of}
use Rattle.shop_model.specs.Routes.{moved}
use Rattle.shop_model.specs.Sites.{to_self, place_of, words_at, drawn_at, drawn_or, told}

-- word 1 counts the jobs that were made, and word 2 those that are inside
abbrev pub made_jobs : CellData → ℕ
made_jobs cells = slice_index cells.words MADE

abbrev pub jobs_inside : CellData → ℕ
jobs_inside cells = slice_index cells.words INSIDE

abbrev pub is_class_cells : ℕ → CellData → Bool
is_class_cells count cells =
    length cells.words == 3 && length cells.lines == 0
    && nat_le (jobs_inside cells) (made_jobs cells) && nat_le (made_jobs cells) count

abbrev pub first_class_cells : CellData
first_class_cells = record { words = 0 ∷ 0 ∷ 0 ∷ []; lines = [] }

-- the ticks to the next arrival, drawn where the event begins the next one and there is a law for it
abbrev pub pause_drawn : StreamView → Option DelayLaw → ℕ → Option ℕ × ℕ
pause_drawn words None b = (None, words.place)
pause_drawn words (Some every) b =
    let drawn = draw_delay words.seed words.object words.place every in
    if b % 2 == 1 then (Some drawn.0, drawn.1) else (None, words.place)

-- what an arrival brings, and the random place after it: the jobs that are left of an arrival, or a new one
unfoldable pub arrival_of : Site → Class → CellData → Event → Arrival × ℕ
arrival_of site class cells event =
    let jobs = drawn_or 1 (words_at site (place_of cells)) class.batch in
    let pause = pause_drawn (words_at site jobs.1) class.every event.b in
    if event.a == 0 then (record { jobs = jobs.0; pause = pause.0 }, pause.1)
    else (record { jobs = event.a; pause = None }, place_of cells)

-- the job that is made next
abbrev pub next_job : Site → Routes → CellData → Job
next_job site routes cells =
    let class = site.object - routes.stations in
    record { class = class; step = 0; id = class * JOBS_A_CLASS + (made_jobs cells + 1) }

-- the others of an arrival come at the next step of the tick
abbrev pub others_sent : Site → Class → CellData → ℕ → List Send
others_sent site class cells jobs =
    if nat_lt 1 jobs && nat_lt (made_jobs cells + 1) class.count then to_self site 0 MAKE (jobs - 1) 0 ∷ [] else []

-- the next arrival, if it comes in time and a job is left for it
abbrev pub next_arrival : Site → Class → ℕ → Option ℕ → List Send
next_arrival site class made None = []
next_arrival site class made (Some pause) =
    if nat_lt made class.count && nat_le (site.tick + pause) class.until then to_self site pause MAKE 0 1 ∷ [] else []

-- one job of an arrival is made
unfoldable pub one_made : Site → Routes → Class → CellData → ℕ → Effect
one_made site routes class cells jobs =
    let job = next_job site routes cells in
    record {
      changes = Set MADE (made_jobs cells + 1) ∷ Set INSIDE (jobs_inside cells + 1) ∷ [];
      sends = moved routes job site.tick 0 0 ∷ others_sent site class cells jobs;
      note = told MADE_WORD job.id (jobs_inside cells + 1);
    }

-- an arrival brings nothing, or one job and then the others
abbrev pub arrival_effect : Site → Routes → Class → CellData → Arrival → ℕ → Effect
arrival_effect site routes class cells arrival next =
    let drawn = place_changes (place_of cells) next in
    let one = one_made site routes class cells arrival.jobs in
    if arrival.jobs == 0 then record { changes = drawn; sends = next_arrival site class (made_jobs cells) arrival.pause; note = [] }
    else record {
      changes = drawn ++ one.changes;
      sends = one.sends ++ next_arrival site class (made_jobs cells + 1) arrival.pause;
      note = one.note;
    }

unfoldable pub make_effect : Site → Routes → Class → CellData → Event → Effect
make_effect site routes class cells event =
    let arrival = arrival_of site class cells event in
    if nat_lt (made_jobs cells) class.count then arrival_effect site routes class cells arrival.0 arrival.1 else blank

-- a job stays for a drawn while
unfoldable pub stay_effect : Site → Routes → DelayLaw → Job → CellData → Event → Effect
stay_effect site routes law job cells event =
    let drawn = drawn_at site (place_of cells) law in
    record {
      changes = place_changes (place_of cells) drawn.1;
      sends = moved routes job event.b (job.step + 1) drawn.0 ∷ [];
      note = told DELAYED_WORD job.id drawn.0;
    }

-- a job goes to a drawn step
unfoldable pub go_effect : Site → Routes → Branch → Job → CellData → Event → Effect
go_effect site routes branch job cells event =
    let drawn = draw site.seed site.object (place_of cells) (Choice branch.weights) in
    let step = slice_index branch.steps drawn.0 in
    record {
      changes = place_changes (place_of cells) drawn.1;
      sends = moved routes job event.b step 0 ∷ [];
      note = told WENT_WORD job.id step;
    }

-- what is told of a job that leaves at an age above its due
abbrev pub overdue : Option ℕ → ℕ → ℕ → List Part
overdue None id age = []
overdue (Some due) id age = if nat_lt due age then told OVERDUE_WORD id (age - due) else []

-- a job leaves from the step after the last, and is given up from the one after that
unfoldable pub leave_effect : Site → Class → Job → CellData → Event → Effect
leave_effect site class job cells event =
    let age = site.tick - birth_of event.b in
    record {
      changes = if jobs_inside cells == 0 then [] else Set INSIDE (jobs_inside cells - 1) ∷ [];
      sends = [];
      note = if nat_lt (length class.route) job.step then told DROPPED_WORD job.id age
          else told LEFT_WORD job.id age ++ overdue class.due job.id age;
    }

abbrev pub come_home : Site → Routes → Class → Option Step → Job → CellData → Event → Effect
come_home site routes class None job cells event = leave_effect site class job cells event
come_home site routes class (Some (Delay law)) job cells event = stay_effect site routes law job cells event
come_home site routes class (Some (Go branch)) job cells event = go_effect site routes branch job cells event
come_home site routes class (Some (Visit visit)) job cells event = blank
come_home site routes class (Some (Free station)) job cells event = blank

-- at one of the classes of a shop
pub record IsAtClass (routes : Routes) (site : Site) : Type 0 where
  pub after : routes.stations ≤ site.object
  pub exists : site.object < routes.stations + length routes.classes
  pub tick : site.tick < 2 ^ 46
