-- A class keeps the laws of models.
use Rattle.std.proofs.Common.{◌≡◌, ℕ, ◌+◌, ◌-◌, ◌%◌, ◌^◌, ◌<◌, ◌≤◌, Bool, true, false, List, [], ◌∷◌, ◌++◌, length, length-append, refl, arith}
use Rattle.std.specs.Prelude.{IsTrue, if◌then◌else◌, ◌==◌, ◌&&◌, nat_lt, nat_le, slice_index, Option, None, Some}
use Rattle.std.specs.Option.{ForSome}
use Rattle.std.proofs.lemmas.Bool.{ltb-true}
use Rattle.std.proofs.lemmas.Bool.Decides.{nat_tests}
use Rattle.delta_exchange.specs.declared.change.Change.TheVariants.{Set}
use Rattle.delta_exchange.specs.Changes.{CellData, AllFit, cells_after_all}
use Rattle.model_core.specs.declared.event.Event.{Event}
use Rattle.model_core.specs.Effects.{blank}
use Rattle.model_core.specs.Places.{place_changes, place_cases}
use Rattle.random_streams.specs.declared.delay_law.DelayLaw.{DelayLaw}
use Rattle.random_streams.specs.Delays.{is_delay_law, draw_delay}
use Rattle.random_streams.specs.declared.law.Law.TheVariants.{Choice}
use Rattle.random_streams.specs.Laws.{draw}
use Rattle.random_streams.specs.Words.{StreamView}
use Rattle.random_streams.proofs.DelayBounds.{draw_delay-le}
use Rattle.shop_model.specs.declared.class.Class.{Class}
use Rattle.shop_model.specs.declared.class.TheConstants.{MADE, INSIDE}
use Rattle.shop_model.specs.declared.job.Job.{Job}
use Rattle.shop_model.specs.declared.kinds.TheConstants.{MAKE, COME}
use Rattle.shop_model.specs.declared.make.Arrival.{Arrival}
use Rattle.shop_model.specs.declared.routes.Routes.{Routes}
use Rattle.shop_model.specs.declared.site.Site.{Site}
use Rattle.shop_model.specs.declared.step.Step.{Step}
use Rattle.shop_model.specs.declared.step.Step.TheVariants.{Visit, Free, Delay, Go}
use Rattle.shop_model.specs.Classes.{made_jobs, jobs_inside, is_class_cells, pause_drawn, arrival_of, next_job, others_sent, next_arrival, one_made}
use Rattle.shop_model.specs.Classes.{arrival_effect, make_effect, stay_effect, go_effect, leave_effect, come_home}
use Rattle.shop_model.specs.EffectKeeps.{EffectKeeps, Sent, sent_append, sent_more, self_sent, job_sent, drawn_short, few_places, blank_keeps}
use Rattle.shop_model.specs.EffectKeeps.{step_fine}
use Rattle.shop_model.specs.Keeping.{Keeps}
use Rattle.shop_model.specs.Meaning.{job_here, home_by, class_effect}
use Rattle.shop_model.specs.JobLaws.{job_here_is}
use Rattle.shop_model.specs.Parts.{AreRoutes, IsClass}
use Rattle.shop_model.specs.Routes.{step_at, moved, HasJob}
use Rattle.shop_model.specs.Sites.{to_self, place_of, words_at, drawn_at, drawn_or}

-- the cells of a class: its random place, and how many jobs it made and are inside
abbrev class_cells : ℕ → ℕ → ℕ → CellData
class_cells place made inside = record { words = place ∷ made ∷ inside ∷ []; lines = [] }

three_words : (P : List ℕ → Type 0) (words : List ℕ) → length words ≡ 3 → ((a b c : ℕ) → P (a ∷ b ∷ c ∷ [])) → P words
three_words P [] e h = absurd (omega arith)
three_words P (a ∷ []) e h = absurd (omega arith)
three_words P (a ∷ b ∷ []) e h = absurd (omega arith)
three_words P (a ∷ b ∷ c ∷ []) e h = h a b c
three_words P (a ∷ b ∷ c ∷ d ∷ rest) e h = absurd (omega arith)

no_lines : (P : List (List ℕ) → Type 0) (lines : List (List ℕ)) → length lines ≡ 0 → P [] → P lines
no_lines P [] e h = h
no_lines P (line ∷ rest) e h = absurd (omega arith)

-- what holds of all such cells holds of all lawful ones
class_cases : (P : CellData → Type 0) (count : ℕ) (cells : CellData) → IsTrue (is_class_cells count cells)
    → ((place made inside : ℕ) → inside ≤ made → made ≤ count → P (class_cells place made inside)) → P cells
class_cases P count cells lawful h =
    three_words
    (λ words. IsTrue (is_class_cells count (record { words = words; lines = cells.lines })) → P (record { words = words; lines = cells.lines }))
    cells.words (grind (arith, nat_tests))
    (λ place made inside lawful. no_lines (λ lines. P (record { words = place ∷ made ∷ inside ∷ []; lines = lines })) cells.lines
    (grind (arith, nat_tests))
    (h place made inside (grind (arith, nat_tests)) (grind (arith, nat_tests))))
    lawful

abbrev Lawful : Class → CellData → Type 0
Lawful class cells = IsTrue (is_class_cells class.count cells)

class_lawful : (count place made inside : ℕ) → inside ≤ made → made ≤ count → IsTrue (is_class_cells count (class_cells place made inside))
class_lawful count place made inside few within = grind (arith, nat_tests)

-- a job is made, and the random place moved on
made_keeps : (class : Class) (cells : CellData) (next : ℕ) → Lawful class cells → made_jobs cells < class.count
    → Keeps (Lawful class) (place_changes (place_of cells) next ++ Set MADE (made_jobs cells + 1) ∷ Set INSIDE (jobs_inside cells + 1) ∷ []) cells
unfolding AllFit cells_after_all
made_keeps class cells next lawful some = class_cases
    (λ cells. made_jobs cells < class.count
    → Keeps (Lawful class) (place_changes (place_of cells) next ++ Set MADE (made_jobs cells + 1) ∷ Set INSIDE (jobs_inside cells + 1) ∷ []) cells)
    class.count cells lawful by some
  where
    by : (place made inside : ℕ) → inside ≤ made → made ≤ class.count → made < class.count
        → Keeps (Lawful class) (place_changes place next ++ Set MADE (made + 1) ∷ Set INSIDE (inside + 1) ∷ []) (class_cells place made inside)
    by place made inside few within some =
        place_cases (λ drawn. Keeps (Lawful class) (drawn ++ Set MADE (made + 1) ∷ Set INSIDE (inside + 1) ∷ []) (class_cells place made inside))
        place next
        (record {
          fits = (omega arith, (omega arith, tt));
          after = class_lawful class.count place (made + 1) (inside + 1) (omega arith) (omega arith);
        })
        (record {
          fits = (omega arith, (omega arith, (omega arith, tt)));
          after = class_lawful class.count next (made + 1) (inside + 1) (omega arith) (omega arith);
        })

-- the random place alone moves on
moved_keeps : (class : Class) (cells : CellData) (next : ℕ) → Lawful class cells → Keeps (Lawful class) (place_changes (place_of cells) next) cells
unfolding AllFit cells_after_all
moved_keeps class cells next lawful = class_cases
    (λ cells. Keeps (Lawful class) (place_changes (place_of cells) next) cells) class.count cells lawful by
  where
    by : (place made inside : ℕ) → inside ≤ made → made ≤ class.count
        → Keeps (Lawful class) (place_changes place next) (class_cells place made inside)
    by place made inside few within =
        place_cases (λ drawn. Keeps (Lawful class) drawn (class_cells place made inside)) place next
        (record { fits = tt; after = class_lawful class.count place made inside few within })
        (record { fits = (omega arith, tt); after = class_lawful class.count next made inside few within })

-- a job is inside no more
left_keeps : (class : Class) (cells : CellData) → Lawful class cells
    → Keeps (Lawful class) (if jobs_inside cells == 0 then [] else Set INSIDE (jobs_inside cells - 1) ∷ []) cells
unfolding AllFit cells_after_all
left_keeps class cells lawful = class_cases
    (λ cells. Keeps (Lawful class) (if jobs_inside cells == 0 then [] else Set INSIDE (jobs_inside cells - 1) ∷ []) cells) class.count cells lawful by
  where
    by : (place made inside : ℕ) → inside ≤ made → made ≤ class.count
        → Keeps (Lawful class) (if inside == 0 then [] else Set INSIDE (inside - 1) ∷ []) (class_cells place made inside)
    by place made inside few within = cases (inside == 0)
      where
        cases : (none : Bool) → Keeps (Lawful class) (if none then [] else Set INSIDE (inside - 1) ∷ []) (class_cells place made inside)
        cases true = record { fits = tt; after = class_lawful class.count place made inside few within }
        cases false = record { fits = (omega arith, tt); after = class_lawful class.count place made (inside - 1) (omega arith) within }

-- the ticks to the next arrival are no long delay
drawn_pause : (words : StreamView) (every : Option DelayLaw) (b : ℕ) → ForSome every (λ law. IsTrue (is_delay_law law))
    → ForSome (pause_drawn words every b).0 (λ pause. pause ≤ 2 ^ 40)
drawn_pause words None b fine = λ pause is. absurd (cc)
drawn_pause words (Some every) b fine = by (b % 2 == 1)
  where
    drawn : ℕ × ℕ
    drawn = draw_delay words.seed words.object words.place every

    by : (odd : Bool) → (λ (r : Option ℕ × ℕ). ForSome r.0 (λ pause. pause ≤ 2 ^ 40)) (if odd then (Some drawn.0, drawn.1) else (None, words.place))
    by true = λ pause is.
        let same : drawn.0 ≡ pause = cc in
        omega (arith, same, draw_delay-le words.seed words.object words.place every (fine every refl))
    by false = λ pause is. absurd (cc)

short_pause : (site : Site) (class : Class) (cells : CellData) (event : Event) → ForSome class.every (λ law. IsTrue (is_delay_law law))
    → ForSome (arrival_of site class cells event).0.pause (λ pause. pause ≤ 2 ^ 40)
unfolding arrival_of
short_pause site class cells event fine = by (event.a == 0)
  where
    jobs : ℕ × ℕ
    jobs = drawn_or 1 (words_at site (place_of cells)) class.batch

    pause : Option ℕ × ℕ
    pause = pause_drawn (words_at site jobs.1) class.every event.b

    by : (new : Bool) → (λ (r : Arrival × ℕ). ForSome r.0.pause (λ pause. pause ≤ 2 ^ 40))
        (if new then (record { jobs = jobs.0; pause = pause.0 }, pause.1) else (record { jobs = event.a; pause = None }, place_of cells))
    by true = drawn_pause (words_at site jobs.1) class.every event.b fine
    by false = λ pause is. absurd (cc)

next_sent : (site : Site) (class : Class) (objects made : ℕ) (pause : Option ℕ) → site.object < objects → ForSome pause (λ pause. pause ≤ 2 ^ 40)
    → Sent objects 1 (next_arrival site class made pause)
next_sent site class objects made None here short = record { few = omega arith; sends = tt }
next_sent site class objects made (Some pause) here short = by (nat_lt made class.count && nat_le (site.tick + pause) class.until)
  where
    by : (comes : Bool) → Sent objects 1 (if comes then to_self site pause MAKE 0 1 ∷ [] else [])
    by true = self_sent objects site pause MAKE 0 1 here (short pause refl)
    by false = record { few = omega arith; sends = tt }

others_few : (site : Site) (class : Class) (objects : ℕ) (cells : CellData) (jobs : ℕ) → site.object < objects
    → Sent objects 1 (others_sent site class cells jobs)
others_few site class objects cells jobs here = by (nat_lt 1 jobs && nat_lt (made_jobs cells + 1) class.count)
  where
    by : (more : Bool) → Sent objects 1 (if more then to_self site 0 MAKE (jobs - 1) 0 ∷ [] else [])
    by true = self_sent objects site 0 MAKE (jobs - 1) 0 here (omega arith)
    by false = record { few = omega arith; sends = tt }

-- at one of the classes, which has such cells
pub record AtClass (site : Site) (routes : Routes) (class : Class) (cells : CellData) : Type 0 where
  pub routes_fine : AreRoutes routes
  pub class_in_range : IsClass routes.stations class
  pub after : routes.stations ≤ site.object
  pub exists : site.object < routes.stations + length routes.classes
  pub lawful : IsTrue (is_class_cells class.count cells)

make_keeps : (site : Site) (routes : Routes) (class : Class) (cells : CellData) (event : Event) → AtClass site routes class cells
    → EffectKeeps (routes.stations + length routes.classes) (Lawful class) cells (make_effect site routes class cells event)
unfolding make_effect one_made
make_keeps site routes class cells event is = by (nat_lt (made_jobs cells) class.count) refl
  where
    objects : ℕ
    objects = routes.stations + length routes.classes

    arrival : Arrival
    arrival = (arrival_of site class cells event).0

    next : ℕ
    next = (arrival_of site class cells event).1

    short : ForSome arrival.pause (λ pause. pause ≤ 2 ^ 40)
    short = short_pause site class cells event is.class_in_range.every

    number : made_jobs cells < class.count → made_jobs cells + 1 ≤ 9999999
    number some = omega (arith, is.class_in_range.few)

    has : made_jobs cells < class.count → HasJob routes (next_job site routes cells)
    has some = record { class = omega arith; step = omega arith; id = omega (arith, number some, is.routes_fine.few) }

    arrives : (none : Bool) → made_jobs cells < class.count → EffectKeeps objects (Lawful class) cells
        (if none then record {
          changes = place_changes (place_of cells) next;
          sends = next_arrival site class (made_jobs cells) arrival.pause;
          note = [];
        }
        else record {
          changes = place_changes (place_of cells) next ++ (one_made site routes class cells arrival.jobs).changes;
          sends = (one_made site routes class cells arrival.jobs).sends ++ next_arrival site class (made_jobs cells + 1) arrival.pause;
          note = (one_made site routes class cells arrival.jobs).note;
        })
    arrives true some =
        let sent = next_sent site class objects (made_jobs cells) arrival.pause is.exists short in
        record {
          changes = moved_keeps class cells next is.lawful;
          few_changes = omega (arith, few_places (place_of cells) next);
          few_sends = omega (arith, sent.few);
          sends = sent.sends;
        }
    arrives false some =
        let job = next_job site routes cells in
        let first = sent_more objects 1 (moved routes job site.tick 0 0) (others_sent site class cells arrival.jobs)
        (job_sent routes job site.tick 0 0 is.routes_fine (has some) (omega arith))
        (others_few site class objects cells arrival.jobs is.exists) in
        let sent = sent_append objects 2 1 (moved routes job site.tick 0 0 ∷ others_sent site class cells arrival.jobs)
        (next_arrival site class (made_jobs cells + 1) arrival.pause) first
        (next_sent site class objects (made_jobs cells + 1) arrival.pause is.exists short) in
        record {
          changes = made_keeps class cells next is.lawful some;
          few_changes = omega (
            arith,
            few_places (place_of cells) next,
            length-append (place_changes (place_of cells) next) (Set MADE (made_jobs cells + 1) ∷ Set INSIDE (jobs_inside cells + 1) ∷ []),
          );
          few_sends = omega (arith, sent.few);
          sends = sent.sends;
        }

    by : (some : Bool) → nat_lt (made_jobs cells) class.count ≡ some
        → EffectKeeps objects (Lawful class) cells (if some then arrival_effect site routes class cells arrival next else blank)
    by true some = arrives (arrival.jobs == 0) (ltb-true _ _ some)
    by false none = blank_keeps objects (Lawful class) cells is.lawful

home_keeps : (site : Site) (routes : Routes) (class : Class) (cells : CellData) (event : Event) (job : Job) (step : Option Step)
    → AtClass site routes class cells → HasJob routes job
    → step_at routes job.class job.step ≡ step
    → EffectKeeps (routes.stations + length routes.classes) (Lawful class) cells (come_home site routes class step job cells event)
unfolding stay_effect go_effect leave_effect
home_keeps site routes class cells event job None is has steps =
    record { changes = left_keeps class cells is.lawful; few_changes = few (jobs_inside cells == 0); few_sends = omega arith; sends = tt }
  where
    few : (none : Bool) → length (if none then [] else Set INSIDE (jobs_inside cells - 1) ∷ []) ≤ 16
    few true = omega arith
    few false = omega arith
home_keeps site routes class cells event job (Some (Delay law)) is has steps =
    let fine : IsTrue (is_delay_law law) = step_fine routes job.class job.step is.routes_fine has.class (Delay law) steps in
    let sent = job_sent routes job event.b (job.step + 1) (drawn_at site (place_of cells) law).0 is.routes_fine has
    (drawn_short site (place_of cells) law fine) in
    record {
      changes = moved_keeps class cells (drawn_at site (place_of cells) law).1 is.lawful;
      few_changes = omega (arith, few_places (place_of cells) (drawn_at site (place_of cells) law).1);
      few_sends = omega (arith, sent.few);
      sends = sent.sends;
    }
home_keeps site routes class cells event job (Some (Go branch)) is has steps =
    let drawn = draw site.seed site.object (place_of cells) (Choice branch.weights) in
    let sent = job_sent routes job event.b (slice_index branch.steps drawn.0) 0 is.routes_fine has (omega arith) in
    record {
      changes = moved_keeps class cells drawn.1 is.lawful;
      few_changes = omega (arith, few_places (place_of cells) drawn.1);
      few_sends = omega (arith, sent.few);
      sends = sent.sends;
    }
home_keeps site routes class cells event job (Some (Visit visit)) is has steps =
    blank_keeps (routes.stations + length routes.classes) (Lawful class) cells is.lawful
home_keeps site routes class cells event job (Some (Free station)) is has steps =
    blank_keeps (routes.stations + length routes.classes) (Lawful class) cells is.lawful

pub class_keeps : (site : Site) (routes : Routes) (class : Class) (cells : CellData) (event : Event) → AtClass site routes class cells
    → EffectKeeps (routes.stations + length routes.classes) (Lawful class) cells (class_effect site routes class cells event)
unfolding class_effect
class_keeps site routes class cells event is = by (event.kind == MAKE) (event.kind == COME)
  where
    comes : (found : Option Job) → job_here routes site.object event.a ≡ found
        → EffectKeeps (routes.stations + length routes.classes) (Lawful class) cells (home_by site routes class cells event found)
    comes None none = blank_keeps (routes.stations + length routes.classes) (Lawful class) cells is.lawful
    comes (Some job) some =
        home_keeps site routes class cells event job (step_at routes job.class job.step) is
        (job_here_is routes site.object event.a job is.routes_fine some).names.has refl

    by : (make come : Bool) → EffectKeeps (routes.stations + length routes.classes) (Lawful class) cells
        (if make then make_effect site routes class cells event
        else if come then home_by site routes class cells event (job_here routes site.object event.a)
        else blank)
    by true come = make_keeps site routes class cells event is
    by false true = comes (job_here routes site.object event.a) refl
    by false false = blank_keeps (routes.stations + length routes.classes) (Lawful class) cells is.lawful
