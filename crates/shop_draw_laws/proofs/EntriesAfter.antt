-- Each job that waits at a station after an event waited there before it, or joins by it.
use Rattle.std.proofs.Common.{◌≡◌, ◌≢◌, ℕ, ◌+◌, ◌-◌, ◌^◌, ◌<◌, ◌≤◌, List, [], ◌∷◌, length, refl, sym, ap, ◌∙◌, subst, ⊎_elim, arith, get_or-set_same, get_or-set_other}
use Rattle.std.specs.Prelude.{Bool, true, false, if◌then◌else◌, ◌==◌, nat_lt, slice_index, Some}
use Rattle.std.proofs.lemmas.Bool.{cases_eq, cases_lt, lt-ltb, eqb-true, eqb-false}
use Rattle.std.proofs.lemmas.List.{get_or-drop, get_or-take, get_or_append_left, get_or_push, length-drop, length-take-le, length-append, length-set}
use Rattle.delta_exchange.specs.Changes.{CellData, line_of, flipped, with_flipped}
use Rattle.model_core.specs.declared.effect.Effect.{Effect}
use Rattle.model_core.specs.declared.event.Event.{Event}
use Rattle.model_core.specs.declared.words.TheConstants.{WAITING_WORD}
use Rattle.shop_model.specs.declared.job.Job.{Job}
use Rattle.shop_model.specs.declared.kinds.TheConstants.{COME}
use Rattle.shop_model.specs.declared.levels.TheConstants.{EMPTY}
use Rattle.shop_model.specs.declared.routes.Routes.{Routes}
use Rattle.shop_model.specs.declared.site.Site.{Site}
use Rattle.shop_model.specs.declared.station.Order.{Order}
use Rattle.shop_model.specs.declared.station.Order.TheVariants.{First, Last, Priority}
use Rattle.shop_model.specs.declared.station.Station.{Station}
use Rattle.shop_model.specs.declared.step.Step.TheVariants.{Visit}
use Rattle.shop_model.specs.declared.step.Visit.{Visit as AVisit}
use Rattle.shop_model.specs.EntrySteps.{out_of}
use Rattle.shop_model.specs.Jobs.{job_at, birth_of}
use Rattle.shop_model.specs.Lawful.{IsLawful}
use Rattle.shop_model.specs.Routes.{step_at}
use Rattle.shop_model.specs.StationEffects.{until_of, tire_sent, wait_effect}
use Rattle.shop_model.specs.Stations.{counts_of, jobs_line, births_line, since_line, until_line}
use Rattle.shop_laws.specs.Told.{word_told, first_told}
use Rattle.shop_laws.proofs.After.{readings_after, push, one_less}
use Rattle.shop_laws.proofs.Cases.{StationDoes, rests, goes_on, frees, takes, waits, loses, passes, begins, ends, puts_off, reneges, shifts, stands, works, IsAtStep}
use Rattle.shop_laws.proofs.Entries.{four_jobs, four_since, four_elsewhere}
use Rattle.shop_laws.proofs.Readings.{readings_of, put, put_same, put_other, four_put, went_out, began_line}

-- at a place of a level a job stands, since when, and until when at most
pub record Stands (line : ℕ → List ℕ) (level place a since until : ℕ) : Type 0 where
  pub within : place < length (line (jobs_line level))
  pub job : slice_index (line (jobs_line level)) place ≡ a
  pub since_is : slice_index (line (since_line level)) place ≡ since
  pub until_is : slice_index (line (until_line level)) place ≡ until

stands_as : (one other : ℕ → List ℕ) (level place a since until : ℕ) → one (jobs_line level) ≡ other (jobs_line level) → one (since_line level) ≡ other (since_line level)
    → one (until_line level) ≡ other (until_line level) → Stands one level place a since until → Stands other level place a since until
stands_as one other level place a since until jobs sinces untils is = record {
  within = subst (λ xs. place < length xs) jobs is.within;
  job = subst (λ xs. slice_index xs place ≡ a) jobs is.job;
  since_is = subst (λ xs. slice_index xs place ≡ since) sinces is.since_is;
  until_is = subst (λ xs. slice_index xs place ≡ until) untils is.until_is;
}

-- the fourth line of a level that becomes another
four_until : (f g h i : List ℕ → List ℕ) (level : ℕ) (line : ℕ → List ℕ) → four_put f g h i level line (until_line level) ≡ i (line (until_line level))
four_until f g h i level line =
    let one = put (jobs_line level) (f (line (jobs_line level))) line in
    let two = put (births_line level) (g (one (births_line level))) one in
    let three = put (since_line level) (h (two (since_line level))) two in
    put_same (until_line level) (i (three (until_line level))) three
    ∙ ap i (put_other (since_line level) (until_line level) (h (two (since_line level))) two (λ e. absurd (omega arith))
    ∙ put_other (births_line level) (until_line level) (g (one (births_line level))) one (λ e. absurd (omega arith))
    ∙ put_other (jobs_line level) (until_line level) (f (line (jobs_line level))) line (λ e. absurd (omega arith)))

-- by how many places those behind move up
abbrev pub moves_up : Order → ℕ
moves_up Last = 0
moves_up First = 1
moves_up Priority = 1

-- what stands there after one went out stood there before
out_from : (order : Order) (xs : List ℕ) (place : ℕ) → place < length (out_of order xs) → slice_index (out_of order xs) place ≡ slice_index xs (place + moves_up order)
out_from First xs place within = get_or-drop 1 xs place 0 ∙ ap (λ k. slice_index xs k) (let e : 1 + place ≡ place + 1 = omega arith in e)
out_from Priority xs place within = get_or-drop 1 xs place 0 ∙ ap (λ k. slice_index xs k) (let e : 1 + place ≡ place + 1 = omega arith in e)
out_from Last xs place within =
    get_or-take (length xs - 1) xs place 0 (omega (arith, within, length-take-le (length xs - 1) xs (omega arith)))
    ∙ ap (λ k. slice_index xs k) (let e : place ≡ place + 0 = omega arith in e)

out_within : (order : Order) (xs : List ℕ) (place : ℕ) → place < length (out_of order xs) → place + moves_up order < length xs
out_within First xs place within = omega (arith, within, length-drop 1 xs)
out_within Priority xs place within = omega (arith, within, length-drop 1 xs)
out_within Last xs place within = omega (arith, within, length-take-le (length xs - 1) xs (omega arith))

out_as_long : (order : Order) (xs ys : List ℕ) → length xs ≡ length ys → length (out_of order xs) ≡ length (out_of order ys)
out_as_long First xs ys same = omega (arith, length-drop 1 xs, length-drop 1 ys)
out_as_long Priority xs ys same = omega (arith, length-drop 1 xs, length-drop 1 ys)
out_as_long Last xs ys same = omega (arith, length-take-le (length xs - 1) xs (omega arith), length-take-le (length ys - 1) ys (omega arith))

module _ (site : Site) (routes : Routes) (station : Station) (cells : CellData) (e : Event) where
  -- by how many places the jobs of a level move up
  abbrev pub ups : (x : Effect) → StationDoes site routes station cells e x → ℕ → ℕ
  ups x (rests no_come no_done no_call no_turn) level = 0
  ups x (goes_on job at) level = 0
  ups x (frees job at some) level = 0
  ups x (takes job visit at visits nobody spare) level = 0
  ups x (waits job visit from at visits below busy) level = 0
  ups x (loses job visit at visits) level = 0
  ups x (passes from calls empty) level = if level == from then moves_up station.order else 0
  ups x (begins from job visit calls there) level = if level == from then moves_up station.order else 0
  ups x (ends job at below some on_time) level = 0
  ups x (puts_off job at served below late) level = 0
  ups x (reneges from place job visit kind below within now there) level = 0
  ups x (shifts kind within) level = 0
  ups x (stands breakdowns kind has up) level = 0
  ups x (works breakdowns kind has) level = 0

  -- a job joins a level by the event
  pub record Joins (x : Effect) (level place a since until : ℕ) : Type 0 where
    pub job : Job
    pub visit : AVisit
    pub at : IsAtStep site routes e COME job
    pub visits : step_at routes job.class job.step ≡ Some (Visit visit)
    pub word : word_told x.note ≡ WAITING_WORD
    pub told : first_told x.note ≡ job.id
    pub sends : x.sends ≡ tire_sent site cells level visit.patience
    pub last : place ≡ length (line_of cells (jobs_line level))
    pub named : a ≡ job_at job.step job.id
    pub now : since ≡ site.tick
    pub ends : until ≡ until_of site cells visit.patience

  -- a job that waits stood in line before, or joins now
  pub data Came (x : Effect) (ups level place a since until : ℕ) : Type 0 where
    stood : Stands (λ k. line_of cells k) level (place + ups) a since until → Came x ups level place a since until
    joins : Joins x level place a since until → Came x ups level place a since until

  same_place : (x : Effect) (level place a since until : ℕ) → Stands (λ k. line_of cells k) level place a since until → Came x 0 level place a since until
  same_place x level place a since until there =
      stood (subst (λ k. Stands (λ k. line_of cells k) level k a since until) (let e : place ≡ place + 0 = omega arith in e) there)

  -- a place that is flipped is empty
  pub empty_place : (a : ℕ) → a < EMPTY → EMPTY ≤ flipped a
  unfolding flipped
  empty_place a small = let e : (if nat_lt a (2 ^ 64) then 2 ^ 64 - 1 - a else a) ≡ 2 ^ 64 - 1 - a = ap (λ b. if b then 2 ^ 64 - 1 - a else a) (lt-ltb a (2 ^ 64) (omega arith)) in omega (arith, e)

  left : (x : Effect) (from gone level place a since until : ℕ) → slice_index (line_of cells (jobs_line from)) gone < EMPTY → gone < length (line_of cells (jobs_line from)) → a < EMPTY
      → Stands (put (jobs_line from) (with_flipped (line_of cells (jobs_line from)) gone) (λ k. line_of cells k)) level place a since until → Came x 0 level place a since until
  left x from gone level place a since until was inside small there =
      let l : ℕ → List ℕ = λ k. line_of cells k in
      let jobs : List ℕ = with_flipped (l (jobs_line from)) gone in
      let since_is : put (jobs_line from) jobs l (since_line level) ≡ l (since_line level) = put_other (jobs_line from) (since_line level) jobs l (λ e. absurd (omega arith)) in
      let until_is : put (jobs_line from) jobs l (until_line level) ≡ l (until_line level) = put_other (jobs_line from) (until_line level) jobs l (λ e. absurd (omega arith)) in
      ⊎_elim
      (λ (same : level ≡ from).
      let value : ℕ = flipped (slice_index (l (jobs_line from)) gone) in
      let now : Stands (put (jobs_line from) jobs l) from place a since until = subst (λ k. Stands (put (jobs_line from) jobs l) k place a since until) same there in
      let job_is : slice_index jobs place ≡ a = subst (λ xs. slice_index xs place ≡ a) (put_same (jobs_line from) jobs l) now.job in
      let within : place < length jobs = subst (λ xs. place < length xs) (put_same (jobs_line from) jobs l) now.within in
      ⊎_elim
      (λ (here : place ≡ gone). absurd (
      let is_value : slice_index jobs gone ≡ value = get_or-set_same (l (jobs_line from)) gone value 0 inside in
      let a_is : a ≡ value = sym job_is ∙ ap (λ k. slice_index jobs k) here ∙ is_value in
      omega (arith, small, a_is, empty_place (slice_index (l (jobs_line from)) gone) was)
      ))
      (λ (other : place ≢ gone).
      subst (λ k. Came x 0 k place a since until) (sym same)
      (same_place x from place a since until (record {
        within = omega (arith, within, length-set (l (jobs_line from)) gone value);
        job = sym (get_or-set_other (l (jobs_line from)) gone place value 0 other) ∙ job_is;
        since_is = subst (λ xs. slice_index xs place ≡ since) (put_other (jobs_line from) (since_line from) jobs l (λ e. absurd (omega arith))) now.since_is;
        until_is = subst (λ xs. slice_index xs place ≡ until) (put_other (jobs_line from) (until_line from) jobs l (λ e. absurd (omega arith))) now.until_is;
      })))
      (cases_eq place gone))
      (λ (other : level ≢ from).
      same_place x level place a since until
      (stands_as (put (jobs_line from) jobs l) l level place a since until (put_other (jobs_line from) (jobs_line level) jobs l (λ e. other (omega arith))) since_is until_is there))
      (cases_eq level from)

  module _ (is : IsLawful site.object routes station cells) where
    went : (x : Effect) (from level place a since until : ℕ) → level < station.levels → Stands (went_out station.order from (readings_of cells)).line level place a since until
        → Came x (if level == from then moves_up station.order else 0) level place a since until
    went x from level place a since until below there = by (level == from) refl
      where
        by : (here : Bool) → (level == from) ≡ here → Came x (if here then moves_up station.order else 0) level place a since until
        by true here =
            let same : from ≡ level = sym (eqb-true level from here) in
            let now : Stands (four_put (out_of station.order) (out_of station.order) (out_of station.order) (out_of station.order) level (λ k. line_of cells k)) level place a since until =
            subst (λ k. Stands (went_out station.order k (readings_of cells)).line level place a since until) same there in
            let o : List ℕ → List ℕ = out_of station.order in
            let l : ℕ → List ℕ = λ k. line_of cells k in
            let within : place < length (o (l (jobs_line level))) = subst (λ xs. place < length xs) (four_jobs o o o o level l) now.within in
            let levels = is.levels level below in
            stood (record {
              within = out_within station.order (l (jobs_line level)) place within;
              job = sym (out_from station.order (l (jobs_line level)) place within) ∙ subst (λ xs. slice_index xs place ≡ a) (four_jobs o o o o level l) now.job;
              since_is =
                  sym (out_from station.order (l (since_line level)) place (omega (arith, within, out_as_long station.order (l (since_line level)) (l (jobs_line level)) levels.since)))
                  ∙ subst (λ xs. slice_index xs place ≡ since) (four_since o o o o level l) now.since_is;
              until_is =
                  sym (out_from station.order (l (until_line level)) place (omega (arith, within, out_as_long station.order (l (until_line level)) (l (jobs_line level)) levels.until)))
                  ∙ subst (λ xs. slice_index xs place ≡ until) (four_until o o o o level l) now.until_is;
            })
        by false apart =
            let o : List ℕ → List ℕ = out_of station.order in
            let l : ℕ → List ℕ = λ k. line_of cells k in
            let other : level ≢ from = eqb-false level from apart in
            same_place x level place a since until
            (stands_as (four_put o o o o from l) l level place a since until
            (four_elsewhere o o o o from l (jobs_line level) (λ e. other (omega arith)) (λ e. absurd (omega arith)) (λ e. absurd (omega arith)) (λ e. absurd (omega arith)))
            (four_elsewhere o o o o from l (since_line level) (λ e. absurd (omega arith)) (λ e. absurd (omega arith)) (λ e. other (omega arith)) (λ e. absurd (omega arith)))
            (four_elsewhere o o o o from l (until_line level) (λ e. absurd (omega arith)) (λ e. absurd (omega arith)) (λ e. absurd (omega arith)) (λ e. other (omega arith)))
            there)

    -- a job that joins stands behind those of its level
    joined : (x : Effect) (job : Job) (visit : AVisit) (from : ℕ) → word_told x.note ≡ WAITING_WORD → first_told x.note ≡ job.id
        → x.sends ≡ tire_sent site cells from visit.patience → IsAtStep site routes e COME job → step_at routes job.class job.step ≡ Some (Visit visit)
        → (level place a since until : ℕ) → level < station.levels
        → Stands (four_put (push (job_at job.step job.id)) (push (birth_of e.b)) (push site.tick) (push (until_of site cells visit.patience)) from (λ k. line_of cells k)) level place a since until
        → Came x 0 level place a since until
    joined x job visit from word told sends at visits level place a since until below there = ⊎_elim here elsewhere (cases_eq level from)
      where
        here : level ≡ from → Came x 0 level place a since until
        here same =
            let f : List ℕ → List ℕ = push (job_at job.step job.id) in
            let g : List ℕ → List ℕ = push (birth_of e.b) in
            let h : List ℕ → List ℕ = push site.tick in
            let i : List ℕ → List ℕ = push (until_of site cells visit.patience) in
            let l : ℕ → List ℕ = λ k. line_of cells k in
            let now : Stands (four_put f g h i level l) level place a since until =
            subst (λ k. Stands (four_put f g h i k l) level place a since until) (sym same) there in
            let jobs : List ℕ = l (jobs_line level) in
            let within : place < length (f jobs) = subst (λ xs. place < length xs) (four_jobs f g h i level l) now.within in
            let job_is : slice_index (f jobs) place ≡ a = subst (λ xs. slice_index xs place ≡ a) (four_jobs f g h i level l) now.job in
            let since_is : slice_index (h (l (since_line level))) place ≡ since = subst (λ xs. slice_index xs place ≡ since) (four_since f g h i level l) now.since_is in
            let until_is : slice_index (i (l (until_line level))) place ≡ until = subst (λ xs. slice_index xs place ≡ until) (four_until f g h i level l) now.until_is in
            let levels = is.levels level below in
            ⊎_elim
            (λ (before : place < length jobs).
            same_place x level place a since until (record {
              within = before;
              job = sym (get_or_append_left jobs (job_at job.step job.id ∷ []) 0 place before) ∙ job_is;
              since_is = sym (get_or_append_left (l (since_line level)) (site.tick ∷ []) 0 place (omega (arith, before, levels.since))) ∙ since_is;
              until_is = sym (get_or_append_left (l (until_line level)) (until_of site cells visit.patience ∷ []) 0 place (omega (arith, before, levels.until))) ∙ until_is;
            }))
            (λ (past : length jobs ≤ place).
            let last : length jobs ≡ place = omega (arith, within, past, length-append jobs (job_at job.step job.id ∷ [])) in
            joins (record {
              job = job;
              visit = visit;
              at = at;
              visits = visits;
              word = word;
              told = told;
              sends = subst (λ k. x.sends ≡ tire_sent site cells k visit.patience) (sym same) sends;
              last = sym last;
              named = sym job_is ∙ get_or_push jobs (job_at job.step job.id) 0 place last;
              now = sym since_is ∙ get_or_push (l (since_line level)) site.tick 0 place (levels.since ∙ last);
              ends = sym until_is ∙ get_or_push (l (until_line level)) (until_of site cells visit.patience) 0 place (levels.until ∙ last);
            }))
            (cases_lt place (length jobs))

        elsewhere : level ≢ from → Came x 0 level place a since until
        elsewhere other =
            let f : List ℕ → List ℕ = push (job_at job.step job.id) in
            let g : List ℕ → List ℕ = push (birth_of e.b) in
            let h : List ℕ → List ℕ = push site.tick in
            let i : List ℕ → List ℕ = push (until_of site cells visit.patience) in
            let l : ℕ → List ℕ = λ k. line_of cells k in
            same_place x level place a since until
            (stands_as (four_put f g h i from l) l level place a since until
            (four_elsewhere f g h i from l (jobs_line level) (λ e. other (omega arith)) (λ e. absurd (omega arith)) (λ e. absurd (omega arith)) (λ e. absurd (omega arith)))
            (four_elsewhere f g h i from l (since_line level) (λ e. absurd (omega arith)) (λ e. absurd (omega arith)) (λ e. other (omega arith)) (λ e. absurd (omega arith)))
            (four_elsewhere f g h i from l (until_line level) (λ e. absurd (omega arith)) (λ e. absurd (omega arith)) (λ e. absurd (omega arith)) (λ e. other (omega arith)))
            there)

    pub came : (x : Effect) (does_so : StationDoes site routes station cells e x) (level place a since until : ℕ) → level < station.levels → a < EMPTY
        → Stands (readings_after site routes station cells e x (readings_of cells) does_so).line level place a since until → Came x (ups x does_so level) level place a since until
    unfolding wait_effect
    came x (rests no_come no_done no_call no_turn) level place a since until below small there = same_place x level place a since until there
    came x (goes_on job at) level place a since until below small there = same_place x level place a since until there
    came x (frees job at some) level place a since until below small there = same_place x level place a since until there
    came x (takes job visit at visits nobody spare) level place a since until below small there =
        same_place x level place a since until
        (subst (λ (l : ℕ → List ℕ). Stands l level place a since until) (began_line visit (counts_of cells) (readings_of cells)) there)
    came x (waits job visit from at visits below_from busy) level place a since until below small there = joined x job visit from refl refl refl at visits level place a since until below there
    came x (loses job visit at visits) level place a since until below small there = same_place x level place a since until there
    came x (passes from calls empty) level place a since until below small there = went x from level place a since until below there
    came x (begins from job visit calls waits_there) level place a since until below small there =
        went x from level place a since until below
        (subst (λ (l : ℕ → List ℕ). Stands l level place a since until)
        (began_line visit (one_less cells) (went_out station.order from (record (readings_of cells) { waiting = (counts_of cells).waiting - 1 }))) there)
    came x (ends job at below_most some on_time) level place a since until below small there = same_place x level place a since until there
    came x (puts_off job at served below_most late) level place a since until below small there = same_place x level place a since until there
    came x (reneges from gone job visit kind below_from within now waits_there) level place a since until below small there =
        left x from gone level place a since until waits_there.small within small there
    came x (shifts kind within) level place a since until below small there = same_place x level place a since until there
    came x (stands breakdowns kind has up) level place a since until below small there = same_place x level place a since until there
    came x (works breakdowns kind has) level place a since until below small there = same_place x level place a since until there
