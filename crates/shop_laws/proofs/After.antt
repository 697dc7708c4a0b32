-- What is read of a station after an event.
use Rattle.std.proofs.Common.{◌≡◌, ℕ, ◌+◌, ◌-◌, ◌%◌, ◌^◌, ◌<◌, List, [], ◌∷◌, ◌++◌, refl, sym, subst, append_assoc, append-nil, arith}
use Rattle.std.specs.Prelude.{slice_set, slice_index}
use Rattle.delta_exchange.specs.declared.change.Change.{Change}
use Rattle.delta_exchange.specs.declared.change.Change.TheVariants.{Set, Push}
use Rattle.delta_exchange.specs.Changes.{CellData, line_of, with_flipped, cells_after_all}
use Rattle.model_core.specs.declared.effect.Effect.{Effect}
use Rattle.model_core.specs.declared.event.Event.{Event}
use Rattle.model_core.specs.Places.{place_changes}
use Rattle.shop_model.specs.declared.counts.Counts.{Counts}
use Rattle.shop_model.specs.declared.routes.Routes.{Routes}
use Rattle.shop_model.specs.declared.site.Site.{Site}
use Rattle.shop_model.specs.declared.station.Station.{Station}
use Rattle.shop_model.specs.declared.station.TheConstants.{WAITING, DOWN, LAG, FREE_SERVERS}
use Rattle.shop_model.specs.declared.step.Visit.{Visit as AVisit}
use Rattle.shop_model.specs.Beginnings.{service_drawn, begin_changes}
use Rattle.shop_model.specs.Jobs.{job_at, birth_of, server_of}
use Rattle.shop_model.specs.Lawful.{IsLawful}
use Rattle.shop_model.specs.Sites.{place_of, words_at, drawn_at, drawn_or}
use Rattle.shop_model.specs.StationEffects.{take_effect, until_of, wait_effect, lose_effect, out_changes, begin_effect, pass_effect, renege_effect, shift_at, still_effect, works_effect}
use Rattle.shop_model.specs.Stations.{counts_of, mark_word, jobs_line, births_line, since_line, until_line}
use Rattle.shop_laws.proofs.Cases.{StationDoes, rests, goes_on, frees, takes, waits, loses, passes, begins, ends, puts_off, reneges, shifts, stands, works}
use Rattle.shop_laws.proofs.Readings.{Readings, Reads, readings_of, reads_itself, reads_word, reads_open, reads_held, reads_waiting, reads_down, reads_lag, reads_idle, reads_line, four_put, reads_level, reads_placed, went_out, reads_out, began, reads_began, put}

-- a value comes to the end of a list
abbrev pub push : ℕ → List ℕ → List ℕ
push value values = values ++ value ∷ []

-- the counts with one waiting job less
abbrev pub one_less : CellData → Counts
one_less cells = record (counts_of cells) { waiting = (counts_of cells).waiting - 1 }

-- what is read after an event that does this
abbrev pub readings_after : (site : Site) (routes : Routes) (station : Station) (cells : CellData) (e : Event) (x : Effect) → Readings → StationDoes site routes station cells e x → Readings
readings_after site routes station cells e x r (rests no_come no_done no_call no_turn) = r
readings_after site routes station cells e x r (goes_on job at) = r
readings_after site routes station cells e x r (frees job at some) = record r { held = (counts_of cells).held - 1 }
readings_after site routes station cells e x r (takes job visit at visits nobody spare) = began visit (counts_of cells) r
readings_after site routes station cells e x r (waits job visit level at visits below busy) = record r {
  waiting = (counts_of cells).waiting + 1;
  line = four_put (push (job_at job.step job.id)) (push (birth_of e.b)) (push site.tick) (push (until_of site cells visit.patience)) level r.line;
}
readings_after site routes station cells e x r (loses job visit at visits) = r
readings_after site routes station cells e x r (passes level calls empty) = went_out station.order level r
readings_after site routes station cells e x r (begins level job visit calls waits_there) =
    began visit (one_less cells) (went_out station.order level (record r { waiting = (counts_of cells).waiting - 1 }))
readings_after site routes station cells e x r (ends job at below some on_time) = record r { idle = r.idle ++ server_of e.b ∷ [] }
readings_after site routes station cells e x r (puts_off job at served below late) = r
readings_after site routes station cells e x r (reneges level place job visit kind below within now waits_there) = record r {
  waiting = (counts_of cells).waiting - 1;
  line = put (jobs_line level) (with_flipped (r.line (jobs_line level)) place) r.line;
}
readings_after site routes station cells e x r (shifts kind within) = record r { opened = (shift_at station e.a).servers }
readings_after site routes station cells e x r (stands breakdowns kind has up) =
    record r { down = 1; lag = (slice_index cells.words LAG + (drawn_at site (place_of cells) breakdowns.down).0) % 2 ^ 64 }
readings_after site routes station cells e x r (works breakdowns kind has) = record r { down = 0 }

module _ (site : Site) (routes : Routes) (station : Station) (cells : CellData) (e : Event) (is : IsLawful site.object routes station cells) where
  abbrev r : Readings
  r = readings_of cells

  here : Reads cells r
  here = reads_itself cells (omega (arith, is.words)) (omega (arith, is.lines))

  there : (level : ℕ) → level < station.levels → until_line level < r.lines
  there level below = omega (arith, is.lines)

  take_reads : (changes : List Change) (visit : AVisit) (counts : Counts) → changes ≡ begin_changes station cells visit counts → (next : ℕ)
      → Reads (cells_after_all (place_changes (place_of cells) next ++ changes) cells) (began visit counts r)
  take_reads changes visit counts same next =
      reads_placed r (place_of cells) next changes cells (λ c. Reads c (began visit counts r)) here
      (λ c reads. subst (λ (cs : List Change). Reads (cells_after_all cs c) (began visit counts r)) (sym same) (reads_began r station cells visit counts c reads))

  pub reads_after : (x : Effect) (does_so : StationDoes site routes station cells e x)
      → Reads (cells_after_all x.changes cells) (readings_after site routes station cells e x (readings_of cells) does_so)
  unfolding cells_after_all take_effect wait_effect lose_effect begin_effect pass_effect renege_effect still_effect works_effect
  reads_after x (rests no_come no_done no_call no_turn) = here
  reads_after x (goes_on job at) = here
  reads_after x (frees job at some) = reads_held r ((counts_of cells).held - 1) cells here
  reads_after x (takes job visit at visits nobody spare) =
      take_reads (begin_changes station cells visit (counts_of cells)) visit (counts_of cells) refl (service_drawn site cells visit).1
  reads_after x (waits job visit level at visits below busy) =
      let waiting = (counts_of cells).waiting + 1 in
      let rest : List Change = Set WAITING waiting
      ∷ Push (jobs_line level) (job_at job.step job.id) ∷ Push (births_line level) (birth_of e.b)
      ∷ Push (since_line level) site.tick ∷ Push (until_line level) (until_of site cells visit.patience) ∷ [] in
      let later : Readings = readings_after site routes station cells e x r (waits job visit level at visits below busy) in
      reads_placed r (place_of cells) (drawn_or 0 (words_at site (place_of cells)) visit.patience).1 rest cells (λ c. Reads c later) here
      (λ c reads. reads_level (record r { waiting = waiting }) (push (job_at job.step job.id)) (push (birth_of e.b)) (push site.tick) (push (until_of site cells visit.patience)) level
      (record c { words = slice_set c.words WAITING waiting }) (there level below) (reads_waiting r waiting c reads))
  reads_after x (loses job visit at visits) = here
  reads_after x (passes level calls empty) =
      let out : List Change = out_changes station.order cells level in
      subst (λ (cs : List Change). Reads (cells_after_all cs cells) (went_out station.order level r)) (append-nil out)
      (reads_out r station.order cells level [] cells (λ c. Reads c (went_out station.order level r)) (there level calls.below) here (λ c reads. reads))
  reads_after x (begins level job visit calls waits_there) =
      let waiting = (counts_of cells).waiting - 1 in
      let out : List Change = out_changes station.order cells level in
      let begin : List Change = begin_changes station cells visit (one_less cells) in
      let less : Readings = record r { waiting = waiting } in
      let later : Readings = began visit (one_less cells) (went_out station.order level less) in
      let drawn : List Change = place_changes (place_of cells) (service_drawn site cells visit).1 in
      subst (λ (cs : List Change). Reads (cells_after_all cs cells) later) (sym (append_assoc drawn (Set WAITING waiting ∷ out) begin))
      (reads_placed r (place_of cells) (service_drawn site cells visit).1 (Set WAITING waiting ∷ (out ++ begin)) cells (λ c. Reads c later) here
      (λ c reads. reads_out less station.order cells level begin (record c { words = slice_set c.words WAITING waiting }) (λ c. Reads c later) (there level calls.below)
      (reads_waiting r waiting c reads)
      (λ c reads. reads_began (went_out station.order level less) station cells visit (one_less cells) c reads)))
  reads_after x (ends job at below some on_time) = reads_idle r (line_of cells FREE_SERVERS ++ server_of e.b ∷ []) cells here
  reads_after x (puts_off job at served below late) =
      reads_word r (mark_word station (server_of e.b)) _ cells (λ e. absurd (omega arith)) (λ e. absurd (omega arith)) (λ e. absurd (omega arith)) (λ e. absurd (omega arith)) (λ e. absurd (omega arith)) here
  reads_after x (reneges level place job visit kind below within now waits_there) =
      let waiting = (counts_of cells).waiting - 1 in
      reads_line (record r { waiting = waiting }) (λ values. with_flipped values place) (jobs_line level) (record cells { words = slice_set cells.words WAITING waiting })
      (λ e. absurd (omega arith)) (omega (arith, is.lines)) (reads_waiting r waiting cells here)
  reads_after x (shifts kind within) = reads_open r (shift_at station e.a).servers cells here
  reads_after x (stands breakdowns kind has up) =
      let lag = (slice_index cells.words LAG + (drawn_at site (place_of cells) breakdowns.down).0) % 2 ^ 64 in
      reads_placed r (place_of cells) (drawn_at site (place_of cells) breakdowns.down).1 (Set DOWN 1 ∷ Set LAG lag ∷ []) cells (λ c. Reads c (record r { down = 1; lag = lag })) here
      (λ c reads. reads_lag (record r { down = 1 }) lag (record c { words = slice_set c.words DOWN 1 }) (reads_down r 1 c reads))
  reads_after x (works breakdowns kind has) =
      reads_placed r (place_of cells) (drawn_at site (place_of cells) breakdowns.up).1 (Set DOWN 0 ∷ []) cells (λ c. Reads c (record r { down = 0 })) here
      (λ c reads. reads_down r 0 c reads)
