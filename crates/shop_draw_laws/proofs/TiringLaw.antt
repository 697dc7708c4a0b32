-- Nobody waits for longer than his patience: its end is pending for as long as he waits.
use Rattle.std.proofs.Common.{◌≡◌, ◌≢◌, ℕ, suc, ◌+◌, ◌-◌, ◌*◌, ◌%◌, ◌^◌, ◌<◌, ◌≤◌, Bool, true, false, List, [], ◌∷◌, ◌++◌, length, refl, sym, ap, ◌∙◌, subst, ⊎_elim, arith, append-nil, append_assoc, get_or-set_same, eq-eqb}
use Rattle.std.specs.Prelude.{if◌then◌else◌, ◌==◌, ◌&&◌, nat_lt, nat_le, slice_index, slice_set, Contains, Option, None, Some}
use Rattle.std.specs.List.{AllByRecursion as Each}
use Rattle.std.proofs.lemmas.Bool.{cases_eq, and_from, eqb-true, eqb-false, lt-ltb, le-leb}
use Rattle.std.proofs.lemmas.List.{length-append, length-drop, length-take-le, length-set, get_or-replicate}
use Rattle.std.proofs.lemmas.List.Elements.{Contains-append_left, Contains-append_right}
use Rattle.std.proofs.lemmas.List.Sorted.{Contains-permutation}
use Rattle.event_key.specs.declared.key.Key.{Key}
use Rattle.event_key.specs.Keys.{key_lt}
use Rattle.event_key.specs.Stamps.{time_part, step_part, next_stamp}
use Rattle.event_key.proofs.Order.{stamp-le}
use Rattle.key_order.specs.Ascending.{IsAscending, Ascends}
use Rattle.key_order.specs.Pending.{enqueue_all}
use Rattle.key_order.proofs.ArrivalLemmas.{enqueue_all-permutation}
use Rattle.key_order.proofs.EachLemmas.{Each-append}
use Rattle.key_order.proofs.MemberLemmas.{each-contains, first-or-later, is-first}
use Rattle.delta_exchange.specs.declared.change.Change.{Change}
use Rattle.delta_exchange.specs.declared.change.Change.TheVariants.{Set, Pop}
use Rattle.delta_exchange.specs.Changes.{CellData, line_of, with_flipped, flipped, cells_after_all}
use Rattle.delta_exchange.proofs.Lists.{cells_after_all_append}
use Rattle.model_core.specs.declared.effect.Effect.{Effect}
use Rattle.model_core.specs.declared.event.Event.{Event}
use Rattle.model_core.specs.declared.event.Send.{Send}
use Rattle.model_core.specs.declared.note.Note.{Note}
use Rattle.model_core.specs.declared.words.TheConstants.{CALLED_WORD}
use Rattle.model_core.specs.Effects.{blank}
use Rattle.model_core.specs.Meaning.{Meaning}
use Rattle.model_core.specs.Places.{place_changes}
use Rattle.random_streams.specs.declared.delay_law.DelayLaw.{DelayLaw}
use Rattle.run_laws.specs.Reached.{after_events, Reaches}
use Rattle.run_laws.proofs.Induction.{each_reached}
use Rattle.run_laws.proofs.Steps.{first_firing}
use Rattle.sim_spec.specs.declared.terms.Terms.{Terms}
use Rattle.sim_spec.specs.Firing.{emission}
use Rattle.sim_spec.specs.Run.{does, next}
use Rattle.sim_spec.specs.State.{State, initial_state, object_at as state_at}
use Rattle.sim_spec.proofs.LawfulLemmas.{time_early}
use Rattle.shop_model.specs.declared.job.Job.{Job}
use Rattle.shop_model.specs.declared.kinds.TheConstants.{COME, DONE, CALL, TIRE, SHIFT, BREAK, MEND}
use Rattle.shop_model.specs.declared.levels.TheConstants.{EMPTY, NEVER}
use Rattle.shop_model.specs.declared.routes.Routes.{Routes}
use Rattle.shop_model.specs.declared.site.Site.{Site}
use Rattle.shop_model.specs.declared.station.Order.{Order}
use Rattle.shop_model.specs.declared.station.Order.TheVariants.{First, Last, Priority}
use Rattle.shop_model.specs.declared.station.Station.{Station}
use Rattle.shop_model.specs.declared.station.TheConstants.{WAITING}
use Rattle.shop_model.specs.declared.step.Step.{Step}
use Rattle.shop_model.specs.declared.step.Visit.{Visit as AVisit}
use Rattle.shop_model.specs.Beginnings.{service_drawn, begin_changes}
use Rattle.shop_model.specs.EntrySteps.{out_of}
use Rattle.shop_model.specs.Jobs.{id_of, job_at, birth_of}
use Rattle.shop_model.specs.Lawful.{IsLawful}
use Rattle.shop_model.specs.Meaning.{shop_meaning, site_of, station_effect, come_by, done_by, job_here}
use Rattle.shop_model.specs.ModelLaws.{effect_station}
use Rattle.shop_model.specs.Routes.{job_of}
use Rattle.shop_model.specs.ShopParts.{ShopParts, IsShop, routes_of, station_at}
use Rattle.shop_model.specs.Sites.{to_self, place_of, words_at, drawn_at, drawn_or}
use Rattle.shop_model.specs.StationEffects.{take_effect, tire_sent, until_of, wait_effect, lose_effect, out_changes, begin_effect, pass_effect, renege_effect, renege_step, renege_job, tires, tire_effect, call_effect, shift_effect, break_effect, mend_effect, still_effect, works_effect}
use Rattle.shop_model.specs.Stations.{counts_of, gone_word, jobs_line, births_line, since_line, until_line, is_entry, first_station_cells}
use Rattle.shop_laws.specs.Told.{word_told, cells_at}
use Rattle.shop_laws.proofs.After.{readings_after, reads_after, push, one_less}
use Rattle.shop_laws.proofs.Cases.{StationDoes, rests, goes_on, frees, takes, waits, loses, passes, begins, ends, puts_off, reneges, shifts, stands, works, VisitsHere, entry_visits}
use Rattle.shop_laws.proofs.Entries.{four_jobs, four_elsewhere}
use Rattle.shop_laws.proofs.IdleLaw.{sent_event}
use Rattle.shop_laws.proofs.JobsLaw.{empty_line}
use Rattle.shop_laws.proofs.Readings.{Reads, readings_of, went_out, began_line, put_same, put_other}
use Rattle.shop_laws.proofs.Serving.{IsStationStep, serving, station_step}
use Rattle.shop_laws.proofs.Steps.{IsShopStep, shop_step, cells_here, cells_elsewhere, station_at_start}
use Rattle.shop_draw_laws.specs.Draws.{patience_at, step_named}
use Rattle.shop_draw_laws.specs.Patience.{joined}
use Rattle.shop_draw_laws.specs.PatienceLaws.{NobodyOutwaits}
use Rattle.shop_draw_laws.proofs.CallsLater.{CallsLater, calls_later, is_call}
use Rattle.shop_draw_laws.proofs.EntriesAfter.{Stands, Joins, Came, stood, joins, came, ups, moves_up, empty_place}
use Rattle.shop_draw_laws.proofs.PatienceLaw.{all_wait}
use Rattle.shop_draw_laws.proofs.Places.{Leaves, word_stays, words_long, placed_leaves, out_leaves, begin_leaves}
use Rattle.event_key.proofs.StampLemmas.{next_time}

-- how many entries went out at the front of a level, and how many stand there
abbrev gone_of : CellData → ℕ → ℕ
gone_of cells level = slice_index cells.words (gone_word level)

abbrev long_of : CellData → ℕ → ℕ
long_of cells level = length (line_of cells (jobs_line level))

-- an entry that goes out at the front is counted
front_goes : (from c : CellData) (level : ℕ) (rest : List Change) → gone_word level < length c.words → gone_of from level + 1 < 2 ^ 64 → Each (Leaves (gone_word level)) rest
    → gone_of (cells_after_all (out_changes First from level ++ rest) c) level ≡ gone_of from level + 1
unfolding cells_after_all
front_goes from c level rest within few all =
    let pops : List Change = Pop (jobs_line level) ∷ Pop (births_line level) ∷ Pop (since_line level) ∷ Pop (until_line level) ∷ [] in
    let value : ℕ = (gone_of from level + 1) % 2 ^ 64 in
    let mid : CellData = cells_after_all pops c in
    ap (λ (k : CellData). gone_of k level) (cells_after_all_append pops (Set (gone_word level) value ∷ rest) c)
    ∙ word_stays (gone_word level) rest (record mid { words = slice_set mid.words (gone_word level) value }) all
    ∙ get_or-set_same mid.words (gone_word level) value 0 (omega (arith, within, words_long pops c))
    ∙ (let e : (gone_of from level + 1) % 2 ^ 64 ≡ gone_of from level + 1 = omega (arith, few) in e)

out_goes : (order : Order) (from c : CellData) (level : ℕ) (rest : List Change) → gone_of c level ≡ gone_of from level → gone_word level < length c.words → gone_of from level + 1 < 2 ^ 64
    → Each (Leaves (gone_word level)) rest → gone_of (cells_after_all (out_changes order from level ++ rest) c) level ≡ gone_of from level + moves_up order
out_goes Last from c level rest same within few all =
    omega (arith, same, word_stays (gone_word level) (out_changes Last from level ++ rest) c (tt, (tt, (tt, (tt, all)))))
out_goes First from c level rest same within few all = front_goes from c level rest within few all
out_goes Priority from c level rest same within few all = front_goes from c level rest within few all

-- one entry less stands there
out_shorter : (order : Order) (xs : List ℕ) → 0 < length xs → length (out_of order xs) + 1 ≡ length xs
out_shorter First xs some = omega (arith, length-drop 1 xs)
out_shorter Priority xs some = omega (arith, length-drop 1 xs)
out_shorter Last xs some = omega (arith, length-take-le (length xs - 1) xs (omega arith))

moves_one : (order : Order) → moves_up order ≤ 1
moves_one First = omega arith
moves_one Last = omega arith
moves_one Priority = omega arith

-- an event at a station
module _ (site : Site) (routes : Routes) (station : Station) (cells : CellData) (e : Event) (is : IsLawful site.object routes station cells) where
  abbrev Does : Effect → Type 0
  Does x = StationDoes site routes station cells e x

  abbrev after_of : Effect → CellData
  after_of x = cells_after_all x.changes cells

  -- where none is called none moves up
  none_up : (x : Effect) (does_so : Does x) (level : ℕ) → e.kind ≢ CALL → ups site routes station cells e x does_so level ≡ 0
  none_up x (rests no_come no_done no_call no_turn) level not_call = refl
  none_up x (goes_on job at) level not_call = refl
  none_up x (frees job at some) level not_call = refl
  none_up x (takes job visit at visits nobody spare) level not_call = refl
  none_up x (waits job visit from at visits below_from busy) level not_call = refl
  none_up x (loses job visit at visits) level not_call = refl
  none_up x (passes from calls empty) level not_call = absurd (not_call calls.kind)
  none_up x (begins from job visit calls there) level not_call = absurd (not_call calls.kind)
  none_up x (ends job at below_most some on_time) level not_call = refl
  none_up x (puts_off job at served below_most late) level not_call = refl
  none_up x (reneges from gone job visit kind below_from within now there) level not_call = refl
  none_up x (shifts kind within) level not_call = refl
  none_up x (stands breakdowns kind has up) level not_call = refl
  none_up x (works breakdowns kind has) level not_call = refl

  module _ (level : ℕ) (below : level < station.levels) where
    abbrev word : ℕ
    word = gone_word level

    placed : (next : ℕ) → Each (Leaves (gone_word level)) (place_changes (place_of cells) next)
    placed next = placed_leaves (gone_word level) (place_of cells) next (λ e. absurd (omega arith))

    begin_so : (visit : AVisit) → Each (Leaves (gone_word level)) (begin_changes station cells visit (one_less cells))
    begin_so visit = begin_leaves (gone_word level) station cells visit (one_less cells) (λ e. absurd (omega arith)) (λ serves e. absurd (omega arith))

    same_gone : (x : Effect) → Each (Leaves (gone_word level)) x.changes → gone_of (after_of x) level ≡ gone_of cells level + 0
    same_gone x all = omega (arith, word_stays (gone_word level) x.changes cells all)

    module _ (few : gone_of cells level + 1 < 2 ^ 64) where
      within : gone_word level < length cells.words
      within = omega (arith, below, is.words)

      -- an entry goes out of a level, between other changes
      went_gone : (from : ℕ) (before rest : List Change) → Each (Leaves (gone_word level)) before → Each (Leaves (gone_word level)) rest
          → gone_of (cells_after_all (before ++ (out_changes station.order cells from ++ rest)) cells) level ≡ gone_of cells level + (if level == from then moves_up station.order else 0)
      went_gone from before rest first last =
          ap (λ (c : CellData). gone_of c level) (cells_after_all_append before (out_changes station.order cells from ++ rest) cells) ∙ by (level == from) refl
        where
          by : (here : Bool) → (level == from) ≡ here
              → gone_of (cells_after_all (out_changes station.order cells from ++ rest) (cells_after_all before cells)) level ≡ gone_of cells level + (if here then moves_up station.order else 0)
          by true here =
              let same : level ≡ from = eqb-true level from here in
              subst (λ k. gone_of (cells_after_all (out_changes station.order cells k ++ rest) (cells_after_all before cells)) level ≡ gone_of cells level + moves_up station.order) same
              (out_goes station.order cells (cells_after_all before cells) level rest (word_stays (gone_word level) before cells first) (omega (arith, below, is.words, words_long before cells)) few last)
          by false apart =
              let other : level ≢ from = eqb-false level from apart in
              let stays : gone_of (cells_after_all (out_changes station.order cells from ++ rest) (cells_after_all before cells)) level ≡ gone_of (cells_after_all before cells) level =
              word_stays (gone_word level) (out_changes station.order cells from ++ rest) (cells_after_all before cells)
              (out_leaves (gone_word level) station.order cells from rest (λ e. other (omega (arith, e))) last) in
              omega (arith, stays, word_stays (gone_word level) before cells first)

      gone_after : (x : Effect) (does_so : Does x) → gone_of (after_of x) level ≡ gone_of cells level + ups site routes station cells e x does_so level
      unfolding take_effect wait_effect lose_effect begin_effect pass_effect renege_effect still_effect works_effect
      gone_after x (rests no_come no_done no_call no_turn) = same_gone x tt
      gone_after x (goes_on job at) = same_gone x tt
      gone_after x (frees job at some) = same_gone x ((λ e. absurd (omega arith)), tt)
      gone_after x (takes job visit at visits nobody spare) =
          same_gone x (Each-append (Leaves (gone_word level)) (place_changes (place_of cells) (service_drawn site cells visit).1) _ (placed _)
          (begin_leaves (gone_word level) station cells visit (counts_of cells) (λ e. absurd (omega arith)) (λ serves e. absurd (omega arith))))
      gone_after x (waits job visit from at visits below_from busy) =
          same_gone x (Each-append (Leaves (gone_word level)) (place_changes (place_of cells) (drawn_or 0 (words_at site (place_of cells)) visit.patience).1) _ (placed _)
          ((λ e. absurd (omega arith)), (tt, (tt, (tt, (tt, tt))))))
      gone_after x (loses job visit at visits) = same_gone x tt
      gone_after x (passes from calls empty) =
          ap (λ (cs : List Change). gone_of (cells_after_all cs cells) level) (sym (append-nil (out_changes station.order cells from))) ∙ went_gone from [] [] tt tt
      gone_after x (begins from job visit calls there) =
          let drawn : List Change = place_changes (place_of cells) (service_drawn site cells visit).1 in
          let one : Change = Set WAITING ((counts_of cells).waiting - 1) in
          let out : List Change = out_changes station.order cells from in
          let begin : List Change = begin_changes station cells visit (one_less cells) in
          ap (λ (cs : List Change). gone_of (cells_after_all cs cells) level) (append_assoc drawn (one ∷ out) begin ∙ sym (append_assoc drawn (one ∷ []) (out ++ begin)))
          ∙ went_gone from (drawn ++ one ∷ []) begin (Each-append (Leaves (gone_word level)) drawn (one ∷ []) (placed _) ((λ e. absurd (omega arith)), tt)) (begin_so visit)
      gone_after x (ends job at below_most some on_time) = same_gone x (tt, tt)
      gone_after x (puts_off job at served below_most late) = same_gone x ((λ e. absurd (omega arith)), tt)
      gone_after x (reneges from gone job visit kind below_from within now there) = same_gone x ((λ e. absurd (omega arith)), (tt, tt))
      gone_after x (shifts kind within) = same_gone x ((λ e. absurd (omega arith)), tt)
      gone_after x (stands breakdowns kind has up) =
          same_gone x (Each-append (Leaves (gone_word level)) (place_changes (place_of cells) (drawn_at site (place_of cells) breakdowns.down).1) _ (placed _)
          ((λ e. absurd (omega arith)), ((λ e. absurd (omega arith)), tt)))
      gone_after x (works breakdowns kind has) =
          same_gone x (Each-append (Leaves (gone_word level)) (place_changes (place_of cells) (drawn_at site (place_of cells) breakdowns.up).1) _ (placed _) ((λ e. absurd (omega arith)), tt))

    -- how many stand there then, as the lines are read
    abbrev now_long : (x : Effect) → Does x → ℕ
    now_long x does_so = length ((readings_after site routes station cells e x (readings_of cells) does_so).line (jobs_line level))

    out_long_so : (from : ℕ) → 0 < long_of cells from
        → length ((went_out station.order from (readings_of cells)).line (jobs_line level)) + (if level == from then moves_up station.order else 0) ≤ long_of cells level + 1
    out_long_so from some = by (level == from) refl
      where
        by : (here : Bool) → (level == from) ≡ here
            → length ((went_out station.order from (readings_of cells)).line (jobs_line level)) + (if here then moves_up station.order else 0) ≤ long_of cells level + 1
        by true here =
            let o : List ℕ → List ℕ = out_of station.order in
            let l : ℕ → List ℕ = λ k. line_of cells k in
            let same : level ≡ from = eqb-true level from here in
            let long : length ((went_out station.order level (readings_of cells)).line (jobs_line level)) ≡ length (o (l (jobs_line level))) = ap (λ (xs : List ℕ). length xs) (four_jobs o o o o level l) in
            let there : 0 < long_of cells level = subst (λ k. 0 < long_of cells k) (sym same) some in
            subst (λ k. length ((went_out station.order k (readings_of cells)).line (jobs_line level)) + moves_up station.order ≤ long_of cells level + 1) same
            (omega (arith, long, out_shorter station.order (l (jobs_line level)) there, moves_one station.order))
        by false apart =
            let o : List ℕ → List ℕ = out_of station.order in
            let l : ℕ → List ℕ = λ k. line_of cells k in
            let other : level ≢ from = eqb-false level from apart in
            let long : length ((went_out station.order from (readings_of cells)).line (jobs_line level)) ≡ long_of cells level =
            ap (λ (xs : List ℕ). length xs)
            (four_elsewhere o o o o from l (jobs_line level) (λ e. other (omega arith)) (λ e. absurd (omega arith)) (λ e. absurd (omega arith)) (λ e. absurd (omega arith))) in
            omega (arith, long)

    long_after : (x : Effect) (does_so : Does x) → now_long x does_so + ups site routes station cells e x does_so level ≤ long_of cells level + 1
    long_after x (rests no_come no_done no_call no_turn) = omega arith
    long_after x (goes_on job at) = omega arith
    long_after x (frees job at some) = omega arith
    long_after x (takes job visit at visits nobody spare) =
        omega (arith, ap (λ (l : ℕ → List ℕ). length (l (jobs_line level))) (began_line visit (counts_of cells) (readings_of cells)))
    long_after x (waits job visit from at visits below_from busy) = ⊎_elim
        (λ (same : level ≡ from).
        let f : List ℕ → List ℕ = push (job_at job.step job.id) in
        let g : List ℕ → List ℕ = push (birth_of e.b) in
        let h : List ℕ → List ℕ = push site.tick in
        let i : List ℕ → List ℕ = push (until_of site cells visit.patience) in
        let l : ℕ → List ℕ = λ k. line_of cells k in
        subst (λ k. length ((readings_after site routes station cells e x (readings_of cells) (waits job visit from at visits below_from busy)).line (jobs_line k)) + 0 ≤ long_of cells k + 1) (sym same)
        (omega (arith, ap (λ (xs : List ℕ). length xs) (four_jobs f g h i from l), length-append (l (jobs_line from)) (job_at job.step job.id ∷ []))))
        (λ (other : level ≢ from).
        let f : List ℕ → List ℕ = push (job_at job.step job.id) in
        let g : List ℕ → List ℕ = push (birth_of e.b) in
        let h : List ℕ → List ℕ = push site.tick in
        let i : List ℕ → List ℕ = push (until_of site cells visit.patience) in
        let l : ℕ → List ℕ = λ k. line_of cells k in
        omega (
          arith,
          ap (λ (xs : List ℕ). length xs)
              (four_elsewhere f g h i from l (jobs_line level) (λ e. other (omega arith)) (λ e. absurd (omega arith)) (λ e. absurd (omega arith)) (λ e. absurd (omega arith))),
        ))
        (cases_eq level from)
    long_after x (loses job visit at visits) = omega arith
    long_after x (passes from calls empty) = out_long_so from calls.some
    long_after x (begins from job visit calls there) =
        omega (
          arith,
          out_long_so from calls.some,
          ap (λ (l : ℕ → List ℕ). length (l (jobs_line level)))
              (began_line visit (one_less cells) (went_out station.order from (record (readings_of cells) { waiting = (counts_of cells).waiting - 1 }))),
        )
    long_after x (ends job at below_most some on_time) = omega arith
    long_after x (puts_off job at served below_most late) = omega arith
    long_after x (reneges from gone job visit kind below_from within now there) = ⊎_elim
        (λ (same : level ≡ from).
        let l : ℕ → List ℕ = λ k. line_of cells k in
        let jobs : List ℕ = with_flipped (l (jobs_line from)) gone in
        subst (λ k. length ((readings_after site routes station cells e x (readings_of cells) (reneges from gone job visit kind below_from within now there)).line (jobs_line k)) + 0 ≤ long_of cells k + 1) (sym same)
        (omega (arith, ap (λ (xs : List ℕ). length xs) (put_same (jobs_line from) jobs l), length-set (l (jobs_line from)) gone (flipped (slice_index (l (jobs_line from)) gone)))))
        (λ (other : level ≢ from).
        let l : ℕ → List ℕ = λ k. line_of cells k in
        let jobs : List ℕ = with_flipped (l (jobs_line from)) gone in
        omega (arith, ap (λ (xs : List ℕ). length xs) (put_other (jobs_line from) (jobs_line level) jobs l (λ e. other (omega arith)))))
        (cases_eq level from)
    long_after x (shifts kind within) = omega arith
    long_after x (stands breakdowns kind has up) = omega arith
    long_after x (works breakdowns kind has) = omega arith

  -- the end of a patience, of a job that waits until now
  is_tire : e.kind ≡ TIRE → station_effect site routes station cells e ≡ tire_effect site routes station cells e
  unfolding station_effect
  is_tire kind =
      ap (λ k. if k == COME then come_by site routes station cells e (job_here routes site.object e.a)
      else if k == DONE then done_by site routes station cells e (job_here routes site.object e.a)
      else if k == CALL then call_effect site routes station cells
      else if k == TIRE then tire_effect site routes station cells e
      else if k == SHIFT then shift_effect site station cells e
      else if k == BREAK then break_effect site station cells station.breakdowns
      else if k == MEND then mend_effect site station cells station.breakdowns
      else blank) kind

  -- it leaves an empty place
  leaves_empty : (place a : ℕ) → e.kind ≡ TIRE → e.b < station.levels → e.a ≡ gone_of cells e.b + place → Stands (λ k. line_of cells k) e.b place a (slice_index (line_of cells (since_line e.b)) place) site.tick
      → a < EMPTY → EMPTY ≤ slice_index (line_of (after_of (station_effect site routes station cells e)) (jobs_line e.b)) place
  unfolding tire_effect tires renege_effect cells_after_all
  leaves_empty place a kind below number there small =
      let line : List ℕ = line_of cells (jobs_line e.b) in
      let at : e.a - gone_of cells e.b ≡ place = omega (arith, number) in
      let entry : is_entry site.object routes (slice_index line place) ≡ true = (is.levels e.b below).entries place 0 there.within in
      let little : slice_index line place < EMPTY = omega (arith, small, there.job) in
      let v : VisitsHere routes site.object (slice_index line place) = entry_visits routes site.object (slice_index line place) little entry in
      let waits_now : (nat_lt place (length line) && nat_lt (slice_index line place) EMPTY && slice_index (line_of cells (until_line e.b)) place == site.tick) ≡ true =
      and_from _ _ (and_from _ _ (lt-ltb place (length line) there.within) (lt-ltb (slice_index line place) EMPTY little)) (eq-eqb _ _ there.until_is) in
      let goes : (nat_lt e.b station.levels && nat_le (gone_of cells e.b) e.a && tires site cells e.b place) ≡ true =
      and_from _ _ (and_from _ _ (lt-ltb e.b station.levels below) (le-leb (gone_of cells e.b) e.a (omega (arith, number)))) waits_now in
      let job_of_it : ℕ → Effect = λ k. renege_job site routes e.b k cells (job_of routes (slice_index line k)) in
      let is_renege : station_effect site routes station cells e ≡ renege_effect site routes e.b place v.visit v.job cells =
      is_tire kind
      ∙ ap (λ k. if nat_lt e.b station.levels && nat_le (gone_of cells e.b) e.a && tires site cells e.b k then job_of_it k else blank) at
      ∙ ap (λ b. if b then job_of_it place else blank) goes
      ∙ ap (λ (found : Option Job). renege_job site routes e.b place cells found) v.found
      ∙ ap (λ (step : Option Step). renege_step site routes e.b place v.job cells step) v.visits in
      let value : ℕ = flipped (slice_index line place) in
      let now : line_of (after_of (station_effect site routes station cells e)) (jobs_line e.b) ≡ with_flipped line place =
      ap (λ (x : Effect). line_of (after_of x) (jobs_line e.b)) is_renege ∙ get_or-set_same cells.lines (jobs_line e.b) (with_flipped line place) [] (omega (arith, below, is.lines)) in
      let read : slice_index (with_flipped line place) place ≡ value = get_or-set_same line place value 0 there.within in
      omega (arith, ap (λ xs. slice_index xs place) now, read, empty_place site routes station cells e (slice_index line place) little)

-- what is sent with a delay comes at the first step of its tick
first_step : (stamp delay : ℕ) → 0 < delay → step_part (next_stamp stamp delay) ≡ 0
unfolding next_stamp
first_step stamp delay some = by (delay == 0) refl
  where
    by : (none : Bool) → (delay == 0) ≡ none → step_part (if none then stamp + 1 else (time_part stamp + delay) * 65536) ≡ 0
    by true none = absurd (let zero : delay ≡ 0 = eqb-true delay 0 none in omega arith)
    by false more = omega arith

-- the end of the patience of an entry of this number is pending, at its time, and if that isn't at once at the first step of its tick
record IsTired (s : State) (i level number since until : ℕ) : Type 0 where
  pub event : Event
  pub pending : Contains s.pending event
  pub kind : event.kind ≡ TIRE
  pub there : event.key.dest ≡ i
  pub its : event.b ≡ level
  pub number_is : event.a ≡ number
  pub time : time_part event.key.stamp ≡ until
  pub soon : since < until → step_part event.key.stamp ≡ 0

-- of a state: each job that waits and has a patience tires, and no more entries have come than events have happened
record Tiring (p : ShopParts) (s : State) : Type 0 where
  pub tires : (i level place a since until : ℕ) → i < length p.stations → level < (station_at p.stations i).levels → a < EMPTY
      → Stands (λ k. line_of (cells_at s i) k) level place a since until → until ≢ NEVER → IsTired s i level (gone_of (cells_at s i) level + place) since until
  pub room : (i level : ℕ) → i < length p.stations → level < (station_at p.stations i).levels → gone_of (cells_at s i) level + long_of (cells_at s i) level ≤ s.count

module _ (p : ShopParts) (t : Terms) (fine : IsShop p) (s : State) (told : Key × Note) (after : State) (reached : Reaches (shop_meaning p) t s)
    (is_next : next (shop_meaning p) t s ≡ does told after) (before : Tiring p s) where
  abbrev m : Meaning
  m = shop_meaning p

  n : IsShopStep p t s told after
  n = shop_step p t s told after fine reached is_next

  abbrev event : Event
  event = n.step.event

  abbrev object : ℕ
  object = n.step.event.key.dest

  abbrev sent : List Event
  sent = (first_firing s n.step.event n.step.effect).events

  pending_after : (e : Event) → Contains (sent ++ n.step.rest) e → Contains after.pending e
  pending_after e there =
      subst (λ (s : State). Contains s.pending e) (sym n.step.leaves)
      (Contains-permutation (sent ++ n.step.rest) (enqueue_all sent n.step.rest) e (enqueue_all-permutation sent n.step.rest) there)

  -- what was pending and isn't the event still is
  stays : (i level number since until : ℕ) (tired : IsTired s i level number since until) → (event ≡ tired.event → ⊥) → IsTired after i level number since until
  stays i level number since until tired other =
      let there : Contains (event ∷ n.step.rest) tired.event = subst (λ (es : List Event). Contains es tired.event) n.step.pending tired.pending in
      record {
        event = tired.event;
        pending = ⊎_elim
            (λ (is : event ≡ tired.event). absurd (other is))
            (λ (later : Contains n.step.rest tired.event). pending_after tired.event (Contains-append_right sent n.step.rest tired.event later))
            (first-or-later tired.event event n.step.rest there);
        kind = tired.kind;
        there = tired.there;
        its = tired.its;
        number_is = tired.number_is;
        time = tired.time;
        soon = tired.soon;
      }

  counted : after.count ≡ s.count + 1
  counted = ap (λ (s : State). s.count) n.step.leaves

  few : s.count + 1 < 2 ^ 64
  few = let most : s.count ≤ t.limit = n.lawful.count in let limit = t.limit_in_range in omega arith

  module _ (early : n.step.event.key.dest < length p.stations) where
    st : IsStationStep p t s told after n
    st = station_step p t s told after fine n (serving p t s fine reached) early

    abbrev site : Site
    site = site_of p n.step.event.key.dest n.step.event

    abbrev station : Station
    station = station_at p.stations n.step.event.key.dest

    abbrev cells : CellData
    cells = cells_at s n.step.event.key.dest

    abbrev x : Effect
    x = n.step.effect

    abbrev ups_at : ℕ → ℕ
    ups_at level = ups site (routes_of p) station cells event x st.does_so level

    now : cells_at after n.step.event.key.dest ≡ cells_after_all n.step.effect.changes (cells_at s n.step.event.key.dest)
    now = cells_here p t s told after n

    reads : Reads (cells_after_all x.changes cells) (readings_after site (routes_of p) station cells event x (readings_of cells) st.does_so)
    reads = reads_after site (routes_of p) station cells event st.at.lawful x st.does_so

    gone_so : (level : ℕ) → level < station.levels → gone_of (cells_at after object) level ≡ gone_of cells level + ups_at level
    gone_so level below =
        ap (λ (c : CellData). gone_of c level) now
        ∙ gone_after site (routes_of p) station cells event st.at.lawful level below (let room = before.room object level early below in omega (arith, room, few)) x st.does_so

    room_here : (level : ℕ) → level < station.levels → gone_of (cells_at after object) level + long_of (cells_at after object) level ≤ after.count
    room_here level below =
        let long : long_of (cells_at after object) level ≡ length ((readings_after site (routes_of p) station cells event x (readings_of cells) st.does_so).line (jobs_line level)) =
        ap (λ (c : CellData). long_of c level) now ∙ ap (λ (xs : List ℕ). length xs) (reads.line (jobs_line level) (λ e. absurd (omega arith))) in
        omega (
          arith,
          long,
          gone_so level below,
          long_after site (routes_of p) station cells event st.at.lawful level below x st.does_so,
          before.room object level early below,
          counted,
        )

    -- a job that joins
    joins_so : (level place a since until : ℕ) → level < station.levels → until ≢ NEVER → (one : Joins site (routes_of p) station cells event x level place a since until)
        → (law : Option DelayLaw) → one.visit.patience ≡ law → IsTired after object level (gone_of (cells_at after object) level + place) since until
    joins_so level place a since until below ending one None is = absurd (ending (one.ends ∙ ap (λ (law : Option DelayLaw). until_of site cells law) is))
    joins_so level place a since until below ending one (Some law) is =
        let d : ℕ = (drawn_at site (place_of cells) law).0 in
        let number : ℕ = (gone_of cells level + long_of cells level) % 2 ^ 64 in
        let send : Send = to_self site d TIRE number level in
        let sends : x.sends ≡ send ∷ [] = one.sends ∙ ap (λ (law : Option DelayLaw). tire_sent site cells level law) is in
        let there : Contains x.sends send = subst (λ (ss : List Send). Contains ss send) (sym sends) (is-first send send [] refl) in
        let found = sent_event event.key.stamp object (state_at s.objects object).sent x.sends send there n.step.no_chain in
        let e : Event = emission event.key.stamp object found.0 send in
        let tick : time_part e.key.stamp ≡ time_part event.key.stamp + d = next_time event.key.stamp d found.2 in
        let until_is : until ≡ time_part event.key.stamp + d = one.ends ∙ ap (λ (law : Option DelayLaw). until_of site cells law) is in
        let room = before.room object level early below in
        let small : number ≡ gone_of cells level + long_of cells level = omega (arith, room, few) in
        let none : ups_at level ≡ 0 = none_up site (routes_of p) station cells event st.at.lawful x st.does_so level (λ call. absurd (let kind = one.at.kind in omega arith)) in
        record {
          event = e;
          pending = pending_after e (Contains-append_left sent n.step.rest e found.1);
          kind = refl;
          there = refl;
          its = refl;
          number_is = omega (arith, small, gone_so level below, none, one.last);
          time = omega (arith, tick, until_is);
          soon = λ some. let more : 0 < d = omega (arith, until_is, one.now, some) in first_step event.key.stamp d more;
        }

    tires_here : (level place a since until : ℕ) → level < station.levels → a < EMPTY → Stands (λ k. line_of (cells_at after object) k) level place a since until → until ≢ NEVER
        → IsTired after object level (gone_of (cells_at after object) level + place) since until
    tires_here level place a since until below small there ending =
        by (came site (routes_of p) station cells event st.at.lawful x st.does_so level place a since until below small read)
      where
        later : Stands (λ k. line_of (cells_after_all n.step.effect.changes (cells_at s n.step.event.key.dest)) k) level place a since until
        later = subst (λ (c : CellData). Stands (λ k. line_of c k) level place a since until) now there

        read : Stands (readings_after site (routes_of p) station cells event x (readings_of cells) st.does_so).line level place a since until
        read = record {
          within = subst (λ xs. place < length xs) (reads.line (jobs_line level) (λ e. absurd (omega arith))) later.within;
          job = subst (λ xs. slice_index xs place ≡ a) (reads.line (jobs_line level) (λ e. absurd (omega arith))) later.job;
          since_is = subst (λ xs. slice_index xs place ≡ since) (reads.line (since_line level) (λ e. absurd (omega arith))) later.since_is;
          until_is = subst (λ xs. slice_index xs place ≡ until) (reads.line (until_line level) (λ e. absurd (omega arith))) later.until_is;
        }

        by : Came site (routes_of p) station cells event x (ups_at level) level place a since until → IsTired after object level (gone_of (cells_at after object) level + place) since until
        by (joins one) = joins_so level place a since until below ending one one.visit.patience refl
        by (stood was) =
            let up : ℕ = ups_at level in
            let tired : IsTired s object level (gone_of cells level + (place + up)) since until = before.tires object level (place + up) a since until early below small was ending in
            let number : gone_of cells level + (place + up) ≡ gone_of (cells_at after object) level + place = omega (arith, gone_so level below) in
            subst (λ k. IsTired after object level k since until) number
            (stays object level (gone_of cells level + (place + up)) since until tired (λ same. absurd (
            let kind : event.kind ≡ TIRE = ap (λ (e : Event). e.kind) same ∙ tired.kind in
            let its : event.b ≡ level = ap (λ (e : Event). e.b) same ∙ tired.its in
            let a_is : event.a ≡ gone_of cells level + (place + up) = ap (λ (e : Event). e.a) same ∙ tired.number_is in
            let tick : until ≡ time_part event.key.stamp = sym tired.time ∙ ap (λ (e : Event). time_part e.key.stamp) (sym same) in
            let none : up ≡ 0 = none_up site (routes_of p) station cells event st.at.lawful x st.does_so level (λ call. absurd (omega arith)) in
            let same_place : place + up ≡ place = omega (arith, none) in
            let L : ℕ → Type 0 = λ k. Stands (λ j. line_of cells j) k place a (slice_index (line_of cells (since_line k)) place) (time_part event.key.stamp) in
            let at : Stands (λ j. line_of cells j) level place a since until = subst (λ k. Stands (λ j. line_of cells j) level k a since until) same_place was in
            let here : L level = record { within = at.within; job = at.job; since_is = refl; until_is = at.until_is ∙ tick } in
            let empty = leaves_empty site (routes_of p) station cells event st.at.lawful place a kind (omega (arith, below, its)) (a_is ∙ ap (λ k. gone_of cells k + (place + up)) (sym its) ∙ ap (λ k. gone_of cells event.b + k) same_place)
            (subst L (sym its) here) small in
            let does_it : x ≡ station_effect site (routes_of p) station cells event = n.does_so ∙ effect_station p object cells event early in
            let read_there : slice_index (line_of (cells_after_all x.changes cells) (jobs_line level)) place ≡ a = later.job in
            let its_line : slice_index (line_of (cells_after_all x.changes cells) (jobs_line event.b)) place ≡ a =
            ap (λ k. slice_index (line_of (cells_after_all x.changes cells) (jobs_line k)) place) its ∙ read_there in
            let shown : slice_index (line_of (cells_after_all (station_effect site (routes_of p) station cells event).changes cells) (jobs_line event.b)) place ≡ a =
            ap (λ (x : Effect). slice_index (line_of (cells_after_all x.changes cells) (jobs_line event.b)) place) (sym does_it) ∙ its_line in
            omega (arith, empty, shown, small)
            )))

  tiring_on : Tiring p after
  tiring_on = record {
    tires = λ i level place a since until exists below small there ends. ⊎_elim
        (λ (same : n.step.event.key.dest ≡ i).
        let Q : ℕ → Type 0 = λ k. level < (station_at p.stations k).levels → Stands (λ j. line_of (cells_at after k) j) level place a since until → IsTired after k level (gone_of (cells_at after k) level + place) since until in
        subst Q same (λ below there. tires_here (omega (arith, exists, same)) level place a since until below small there ends) below there)
        (λ (apart : n.step.event.key.dest ≢ i).
        let cells_same : cells_at after i ≡ cells_at s i = cells_elsewhere p t s told after n i (λ eq. apart (sym eq)) in
        let tired = before.tires i level place a since until exists below small (subst (λ (c : CellData). Stands (λ k. line_of c k) level place a since until) cells_same there) ends in
        subst (λ (c : CellData). IsTired after i level (gone_of c level + place) since until) (sym cells_same)
        (stays i level (gone_of (cells_at s i) level + place) since until tired (λ same. apart (ap (λ (e : Event). e.key.dest) same ∙ tired.there))))
        (cases_eq n.step.event.key.dest i);
    room = λ i level exists below. ⊎_elim
        (λ (same : n.step.event.key.dest ≡ i).
        let Q : ℕ → Type 0 = λ k. level < (station_at p.stations k).levels → gone_of (cells_at after k) level + long_of (cells_at after k) level ≤ after.count in
        subst Q same (λ below. room_here (omega (arith, exists, same)) level below) below)
        (λ (apart : n.step.event.key.dest ≢ i).
        let cells_same : cells_at after i ≡ cells_at s i = cells_elsewhere p t s told after n i (λ eq. apart (sym eq)) in
        omega (arith, before.room i level exists below, counted, ap (λ (c : CellData). gone_of c level) cells_same, ap (λ (c : CellData). long_of c level) cells_same))
        (cases_eq n.step.event.key.dest i);
  }

-- at the start nobody waits
none_gone : (station : Station) (level : ℕ) → level < station.levels → gone_of (first_station_cells station) level ≡ 0
unfolding first_station_cells
none_gone station level below =
    let word : gone_word level ≡ suc (suc (4 + level)) = omega arith in
    ap (λ k. slice_index (first_station_cells station).words k) word ∙ get_or-replicate (4 + station.levels + station.most) (4 + level) 0 0 (omega (arith, below))

none_long : (p : ShopParts) (i level : ℕ) → i < length p.stations → long_of (cells_at (initial_state (shop_meaning p)) i) level ≡ 0
none_long p i level exists =
    ap (λ (c : CellData). long_of c level) (station_at_start p i exists) ∙ ap (λ (xs : List ℕ). length xs) (empty_line (station_at p.stations i) (jobs_line level) (λ e. absurd (omega arith)))

tiring_first : (p : ShopParts) → Tiring p (initial_state (shop_meaning p))
tiring_first p = record {
  tires = λ i level place a since until exists below small there ends. absurd (let within = there.within in omega (arith, none_long p i level exists));
  room = λ i level exists below.
      omega (arith, none_long p i level exists, ap (λ (c : CellData). gone_of c level) (station_at_start p i exists), none_gone (station_at p.stations i) level below);
}

tiring : (p : ShopParts) (t : Terms) (s : State) → IsShop p → Reaches (shop_meaning p) t s → Tiring p s
tiring p t s fine reached =
    each_reached (shop_meaning p) t (Tiring p) (tiring_first p) (λ s told after there is_next before. tiring_on p t fine s told after there is_next before) s reached

-- the first event comes no later than any other
no_later : (s : State) (first : Event) (rest : List Event) (e : Event) → IsAscending s.pending → s.pending ≡ first ∷ rest → Contains s.pending e → first.key.stamp ≤ e.key.stamp
unfolding Ascends
no_later s first rest e ordered pending there =
    let up : IsAscending (first ∷ rest) = subst IsAscending pending ordered in
    ⊎_elim
    (λ (is : first ≡ e). let same : first.key.stamp ≡ e.key.stamp = ap (λ (e : Event). e.key.stamp) is in omega (arith, same))
    (λ (later : Contains rest e).
    let after : key_lt first.key e.key ≡ true = each-contains (λ (e : Event). key_lt first.key e.key ≡ true) e rest up.0 later in
    stamp-le first.key e.key after)
    (first-or-later e first rest (subst (λ (es : List Event). Contains es e) pending there))

-- a job that waits as an event happens: it has a patience left, or just no more, and as a server calls some if there was any
record InTime (now since until word : ℕ) : Type 0 where
  pub upto : now ≤ until
  pub called : word ≡ CALLED_WORD → since < until → now < until

pub nobody_outwaits : NobodyOutwaits
nobody_outwaits p t n told after i level place law fine is_next exists below within small has =
    let s : State = after_events n (shop_meaning p) t in
    let step = shop_step p t s told after fine (n, refl) is_next in
    let event : Event = step.step.event in
    let a : ℕ = slice_index (line_of (cells_at s i) (jobs_line level)) place in
    let since : ℕ = slice_index (line_of (cells_at s i) (since_line level)) place in
    let until : ℕ = slice_index (line_of (cells_at s i) (until_line level)) place in
    let now : ℕ = time_part event.key.stamp in
    let time : time_part told.0.stamp ≡ now = ap (λ (r : Key × Note). time_part r.0.stamp) step.step.tells in
    let early : now < 2 ^ 46 = time_early t event.key.stamp step.step.due in
    let there : Stands (λ k. line_of (cells_at s i) k) level place a since until = record { within = within; job = refl; since_is = refl; until_is = refl } in
    let in_time : InTime now since until (word_told told.1) = ⊎_elim
    (λ (never : until ≡ NEVER). record { upto = omega (arith, never, early); called = λ word some. omega (arith, never, early) })
    (λ (ending : until ≢ NEVER).
    let tired = (tiring p t s fine (n, refl)).tires i level place a since until exists below small there ending in
    let upto : event.key.stamp ≤ tired.event.key.stamp = no_later s event step.step.rest tired.event step.lawful.ordered step.step.pending tired.pending in
    let all : Each CallsLater (event ∷ step.step.rest) = subst (λ (es : List Event). Each CallsLater es) step.step.pending (calls_later p t s fine (n, refl)) in
    record {
      upto = omega (arith, upto, tired.time);
      called = λ word some.
          let later : 1 ≤ step_part event.key.stamp = all.0 (is_call p t s told after fine (n, refl) step word) in
          omega (arith, upto, tired.time, tired.soon some, later);
    })
    (cases_eq until NEVER) in
    ⊎_elim
    (λ (never : (until ≡ NEVER) × (patience_at (step_named (routes_of p) a) ≡ None)).
    absurd (let none : ◌≡◌ {A = Option DelayLaw} (Some law) None = sym has ∙ never.1 in cc))
    (λ (drawn : (patience : ℕ) × (until ≡ since + patience) × Contains (joined p t i n) (record { id = id_of a; since = since; patience = patience })).
    record {
      patience = drawn.0;
      drawn = drawn.2;
      in_time = omega (arith, drawn.1, in_time.upto, time);
      called = λ word some. omega (arith, in_time.called word (omega (arith, drawn.1, some)), drawn.1, time);
    })
    (all_wait p t fine i exists n level place a since until below small there)
