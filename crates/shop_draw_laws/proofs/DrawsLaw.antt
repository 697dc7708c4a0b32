-- Each object of a shop draws from its own stream, each time where it stopped before.
use Rattle.std.proofs.Common.{◌≡◌, ◌≢◌, ℕ, ◌+◌, ◌-◌, ◌%◌, ◌<◌, ◌≤◌, Bool, true, false, List, [], ◌∷◌, ◌++◌, length, All, refl, sym, ap, ◌∙◌, subst, ⊎_elim, arith, eq-eqb, ne_eqb, append-nil, append_assoc}
use Rattle.std.specs.Prelude.{if◌then◌else◌, ◌==◌, ◌&&◌, is_none, nat_lt, nat_le, slice_index, Option, None, Some}
use Rattle.std.specs.List.{AllByRecursion as Each, flat_map}
use Rattle.std.specs.Option.{ForSome, option_and_then}
use Rattle.std.proofs.lemmas.Bool.{and_parts, and_from, cases_eq, cases_lt, eqb-true, eqb-false, le-leb, ltb-true}
use Rattle.std.proofs.lemmas.Bool.Decides.{nat_tests}
use Rattle.std.proofs.lemmas.List.Elements.{All-from_recursion, All-nil}
use Rattle.event_key.specs.declared.key.Key.{Key}
use Rattle.delta_exchange.specs.declared.change.Change.{Change}
use Rattle.delta_exchange.specs.declared.change.Change.TheVariants.{Set}
use Rattle.delta_exchange.specs.Changes.{CellData, cells_after_all}
use Rattle.key_order.proofs.EachLemmas.{Each-append, Each-map}
use Rattle.model_core.specs.declared.effect.Effect.{Effect}
use Rattle.model_core.specs.declared.event.Event.{Event}
use Rattle.model_core.specs.declared.event.Send.{Send}
use Rattle.model_core.specs.declared.note.Note.{Note}
use Rattle.model_core.specs.Effects.{blank}
use Rattle.model_core.specs.Meaning.{Meaning}
use Rattle.model_core.specs.Places.{place_changes}
use Rattle.random_streams.specs.declared.delay_law.DelayLaw.{DelayLaw}
use Rattle.random_streams.specs.declared.delay_law.DelayLaw.TheVariants.{Plain}
use Rattle.random_streams.specs.declared.law.Law.TheVariants.{Choice}
use Rattle.random_streams.specs.Delays.{draw_delay, delay_drawn, delay_words}
use Rattle.random_streams.specs.Laws.{draw}
use Rattle.run_laws.specs.Reached.{after_events, gathered, Reaches}
use Rattle.run_laws.specs.Sent.{first_of}
use Rattle.run_laws.proofs.Induction.{after_events-does, after_events-stops, gathered-more, each_number}
use Rattle.sim_spec.specs.declared.terms.Terms.{Terms}
use Rattle.sim_spec.specs.Run.{stops, does, next}
use Rattle.sim_spec.specs.State.{State, initial_state}
use Rattle.shop_model.specs.declared.class.Class.{Class}
use Rattle.shop_model.specs.declared.class.TheConstants.{INSIDE}
use Rattle.shop_model.specs.declared.counts.Counts.{Counts}
use Rattle.shop_model.specs.declared.job.Job.{Job}
use Rattle.shop_model.specs.declared.kinds.TheConstants.{MAKE, COME, DONE, CALL, TIRE, SHIFT, BREAK, MEND}
use Rattle.shop_model.specs.declared.make.Arrival.{Arrival}
use Rattle.shop_model.specs.declared.routes.Routes.{Routes}
use Rattle.shop_model.specs.declared.site.Site.{Site}
use Rattle.shop_model.specs.declared.station.Station.{Station}
use Rattle.shop_model.specs.declared.station.TheConstants.{WAITING}
use Rattle.shop_model.specs.declared.step.Branch.{Branch}
use Rattle.shop_model.specs.declared.step.Step.{Step}
use Rattle.shop_model.specs.declared.step.Step.TheVariants.{Visit, Free, Delay, Go}
use Rattle.shop_model.specs.declared.step.Visit.{Visit as AVisit}
use Rattle.shop_model.specs.Beginnings.{next_server, service_drawn, begin_changes, begin_sent}
use Rattle.shop_model.specs.Classes.{made_jobs, jobs_inside, pause_drawn, arrival_of, next_job, others_sent, next_arrival, one_made, arrival_effect, make_effect, stay_effect, go_effect, leave_effect}
use Rattle.shop_model.specs.JobLaws.{HasHere, Names, job_named}
use Rattle.shop_model.specs.Jobs.{job_at, birth_of, step_of, served_by}
use Rattle.shop_model.specs.Meaning.{job_here, home_by, class_of_object, class_effect, effect_at, shop_meaning, site_of}
use Rattle.shop_model.specs.ModelLaws.{effect_class}
use Rattle.shop_model.specs.Routes.{step_at, job_of, stands_at, object_at, moved}
use Rattle.shop_model.specs.ShopParts.{ShopParts, IsShop, routes_of, station_at}
use Rattle.shop_model.specs.Sites.{to_self, place_of, words_at, drawn_at, drawn_or}
use Rattle.shop_model.specs.StationEffects.{take_effect, tire_sent, wait_effect, lose_effect, out_changes, begin_effect, pass_effect, renege_effect, shift_sent, still_effect, works_effect}
use Rattle.shop_model.specs.Stations.{counts_of, call_sent, first_station_cells}
use Rattle.shop_laws.specs.Told.{cells_at}
use Rattle.shop_laws.proofs.After.{one_less}
use Rattle.shop_laws.proofs.Cases.{StationDoes, rests, goes_on, frees, takes, waits, loses, passes, begins, ends, puts_off, reneges, shifts, stands, works, IsAtStep}
use Rattle.shop_laws.proofs.ClassCases.{ClassDoes, idles, makes_none, makes, holds, branches, leaves}
use Rattle.shop_laws.proofs.Fine.{named_of}
use Rattle.shop_laws.proofs.Moves.{call_each, shift_each}
use Rattle.shop_laws.proofs.Serving.{serving, station_step, class_step}
use Rattle.shop_laws.proofs.Steps.{IsShopStep, shop_step, cells_here, cells_elsewhere, station_at_start, class_at_start, class_cells_lawful}
use Rattle.shop_draw_laws.specs.DrawLaws.{PlacesFollow, value_at, brought, AreDrawn, ValuesAreDrawn}
use Rattle.shop_draw_laws.specs.Draws.{laws_of, service_at, patience_at, stay_at, way_at, down_by, up_by, step_named, step_come, delay_law, arrival_laws, laws_drawn, laws_next, laws_by, place_behind}
use Rattle.shop_draw_laws.proofs.Places.{Leaves, word_stays, place_goes, place_only, out_leaves, begin_leaves}

-- laws behind others read on from where these stop
behind_more : (seed object place : ℕ) (one other : List DelayLaw) → place_behind seed object place (one ++ other) ≡ place_behind seed object (place_behind seed object place one) other
unfolding place_behind
behind_more seed object place [] other = refl
behind_more seed object place (law ∷ one) other = behind_more seed object (draw_delay seed object place law).1 one other

-- what a law that may be absent leaves
left_behind : (value seed object place : ℕ) (law : Option DelayLaw) → (drawn_or value (record { seed = seed; object = object; place = place }) law).1 ≡ place_behind seed object place (laws_of law)
unfolding place_behind
left_behind value seed object place None = refl
left_behind value seed object place (Some law) = refl

module _ (p : ShopParts) (cells : CellData) (e : Event) where
  abbrev routes : Routes
  routes = routes_of p

  abbrev dest : ℕ
  dest = e.key.dest

  abbrev site : Site
  site = site_of p e.key.dest e

  abbrev station : Station
  station = station_at p.stations e.key.dest

  abbrev value : DelayLaw → ℕ
  value law = value_at p e.key.dest (place_of cells) law

  abbrev behind : List DelayLaw → ℕ
  behind laws = place_behind p.seed e.key.dest (place_of cells) laws

  abbrev drawn_of : List Send → List DelayLaw
  drawn_of sends = flat_map (λ (s : Send). laws_of (delay_law p e s)) sends

  -- no delay of these is drawn
  abbrev NoLaw : Send → Type 0
  NoLaw s = delay_law p e s ≡ None

  abbrev IsValue : Send → Type 0
  IsValue s = ForSome (delay_law p e s) (λ law. s.delay ≡ value law)

  none_drawn : (sends : List Send) → Each NoLaw sends → drawn_of sends ≡ []
  none_drawn [] none = refl
  none_drawn (s ∷ rest) none = ap (λ (law : Option DelayLaw). laws_of law ++ drawn_of rest) none.0 ∙ none_drawn rest none.1

  none_values : (sends : List Send) → Each NoLaw sends → Each IsValue sends
  none_values [] none = tt
  none_values (s ∷ rest) none = ((λ law is. let no : delay_law p e s ≡ None = none.0 in absurd (cc)), none_values rest none.1)

  -- what an event draws by at most one law, besides a way
  record Draws (x : Effect) (law : Option DelayLaw) : Type 0 where
    pub laws : drawn_of x.sends ≡ laws_of law
    pub delays : Each IsValue x.sends
    pub place : place_of (cells_after_all x.changes cells) ≡ behind (laws_of law)

  no_draw : (x : Effect) → Each NoLaw x.sends → Each (Leaves 0) x.changes → Draws x None
  unfolding place_behind
  no_draw x none leaves_it = record { laws = none_drawn x.sends none; delays = none_values x.sends none; place = word_stays 0 x.changes cells leaves_it }

  one_draw : (x : Effect) (law : Option DelayLaw) (s : Send) (rest : List Send) → x.sends ≡ s ∷ rest → delay_law p e s ≡ law → ForSome law (λ law. s.delay ≡ value law)
      → Each NoLaw rest → place_of (cells_after_all x.changes cells) ≡ behind (laws_of law) → Draws x law
  one_draw x law s rest sends is drawn none place = record {
    laws = ap drawn_of sends ∙ ap (λ (l : Option DelayLaw). laws_of l ++ drawn_of rest) is ∙ ap (λ (ls : List DelayLaw). laws_of law ++ ls) (none_drawn rest none) ∙ append-nil (laws_of law);
    delays = subst (λ (ss : List Send). Each IsValue ss) (sym sends) (subst (λ (l : Option DelayLaw). ForSome l (λ law. s.delay ≡ value law)) (sym is) drawn, none_values rest none);
    place = place;
  }

  -- the step to which an event comes
  pub come_step : (job : Job) → e.kind ≡ COME → job_of routes e.a ≡ Some job → step_come routes e ≡ step_at routes job.class job.step
  come_step job kind is =
      ap (λ b. if b then step_named routes e.a else None) (eq-eqb e.kind COME kind)
      ∙ ap (λ found. option_and_then (λ (job : Job). step_at routes job.class job.step) found) is

  no_step : e.kind ≢ COME → step_come routes e ≡ None
  no_step no_come = ap (λ b. if b then step_named routes e.a else None) (ne_eqb e.kind COME no_come)

  -- none stays or takes a way at a station
  record StaysNot (step : Option Step) : Type 0 where
    pub stay : stay_at step ≡ None
    pub way : way_at step ≡ None

  at_station : (job : Job) → HasHere routes dest e.a job → dest < length p.stations → StaysNot (step_at routes job.class job.step)
  unfolding object_at
  at_station job here early = by (step_at routes job.class job.step) here.here
    where
      by : (step : Option Step) → stands_at (routes.stations + job.class) step ≡ dest → StaysNot step
      by None there = absurd (omega arith)
      by (Some (Visit visit)) there = record { stay = refl; way = refl }
      by (Some (Free other)) there = record { stay = refl; way = refl }
      by (Some (Delay law)) there = absurd (omega arith)
      by (Some (Go branch)) there = absurd (omega arith)

  comes_not : (job : Job) → IsAtStep site routes e COME job → dest < length p.stations → StaysNot (step_come routes e)
  comes_not job at early = subst StaysNot (sym (come_step job at.kind at.here.is)) (at_station job at.here early)

  other_not : e.kind ≢ COME → StaysNot (step_come routes e)
  other_not no_come = subst StaysNot (sym (no_step no_come)) (record { stay = refl; way = refl })

  -- events that draw no delay
  call_none : (most : ℕ) (counts : Counts) → Each NoLaw (call_sent most site counts)
  unfolding delay_law
  call_none most counts = call_each NoLaw most site counts refl

  moved_none : (job : Job) (b step delay : ℕ) → StaysNot (step_come routes e) → NoLaw (moved routes job b step delay)
  unfolding moved delay_law
  moved_none job b step delay stays = stays.stay

  shift_none : (number : ℕ) → Each NoLaw (shift_sent site station number)
  unfolding delay_law
  shift_none number = shift_each NoLaw site station number (λ delay a b. refl)

  -- a service that begins
  record Begins (visit : AVisit) (s : Send) : Type 0 where
    pub law : delay_law p e s ≡ visit.service
    pub drawn : ForSome visit.service (λ law. s.delay ≡ value law)

  named_step : (a : ℕ) (job : Job) → job_of routes a ≡ Some job → Names routes a job → step_named routes (job_at job.step job.id) ≡ step_at routes job.class job.step
  named_step a job is names =
      ap (λ n. step_named routes n) names.named ∙ ap (λ found. option_and_then (λ (job : Job). step_at routes job.class job.step) found) is

  begin_draws : (visit : AVisit) (job : Job) (birth : ℕ) → e.kind ≢ DONE → StaysNot (step_come routes e) → step_named routes (job_at job.step job.id) ≡ Some (Visit visit)
      → Begins visit (begin_sent site routes cells visit (service_drawn site cells visit).0 job birth)
  unfolding begin_sent moved delay_law
  begin_draws visit job birth no_done stays named =
      let both = by visit.service refl in
      record { law = both.0; drawn = both.1 }
    where
      by : (service : Option DelayLaw) → visit.service ≡ service
          → (λ (s : Send). (delay_law p e s ≡ service) × ForSome service (λ law. s.delay ≡ value law))
          (if is_none service then moved routes job birth (job.step + 1) 0
          else to_self site (drawn_or 0 (words_at site (place_of cells)) service).0 DONE (job_at job.step job.id) (served_by (next_server cells) birth))
      by None is = (stays.stay, λ law no. absurd (cc))
      by (Some law) is = (
        ap (λ b. if b then None else service_at (step_named routes (job_at job.step job.id))) (ne_eqb e.kind DONE no_done) ∙ ap service_at named ∙ is,
        λ other same. let one : law ≡ other = cc in ap value one,
      )

  -- a patience
  record Waits (law : Option DelayLaw) (sends : List Send) : Type 0 where
    pub laws : drawn_of sends ≡ laws_of law
    pub delays : Each IsValue sends

  tire_draws : (visit : AVisit) (level : ℕ) → step_come routes e ≡ Some (Visit visit) → Waits visit.patience (tire_sent site cells level visit.patience)
  unfolding delay_law
  tire_draws visit level comes = by visit.patience refl
    where
      by : (patience : Option DelayLaw) → visit.patience ≡ patience → Waits patience (tire_sent site cells level patience)
      by None is = record { laws = refl; delays = tt }
      by (Some law) is =
          let its : patience_at (step_come routes e) ≡ Some law = ap patience_at comes ∙ is in
          record {
            laws = ap (λ (l : Option DelayLaw). laws_of l ++ []) its;
            delays = ((λ other same. let one : law ≡ other = cc in ap value one), tt);
          }

  -- by which law it draws a delay
  abbrev pub law_of : (x : Effect) → StationDoes site routes station cells e x → Option DelayLaw
  law_of x (rests no_come no_done no_call no_turn) = None
  law_of x (goes_on job at) = None
  law_of x (frees job at some) = None
  law_of x (takes job visit at visits nobody spare) = visit.service
  law_of x (waits job visit level at visits below busy) = visit.patience
  law_of x (loses job visit at visits) = None
  law_of x (passes level calls empty) = None
  law_of x (begins level job visit calls there) = visit.service
  law_of x (ends job at below some on_time) = None
  law_of x (puts_off job at served below late) = None
  law_of x (reneges level place job visit kind below within now there) = None
  law_of x (shifts kind within) = None
  law_of x (stands breakdowns kind has up) = Some breakdowns.down
  law_of x (works breakdowns kind has) = Some breakdowns.up

  module _ (fine : IsShop p) (early : dest < length p.stations) (words : 0 < length cells.words) where
    draws : (x : Effect) (does_so : StationDoes site routes station cells e x) → Draws x (law_of x does_so)
    unfolding take_effect wait_effect lose_effect begin_effect pass_effect renege_effect still_effect works_effect delay_law
    draws x (rests no_come no_done no_call no_turn) = no_draw x tt tt
    draws x (goes_on job at) = no_draw x (moved_none job e.b (job.step + 1) 0 (comes_not job at early), tt) tt
    draws x (frees job at some) =
        no_draw x (moved_none job e.b (job.step + 1) 0 (comes_not job at early), call_none station.most _) ((λ e. absurd (omega arith)), tt)
    draws x (takes job visit at visits nobody spare) =
        let begun = begin_draws visit job (birth_of e.b) (λ done. absurd (let kind = at.kind in omega arith)) (comes_not job at early)
        (named_step e.a job at.here.is at.here.names ∙ visits) in
        one_draw x visit.service (begin_sent site routes cells visit (service_drawn site cells visit).0 job (birth_of e.b)) [] refl begun.law begun.drawn tt
        (place_goes (service_drawn site cells visit).1 (begin_changes station cells visit (counts_of cells)) cells words (begin_leaves 0 station cells visit (counts_of cells) (λ e. absurd (omega arith)) (λ served e. absurd (omega arith)))
        ∙ left_behind 0 p.seed dest (place_of cells) visit.service)
    draws x (waits job visit level at visits below busy) =
        let drawn = tire_draws visit level (come_step job at.kind at.here.is ∙ visits) in
        record {
          laws = drawn.laws;
          delays = drawn.delays;
          place = place_goes (drawn_or 0 (words_at site (place_of cells)) visit.patience).1 _ cells words ((λ e. absurd (omega arith)), (tt, (tt, (tt, (tt, tt)))))
              ∙ left_behind 0 p.seed dest (place_of cells) visit.patience;
        }
    draws x (loses job visit at visits) = no_draw x (moved_none job e.b visit.full 0 (comes_not job at early), tt) tt
    draws x (passes level calls empty) =
        no_draw x (refl, tt) (subst (λ (cs : List Change). Each (Leaves 0) cs) (append-nil (out_changes station.order cells level)) (out_leaves 0 station.order cells level [] (λ e. absurd (omega arith)) tt))
    draws x (begins level job visit calls there) =
        let kind = calls.kind in
        let begun = begin_draws visit job _ (λ done. absurd (omega arith)) (other_not (λ come. absurd (omega arith)))
        (named_step _ job there.found (job_named routes _ job fine.routes there.found) ∙ there.visits) in
        one_draw x visit.service _ (call_sent station.most site _) refl begun.law begun.drawn (call_none station.most _)
        (subst (λ (cs : List Change). place_of (cells_after_all cs cells) ≡ (service_drawn site cells visit).1)
        (sym (append_assoc (place_changes (place_of cells) (service_drawn site cells visit).1) (Set WAITING ((counts_of cells).waiting - 1) ∷ out_changes station.order cells level)
        (begin_changes station cells visit (one_less cells))))
        (place_goes (service_drawn site cells visit).1 _ cells words
        ((λ e. absurd (omega arith)), out_leaves 0 station.order cells level _ (λ e. absurd (omega arith)) (begin_leaves 0 station cells visit (one_less cells) (λ e. absurd (omega arith)) (λ served e. absurd (omega arith)))))
        ∙ left_behind 0 p.seed dest (place_of cells) visit.service)
    draws x (ends job at below some on_time) =
        let kind = at.kind in
        no_draw x (moved_none job e.b (job.step + 1) 0 (other_not (λ come. absurd (omega arith))), call_none station.most _) (tt, tt)
    draws x (puts_off job at served below late) =
        no_draw x (ap (λ b. if b then None else service_at (step_named routes e.a)) (eq-eqb e.kind DONE at.kind), tt) ((λ e. absurd (omega arith)), tt)
    draws x (reneges level place job visit kind below within now there) =
        no_draw x (moved_none job _ visit.away 0 (other_not (λ come. absurd (omega arith))), tt) ((λ e. absurd (omega arith)), (tt, tt))
    draws x (shifts kind within) =
        no_draw x (Each-append NoLaw (shift_sent site station e.a) _ (shift_none e.a) (call_none station.most _)) ((λ e. absurd (omega arith)), tt)
    draws x (stands breakdowns kind has up) =
        one_draw x (Some breakdowns.down) _ [] refl (ap down_by has) (λ other same. let one : breakdowns.down ≡ other = cc in ap value one) tt
        (place_goes (drawn_at site (place_of cells) breakdowns.down).1 _ cells words ((λ e. absurd (omega arith)), ((λ e. absurd (omega arith)), tt))
        ∙ left_behind 0 p.seed dest (place_of cells) (Some breakdowns.down))
    draws x (works breakdowns kind has) =
        one_draw x (Some breakdowns.up) _ (call_sent station.most site _) refl (ap up_by has) (λ other same. let one : breakdowns.up ≡ other = cc in ap value one) (call_none station.most _)
        (place_goes (drawn_at site (place_of cells) breakdowns.up).1 _ cells words ((λ e. absurd (omega arith)), tt)
        ∙ left_behind 0 p.seed dest (place_of cells) (Some breakdowns.up))

    -- what an event at a station draws is all that it draws
    record IsAll (x : Effect) : Type 0 where
      pub way : way_at (step_come routes e) ≡ None
      pub silent : e.kind ≡ MAKE → x.sends ≡ []

    not_home : (x : Effect) (kind : ℕ) → e.kind ≡ kind → kind ≢ COME → kind ≢ MAKE → IsAll x
    not_home x kind is no_come no_make =
        record { way = (other_not (λ come. no_come (sym is ∙ come))).way; silent = λ make. absurd (no_make (sym is ∙ make)) }

    come_there : (x : Effect) (job : Job) → IsAtStep site routes e COME job → IsAll x
    come_there x job at = record { way = (comes_not job at early).way; silent = λ make. absurd (let kind = at.kind in omega arith) }

    all_there : (x : Effect) → StationDoes site routes station cells e x → IsAll x
    all_there x (rests no_come no_done no_call no_turn) = record { way = (other_not no_come).way; silent = λ make. refl }
    all_there x (goes_on job at) = come_there x job at
    all_there x (frees job at some) = come_there x job at
    all_there x (takes job visit at visits nobody spare) = come_there x job at
    all_there x (waits job visit level at visits below busy) = come_there x job at
    all_there x (loses job visit at visits) = come_there x job at
    all_there x (passes level calls empty) = not_home x CALL calls.kind (λ e. absurd (omega arith)) (λ e. absurd (omega arith))
    all_there x (begins level job visit calls there) = not_home x CALL calls.kind (λ e. absurd (omega arith)) (λ e. absurd (omega arith))
    all_there x (ends job at below some on_time) = not_home x DONE at.kind (λ e. absurd (omega arith)) (λ e. absurd (omega arith))
    all_there x (puts_off job at served below late) = not_home x DONE at.kind (λ e. absurd (omega arith)) (λ e. absurd (omega arith))
    all_there x (reneges level place job visit kind below within now there) = not_home x TIRE kind (λ e. absurd (omega arith)) (λ e. absurd (omega arith))
    all_there x (shifts kind within) = not_home x SHIFT kind (λ e. absurd (omega arith)) (λ e. absurd (omega arith))
    all_there x (stands breakdowns kind has up) = not_home x BREAK kind (λ e. absurd (omega arith)) (λ e. absurd (omega arith))
    all_there x (works breakdowns kind has) = not_home x MEND kind (λ e. absurd (omega arith)) (λ e. absurd (omega arith))

  -- what an event draws, and where the random place is then
  record Drawn (x : Effect) : Type 0 where
    pub place : place_of (cells_after_all x.changes cells) ≡ behind (laws_drawn p cells e x.sends)
    pub values : AreDrawn p cells e x.sends

  no_branch : {A : Type 0} (branch : Branch) → way_at (step_come routes e) ≡ None → step_come routes e ≡ Some (Go branch) → A
  no_branch branch none is =
      let way : ◌≡◌ {A = Option DelayLaw} (Some (Plain (Choice branch.weights))) None = ap way_at (sym is) ∙ none in
      absurd (cc)

  -- no arrival
  laws_besides : (sends : List Send) → (e.kind == MAKE && nat_le (length p.stations) dest) ≡ false
      → laws_drawn p cells e sends ≡ drawn_of sends ++ laws_of (way_at (step_come routes e))
  unfolding laws_drawn
  laws_besides sends besides =
      ap (λ b. if b then arrival_laws (class_of_object p dest) cells e else drawn_of sends ++ laws_of (way_at (step_come routes e))) besides

  laws_plain : (x : Effect) (law : Option DelayLaw) → Draws x law → (e.kind == MAKE && nat_le (length p.stations) dest) ≡ false → way_at (step_come routes e) ≡ None
      → laws_drawn p cells e x.sends ≡ laws_of law
  laws_plain x law drawn besides way =
      laws_besides x.sends besides
      ∙ ap (λ (ls : List DelayLaw). ls ++ laws_of (way_at (step_come routes e))) drawn.laws
      ∙ ap (λ (l : Option DelayLaw). laws_of law ++ laws_of l) way
      ∙ append-nil (laws_of law)

  drawn_plain : (x : Effect) (law : Option DelayLaw) → Draws x law → (e.kind == MAKE && nat_le (length p.stations) dest) ≡ false → way_at (step_come routes e) ≡ None
      → (e.kind ≡ MAKE → x.sends ≡ []) → Drawn x
  drawn_plain x law drawn besides way silent = record {
    place = drawn.place ∙ sym (ap behind (laws_plain x law drawn besides way));
    values = record {
      delays = All-from_recursion IsValue x.sends drawn.delays;
      ways = λ branch is. no_branch branch way is;
      batches = λ make new. subst (λ (ss : List Send). All (λ (s : Send). s.kind ≡ MAKE → s.b ≡ 0 → s.a + 1 ≡ brought p dest (place_of cells) (class_of_object p dest).batch) ss)
          (sym (silent make)) (All-nil _);
      gaps = λ make. subst (λ (ss : List Send). All
          (λ (s : Send). s.kind ≡ MAKE → s.b ≡ 1 → ForSome (class_of_object p dest).every
          (λ law. s.delay ≡ value_at p dest (place_behind p.seed dest (place_of cells) (laws_of (class_of_object p dest).batch)) law)) ss)
          (sym (silent make)) (All-nil _);
    };
  }

  no_make : dest < length p.stations → (e.kind == MAKE && nat_le (length p.stations) dest) ≡ false
  no_make early = by (e.kind == MAKE) (nat_le (length p.stations) dest) (grind (arith, nat_tests))
    where
      by : (a b : Bool) → b ≡ false → (a && b) ≡ false
      by true b is = is
      by false b is = refl

  station_drawn : IsShop p → dest < length p.stations → 0 < length cells.words → (x : Effect) → StationDoes site routes station cells e x → Drawn x
  station_drawn fine early words x does_so =
      let all = all_there fine early words x does_so in
      drawn_plain x (law_of x does_so) (draws fine early words x does_so) (no_make early) all.way all.silent

  -- the laws by which an event at a station draws
  pub station_laws : (fine : IsShop p) (early : dest < length p.stations) (words : 0 < length cells.words) (x : Effect) (does_so : StationDoes site routes station cells e x)
      → laws_drawn p cells e x.sends ≡ laws_of (law_of x does_so)
  station_laws fine early words x does_so =
      laws_plain x (law_of x does_so) (draws fine early words x does_so) (no_make early) (all_there fine early words x does_so).way

  module _ (past : length p.stations ≤ dest) (words : 0 < length cells.words) where
    abbrev class : Class
    class = class_of_object p e.key.dest

    -- no arrival
    home_drawn : e.kind ≢ MAKE → (x : Effect) → ClassDoes site routes class cells e x → Drawn x
    unfolding stay_effect go_effect leave_effect moved draw draw_delay delay_drawn delay_words delay_law place_behind
    home_drawn none_made x does_so = by x does_so
      where
        besides : (e.kind == MAKE && nat_le (length p.stations) dest) ≡ false
        besides = ap (λ b. b && nat_le (length p.stations) dest) (ne_eqb e.kind MAKE none_made)

        silent : (x : Effect) → e.kind ≡ MAKE → x.sends ≡ []
        silent x make = absurd (none_made make)

        left : (none : Bool) → Each (Leaves 0) (if none then [] else Set INSIDE (jobs_inside cells - 1) ∷ [])
        left true = tt
        left false = ((λ e. absurd (omega arith)), tt)

        by : (x : Effect) → ClassDoes site routes class cells e x → Drawn x
        by x (idles no_come) = drawn_plain x None (no_draw x tt tt) besides (other_not no_come).way (silent x)
        by x (makes_none arrival place kind arrival_is some) = absurd (none_made kind)
        by x (makes arrival place kind arrival_is some) = absurd (none_made kind)
        by x (holds law job at steps) =
            let comes : step_come routes e ≡ Some (Delay law) = come_step job at.kind at.here.is ∙ steps in
            drawn_plain x (Some law)
            (one_draw x (Some law) _ [] refl (ap stay_at comes) (λ other same. let one : law ≡ other = cc in ap value one) tt
            (place_only (drawn_at site (place_of cells) law).1 cells words))
            besides (ap way_at comes) (silent x)
        by x (branches branch job at steps) =
            let comes : step_come routes e ≡ Some (Go branch) = come_step job at.kind at.here.is ∙ steps in
            let law : DelayLaw = Plain (Choice branch.weights) in
            let none : Each NoLaw x.sends = (ap stay_at comes, tt) in
            let step : ℕ = slice_index branch.steps (value law) in
            record {
              place =
                  place_only (draw_delay p.seed dest (place_of cells) law).1 cells words
                  ∙ sym (ap behind (laws_besides x.sends besides
                  ∙ ap (λ (ls : List DelayLaw). ls ++ laws_of (way_at (step_come routes e))) (none_drawn x.sends none)
                  ∙ ap (λ s. laws_of (way_at s)) comes));
              values = record {
                delays = All-from_recursion IsValue x.sends (none_values x.sends none);
                ways = λ other is.
                    let one : branch ≡ other = (let same : Some (Go branch) ≡ Some (Go other) = sym comes ∙ is in cc) in
                    subst (λ (b : Branch). All (λ (s : Send). step_of s.a ≡ slice_index b.steps (value (Plain (Choice b.weights)))) x.sends) one
                    (All-from_recursion (λ (s : Send). step_of s.a ≡ step) x.sends (let small = (named_of routes e.a job at.here.is).0.small in omega arith, tt));
                batches = λ make. absurd (none_made make);
                gaps = λ make. absurd (none_made make);
              };
            }
        by x (leaves job at steps) =
            drawn_plain x None (no_draw x tt (left (jobs_inside cells == 0))) besides (ap way_at (come_step job at.kind at.here.is ∙ steps)) (silent x)

    -- an arrival
    abbrev gap_place : ℕ
    gap_place = place_behind p.seed dest (place_of cells) (laws_of class.batch)

    abbrev jobs_drawn : ℕ
    jobs_drawn = brought p dest (place_of cells) class.batch

    abbrev Batch : Send → Type 0
    Batch s = s.kind ≡ MAKE → s.b ≡ 0 → s.a + 1 ≡ jobs_drawn

    abbrev Gap : Send → Type 0
    Gap s = s.kind ≡ MAKE → s.b ≡ 1 → ForSome class.every (λ law. s.delay ≡ value_at p dest gap_place law)

    record Fits (s : Send) : Type 0 where
      pub none : NoLaw s
      pub batch : e.a ≡ 0 → Batch s
      pub gap : Gap s

    abbrev IsGap : Option ℕ → Type 0
    IsGap pause = ForSome pause (λ delay. ForSome class.every (λ law. delay ≡ value_at p dest gap_place law))

    next_fits : (made : ℕ) (pause : Option ℕ) → IsGap pause → Each Fits (next_arrival site class made pause)
    unfolding delay_law
    next_fits made None is = tt
    next_fits made (Some pause) is = by (nat_lt made class.count && nat_le (site.tick + pause) class.until)
      where
        by : (comes : Bool) → Each Fits (if comes then to_self site pause MAKE 0 1 ∷ [] else [])
        by true = (record { none = refl; batch = λ new kind none. absurd (omega arith); gap = λ kind one. is pause refl }, tt)
        by false = tt

    others_fit : (jobs : ℕ) → (e.a ≡ 0 → jobs ≡ jobs_drawn) → Each Fits (others_sent site class cells jobs)
    unfolding delay_law
    others_fit jobs is = by (nat_lt 1 jobs && nat_lt (made_jobs cells + 1) class.count) refl
      where
        by : (more : Bool) → (nat_lt 1 jobs && nat_lt (made_jobs cells + 1) class.count) ≡ more → Each Fits (if more then to_self site 0 MAKE (jobs - 1) 0 ∷ [] else [])
        by true some =
            let above : 1 < jobs = ltb-true 1 jobs (and_parts (nat_lt 1 jobs) (nat_lt (made_jobs cells + 1) class.count) some).0 in
            (record { none = refl; batch = λ new kind none. omega (arith, is new); gap = λ kind one. absurd (omega arith) }, tt)
        by false none = tt

    moved_fits : (job : Job) (b step delay : ℕ) → e.kind ≡ MAKE → Fits (moved routes job b step delay)
    unfolding moved
    moved_fits job b step delay make = record {
      none = moved_none job b step delay (other_not (λ come. absurd (omega arith)));
      batch = λ new kind. absurd (omega arith);
      gap = λ kind. absurd (omega arith);
    }

    fitting : (x : Effect) (laws : List DelayLaw) → e.kind ≡ MAKE → arrival_laws class cells e ≡ laws → place_of (cells_after_all x.changes cells) ≡ behind laws → Each Fits x.sends → Drawn x
    unfolding laws_drawn
    fitting x laws make laws_are place fits =
        let test : (e.kind == MAKE && nat_le (length p.stations) dest) ≡ true = and_from (e.kind == MAKE) (nat_le (length p.stations) dest) (eq-eqb e.kind MAKE make) (le-leb (length p.stations) dest past) in
        let are : laws_drawn p cells e x.sends ≡ laws =
        ap (λ b. if b then arrival_laws class cells e else drawn_of x.sends ++ laws_of (way_at (step_come routes e))) test ∙ laws_are in
        record {
          place = place ∙ sym (ap behind are);
          values = record {
            delays = All-from_recursion IsValue x.sends (none_values x.sends (Each-map Fits NoLaw x.sends (λ s f. f.none) fits));
            ways = λ branch is. no_branch branch (other_not (λ come. absurd (omega arith))).way is;
            batches = λ made new. All-from_recursion Batch x.sends (Each-map Fits Batch x.sends (λ s f. f.batch new) fits);
            gaps = λ made. All-from_recursion Gap x.sends (Each-map Fits Gap x.sends (λ s f. f.gap) fits);
          };
        }

    arrival_drawn : (arrival : Arrival) (next : ℕ) (laws : List DelayLaw) → e.kind ≡ MAKE → arrival_laws class cells e ≡ laws → next ≡ behind laws
        → (e.a ≡ 0 → arrival.jobs ≡ jobs_drawn) → IsGap arrival.pause → Drawn (arrival_effect site routes class cells arrival next)
    unfolding one_made
    arrival_drawn arrival next laws make laws_are next_is jobs pause = by (arrival.jobs == 0)
      where
        by : (none : Bool) → Drawn
            (if none then record { changes = place_changes (place_of cells) next; sends = next_arrival site class (made_jobs cells) arrival.pause; note = [] }
            else record {
              changes = place_changes (place_of cells) next ++ (one_made site routes class cells arrival.jobs).changes;
              sends = (one_made site routes class cells arrival.jobs).sends ++ next_arrival site class (made_jobs cells + 1) arrival.pause;
              note = (one_made site routes class cells arrival.jobs).note;
            })
        by true = fitting _ laws make laws_are (place_only next cells words ∙ next_is) (next_fits (made_jobs cells) arrival.pause pause)
        by false =
            fitting _ laws make laws_are (place_goes next _ cells words ((λ e. absurd (omega arith)), ((λ e. absurd (omega arith)), tt)) ∙ next_is) (
              moved_fits (next_job site routes cells) site.tick 0 0 make,
              Each-append Fits (others_sent site class cells arrival.jobs) _ (others_fit arrival.jobs jobs) (next_fits (made_jobs cells + 1) arrival.pause pause),
            )

    -- how many jobs it brings, and when the next one comes
    abbrev brings : ℕ × ℕ
    brings = drawn_or 1 (words_at site (place_of cells)) class.batch

    brings_so : brings.0 ≡ jobs_drawn
    brings_so = by class.batch
      where
        by : (law : Option DelayLaw) → (drawn_or 1 (words_at site (place_of cells)) law).0 ≡ brought p dest (place_of cells) law
        by None = refl
        by (Some law) = refl

    record Pauses (every : Option DelayLaw) (odd : Bool) (r : Option ℕ × ℕ) : Type 0 where
      pub gap : IsGap r.0
      pub place : r.1 ≡ behind (laws_of class.batch ++ (if odd then laws_of every else []))

    pauses : Pauses class.every (e.b % 2 == 1) (pause_drawn (words_at site gap_place) class.every e.b)
    unfolding place_behind
    pauses = by class.every refl
      where
        more : (laws : List DelayLaw) → place_behind p.seed dest gap_place laws ≡ behind (laws_of class.batch ++ laws)
        more laws = sym (behind_more p.seed dest (place_of cells) (laws_of class.batch) laws)

        none : (odd : Bool) → gap_place ≡ behind (laws_of class.batch ++ (if odd then laws_of None else []))
        none true = more []
        none false = more []

        at_odd : (law : DelayLaw) → class.every ≡ Some law → (odd : Bool)
            → Pauses (Some law) odd (if odd then (Some (draw_delay p.seed dest gap_place law).0, (draw_delay p.seed dest gap_place law).1) else (None, gap_place))
        at_odd law is true = record {
          gap = λ delay same other its.
              let one : (draw_delay p.seed dest gap_place law).0 ≡ delay = cc in
              let two : law ≡ other = (let eq : Some law ≡ Some other = sym is ∙ its in cc) in
              sym one ∙ ap (λ k. value_at p dest gap_place k) two;
          place = more (law ∷ []);
        }
        at_odd law is false = record { gap = λ delay no. absurd (cc); place = more [] }

        by : (every : Option DelayLaw) → class.every ≡ every → Pauses every (e.b % 2 == 1) (pause_drawn (words_at site gap_place) every e.b)
        by None is = record { gap = λ delay no. absurd (cc); place = none (e.b % 2 == 1) }
        by (Some law) is = at_odd law is (e.b % 2 == 1)

    abbrev new_arrival : ℕ → Arrival × ℕ
    new_arrival place =
        let pause = pause_drawn (words_at site place) class.every e.b in
        (record { jobs = brings.0; pause = pause.0 }, pause.1)

    abbrev rest_of_it : Arrival × ℕ
    rest_of_it = (record { jobs = e.a; pause = None }, place_of cells)

    make_drawn : e.kind ≡ MAKE → Drawn (make_effect site routes class cells e)
    unfolding make_effect arrival_of place_behind
    make_drawn make = by (nat_lt (made_jobs cells) class.count) (e.a == 0) refl refl
      where
        laws_if : (new some : Bool) → (e.a == 0) ≡ new → nat_lt (made_jobs cells) class.count ≡ some
            → arrival_laws class cells e ≡ (if new && some then laws_of class.batch ++ (if e.b % 2 == 1 then laws_of class.every else []) else [])
        laws_if new some new_is some_is =
            ap (λ b. if b && nat_lt (made_jobs cells) class.count then laws_of class.batch ++ (if e.b % 2 == 1 then laws_of class.every else []) else []) new_is
            ∙ ap (λ b. if new && b then laws_of class.batch ++ (if e.b % 2 == 1 then laws_of class.every else []) else []) some_is

        by : (some new : Bool) → nat_lt (made_jobs cells) class.count ≡ some → (e.a == 0) ≡ new → Drawn
            (if some then arrival_effect site routes class cells (if new then new_arrival brings.1 else rest_of_it).0 (if new then new_arrival brings.1 else rest_of_it).1 else blank)
        by false true some_is new_is = fitting blank [] make (laws_if true false new_is some_is) (word_stays 0 [] cells tt) tt
        by false false some_is new_is = fitting blank [] make (laws_if false false new_is some_is) (word_stays 0 [] cells tt) tt
        by true true some_is new_is =
            subst (λ n. Drawn (arrival_effect site routes class cells (new_arrival n).0 (new_arrival n).1)) (sym (left_behind 1 p.seed dest (place_of cells) class.batch))
            (arrival_drawn (new_arrival gap_place).0 (new_arrival gap_place).1 (laws_of class.batch ++ (if e.b % 2 == 1 then laws_of class.every else [])) make
            (laws_if true true new_is some_is) pauses.place (λ new. brings_so) pauses.gap)
        by true false some_is new_is =
            arrival_drawn rest_of_it.0 rest_of_it.1 [] make (laws_if false true new_is some_is) refl (λ new. absurd (eqb-false e.a 0 new_is new)) (λ delay no. absurd (cc))

-- what the next event of a reached state draws
step_drawn : (p : ShopParts) (t : Terms) (s : State) (told : Key × Note) (after : State) → IsShop p → Reaches (shop_meaning p) t s → (n : IsShopStep p t s told after)
    → Drawn p (cells_at s n.step.event.key.dest) n.step.event n.step.effect
unfolding class_effect
step_drawn p t s told after fine reached n = ⊎_elim at_station at_class (cases_lt dest (length p.stations))
  where
    dest : ℕ
    dest = n.step.event.key.dest

    at_station : n.step.event.key.dest < length p.stations → Drawn p (cells_at s n.step.event.key.dest) n.step.event n.step.effect
    at_station early =
        let st = station_step p t s told after fine n (serving p t s fine reached) early in
        station_drawn p (cells_at s n.step.event.key.dest) n.step.event fine early (omega (arith, st.at.lawful.words)) n.step.effect st.does_so

    at_class : length p.stations ≤ n.step.event.key.dest → Drawn p (cells_at s n.step.event.key.dest) n.step.event n.step.effect
    at_class past = ⊎_elim
        (λ (make : n.step.event.kind ≡ MAKE).
        subst (Drawn p cells n.step.event) (sym (n.does_so ∙ effect_class p n.step.event.key.dest cells n.step.event past ∙ makes_effect make))
        (make_drawn p cells n.step.event past words make))
        (λ (no_make : n.step.event.kind ≢ MAKE).
        home_drawn p cells n.step.event past words no_make n.step.effect (class_step p t s told after fine n (serving p t s fine reached) past).does_so)
        (cases_eq n.step.event.kind MAKE)
      where
        cells : CellData
        cells = cells_at s n.step.event.key.dest

        words : 0 < length (cells_at s n.step.event.key.dest).words
        words = omega (arith, class_cells_lawful p t s n.step.event.key.dest n.lawful past n.exists)

        makes_effect : n.step.event.kind ≡ MAKE
            → class_effect (site_of p n.step.event.key.dest n.step.event) (routes_of p) (class_of_object p n.step.event.key.dest) (cells_at s n.step.event.key.dest) n.step.event
            ≡ make_effect (site_of p n.step.event.key.dest n.step.event) (routes_of p) (class_of_object p n.step.event.key.dest) (cells_at s n.step.event.key.dest) n.step.event
        makes_effect make =
            ap (λ b. if b then make_effect (site_of p n.step.event.key.dest n.step.event) (routes_of p) (class_of_object p n.step.event.key.dest) cells n.step.event
            else if n.step.event.kind == COME then home_by (site_of p n.step.event.key.dest n.step.event) (routes_of p) (class_of_object p n.step.event.key.dest) cells n.step.event
            (job_here (routes_of p) n.step.event.key.dest n.step.event.a)
            else blank) (eq-eqb n.step.event.kind MAKE make)

pub values_are_drawn : ValuesAreDrawn
values_are_drawn p t s told after e rest fine reached is_next pending =
    let n : IsShopStep p t s told after = shop_step p t s told after fine reached is_next in
    let same : n.step.event ≡ e = (let eq : n.step.event ∷ n.step.rest ≡ e ∷ rest = sym n.step.pending ∙ pending in cc) in
    let there : AreDrawn p (cells_at s n.step.event.key.dest) n.step.event (effect_at p n.step.event.key.dest (cells_at s n.step.event.key.dest) n.step.event).sends =
    subst (λ (x : Effect). AreDrawn p (cells_at s n.step.event.key.dest) n.step.event x.sends) n.does_so (step_drawn p t s told after fine reached n).values in
    subst (λ (e : Event). AreDrawn p (cells_at s e.key.dest) e (effect_at p e.key.dest (cells_at s e.key.dest) e).sends) same there

-- the laws by which an object draws next, at the event
pub laws_here : (p : ShopParts) (t : Terms) (s : State) (told : Key × Note) (after : State) (n : IsShopStep p t s told after)
    → laws_next p n.step.event.key.dest s (does told after) ≡ laws_drawn p (cells_at s n.step.event.key.dest) n.step.event n.step.effect.sends
laws_here p t s told after n =
    let i : ℕ = n.step.event.key.dest in
    let its : List Event → List DelayLaw = λ es. flat_map (λ (e : Event). laws_drawn p (cells_at s i) e (effect_at p i (cells_at s i) e).sends) es in
    let one : List DelayLaw = laws_drawn p (cells_at s i) n.step.event (effect_at p i (cells_at s i) n.step.event).sends in
    ap (λ b. if b then its (first_of s.pending) else []) (eq-eqb told.0.dest i (ap (λ (r : Key × Note). r.0.dest) n.step.tells))
    ∙ ap (λ (es : List Event). its (first_of es)) n.step.pending
    ∙ append-nil one
    ∙ ap (λ (x : Effect). laws_drawn p (cells_at s i) n.step.event x.sends) (sym n.does_so)

-- the random place is word 0, which is 0 at first
place_first : (p : ShopParts) (i : ℕ) → i < length p.stations + length p.classes → place_of (cells_at (initial_state (shop_meaning p)) i) ≡ 0
unfolding first_station_cells
place_first p i exists = ⊎_elim
    (λ (early : i < length p.stations). ap (λ (c : CellData). place_of c) (station_at_start p i early))
    (λ (past : length p.stations ≤ i).
    let class : ℕ = i - length p.stations in
    let there : length p.stations + class ≡ i = omega arith in
    ap (λ k. place_of (cells_at (initial_state (shop_meaning p)) k)) (sym there) ∙ ap (λ (c : CellData). place_of c) (class_at_start p class (omega arith)))
    (cases_lt i (length p.stations))

-- one event more
place_more : (p : ShopParts) (t : Terms) (i : ℕ) (laws : List DelayLaw) (s : State) (told : Key × Note) (after : State) → IsShop p → Reaches (shop_meaning p) t s
    → next (shop_meaning p) t s ≡ does told after → place_of (cells_at s i) ≡ place_behind p.seed i 0 laws
    → place_of (cells_at after i) ≡ place_behind p.seed i 0 (laws ++ laws_next p i s (does told after))
place_more p t i laws s told after fine reached is_next before = by (told.0.dest == i) refl
  where
    n : IsShopStep p t s told after
    n = shop_step p t s told after fine reached is_next

    key_is : told.0.dest ≡ n.step.event.key.dest
    key_is = ap (λ (r : Key × Note). r.0.dest) n.step.tells

    its_laws : List DelayLaw
    its_laws = flat_map (λ (e : Event). laws_drawn p (cells_at s i) e (effect_at p i (cells_at s i) e).sends) (first_of s.pending)

    by : (here : Bool) → (told.0.dest == i) ≡ here → place_of (cells_at after i) ≡ place_behind p.seed i 0 (laws ++ laws_next p i s (does told after))
    by false apart =
        ap (λ (c : CellData). place_of c) (cells_elsewhere p t s told after n i (λ same. eqb-false told.0.dest i apart (key_is ∙ sym same)))
        ∙ before
        ∙ ap (λ (ls : List DelayLaw). place_behind p.seed i 0 ls) (sym (append-nil laws) ∙ ap (λ b. laws ++ (if b then its_laws else [])) (sym apart))
    by true here =
        let dest : ℕ = n.step.event.key.dest in
        let same : dest ≡ i = sym key_is ∙ eqb-true told.0.dest i here in
        let drawn = step_drawn p t s told after fine reached n in
        let there : place_of (cells_at after dest) ≡ place_behind p.seed dest (place_of (cells_at s dest)) (laws_next p dest s (does told after)) =
        ap (λ (c : CellData). place_of c) (cells_here p t s told after n) ∙ drawn.place
        ∙ ap (λ (ls : List DelayLaw). place_behind p.seed dest (place_of (cells_at s dest)) ls) (sym (laws_here p t s told after n)) in
        subst (λ k. place_of (cells_at after k) ≡ place_behind p.seed k (place_of (cells_at s k)) (laws_next p k s (does told after))) same there
        ∙ ap (λ place. place_behind p.seed i place (laws_next p i s (does told after))) before
        ∙ sym (behind_more p.seed i 0 laws (laws_next p i s (does told after)))

pub places_follow : PlacesFollow
unfolding gathered after_events place_behind
places_follow p t i n fine exists =
    each_number m t (λ n. place_of (cells_at (after_events n m t) i) ≡ place_behind p.seed i 0 (laws_by p t i n))
    (place_first p i exists)
    (λ n stop is_next before.
    ap (λ (s : State). place_of (cells_at s i)) (after_events-stops m t n stop is_next) ∙ before
    ∙ ap (λ (ls : List DelayLaw). place_behind p.seed i 0 ls) (sym (gathered-more (laws_next p i) m t n (stops stop) is_next ∙ append-nil (laws_by p t i n))))
    (λ n told after is_next before.
    ap (λ (s : State). place_of (cells_at s i)) (after_events-does m t n told after is_next)
    ∙ place_more p t i (laws_by p t i n) (after_events n m t) told after fine (n, refl) is_next before
    ∙ ap (λ (ls : List DelayLaw). place_behind p.seed i 0 ls) (sym (gathered-more (laws_next p i) m t n (does told after) is_next)))
    n
  where
    m : Meaning
    m = shop_meaning p
