-- For how many ticks jobs are inside, exactly.
use Rattle.std.proofs.Common.{◌≡◌, ◌≢◌, ℕ, suc, ◌+◌, ◌-◌, ◌*◌, ◌/◌, ◌<◌, ◌≤◌, Bool, true, false, cond, List, [], ◌∷◌, ◌++◌, length, refl, sym, ap, ◌∙◌, subst, ⊎_elim, arith, append-nil, eq-eqb, ne_eqb}
use Rattle.std.specs.Prelude.{if◌then◌else◌, ◌==◌, ◌||◌, nat_lt, sum_by, Option, None, Some}
use Rattle.std.specs.Int.{from_bool}
use Rattle.std.specs.List.{range_with_len}
use Rattle.std.proofs.lemmas.Bool.{cases_eq, cases_lt, le-ltb, ltb-false}
use Rattle.std.proofs.lemmas.List.Elements.{recursion_from_All}
use Rattle.std.proofs.lemmas.List.Sums.{sum_by-cons, sum_by-append}
use Rattle.event_key.specs.declared.key.Key.{Key}
use Rattle.event_key.specs.Stamps.{time_part}
use Rattle.delta_exchange.specs.Changes.{CellData, line_of, cells_after_all}
use Rattle.key_order.proofs.EachLemmas.{Each-append, Each-back}
use Rattle.model_core.specs.declared.effect.Effect.{Effect}
use Rattle.model_core.specs.declared.event.Event.{Event}
use Rattle.model_core.specs.declared.note.Note.{Note}
use Rattle.model_core.specs.declared.words.TheConstants.{LEFT_WORD, DROPPED_WORD, OVERDUE_WORD}
use Rattle.model_core.specs.Meaning.{Meaning}
use Rattle.sim_spec.specs.declared.terms.Terms.{Terms}
use Rattle.sim_spec.specs.State.{State}
use Rattle.sim_spec.specs.Run.{stops, does, next}
use Rattle.run_laws.specs.Reached.{after_events, gathered, record_of, first_records}
use Rattle.run_laws.proofs.Induction.{after_events-does, after_events-stops, gathered-more, each_number}
use Rattle.shop_model.specs.declared.class.Class.{Class}
use Rattle.shop_model.specs.declared.job.TheConstants.{JOBS_A_CLASS}
use Rattle.shop_model.specs.declared.kinds.TheConstants.{COME, DONE}
use Rattle.shop_model.specs.declared.levels.TheConstants.{EMPTY}
use Rattle.shop_model.specs.declared.site.Site.{Site}
use Rattle.shop_model.specs.Classes.{jobs_inside, one_made, overdue, stay_effect, go_effect, leave_effect}
use Rattle.shop_model.specs.Jobs.{id_of, birth_of}
use Rattle.shop_model.specs.EffectKeeps.{class_fine}
use Rattle.shop_model.specs.Meaning.{class_of_object, shop_meaning, site_of}
use Rattle.shop_model.specs.ShopParts.{ShopParts, IsShop, routes_of, station_at}
use Rattle.shop_model.specs.Stations.{jobs_line, births_line, since_line}
use Rattle.shop_totals.specs.Kept.{number_after, ticks_of}
use Rattle.shop_totals.specs.Records.{timed_parts, parts_at, told_at}
use Rattle.shop_totals.specs.Sums.{after_inside}
use Rattle.shop_totals.specs.Told.{TimedPart, AreBy}
use Rattle.shop_totals.proofs.RecordLemmas.{told_at-here, told_at-elsewhere}
use Rattle.shop_laws.specs.AgeLaws.{ages_told, age_by, AgesAddUp}
use Rattle.shop_laws.specs.FlowLaws.{told_of}
use Rattle.shop_laws.specs.JobLaws.{of_class}
use Rattle.shop_laws.specs.Places.{at_event, in_line, in_lines, in_shop, made_next, gone_next, weight_of}
use Rattle.shop_laws.specs.Told.{cells_at}
use Rattle.shop_laws.specs.Waiting.{sum_waiting}
use Rattle.shop_laws.proofs.Balance.{balance, made_by, gone_by, made_is, gone_is, station_words}
use Rattle.shop_laws.proofs.ClassCases.{ClassDoes, idles, makes_none, makes, holds, branches, leaves}
use Rattle.shop_laws.proofs.Clocks.{ticks_pass, ticks_same, told_by_then, levels_pass}
use Rattle.shop_laws.proofs.FlowLaw.{number_append}
use Rattle.shop_laws.proofs.JobsLaw.{first_in_shop, Moves, keeps, adds, drops, class_moves, class_stands}
use Rattle.shop_laws.proofs.Serving.{Serving, serving, class_step, station_step}
use Rattle.shop_laws.proofs.Steps.{AllBy, earlier, IsShopStep, shop_step, class_cells_lawful, cells_here, cells_elsewhere, class_at_start}
use Rattle.shop_laws.proofs.TimeLaw.{ticks_none}

-- where one weight is nothing, another is a third and so many times a fourth
abbrev Linear : (f g h l : ℕ → ℕ → ℕ → ℕ) → ℕ → Type 0
Linear f g h l d = (a b c : ℕ) → l a b c ≡ 0 → f a b c ≡ g a b c + h a b c * d

level_linear : (f g h l : ℕ → ℕ → ℕ → ℕ) (d : ℕ) → Linear f g h l d → (jobs births since : List ℕ) → sum_waiting l jobs births since ≡ 0
    → sum_waiting f jobs births since ≡ sum_waiting g jobs births since + sum_waiting h jobs births since * d
unfolding sum_waiting
level_linear f g h l d each [] births since none = omega arith
level_linear f g h l d each (a ∷ jobs) [] since none = omega arith
level_linear f g h l d each (a ∷ jobs) (birth ∷ births) [] none = omega arith
level_linear f g h l d each (a ∷ jobs) (birth ∷ births) (time ∷ since) none = by (nat_lt a EMPTY) (level_linear f g h l d each jobs births since) none
  where
    rest : (ℕ → ℕ → ℕ → ℕ) → ℕ
    rest w = sum_waiting w jobs births since

    by : (live : Bool) → (rest l ≡ 0 → rest f ≡ rest g + rest h * d) → (if live then l a birth time else 0) + rest l ≡ 0
        → (if live then f a birth time else 0) + rest f ≡ (if live then g a birth time else 0) + rest g + ((if live then h a birth time else 0) + rest h) * d
    by true more none =
        let all : (h a birth time + rest h) * d ≡ h a birth time * d + rest h * d = omega arith in
        omega (arith, each a birth time (omega arith), more (omega arith), all)
    by false more none =
        let all : (0 + rest h) * d ≡ rest h * d = omega arith in
        omega (arith, more (omega arith), all)

events_linear : (f g h l : Event → ℕ) (d : ℕ) → ((e : Event) → l e ≡ 0 → f e ≡ g e + h e * d) → (es : List Event) → sum_by l es ≡ 0 → sum_by f es ≡ sum_by g es + sum_by h es * d
events_linear f g h l d each [] none = omega arith
events_linear f g h l d each (e ∷ es) none =
    let first : sum_by l (e ∷ es) ≡ l e + sum_by l es = sum_by-cons l e es in
    let all : sum_by h (e ∷ es) * d ≡ (h e + sum_by h es) * d = ap (λ n. n * d) (sum_by-cons h e es) in
    omega (arith, sum_by-cons f e es, sum_by-cons g e es, each e (omega arith), events_linear f g h l d each es (omega arith), all)

shop_linear : (p : ShopParts) (s : State) (f g h l : ℕ → ℕ → ℕ) (d : ℕ) → ((id birth : ℕ) → l id birth ≡ 0 → f id birth ≡ g id birth + h id birth * d) → in_shop p l s ≡ 0
    → in_shop p f s ≡ in_shop p g s + in_shop p h s * d
shop_linear p s f g h l d each none =
    let event : (e : Event) → at_event l e ≡ 0 → at_event f e ≡ at_event g e + at_event h e * d =
    λ e zero. at_event_linear e zero in
    let pending = events_linear (at_event f) (at_event g) (at_event h) (at_event l) d event s.pending (omega arith) in
    let at : (ℕ → ℕ → ℕ) → ℕ → ℕ → ℕ = λ w i k. sum_waiting (in_line w) (line_of (cells_at s i) (jobs_line k)) (line_of (cells_at s i) (births_line k)) (line_of (cells_at s i) (since_line k)) in
    let stations : (i : ℕ) → sum_by (at l i) (range_with_len 0 (station_at p.stations i).levels) ≡ 0
    → (sum_by (at f i) (range_with_len 0 (station_at p.stations i).levels)
    ≡ sum_by (at g i) (range_with_len 0 (station_at p.stations i).levels) + sum_by (at h i) (range_with_len 0 (station_at p.stations i).levels) * d)
    × (sum_by (at l i) (range_with_len 0 (station_at p.stations i).levels) ≡ 0) =
    λ i zero. levels_pass (at f i) (at g i) (at h i) (at l i) (at l i) d 0 (station_at p.stations i).levels
    (λ k here. (
      level_linear (in_line f) (in_line g) (in_line h) (in_line l) d (λ a b c. each (id_of a) b)
          (line_of (cells_at s i) (jobs_line k)) (line_of (cells_at s i) (births_line k)) (line_of (cells_at s i) (since_line k)) here,
      here,
    )) zero in
    let lines = levels_pass
    (λ i. sum_by (at f i) (range_with_len 0 (station_at p.stations i).levels)) (λ i. sum_by (at g i) (range_with_len 0 (station_at p.stations i).levels))
    (λ i. sum_by (at h i) (range_with_len 0 (station_at p.stations i).levels)) (λ i. sum_by (at l i) (range_with_len 0 (station_at p.stations i).levels))
    (λ i. sum_by (at l i) (range_with_len 0 (station_at p.stations i).levels)) d 0 (length p.stations) stations (omega arith) in
    let both : in_shop p h s * d ≡ sum_by (at_event h) s.pending * d + in_lines p h s * d = omega arith in
    omega (arith, pending, lines.0, both)
  where
    at_event_linear : (e : Event) → at_event l e ≡ 0 → at_event f e ≡ at_event g e + at_event h e * d
    at_event_linear e = by (e.kind == COME || e.kind == DONE)
      where
        by : (is : Bool) → (if is then l (id_of e.a) (birth_of e.b) else 0) ≡ 0
            → (if is then f (id_of e.a) (birth_of e.b) else 0) ≡ (if is then g (id_of e.a) (birth_of e.b) else 0) + (if is then h (id_of e.a) (birth_of e.b) else 0) * d
        by true nought = each (id_of e.a) (birth_of e.b) nought
        by false nought = omega arith

-- what a note tells of the jobs that it makes or lets go
record NoteTells (note : Note) (e : Event) (time age : ℕ) : Type 0 where
  pub inside : (n : ℕ) → number_after after_inside n (parts_at time note) ≡ n + length (made_by note time) - length (gone_by note e)
  pub ages : ages_told (parts_at time note) ≡ length (gone_by note e) * age

overdue_inside : (due : Option ℕ) (id age time n : ℕ) → number_after after_inside n (parts_at time (overdue due id age)) ≡ n
unfolding number_after
overdue_inside None id age time n = refl
overdue_inside (Some most) id age time n = by (nat_lt most age)
  where
    by : (late : Bool) → number_after after_inside n (parts_at time (if late then record { word = OVERDUE_WORD; a = id; b = age - most } ∷ [] else [])) ≡ n
    by true = refl
    by false = refl

overdue_ages : (due : Option ℕ) (id age time : ℕ) → ages_told (parts_at time (overdue due id age)) ≡ 0
overdue_ages None id age time = refl
overdue_ages (Some most) id age time = by (nat_lt most age)
  where
    by : (late : Bool) → ages_told (parts_at time (if late then record { word = OVERDUE_WORD; a = id; b = age - most } ∷ [] else [])) ≡ 0
    by true = refl
    by false = refl

notes : (p : ShopParts) (site : Site) (class : Class) (cells : CellData) (e : Event) (x : Effect) → ClassDoes site (routes_of p) class cells e x → (time : ℕ)
    → NoteTells x.note e time (site.tick - birth_of e.b)
unfolding one_made stay_effect go_effect leave_effect number_after
notes p site class cells e x (idles no_come) time = record { inside = λ n. omega arith; ages = omega arith }
notes p site class cells e x (makes_none arrival next kind arrival_is some) time = record { inside = λ n. omega arith; ages = omega arith }
notes p site class cells e x (makes arrival next kind arrival_is some) time = record { inside = λ n. omega arith; ages = omega arith }
notes p site class cells e x (holds law job at steps) time = record { inside = λ n. omega arith; ages = omega arith }
notes p site class cells e x (branches branch job at steps) time = record { inside = λ n. omega arith; ages = omega arith }
notes p site class cells e x (leaves job at steps) time = by (nat_lt (length class.route) job.step)
  where
    age : ℕ
    age = site.tick - birth_of e.b

    left : TimedPart
    left = record { time = time; part = record { word = LEFT_WORD; a = job.id; b = age } }

    by : (drop : Bool) → NoteTells (if drop then record { word = DROPPED_WORD; a = job.id; b = age } ∷ [] else (record { word = LEFT_WORD; a = job.id; b = age } ∷ []) ++ overdue class.due job.id age) e time age
    by true = record { inside = λ n. omega arith; ages = omega arith }
    by false = record {
      inside = λ n. omega (arith, overdue_inside class.due job.id age time (n - 1));
      ages = omega (
        arith,
        sum_by-cons (λ (one : TimedPart). if one.part.word == LEFT_WORD || one.part.word == DROPPED_WORD then one.part.b else 0) left (parts_at time (overdue class.due job.id age)),
        overdue_ages class.due job.id age time,
      );
    }

-- a job of the class that was made later than a clock
abbrev late_by : ℕ → ℕ → ℕ → ℕ → ℕ
late_by class clock id birth = if id / JOBS_A_CLASS == class then cond (nat_lt clock birth) 1 0 else 0

age_linear : (class earlier_clock later : ℕ) → earlier_clock ≤ later → (id birth : ℕ) → late_by class earlier_clock id birth ≡ 0
    → age_by class later id birth ≡ age_by class earlier_clock id birth + of_class class id birth * (later - earlier_clock)
age_linear class earlier_clock later le id birth none = by (id / JOBS_A_CLASS == class) none
  where
    by : (own : Bool) → ◌≡◌ {A = ℕ} (if own then cond (nat_lt earlier_clock birth) 1 0 else 0) 0
        → (if own then later - birth else 0) ≡ (if own then earlier_clock - birth else 0) + from_bool own * (later - earlier_clock)
    by false none = omega arith
    by true none = at (nat_lt earlier_clock birth) refl none
      where
        at : (past : Bool) → nat_lt earlier_clock birth ≡ past → ◌≡◌ {A = ℕ} (cond past 1 0) 0 → later - birth ≡ (earlier_clock - birth) + 1 * (later - earlier_clock)
        at true past none = absurd (omega arith)
        at false past none = let early : birth ≤ earlier_clock = ltb-false earlier_clock birth past in omega arith

late_linear : (class earlier_clock later : ℕ) → earlier_clock ≤ later → (id birth : ℕ) → late_by class earlier_clock id birth ≡ 0
    → late_by class later id birth ≡ late_by class earlier_clock id birth + 0 * 0
late_linear class earlier_clock later le id birth none = by (id / JOBS_A_CLASS == class) none
  where
    by : (own : Bool) → ◌≡◌ {A = ℕ} (if own then cond (nat_lt earlier_clock birth) 1 0 else 0) 0
        → ◌≡◌ {A = ℕ} (if own then cond (nat_lt later birth) 1 0 else 0) ((if own then cond (nat_lt earlier_clock birth) 1 0 else 0) + 0 * 0)
    by false none = omega arith
    by true none = at (nat_lt earlier_clock birth) refl none
      where
        at : (past : Bool) → nat_lt earlier_clock birth ≡ past → ◌≡◌ {A = ℕ} (cond past 1 0) 0 → ◌≡◌ {A = ℕ} (cond (nat_lt later birth) 1 0) (cond past 1 0 + 0 * 0)
        at true past none = absurd (omega arith)
        at false past none =
            let early : birth ≤ earlier_clock = ltb-false earlier_clock birth past in
            let after : ◌≡◌ {A = ℕ} (cond (nat_lt later birth) 1 0) 0 = ap (λ b. cond b 1 0) (le-ltb later birth (omega arith)) in
            omega (arith, after)

-- a weight of jobs of this class alone
abbrev OfClass : ℕ → (ℕ → ℕ → ℕ) → Type 0
OfClass class w = (id birth : ℕ) → id / JOBS_A_CLASS ≢ class → w id birth ≡ 0

one_weight : (w : ℕ → ℕ → ℕ) (id birth : ℕ) → sum_by (weight_of w) ((id, birth) ∷ []) ≡ w id birth
one_weight w id birth = omega (arith, sum_by-cons (weight_of w) (id, birth) [])

-- what another class makes and lets go weighs nothing
moves_other : (class : ℕ) (w : ℕ → ℕ → ℕ) (cells later : CellData) (note : Note) (e : Event) (time own : ℕ) → OfClass class w → own ≢ class → Moves cells later note e time own
    → (sum_by (weight_of w) (made_by note time) ≡ 0) × (sum_by (weight_of w) (gone_by note e) ≡ 0)
moves_other class w cells later note e time own alone apart (keeps made inside none gone) = (ap (sum_by (weight_of w)) none, ap (sum_by (weight_of w)) gone)
moves_other class w cells later note e time own alone apart (adds id made inside id_is few one gone) =
    let of : id / JOBS_A_CLASS ≡ own = omega arith in
    (ap (sum_by (weight_of w)) one ∙ one_weight w id time ∙ alone id time (λ eq. apart (sym of ∙ eq)), ap (sum_by (weight_of w)) gone)
moves_other class w cells later note e time own alone apart (drops made inside none gone of_own) =
    (ap (sum_by (weight_of w)) none, ap (sum_by (weight_of w)) gone ∙ one_weight w (id_of e.a) (birth_of e.b) ∙ alone (id_of e.a) (birth_of e.b) (λ eq. apart (sym of_own ∙ eq)))

-- what a class makes has no age yet, and what it lets go is as old as is told
record MovesOwn (class time : ℕ) (before after : CellData) (note : Note) (e : Event) : Type 0 where
  pub young : sum_by (weight_of (age_by class time)) (made_by note time) ≡ 0
  pub on_time : sum_by (weight_of (late_by class time)) (made_by note time) ≡ 0
  pub ages : sum_by (weight_of (age_by class time)) (gone_by note e) ≡ length (gone_by note e) * (time - birth_of e.b)
  pub inside : jobs_inside after ≡ jobs_inside before + length (made_by note time) - length (gone_by note e)

none_leave : (class time : ℕ) (note : Note) (e : Event) → gone_by note e ≡ [] → sum_by (weight_of (age_by class time)) (gone_by note e) ≡ length (gone_by note e) * (time - birth_of e.b)
none_leave class time note e gone =
    let nought : sum_by (weight_of (age_by class time)) (gone_by note e) ≡ 0 = ap (sum_by (weight_of (age_by class time))) gone in
    let times : length (gone_by note e) * (time - birth_of e.b) ≡ 0 * (time - birth_of e.b) = ap (λ (jobs : List (ℕ × ℕ)). length jobs * (time - birth_of e.b)) gone in
    omega (arith, nought, times)

moves_own : (class time own : ℕ) (cells later : CellData) (note : Note) (e : Event) → own ≡ class → Moves cells later note e time own → MovesOwn class time cells later note e
moves_own class time own cells later note e is (keeps made inside none gone) = record {
  young = ap (sum_by (weight_of (age_by class time))) none;
  on_time = ap (sum_by (weight_of (late_by class time))) none;
  ages = none_leave class time note e gone;
  inside = omega (arith, inside, ap (λ (jobs : List (ℕ × ℕ)). length jobs) none, ap (λ (jobs : List (ℕ × ℕ)). length jobs) gone);
}
moves_own class time own cells later note e is (adds id made inside id_is few one gone) =
    let of : id / JOBS_A_CLASS ≡ class = omega arith in
    let zero_age : age_by class time id time ≡ 0 = ap (λ b. if b then time - time else 0) (eq-eqb (id / JOBS_A_CLASS) class of) ∙ omega arith in
    let zero_late : late_by class time id time ≡ 0 =
    ap (λ b. if b then cond (nat_lt time time) 1 0 else 0) (eq-eqb (id / JOBS_A_CLASS) class of) ∙ ap (λ b. cond b 1 0) (le-ltb time time (omega arith)) in
    record {
      young = ap (sum_by (weight_of (age_by class time))) one ∙ one_weight (age_by class time) id time ∙ zero_age;
      on_time = ap (sum_by (weight_of (late_by class time))) one ∙ one_weight (late_by class time) id time ∙ zero_late;
      ages = none_leave class time note e gone;
      inside = omega (arith, inside, ap (λ (jobs : List (ℕ × ℕ)). length jobs) one, ap (λ (jobs : List (ℕ × ℕ)). length jobs) gone);
    }
moves_own class time own cells later note e is (drops made inside none gone of_own) =
    let birth : ℕ = birth_of e.b in
    let age : age_by class time (id_of e.a) birth ≡ time - birth = ap (λ b. if b then time - birth else 0) (eq-eqb (id_of e.a / JOBS_A_CLASS) class (of_own ∙ is)) in
    let one : 1 * (time - birth) ≡ time - birth = omega arith in
    record {
      young = ap (sum_by (weight_of (age_by class time))) none;
      on_time = ap (sum_by (weight_of (late_by class time))) none;
      ages = ap (sum_by (weight_of (age_by class time))) gone ∙ one_weight (age_by class time) (id_of e.a) birth ∙ age ∙ sym one ∙ ap (λ (jobs : List (ℕ × ℕ)). length jobs * (time - birth)) (sym gone);
      inside = omega (arith, inside, ap (λ (jobs : List (ℕ × ℕ)). length jobs) none, ap (λ (jobs : List (ℕ × ℕ)). length jobs) gone);
    }

-- at a clock, of what is told of a class: nobody was made later, the number inside is as told, and ages add up
record Aging (p : ShopParts) (class : ℕ) (told : List TimedPart) (s : State) (clock : ℕ) : Type 0 where
  pub on_time : in_shop p (late_by class clock) s ≡ 0
  pub inside : number_after after_inside 0 told ≡ jobs_inside (cells_at s (length p.stations + class))
  pub ages : ticks_of after_inside 0 0 told clock ≡ ages_told told + in_shop p (age_by class clock) s

clock_passes : (p : ShopParts) (class : ℕ) (told : List TimedPart) (s : State) (earlier_clock later : ℕ) → AreBy earlier_clock told → earlier_clock ≤ later
    → in_shop p (of_class class) s ≡ jobs_inside (cells_at s (length p.stations + class)) → Aging p class told s earlier_clock → Aging p class told s later
clock_passes p class told s earlier_clock later are le stands before =
    let d : ℕ = later - earlier_clock in
    let number : number_after after_inside 0 told * d ≡ in_shop p (of_class class) s * d = ap (λ n. n * d) (before.inside ∙ sym stands) in
    record {
      on_time = omega (
        arith,
        before.on_time,
        shop_linear p s (late_by class later) (late_by class earlier_clock) (λ id birth. 0) (late_by class earlier_clock) 0 (late_linear class earlier_clock later le) before.on_time,
      );
      inside = before.inside;
      ages = omega (
        arith,
        before.ages,
        number,
        ticks_pass after_inside 0 told earlier_clock later are le,
        shop_linear p s (age_by class later) (age_by class earlier_clock) (of_class class) (late_by class earlier_clock) d (age_linear class earlier_clock later le) before.on_time,
      );
    }

module _ (p : ShopParts) (t : Terms) (fine : IsShop p) (class : ℕ) (exists : class < length p.classes) where
  abbrev m : Meaning
  m = shop_meaning p

  abbrev i : ℕ
  i = length p.stations + class

  abbrev Ages : ℕ → Type 0
  Ages n = (clock : ℕ) → AllBy clock (first_records n m t) → Aging p class (told_of p t n i) (after_events n m t) clock

  module _ (n : ℕ) (told : Key × Note) (after : State) (is_next : next m t (after_events n m t) ≡ does told after) (before : Ages n) where
    abbrev s : State
    s = after_events n m t

    step : IsShopStep p t s told after
    step = shop_step p t s told after fine (n, refl) is_next

    abbrev tick : ℕ
    tick = time_part step.event.key.stamp

    all : Serving p s
    all = serving p t s fine (n, refl)

    records_are : first_records (suc n) m t ≡ first_records n m t ++ told ∷ []
    records_are = gathered-more record_of m t n (does told after) is_next

    told_dest : told.0.dest ≡ step.dest
    told_dest = ap (λ (r : Key × Note). r.0.dest) step.tells

    had : Aging p class (told_at i (first_records n m t)) s tick
    had = before tick (earlier p t fine n step.event step.rest step.pending)

    made_weight : (w : ℕ → ℕ → ℕ) → sum_by (weight_of w) (made_next s (does told after)) ≡ sum_by (weight_of w) (made_by step.effect.note tick)
    made_weight w = ap (λ (jobs : List (ℕ × ℕ)). sum_by (weight_of w) jobs) (made_is w p t s told after fine step all)

    gone_weight : (w : ℕ → ℕ → ℕ) → sum_by (weight_of w) (gone_next s (does told after)) ≡ sum_by (weight_of w) (gone_by step.effect.note step.event)
    gone_weight w = ap (λ (jobs : List (ℕ × ℕ)). sum_by (weight_of w) jobs) (gone_is w p t s told after fine step all)

    -- an step.event elsewhere makes no job of the class, and lets none go
    aging_elsewhere : i ≢ step.dest → ((w : ℕ → ℕ → ℕ) → OfClass class w
        → (sum_by (weight_of w) (made_by step.effect.note tick) ≡ 0) × (sum_by (weight_of w) (gone_by step.effect.note step.event) ≡ 0))
        → Aging p class (told_at i (first_records n m t ++ told ∷ [])) after tick
    aging_elsewhere apart none =
        let same : told_at i (first_records n m t ++ told ∷ []) ≡ told_at i (first_records n m t) = told_at-elsewhere i (first_records n m t) told (λ eq. apart (sym eq ∙ told_dest)) in
        let ages = none (age_by class tick) (λ id birth other. ap (λ b. if b then tick - birth else 0) (ne_eqb (id / JOBS_A_CLASS) class other)) in
        let late = none (late_by class tick) (λ id birth other. ap (λ b. if b then cond (nat_lt tick birth) 1 0 else 0) (ne_eqb (id / JOBS_A_CLASS) class other)) in
        subst (λ (parts : List TimedPart). Aging p class parts after tick) (sym same) (record {
          on_time = omega (
            arith,
            had.on_time,
            late.0,
            late.1,
            made_weight (late_by class tick),
            gone_weight (late_by class tick),
            balance (late_by class tick) p t s told after fine step all,
          );
          inside = had.inside ∙ ap (λ (c : CellData). jobs_inside c) (sym (cells_elsewhere p t s told after step i apart));
          ages = omega (
            arith,
            had.ages,
            ages.0,
            ages.1,
            made_weight (age_by class tick),
            gone_weight (age_by class tick),
            balance (age_by class tick) p t s told after fine step all,
          );
        })

    -- an step.event of the class
    aging_here : i ≡ step.dest → Aging p class (told_at i (first_records n m t ++ told ∷ [])) after tick
    aging_here is =
        let past : length p.stations ≤ step.dest = omega arith in
        let st = class_step p t s told after fine step all past in
        let x : Effect = step.effect in
        let site : Site = site_of p step.dest step.event in
        let cells : CellData = cells_at s step.dest in
        let later : CellData = cells_after_all x.changes cells in
        let within : step.dest - length p.stations < length p.classes = omega arith in
        let few = (class_fine (routes_of p) (step.dest - length p.stations) fine.routes within).few in
        let long = class_cells_lawful p t s step.dest step.lawful past step.exists in
        let moves : Moves cells later x.note step.event tick (step.dest - length p.stations) = class_moves p site (class_of_object p step.dest) cells step.event x st.does_so long few tick in
        let own : MovesOwn class tick cells later x.note step.event = moves_own class tick (step.dest - length p.stations) cells later x.note step.event (omega arith) moves in
        let tells : NoteTells x.note step.event tick (tick - birth_of step.event.b) = notes p site (class_of_object p step.dest) cells step.event x st.does_so tick in
        let parts : timed_parts told ≡ parts_at tick x.note = ap (λ (r : Key × Note). timed_parts r) step.tells in
        let same : told_at i (first_records n m t ++ told ∷ []) ≡ told_at i (first_records n m t) ++ parts_at tick x.note =
        told_at-here i (first_records n m t) told (told_dest ∙ sym is) ∙ ap (λ (more : List TimedPart). told_at i (first_records n m t) ++ more) parts in
        let was : jobs_inside (cells_at s i) ≡ jobs_inside cells = ap (λ k. jobs_inside (cells_at s k)) is in
        let now : jobs_inside (cells_at after i) ≡ jobs_inside later = ap (λ k. jobs_inside (cells_at after k)) is ∙ ap (λ (c : CellData). jobs_inside c) (cells_here p t s told after step) in
        subst (λ (parts : List TimedPart). Aging p class parts after tick) (sym same) (record {
          on_time = omega (
            arith,
            had.on_time,
            own.on_time,
            made_weight (late_by class tick),
            balance (late_by class tick) p t s told after fine step all,
          );
          inside = omega (
            arith,
            number_append after_inside 0 (told_at i (first_records n m t)) (parts_at tick x.note),
            tells.inside (number_after after_inside 0 (told_at i (first_records n m t))),
            had.inside,
            was,
            now,
            own.inside,
          );
          ages = omega (
            arith,
            had.ages,
            ticks_same after_inside 0 (told_at i (first_records n m t)) tick x.note,
            sum_by-append (λ (one : TimedPart). if one.part.word == LEFT_WORD || one.part.word == DROPPED_WORD then one.part.b else 0) (told_at i (first_records n m t)) (parts_at tick x.note),
            tells.ages,
            own.young,
            own.ages,
            made_weight (age_by class tick),
            gone_weight (age_by class tick),
            balance (age_by class tick) p t s told after fine step all,
          );
        })

    aging_there : Aging p class (told_at i (first_records n m t ++ told ∷ [])) after tick
    aging_there = ⊎_elim (λ (is : i ≡ step.dest). aging_here is)
        (λ (apart : i ≢ step.dest). aging_elsewhere apart (λ w alone. ⊎_elim
        (λ (early : step.dest < length p.stations).
        let st = station_step p t s told after fine step all early in
        let words = station_words _ _ _ _ step.event step.effect st.does_so tick in
        (ap (λ (jobs : List (ℕ × ℕ)). sum_by (weight_of w) jobs) words.made, ap (λ (jobs : List (ℕ × ℕ)). sum_by (weight_of w) jobs) words.gone))
        (λ (past : length p.stations ≤ step.dest).
        let st = class_step p t s told after fine step all past in
        let within : step.dest - length p.stations < length p.classes = (let there = step.exists in omega arith) in
        let few = (class_fine (routes_of p) (step.dest - length p.stations) fine.routes within).few in
        let long = class_cells_lawful p t s step.dest step.lawful past step.exists in
        moves_other class w (cells_at s step.dest) (cells_after_all step.effect.changes (cells_at s step.dest)) step.effect.note step.event tick (step.dest - length p.stations) alone (λ eq. apart (omega arith))
        (class_moves p (site_of p step.dest step.event) (class_of_object p step.dest) (cells_at s step.dest) step.event step.effect st.does_so long few tick))
        (cases_lt step.dest (length p.stations))))
        (cases_eq i step.dest)

    ages_on : Ages (suc n)
    ages_on clock by_then =
        let By : List (Key × Note) → Type 0 = AllBy clock in
        let all_by : By (first_records n m t ++ told ∷ []) = subst By records_are by_then in
        let back : By (told ∷ []) = Each-back (λ (r : Key × Note). time_part r.0.stamp ≤ clock) (first_records n m t) (told ∷ []) all_by in
        let time : time_part told.0.stamp ≡ tick = ap (λ (r : Key × Note). time_part r.0.stamp) step.tells in
        let last : time_part told.0.stamp ≤ clock = back.0 in
        let records : AllBy tick (first_records (suc n) m t) =
        subst (AllBy tick) (sym records_are)
        (Each-append (λ (r : Key × Note). time_part r.0.stamp ≤ tick) (first_records n m t) (told ∷ []) (earlier p t fine n step.event step.rest step.pending) ((omega arith), tt)) in
        let there : Aging p class (told_of p t (suc n) i) (after_events (suc n) m t) tick =
        subst (λ (s : State). Aging p class (told_of p t (suc n) i) s tick) (sym (after_events-does m t n told after is_next))
        (subst (λ (rs : List (Key × Note)). Aging p class (told_at i rs) after tick) (sym records_are) aging_there) in
        clock_passes p class (told_of p t (suc n) i) (after_events (suc n) m t) tick clock (told_by_then i tick (first_records (suc n) m t) records) (omega arith)
        (class_stands p t fine class exists (suc n)).inside there

  all_age : (n : ℕ) → Ages n
  unfolding after_events gathered told_at number_after
  all_age =
      each_number m t Ages
      (λ clock by_then. record {
        on_time = first_in_shop p (late_by class clock);
        inside = ap (λ (c : CellData). jobs_inside c) (sym (class_at_start p class exists));
        ages = omega (arith, ticks_none after_inside clock, first_in_shop p (age_by class clock));
      })
      (λ n stop is_next before clock by_then.
      let records : first_records (suc n) m t ≡ first_records n m t = gathered-more record_of m t n (stops stop) is_next ∙ append-nil (first_records n m t) in
      subst (λ (s : State). Aging p class (told_of p t (suc n) i) s clock) (sym (after_events-stops m t n stop is_next))
      (subst (λ (rs : List (Key × Note)). Aging p class (told_at i rs) (after_events n m t) clock) (sym records) (before clock (subst (AllBy clock) records by_then))))
      (λ n told after is_next before. ages_on n told after is_next before)

pub ages_add_up : AgesAddUp
ages_add_up p t n class clock fine exists by_then =
    (all_age p t fine class exists n clock (recursion_from_All (λ (r : Key × Note). time_part r.0.stamp ≤ clock) (first_records n (shop_meaning p) t) by_then)).ages
