-- The names of the jobs: those of the list, and those that each source has made, each once.
use Rattle.std.proofs.Common.{◌≡◌, ◌≢◌, ℕ, zero, suc, ◌+◌, Bool, true, false, cond, List, [], ◌∷◌, ◌++◌, length, map, refl, sym, ap, ◌∙◌, subst, arith, eqb, eqb-true, eq-eqb, ne_eqb, append-nil}
use Rattle.std.specs.Prelude.{IsTrue, filter, ◌==◌}
use Rattle.std.specs.List.{range_with_len}
use Rattle.std.proofs.lemmas.List.{map-append}
use Rattle.std.proofs.lemmas.List.Elements.{filter-append}
use Rattle.event_key.specs.declared.key.Key.{Key}
use Rattle.event_key.specs.Stamps.{time_part}
use Rattle.delta_exchange.specs.Changes.{CellData, cells_after_all}
use Rattle.model_core.specs.declared.effect.Effect.{Effect}
use Rattle.model_core.specs.declared.event.Event.{Event}
use Rattle.model_core.specs.declared.note.Note.{Note}
use Rattle.model_core.proofs.Numbers.{numbers-more}
use Rattle.sim_spec.specs.declared.terms.Terms.{Terms}
use Rattle.sim_spec.specs.Firing.{emissions}
use Rattle.sim_spec.specs.State.{State, initial_state, start_event, object_at as state_at}
use Rattle.sim_spec.specs.Run.{does}
use Rattle.queue_models.specs.declared.source.Source.{Source as SourceOver}
use Rattle.queue_models.specs.declared.kind.KindOver.{KindOver}
use Rattle.queue_models.specs.declared.kind.KindOver.TheVariants.{Source}
use Rattle.queue_models.specs.declared.site.Site.{Site}
use Rattle.queue_models.specs.Kinds.{is_lawful, is_source, first_cells_of}
use Rattle.queue_models.specs.Meaning.{plain_meaning, site_of}
use Rattle.queue_models.specs.Objects.{Item, NetworkParts, object_at, source_numbers}
use Rattle.queue_models.specs.Sources.{made_of, idle_effect, last_effect, make_effect}
use Rattle.run_laws.proofs.Steps.{first_firing}
use Rattle.subject_laws.specs.Stations.{cells_at}
use Rattle.subject_laws.proofs.QueueLemmas.Cases.{EventDoes, SourceDoes, idles, makes_last, makes}
use Rattle.subject_laws.proofs.QueueLemmas.Leaves.{source_shape, last_leaves, make_leaves}
use Rattle.subject_laws.proofs.QueueLemmas.NetworkStarts.{cells_at_start, source_exists}
use Rattle.subject_laws.proofs.QueueLemmas.NetworkSteps.{IsNetworkStep, cells_here, cells_elsewhere}
use Rattle.subject_laws.specs.Places.{Place, at_event, word_told, job_told, place_after}
use Rattle.subject_laws.specs.JobLaws.{is_from, numbers_from}
use Rattle.subject_laws.specs.Jobs.{Job, Origin, listed, made_by, newly_made, places_after, first_places}
use Rattle.subject_laws.proofs.JobLemmas.Balance.{idle_leaves}
use Rattle.subject_laws.proofs.JobLemmas.PlacesLaw.{moved_jobs, places_after-step}

numbers_from-append : (origin : Origin) (xs ys : List (Job × Place)) → numbers_from origin (xs ++ ys) ≡ numbers_from origin xs ++ numbers_from origin ys
numbers_from-append origin xs ys =
    let p : Job × Place → Bool = λ job. is_from origin job.0.origin in
    let f : Job × Place → ℕ = λ job. job.0.number in
    ap (map f) (filter-append p xs ys) ∙ map-append f (filter p xs) (filter p ys)

-- a job keeps its name wherever it goes
names_stay : (origin : Origin) (to : Place → Place) (jobs : List (Job × Place)) → numbers_from origin (map (λ (job : Job × Place). (job.0, to job.1)) jobs) ≡ numbers_from origin jobs
names_stay origin to [] = refl
names_stay origin to (job ∷ jobs) = by (is_from origin job.0.origin) (names_stay origin to jobs)
  where
    by : (from : Bool) → map (λ (job : Job × Place). job.0.number) (filter (λ (job : Job × Place). is_from origin job.0.origin) (map (λ (job : Job × Place). (job.0, to job.1)) jobs)) ≡ map (λ (job : Job × Place). job.0.number) (filter (λ (job : Job × Place). is_from origin job.0.origin) jobs)
        → map (λ (job : Job × Place). job.0.number) (cond from ((job.0, to job.1) ∷ filter (λ (job : Job × Place). is_from origin job.0.origin) (map (λ (job : Job × Place). (job.0, to job.1)) jobs)) (filter (λ (job : Job × Place). is_from origin job.0.origin) (map (λ (job : Job × Place). (job.0, to job.1)) jobs)))
        ≡ map (λ (job : Job × Place). job.0.number) (cond from (job ∷ filter (λ (job : Job × Place). is_from origin job.0.origin) jobs) (filter (λ (job : Job × Place). is_from origin job.0.origin) jobs))
    by true more = ap (λ ns. job.0.number ∷ ns) more
    by false more = more

-- the names after an event are those before it, and the new one
names_after : (origin : Origin) (key : Key) (note : Note) (waiting : ℕ) (sent : List Event) (jobs : List (Job × Place))
    → numbers_from origin (moved_jobs key note waiting sent jobs) ≡ numbers_from origin jobs ++ numbers_from origin (newly_made (word_told note) key.dest (job_told note) sent)
names_after origin key note waiting sent jobs =
    numbers_from-append origin (map (λ (job : Job × Place). (job.0, place_after key (word_told note) waiting sent job.1)) jobs) (newly_made (word_told note) key.dest (job_told note) sent)
    ∙ ap (λ ns. ns ++ numbers_from origin (newly_made (word_told note) key.dest (job_told note) sent)) (names_stay origin (place_after key (word_told note) waiting sent) jobs)

-- no source puts a job on the list
none_listed : (word source number : ℕ) (sent : List Event) → numbers_from listed (newly_made word source number sent) ≡ []
none_listed word source number [] = refl
none_listed word source number (e ∷ rest) = by (word == 2)
  where
    by : (makes : Bool) → numbers_from listed (cond makes ((record { origin = made_by source; number = number }, at_event e.key) ∷ []) []) ≡ []
    by true = refl
    by false = refl

-- nor makes one for another source
none_of_other : (i word source number : ℕ) (sent : List Event) → i ≢ source → numbers_from (made_by i) (newly_made word source number sent) ≡ []
none_of_other i word source number [] apart = refl
none_of_other i word source number (e ∷ rest) apart = by (word == 2)
  where
    by : (makes : Bool) → numbers_from (made_by i) (cond makes ((record { origin = made_by source; number = number }, at_event e.key) ∷ []) []) ≡ []
    by true = ap (λ b. map (λ (job : Job × Place). job.0.number) (cond b ((record { origin = made_by source; number = number }, at_event e.key) ∷ []) [])) (ne_eqb i source apart)
    by false = refl

pub listed_on : (p : NetworkParts) (t : Terms) (s : State) (told : Key × Note) (after : State) (jobs : List (Job × Place)) → IsNetworkStep p t s told after
    → numbers_from listed (places_after p s jobs (does told after)) ≡ numbers_from listed jobs
listed_on p t s told after jobs n =
    let sent : List Event = (first_firing s n.step.event n.step.effect).events in
    let note : Note = n.step.effect.note in
    let key : Key = n.step.event.key in
    ap (numbers_from listed) (places_after-step p t s told after n jobs)
    ∙ names_after listed key note _ sent jobs
    ∙ ap (λ ns. numbers_from listed jobs ++ ns) (none_listed (word_told note) key.dest (job_told note) sent)
    ∙ append-nil (numbers_from listed jobs)

-- a source's jobs are numbered from 1 on
Numbered : ℕ → ℕ → List (Job × Place) → Type 0
Numbered i made jobs = numbers_from (made_by i) jobs ≡ range_with_len 1 made

one_more : (i made : ℕ) (jobs : List (Job × Place)) (new : List ℕ) → Numbered i made jobs → new ≡ (made + 1) ∷ [] → numbers_from (made_by i) jobs ++ new ≡ range_with_len 1 (made + 1)
unfolding Numbered
one_more i made jobs new so_far is_new =
    let at : made + 1 ≡ 1 + made = omega arith in
    ap (λ ns. ns ++ new) so_far ∙ ap (λ ns. range_with_len 1 made ++ ns) (is_new ∙ ap (λ b. b ∷ []) at) ∙ sym (numbers-more 1 made (1 + made) refl)

own_job : (i number : ℕ) (k : Key) → numbers_from (made_by i) ((record { origin = made_by i; number = number }, at_event k) ∷ []) ≡ number ∷ []
own_job i number k =
    ap (λ b. map (λ (job : Job × Place). job.0.number) (cond b ((record { origin = made_by i; number = number }, at_event k) ∷ []) [])) (eq-eqb i i refl)

-- what a source makes gets the next number
source_numbers_of : (site : Site) (cells : CellData) (e : Event) (source : SourceOver ℕ) (x : Effect) (i stamp object serial : ℕ) (jobs : List (Job × Place))
    → IsTrue (is_lawful (Source source) cells) → SourceDoes site cells e source x → Numbered i (made_of cells) jobs
    → numbers_from (made_by i) jobs ++ numbers_from (made_by i) (newly_made (word_told x.note) i (job_told x.note) (emissions stamp object serial x.sends))
    ≡ range_with_len 1 (made_of (cells_after_all x.changes cells))
unfolding emissions idle_effect last_effect make_effect Numbered
source_numbers_of site cells e source x i stamp object serial jobs lawful (idles none) so_far =
    append-nil (numbers_from (made_by i) jobs) ∙ so_far ∙ ap (λ (c : CellData). range_with_len 1 (made_of c)) (sym (idle_leaves cells))
source_numbers_of site cells e source x i stamp object serial jobs lawful (makes_last one) so_far =
    one_more i (made_of cells) jobs _ so_far (own_job i (made_of cells + 1) _)
    ∙ ap (λ (c : CellData). range_with_len 1 (made_of c)) (sym (last_leaves site source cells (time_part e.key.stamp) (source_shape source.count cells lawful)))
source_numbers_of site cells e source x i stamp object serial jobs lawful (makes more) so_far =
    one_more i (made_of cells) jobs _ so_far (own_job i (made_of cells + 1) _)
    ∙ ap (λ (c : CellData). range_with_len 1 (made_of c)) (sym (make_leaves site source cells (time_part e.key.stamp) (source_shape source.count cells lawful)))

source_numbers_on : (objects : List Item) (site : Site) (cells : CellData) (e : Event) (kind : KindOver ℕ) (x : Effect) (i stamp object serial : ℕ) (jobs : List (Job × Place))
    → is_source kind ≡ true → IsTrue (is_lawful kind cells) → EventDoes objects site cells e kind x → Numbered i (made_of cells) jobs
    → numbers_from (made_by i) jobs ++ numbers_from (made_by i) (newly_made (word_told x.note) i (job_told x.note) (emissions stamp object serial x.sends))
    ≡ range_with_len 1 (made_of (cells_after_all x.changes cells))
source_numbers_on objects site cells e (Source source) x i stamp object serial jobs makes_jobs lawful does_so so_far =
    source_numbers_of site cells e source x i stamp object serial jobs lawful does_so so_far
source_numbers_on objects site cells e other x i stamp object serial jobs makes_jobs lawful does_so so_far = cc

pub made_on : (p : NetworkParts) (t : Terms) (s : State) (told : Key × Note) (after : State) (jobs : List (Job × Place)) → IsNetworkStep p t s told after
    → (i : ℕ) → is_source (object_at p.objects i).kind ≡ true
    → numbers_from (made_by i) jobs ≡ range_with_len 1 (made_of (cells_at s i))
    → numbers_from (made_by i) (places_after p s jobs (does told after)) ≡ range_with_len 1 (made_of (cells_at after i))
unfolding Numbered
made_on p t s told after jobs n i is so_far =
    ap (numbers_from (made_by i)) (places_after-step p t s told after n jobs)
    ∙ names_after (made_by i) n.step.event.key n.step.effect.note _ (first_firing s n.step.event n.step.effect).events jobs
    ∙ by (eqb i n.step.event.key.dest) refl
  where
    at_source : is_source (object_at p.objects n.step.event.key.dest).kind ≡ true
        → numbers_from (made_by n.step.event.key.dest) jobs ≡ range_with_len 1 (made_of (cells_at s n.step.event.key.dest))
        → numbers_from (made_by n.step.event.key.dest) jobs
        ++ numbers_from (made_by n.step.event.key.dest) (newly_made (word_told n.step.effect.note) n.step.event.key.dest (job_told n.step.effect.note) (first_firing s n.step.event n.step.effect).events)
        ≡ range_with_len 1 (made_of (cells_at after n.step.event.key.dest))
    at_source is so_far =
        let e : Event = n.step.event in
        let d : ℕ = e.key.dest in
        let cells : CellData = cells_at s d in
        source_numbers_on p.objects (site_of p d) cells e (object_at p.objects d).kind n.step.effect d e.key.stamp d (state_at s.objects d).sent jobs is n.cells n.does_so so_far
        ∙ ap (λ (c : CellData). range_with_len 1 (made_of c)) (sym (cells_here p t s told after n))

    by : (here : Bool) → eqb i n.step.event.key.dest ≡ here
        → numbers_from (made_by i) jobs ++ numbers_from (made_by i) (newly_made (word_told n.step.effect.note) n.step.event.key.dest (job_told n.step.effect.note) (first_firing s n.step.event n.step.effect).events)
        ≡ range_with_len 1 (made_of (cells_at after i))
    by true here_is =
        let same : i ≡ n.step.event.key.dest = eqb-true i n.step.event.key.dest here_is in
        let P : ℕ → Type 0 = λ j. is_source (object_at p.objects j).kind ≡ true → numbers_from (made_by j) jobs ≡ range_with_len 1 (made_of (cells_at s j))
        → numbers_from (made_by j) jobs ++ numbers_from (made_by j) (newly_made (word_told n.step.effect.note) n.step.event.key.dest (job_told n.step.effect.note) (first_firing s n.step.event n.step.effect).events)
        ≡ range_with_len 1 (made_of (cells_at after j)) in
        subst P (sym same) at_source is so_far
    by false apart_is =
        let apart : i ≢ n.step.event.key.dest = λ same. let yes = eq-eqb i n.step.event.key.dest same in cc in
        ap (λ ns. numbers_from (made_by i) jobs ++ ns) (none_of_other i (word_told n.step.effect.note) n.step.event.key.dest (job_told n.step.effect.note) _ apart)
        ∙ append-nil (numbers_from (made_by i) jobs) ∙ so_far ∙ ap (λ (c : CellData). range_with_len 1 (made_of c)) (sym (cells_elsewhere p t s told after n i apart))

-- at the start all jobs are the list's
first_listed : (p : NetworkParts) (a n : ℕ)
    → numbers_from listed (map (λ i. (record { origin = listed; number = i + 1 }, at_event (start_event (plain_meaning p) (length (source_numbers p.objects) + i)).key)) (range_with_len a n)) ≡ range_with_len (a + 1) n
first_listed p a zero = refl
first_listed p a (suc n) = ap (λ ns. (a + 1) ∷ ns) (first_listed p (a + 1) n)

pub listed_first : (p : NetworkParts) → numbers_from listed (first_places p) ≡ range_with_len 1 (length p.jobs)
listed_first p = first_listed p 0 (length p.jobs)

first_made : (p : NetworkParts) (j a n : ℕ)
    → numbers_from (made_by j) (map (λ i. (record { origin = listed; number = i + 1 }, at_event (start_event (plain_meaning p) (length (source_numbers p.objects) + i)).key)) (range_with_len a n)) ≡ []
first_made p j a zero = refl
first_made p j a (suc n) = first_made p j (a + 1) n

none_made : (kind : KindOver ℕ) → is_source kind ≡ true → made_of (first_cells_of kind) ≡ 0
none_made (Source source) is = refl
none_made other is = cc

pub made_first : (p : NetworkParts) (i : ℕ) → is_source (object_at p.objects i).kind ≡ true
    → numbers_from (made_by i) (first_places p) ≡ range_with_len 1 (made_of (cells_at (initial_state (plain_meaning p)) i))
made_first p i is =
    first_made p i 0 (length p.jobs)
    ∙ sym (ap (λ (c : CellData). range_with_len 1 (made_of c)) (cells_at_start p i (source_exists p i is)) ∙ ap (range_with_len 1) (none_made (object_at p.objects i).kind is))
