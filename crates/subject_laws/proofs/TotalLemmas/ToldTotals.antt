-- The totals of an object that isn't quiet are those of the run in which no object is quiet or traced: a load changes none.
use Rattle.std.proofs.Common.{◌≡◌, ◌≢◌, ℕ, zero, suc, ◌+◌, ◌-◌, ◌*◌, Bool, true, false, List, [], ◌∷◌, ◌++◌, length, refl, sym, ap, ◌∙◌, subst, arith, eqb-true, eq-eqb, append-nil, append_assoc}
use Rattle.std.specs.Prelude.{◌==◌}
use Rattle.event_key.specs.declared.key.Key.{Key}
use Rattle.event_key.specs.Stamps.{time_part}
use Rattle.delta_exchange.specs.Changes.{CellData, cells_after_all}
use Rattle.model_core.specs.declared.effect.Effect.{Effect}
use Rattle.model_core.specs.declared.effect.Outcome.{Outcome}
use Rattle.model_core.specs.declared.effect.Outcome.TheVariants.{Goes}
use Rattle.model_core.specs.declared.note.Note.{Note}
use Rattle.sim_spec.specs.declared.terms.Terms.{Terms}
use Rattle.sim_spec.specs.State.{State}
use Rattle.sim_spec.specs.Run.{Next, does, next}
use Rattle.sim_stats.specs.declared.sums.Sums.{Sums}
use Rattle.sim_stats.specs.Sums.{sums_of}
use Rattle.sim_stats.specs.Words.{TimedWord, words_at, words_told}
use Rattle.sim_stats.proofs.SumsLemmas.{with_word, sums_of-more}
use Rattle.sim_stats.proofs.TotalsLemmas.{words_told-here, words_told-elsewhere}
use Rattle.queue_models.specs.Keeping.{OutcomeKeeps}
use Rattle.queue_models.specs.Kinds.{is_lawful}
use Rattle.queue_models.specs.Meaning.{plain_meaning, network_meaning}
use Rattle.queue_models.specs.ModelLaws.{object_keeps}
use Rattle.queue_models.specs.Objects.{NetworkParts, object_at}
use Rattle.queue_models.specs.Parts.{IsNetwork}
use Rattle.queue_models.specs.Telling.{load, note_told}
use Rattle.run_laws.specs.Reached.{after_events, Reaches, record_of, first_records, gathered}
use Rattle.subject_laws.specs.Places.{word_told}
use Rattle.subject_laws.specs.Stations.{cells_at}
use Rattle.subject_laws.proofs.QueueLemmas.NetworkSteps.{IsNetworkStep, network_step}
use Rattle.subject_laws.proofs.QueueLemmas.PlainRuns.{SameNext, both_stop, both_do, same_next, same_after, plain_reaches}

-- what is told besides has the same sums where what was told has
sums_more : (words real plain : List TimedWord) → sums_of real ≡ sums_of plain → sums_of (real ++ words) ≡ sums_of (plain ++ words)
sums_more [] real plain same = ap (λ (told : List TimedWord). sums_of told) (append-nil real) ∙ same ∙ ap (λ (told : List TimedWord). sums_of told) (sym (append-nil plain))
sums_more (word ∷ words) real plain same =
    let next : sums_of (real ++ word ∷ []) ≡ sums_of (plain ++ word ∷ []) =
    sums_of-more real word ∙ ap (λ (sums : Sums). with_word sums word) same ∙ sym (sums_of-more plain word) in
    ap (λ (told : List TimedWord). sums_of told) (sym (append_assoc real (word ∷ []) words))
    ∙ sums_more words (real ++ word ∷ []) (plain ++ word ∷ []) next
    ∙ ap (λ (told : List TimedWord). sums_of told) (append_assoc plain (word ∷ []) words)

-- a load that is told at the time of the last word changes no sum
load_adds_nothing : (sums : Sums) → with_word sums (record { time = sums.last; word = 10 }) ≡ sums
load_adds_nothing sums =
    let none : sums.last - sums.last ≡ 0 = omega arith in
    let arrivals : sums.arrivals + 0 ≡ sums.arrivals = omega arith in
    let served : sums.served + 0 ≡ sums.served = omega arith in
    let lost : sums.lost + 0 ≡ sums.lost = omega arith in
    let busy : sums.busy_ticks + (sums.last - sums.last) * sums.occupancy.busy ≡ sums.busy_ticks =
    ap (λ n. sums.busy_ticks + n * sums.occupancy.busy) none ∙ omega arith in
    let waiting : sums.waiting_ticks + (sums.last - sums.last) * sums.occupancy.waiting ≡ sums.waiting_ticks =
    ap (λ n. sums.waiting_ticks + n * sums.occupancy.waiting) none ∙ omega arith in
    λ i. record {
      arrivals = arrivals i;
      served = served i;
      lost = lost i;
      busy_ticks = busy i;
      waiting_ticks = waiting i;
      occupancy = sums.occupancy;
      last = sums.last;
    }

last_after : (told : List TimedWord) (word : TimedWord) → (sums_of (told ++ word ∷ [])).last ≡ word.time
last_after told word = ap (λ (sums : Sums). sums.last) (sums_of-more told word)

abbrev timed : ℕ → ℕ → TimedWord
timed time word = record { time = time; word = word }

-- a load after the one part of a note
load_after_note : (told : List TimedWord) (time : ℕ) (note : Note) (cells : CellData) → length note ≡ 1
    → sums_of (told ++ words_at time (note ++ load cells)) ≡ sums_of (told ++ words_at time note)
load_after_note told time [] cells one = absurd (omega arith)
load_after_note told time (part ∷ more ∷ note) cells one = absurd (omega arith)
load_after_note told time (part ∷ []) cells one =
    let before : Sums = sums_of (told ++ timed time part.word ∷ []) in
    ap (λ (told : List TimedWord). sums_of told) (sym (append_assoc told (timed time part.word ∷ []) (timed time 10 ∷ [])))
    ∙ sums_of-more (told ++ timed time part.word ∷ []) (timed time 10)
    ∙ ap (λ n. with_word before (timed n 10)) (sym (last_after told (timed time part.word)))
    ∙ load_adds_nothing before

told_note : (told : List TimedWord) (time : ℕ) (quiet trace : Bool) (cells : CellData) (x : Effect) → quiet ≡ false → length x.note ≡ 1
    → sums_of (told ++ words_at time (note_told quiet trace cells x)) ≡ sums_of (told ++ words_at time x.note)
told_note told time true trace cells x loud one = absurd (cc)
told_note told time false false cells x loud one = refl
told_note told time false true cells x loud one = load_after_note told time x.note (cells_after_all x.changes cells) one

-- one event more
step_sums : (p : NetworkParts) (i : ℕ) (s : State) (one other : Next) (real plain : List (Key × Note)) → (object_at p.objects i).quiet ≡ false
    → sums_of (words_told i real) ≡ sums_of (words_told i plain) → SameNext p one other
    → ((told : Key × Note) (after : State) → other ≡ does told after → length told.1 ≡ 1)
    → sums_of (words_told i (real ++ record_of s one)) ≡ sums_of (words_told i (plain ++ record_of s other))
step_sums p i s one other real plain loud same (both_stop stop) single =
    ap (λ (records : List (Key × Note)). sums_of (words_told i records)) (append-nil real) ∙ same
    ∙ ap (λ (records : List (Key × Note)). sums_of (words_told i records)) (sym (append-nil plain))
step_sums p i s one other real plain loud same (both_do key cells x after) single = by (key.dest == i) refl
  where
    note : Note
    note = note_told (object_at p.objects key.dest).quiet (object_at p.objects key.dest).trace cells x

    by : (here : Bool) → (key.dest == i) ≡ here → sums_of (words_told i (real ++ (key, note) ∷ [])) ≡ sums_of (words_told i (plain ++ (key, x.note) ∷ []))
    by true here_is =
        let at : key.dest ≡ i = eqb-true key.dest i here_is in
        let P : ℕ → Type 0 = λ j. (object_at p.objects j).quiet ≡ false → sums_of (words_told j real) ≡ sums_of (words_told j plain)
        → sums_of (words_told j (real ++ (key, note) ∷ [])) ≡ sums_of (words_told j (plain ++ (key, x.note) ∷ [])) in
        subst P at (λ loud same.
        ap (λ (told : List TimedWord). sums_of told) (words_told-here real (key, note))
        ∙ told_note (words_told key.dest real) (time_part key.stamp) (object_at p.objects key.dest).quiet (object_at p.objects key.dest).trace cells x loud (single (key, x.note) after refl)
        ∙ sums_more (words_at (time_part key.stamp) x.note) (words_told key.dest real) (words_told key.dest plain) same
        ∙ ap (λ (told : List TimedWord). sums_of told) (sym (words_told-here plain (key, x.note)))) loud same
    by false apart_is =
        let apart : i ≢ key.dest = λ at. let yes : (key.dest == i) ≡ true = eq-eqb key.dest i (sym at) in cc in
        ap (λ (told : List TimedWord). sums_of told) (words_told-elsewhere i real (key, note) apart) ∙ same
        ∙ ap (λ (told : List TimedWord). sums_of told) (sym (words_told-elsewhere i plain (key, x.note) apart))

-- an event has a note of one part, if no object is quiet or traced
pub single_part : (p : NetworkParts) (t : Terms) (s : State) → IsNetwork p → Reaches (plain_meaning p) t s
    → (told : Key × Note) (after : State) → next (plain_meaning p) t s ≡ does told after → length told.1 ≡ 1
unfolding plain_meaning network_meaning
single_part p t s fine reached told after is_next =
    let n : IsNetworkStep p t s told after = network_step p t s told after fine reached is_next in
    let d : ℕ = n.step.event.key.dest in
    let keeps : OutcomeKeeps (length p.objects) (λ c. is_lawful (object_at p.objects d).kind c) (cells_at s d) (Goes n.step.effect) =
    subst (λ (outcome : Outcome). OutcomeKeeps (length p.objects) (λ c. is_lawful (object_at p.objects d).kind c) (cells_at s d) outcome) n.step.outcome
    (object_keeps p fine d (cells_at s d) n.step.event n.exists n.cells) in
    ap (λ (r : Key × Note). length r.1) n.step.tells ∙ keeps.one_part

pub same_sums : (p : NetworkParts) (t : Terms) (i : ℕ) → IsNetwork p → (object_at p.objects i).quiet ≡ false → (n : ℕ)
    → sums_of (words_told i (first_records n (network_meaning p) t)) ≡ sums_of (words_told i (first_records n (plain_meaning p) t))
unfolding gathered
same_sums p t i fine loud zero = refl
same_sums p t i fine loud (suc n) =
    let s : State = after_events n (network_meaning p) t in
    step_sums p i s (next (network_meaning p) t s) (next (plain_meaning p) t s) (first_records n (network_meaning p) t) (first_records n (plain_meaning p) t) loud
    (same_sums p t i fine loud n) (same_next p t s) (single_part p t s fine (plain_reaches p t s (n, refl)))
    ∙ ap (λ s. sums_of (words_told i (first_records n (plain_meaning p) t ++ record_of s (next (plain_meaning p) t s)))) (same_after p t n)

-- what a note of one part tells of its object
pub word_more : (records : List (Key × Note)) (told : Key × Note) → length told.1 ≡ 1
    → sums_of (words_told told.0.dest (records ++ told ∷ [])) ≡ with_word (sums_of (words_told told.0.dest records)) (timed (time_part told.0.stamp) (word_told told.1))
word_more records told one = ap (λ (words : List TimedWord). sums_of words) (words_told-here records told) ∙ by told.1 one
  where
    by : (note : Note) → length note ≡ 1
        → sums_of (words_told told.0.dest records ++ words_at (time_part told.0.stamp) note) ≡ with_word (sums_of (words_told told.0.dest records)) (timed (time_part told.0.stamp) (word_told note))
    by [] one = absurd (omega arith)
    by (part ∷ more ∷ note) one = absurd (omega arith)
    by (part ∷ []) one = sums_of-more (words_told told.0.dest records) (timed (time_part told.0.stamp) part.word)
