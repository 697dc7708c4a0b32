-- Nothing happens past the end: each event that happens was due.
use Rattle.std.proofs.Common.{◌<◌, ◌≤◌, List, sym, ◌∙◌, subst, append-nil, arith}
use Rattle.std.specs.Prelude.{All}
use Rattle.std.proofs.lemmas.List.Elements.{All-nil, All-push, All-weaker}
use Rattle.event_key.specs.declared.key.Key.{Key}
use Rattle.event_key.specs.Stamps.{end_stamp, time_part}
use Rattle.model_core.specs.declared.note.Note.{Note}
use Rattle.sim_spec.specs.declared.terms.Terms.{Terms}
use Rattle.sim_spec.specs.Run.{stops, does}
use Rattle.sim_stats.specs.Words.{words_told}
use Rattle.run_laws.specs.Reached.{after_events, gathered, record_of, first_records}
use Rattle.run_laws.proofs.Induction.{gathered-more, each_number}
use Rattle.run_laws.proofs.Steps.{IsStep, is_step}
use Rattle.subject_laws.specs.EndLaws.{RecordsEnd, TotalsEnd}
use Rattle.subject_laws.proofs.TotalLemmas.TotalsLaw.{last_is, last_of_records}

abbrev IsDue : Terms → Key × Note → Type 0
IsDue t told = told.0.stamp < end_stamp t.end

pub records_end : RecordsEnd
unfolding gathered
records_end m t =
    let E : List (Key × Note) → Type 0 = All (IsDue t) in
    each_number m t (λ n. E (first_records n m t)) (All-nil (IsDue t))
    (λ n stop is_next before. subst E (sym (gathered-more record_of m t n (stops stop) is_next ∙ append-nil (first_records n m t))) before)
    (λ n told after is_next before.
    let step : IsStep m t (after_events n m t) told after = is_step m t (after_events n m t) told after is_next in
    subst E (sym (gathered-more record_of m t n (does told after) is_next))
    (All-push (IsDue t) (first_records n m t) told before (subst (IsDue t) (sym step.tells) step.due)))

pub totals_end : TotalsEnd
totals_end m t i n =
    let records : List (Key × Note) = first_records n m t in
    let within : All (λ (told : Key × Note). time_part told.0.stamp ≤ t.end) records =
    All-weaker (IsDue t) (λ (told : Key × Note). time_part told.0.stamp ≤ t.end) (λ told due. omega (arith, due)) records (records_end m t n) in
    omega (arith, last_is (words_told i records), last_of_records i t.end records within 0 (omega arith))
