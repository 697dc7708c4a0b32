-- What is kept of the buckets so far, and of one more.
use Rattle.std.proofs.Common.{◌≡◌, ℕ, ◌^◌, ◌<◌, List, [], ◌∷◌, ◌++◌, length, sym, ap, ◌∙◌, subst, arith}
use Rattle.std.proofs.lemmas.List.Sums.{count_by-le-length}
use Rattle.event_key.specs.declared.key.Key.{Key}
use Rattle.model_core.specs.declared.note.Note.{Note}
use Rattle.model_core.specs.Meaning.{Meaning}
use Rattle.sim_spec.specs.declared.bucket.Bucket.{Bucket}
use Rattle.sim_spec.specs.declared.stop.Stop.{Stop}
use Rattle.sim_spec.specs.Cycles.{records_of_buckets}
use Rattle.run_tally.specs.Tallies.{TotalsOf, CanAllCome}
use Rattle.sim_io.specs.CycleTexts.{demo_line}
use Rattle.sim_text.specs.declared.telling.Telling.{Telling}
use Rattle.sim_text.specs.declared.report.Report.{Report}
use Rattle.sim_text.specs.declared.report.Report.TheVariants.{Sums, Counts}
use Rattle.sim_text.specs.declared.summary.Summary.{Summary}
use Rattle.sim_text.specs.Reports.{summary_of, IsReportOf, CanGoOn, told_in_the_end}
use Rattle.sim_text.specs.WholeTexts.{is_whole}
use Rattle.sim_text.proofs.SummaryLemmas.{records_of_buckets-more}

module _ {L : Type 0} (SumsUp : L → List (Key × Note) → Type 0) (telling : Telling) (bs : List Bucket) where
  -- a report, as it is known to be
  pub known : (report found : Report L) → report ≡ found → IsReportOf SumsUp telling bs report → IsReportOf SumsUp telling bs found
  known report found is kept = subst (IsReportOf SumsUp telling bs) is kept

  -- the records of the next bucket can come, and the tally has summed them up too
  pub sums-go_on : (m : Meaning) (b : Bucket) (records : List (Key × Note)) → records ≡ b.done → telling ≡ Telling.Totals → CanGoOn m telling bs b
      → CanAllCome m (records_of_buckets bs) records
  sums-go_on m b records are is can =
      let all : CanAllCome m (records_of_buckets bs) b.done = record { objects = can.objects; in_time = can.in_time is; room = can.room } in
      subst (CanAllCome m (records_of_buckets bs)) (sym are) all

  pub sums-kept : (b : Bucket) (records : List (Key × Note)) (tally : L) → records ≡ b.done → telling ≡ Telling.Totals
      → SumsUp tally (records_of_buckets bs ++ records)
      → IsReportOf SumsUp telling (bs ++ b ∷ []) (Sums tally)
  sums-kept b records tally are is summed =
      (is, subst (SumsUp tally) (ap (λ (more : List (Key × Note)). records_of_buckets bs ++ more) are ∙ sym (records_of_buckets-more bs b)) summed)

  -- a count of cycles stays small
  pub counts-go_on : (n : ℕ) (summary : Summary) → summary ≡ summary_of n bs → length bs < 2 ^ 63 → summary.cycles < 2 ^ 63
  unfolding summary_of
  counts-go_on n summary is few = omega (arith, ap (λ (s : Summary). s.cycles) is, count_by-le-length is_whole bs)

  -- what is told of the counts in the end
  pub counts-end : (totals : TotalsOf) (summary : Summary) (count : ℕ) (stop : Stop) (before after : List ℕ)
      → IsReportOf SumsUp telling bs (Counts summary)
      → after ≡ before ++ demo_line summary.n count summary.cycles summary.last → after ≡ before ++ told_in_the_end totals telling bs count stop
  unfolding summary_of
  counts-end totals summary count stop before after kept put =
      put
      ∙ ap (λ (s : Summary). before ++ demo_line s.n count s.cycles s.last) kept.2
      ∙ ap (λ (t : Telling). before ++ told_in_the_end totals t bs count stop) (sym kept.1)
