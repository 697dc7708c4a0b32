use Rattle.std.proofs.Common.{◌+◌, ◌∷◌, [], ◌++◌, List, length, refl, sym, ap, ◌∙◌, subst, arith, append-nil, append_assoc}
use Rattle.sim_io.proofs.TakenLemmas.{Appends-nil, Appends-trans}
use Rattle.sim_io.specs.Taken.{Appends}
use Rattle.sim_io.specs.Transfers.{AppendsPrefix}
use Rattle.sim_spec.specs.declared.stop.Stop.{Stop}
use Rattle.replications.specs.Studies.{rows_at, rows_between, stops_between, graver, gravest}
use Rattle.replications.proofs.GravestLemmas.{gravest-more}
use Rattle.replications.proofs.JobLemmas.{done_rows}
use Rattle.replications.proofs.PrefixLemmas.{cut_short}
use Rattle.replications.proofs.TextLemmas.{rows_between-more, stops_between-more, so_far-prefix, next-prefix, one_row}
use Rattle.replications.proofs.table.write_rows.Goals as goal

pub loop-job-init : goal.loop-job-init
unfolding rows_between stops_between
loop-job-init g c = record {
  written = λ s number all. Appends-nil (g.K.Sink.told c.args.out.now);
  stops = λ s number before all was. was ∙ ap gravest (sym (append-nil before));
  later = omega arith;
  quiet = refl;
}

pub returns-in_default-clause-text : goal.returns-in_default-clause-text
returns-in_default-clause-text g c = λ s number all. record {
  whole = tt;
  prefix = so_far-prefix s number c.loop-job.job-index (length c.args.jobs.now) (omega (arith, c.loop-job-test.true)) _ _ (c.loop-job.invariant.written s number all);
}

pub returns-in_err-write_all-clause-text : goal.returns-in_err-write_all-clause-text
returns-in_err-write_all-clause-text g c = λ s number all.
    let i = c.loop-job.job-index in
    let done = done_rows s number c.args.jobs.now i c.job-item.result c.in-Some.stop all c.loop-job-test.true c.job-item.is c.in-Some.is in
    let P : List _ → Type 0 = AppendsPrefix (g.K.Sink.told c.loop-job.out) (g.K.Sink.told c.write_all.new.sink) in
    cut_short _ _ _ _ _ _ c.from_residual.ensures.1
    (next-prefix s number i 1 (length c.args.jobs.now) (omega (arith, c.loop-job-test.true)) _ _ _ (c.loop-job.invariant.written s number all)
    (subst P (c.as_slice.ensures.value ∙ done.0 ∙ one_row s (number + i)) c.in_err-write_all.ensures.prefix))

pub loop-job-preserved : goal.loop-job-preserved
loop-job-preserved g c =
    let i = c.loop-job.job-index in
    let jobs = c.args.jobs.now in
    let mid = g.K.Sink.told c.loop-job.out in
    let new = g.K.Sink.told c.write_all.new.sink in
    record {
      written = λ s number all.
          let done = done_rows s number jobs i c.job-item.result c.in-Some.stop all c.loop-job-test.true c.job-item.is c.in-Some.is in
          subst (Appends (g.K.Sink.told c.args.out.now) new) (sym (rows_between-more s number i))
          (Appends-trans _ mid new (rows_between s number i) (rows_at s (number + i)) (c.loop-job.invariant.written s number all)
          (subst (Appends mid new) (c.as_slice.ensures.value ∙ done.0) c.in_ok-write_all.ensures.all));
      stops = λ s number before all was.
          let done = done_rows s number jobs i c.job-item.result c.in-Some.stop all c.loop-job-test.true c.job-item.is c.in-Some.is in
          c.graver.ensures ∙ ap (λ (worst : Stop). graver worst c.in-Some.stop) (c.loop-job.invariant.stops s number before all was)
          ∙ sym (gravest-more (before ++ stops_between s number i) c.in-Some.stop)
          ∙ ap gravest (append_assoc before (stops_between s number i) (c.in-Some.stop ∷ [])
          ∙ ap (λ (more : List Stop). before ++ more) (ap (λ (stop : Stop). stops_between s number i ++ stop ∷ []) done.1 ∙ sym (stops_between-more s number i)));
      later = omega (arith, c.loop-job.invariant.later, c.in_ok-write_all.ensures.cause.later);
      quiet = c.in_ok-write_all.ensures.quiet ∙ c.loop-job.invariant.quiet;
    }
