use Rattle.std.proofs.Common.{ℕ, ◌++◌, length, refl, sym, ap, ◌∙◌, subst, arith}
use Rattle.sim_io.proofs.TakenLemmas.{Appends-nil, Appends-trans}
use Rattle.sim_io.specs.Taken.{Appends}
use Rattle.sim_io.specs.Transfers.{AppendsPrefix}
use Rattle.replications.specs.Families.{study_of}
use Rattle.replications.specs.Studies.{AreDone, rows_between, stops_between, gravest}
use Rattle.replications.proofs.PrefixLemmas.{cut_short}
use Rattle.replications.proofs.TextLemmas.{rows_between-split, stops_between-split, so_far-prefix, batch-prefix, batch}
use Rattle.replications.proofs.table.write_batches.Goals as goal

pub loop-done-init : goal.loop-done-init
unfolding gravest rows_between stops_between
loop-done-init g c = record {
  within = omega arith;
  written = Appends-nil (g.K.Sink.told c.args.out.now);
  stops = refl;
  later = omega arith;
  quiet = refl;
}

pub returns-in_err-jobs-clause-text : goal.returns-in_err-jobs-clause-text
returns-in_err-jobs-clause-text g c =
    let s = study_of g.S.Seeds.seeded g.S.Seeds.rows c.args.table.now.study.now in
    cut_short _ _ _ _ _ _ c.from_residual.ensures.1 (so_far-prefix s 0 c.loop-done.done c.args.table.now.count c.loop-done.invariant.within _ _ c.loop-done.invariant.written)

pub returns-in_err-write_rows-clause-text : goal.returns-in_err-write_rows-clause-text
returns-in_err-write_rows-clause-text g c =
    let s = study_of g.S.Seeds.seeded g.S.Seeds.rows c.args.table.now.study.now in
    let jobs = c.in_ok-jobs.jobs.items in
    let all : AreDone s c.loop-done.done c.as_slice.result.now = subst (AreDone s c.loop-done.done) (sym c.as_slice.ensures.value) c.in_ok-jobs.ensures.done in
    let P : ℕ → Type 0 = λ n. AppendsPrefix (g.K.Sink.told c.loop-done.out) (g.K.Sink.told c.write_rows.new.out) (rows_between s c.loop-done.done n) in
    cut_short _ _ _ _ _ _ c.from_residual-in_err-write_rows.ensures.1 (batch-prefix s c.loop-done.done (length jobs) c.args.table.now.count (omega (arith, c.in_ok-jobs.ensures.many, c.min-end.ensures)) _ _ _ c.loop-done.invariant.written
    (subst P (ap length c.as_slice.ensures.value) ((c.in_err-write_rows.ensures.text s c.loop-done.done all).prefix)))

pub loop-done-preserved : goal.loop-done-preserved
loop-done-preserved g c =
    let s = study_of g.S.Seeds.seeded g.S.Seeds.rows c.args.table.now.study.now in
    let i = c.loop-done.invariant in
    let jobs = c.in_ok-jobs.jobs.items in
    let mid = g.K.Sink.told c.loop-done.out in
    let new = g.K.Sink.told c.write_rows.new.out in
    let all : AreDone s c.loop-done.done c.as_slice.result.now = subst (AreDone s c.loop-done.done) (sym c.as_slice.ensures.value) c.in_ok-jobs.ensures.done in
    let P : ℕ → Type 0 = λ n. Appends mid new (rows_between s c.loop-done.done n) in
    record {
      within = omega (arith, c.min-end.ensures);
      written = subst (Appends (g.K.Sink.told c.args.out.now) new) (batch (rows_between s) (rows_between-split s) c.loop-done.done (length jobs) c.min-end.result c.in_ok-jobs.ensures.many)
          (Appends-trans _ mid new (rows_between s 0 c.loop-done.done) (rows_between s c.loop-done.done (length jobs)) i.written
          (subst P (ap length c.as_slice.ensures.value) ((c.in_ok-write_rows.ensures.text s c.loop-done.done all).whole)));
      stops = c.in_ok-write_rows.ensures.stops s c.loop-done.done (stops_between s 0 c.loop-done.done) all i.stops
          ∙ ap gravest (ap (λ n. stops_between s 0 c.loop-done.done ++ stops_between s c.loop-done.done n) (ap length c.as_slice.ensures.value)
          ∙ batch (stops_between s) (stops_between-split s) c.loop-done.done (length jobs) c.min-end.result c.in_ok-jobs.ensures.many);
      later = omega (arith, i.later, c.in_ok-write_rows.ensures.faults.later);
      quiet = c.in_ok-write_rows.ensures.faults.quiet ∙ i.quiet;
    }
