use Rattle.std.proofs.Common.{subst}
use Rattle.sim_io.proofs.TakenLemmas.{Appends-trans}
use Rattle.sim_io.specs.Taken.{Appends}
use Rattle.sim_io.specs.Transfers.{AppendsPrefix}
use Rattle.replications.specs.Families.{study_of}
use Rattle.replications.specs.Studies.{rows_between, table_text}
use Rattle.sim_io.proofs.TransferLemmas.{prefix_longer}
use Rattle.replications.proofs.PrefixLemmas.{cut_short}
use Rattle.replications.proofs.TextLemmas.{prefix_next}
use Rattle.replications.proofs.table.write_lines.Goals as goal

pub returns-in_err-write_all-clause-text : goal.returns-in_err-write_all-clause-text
unfolding table_text
returns-in_err-write_all-clause-text g c =
    let s = study_of g.S.Seeds.seeded g.S.Seeds.rows c.args.table.now.study.now in
    cut_short _ _ _ _ _ _ c.from_residual.ensures.1 (prefix_longer _ _ _ (rows_between s 0 c.args.table.now.count)
    (subst (AppendsPrefix (g.K.Sink.told c.args.out.now) (g.K.Sink.told c.write_all.new.sink)) c.as_bytes.ensures.value c.in_err-write_all.ensures.prefix))

pub returns-in_err-worst-clause-text : goal.returns-in_err-worst-clause-text
unfolding table_text
returns-in_err-worst-clause-text g c =
    let s = study_of g.S.Seeds.seeded g.S.Seeds.rows c.args.table.now.study.now in
    cut_short _ _ _ _ _ _ c.from_residual-in_err-worst.ensures.1 (prefix_next _ _ _ _ (rows_between s 0 c.args.table.now.count)
    (subst (Appends (g.K.Sink.told c.args.out.now) (g.K.Sink.told c.write_all.new.sink)) c.as_bytes.ensures.value c.in_ok-write_all.ensures.all)
    c.in_err-worst.ensures.text.prefix)

pub returns-clause-text : goal.returns-clause-text
unfolding table_text
returns-clause-text g c =
    let s = study_of g.S.Seeds.seeded g.S.Seeds.rows c.args.table.now.study.now in
    record {
      whole = Appends-trans _ _ _ _ (rows_between s 0 c.args.table.now.count)
          (subst (Appends (g.K.Sink.told c.args.out.now) (g.K.Sink.told c.write_all.new.sink)) c.as_bytes.ensures.value c.in_ok-write_all.ensures.all)
          c.in_ok-worst.ensures.text.whole;
      prefix = tt;
    }
