use Rattle.std.proofs.Common.{◌++◌, take, subst, sym, append-nil}
use Rattle.run_tally.proofs.ComingLemmas.{read-comes, read-more}
use Rattle.replications.proofs.run_rows.add_all.Goals as goal

pub loop-i-init : goal.loop-i-init
loop-i-init g c first_tick before up can = subst (g.W.Rows.sums_up c.args.model.now first_tick c.args.rows.now) (sym (append-nil before)) up

pub add-requires : goal.add-requires
add-requires g c =
    let first_tick = c.requires.first_tick in
    let before = c.requires.records in
    let comes = read-comes (g.M.Model.meaning c.args.model.now) before c.args.records.now.items c.loop-i.i _ c.at.ensures.told c.at.ensures.few c.requires.can_come in
    record {
      first_tick = first_tick;
      records = before ++ take c.loop-i.i c.args.records.now.items;
      summed = c.loop-i.invariant first_tick before c.requires.summed c.requires.can_come;
      can_come = comes;
    }

pub loop-i-preserved : goal.loop-i-preserved
loop-i-preserved g c first_tick before up can =
    let m = g.M.Model.meaning c.args.model.now in
    let records = c.args.records.now.items in
    subst (g.W.Rows.sums_up c.args.model.now first_tick c.add.new.self) (read-more m before records c.loop-i.i _ c.at.ensures.told)
    (c.add.ensures first_tick (before ++ take c.loop-i.i records) (c.loop-i.invariant first_tick before up can) (read-comes m before records c.loop-i.i _ c.at.ensures.told c.at.ensures.few can))
