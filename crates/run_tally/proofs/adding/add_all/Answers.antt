use Rattle.std.proofs.Common.{◌++◌, take, subst, sym, append-nil}
use Rattle.run_tally.proofs.ComingLemmas.{read-comes, read-more}
use Rattle.run_tally.proofs.adding.add_all.Goals as goal

pub loop-i-init : goal.loop-i-init
loop-i-init g c before up can = subst (g.L.Tally.sums_up c.args.model.now c.args.tally.now) (sym (append-nil before)) up

pub add-requires : goal.add-requires
add-requires g c =
    let before = c.requires.0 in
    let comes =
    read-comes (g.M.Model.meaning c.args.model.now) before c.args.records.now.items c.loop-i.i _ c.at.ensures.told c.at.ensures.few c.requires.2 in
    (before ++ take c.loop-i.i c.args.records.now.items, c.loop-i.invariant before c.requires.1 c.requires.2, comes)

pub loop-i-preserved : goal.loop-i-preserved
loop-i-preserved g c before up can =
    let m = g.M.Model.meaning c.args.model.now in
    let records = c.args.records.now.items in
    subst (g.L.Tally.sums_up c.args.model.now c.add.new.self) (read-more m before records c.loop-i.i _ c.at.ensures.told)
    (c.add.ensures (before ++ take c.loop-i.i records) (c.loop-i.invariant before up can) (read-comes m before records c.loop-i.i _ c.at.ensures.told c.at.ensures.few can))
