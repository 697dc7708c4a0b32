use Rattle.std.proofs.Common.{◌-◌, arith, sym, ◌∙◌}
use Rattle.shop_text.proofs.Rising.{rising-end, rising-rise}
use Rattle.shop_text.proofs.laws.rising.Goals as goal

pub returns-clause-read : goal.returns-clause-read
returns-clause-read c =
    sym c.loop-at.invariant ∙ rising-end c.args.item c.args.bounds.now (c.loop-at.at - 1) (omega arith)

pub returns-clause-rise : goal.returns-clause-rise
returns-clause-rise c =
    rising-rise c.args.item c.args.bounds.now (sym c.loop-at.invariant ∙ rising-end c.args.item c.args.bounds.now (c.loop-at.at - 1) (omega arith))
