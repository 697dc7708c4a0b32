use Rattle.delta_exchange.proofs.LineLemmas.{within, same_values, no_less_spare, new_spare}
use Rattle.delta_exchange.proofs.cells.Cells.reserve.Goals as goal

pub returns-clause-ok : goal.returns-clause-ok
returns-clause-ok c =
    let there = within _ _ _ (rw (← c.self.view_is) at c.requires) in
    rw (new_spare _ _ _ there) c.in_ok-reserve.ensures.spare

pub returns-clause-same : goal.returns-clause-same
returns-clause-same c =
    rw (← c.self.view_is, same_values c.self.inside.lines.items c.args.line c.index_mut-line.result.now c.reserve.new.self c.index_mut-line.ensures.value c.reserve.ensures.values)

pub returns-clause-none_fell : goal.returns-clause-none_fell
returns-clause-none_fell c =
    let there = within _ _ _ (rw (← c.self.view_is) at c.requires) in
    rw (← c.self.view_is) (no_less_spare c.self.inside.lines.items c.args.line c.index_mut-line.result.now c.reserve.new.self there c.index_mut-line.ensures.value c.reserve.ensures.never_less)

pub returns-in_err-reserve-clause-same : goal.returns-in_err-reserve-clause-same
returns-in_err-reserve-clause-same c =
    rw (← c.self.view_is, same_values c.self.inside.lines.items c.args.line c.index_mut-line.result.now c.reserve.new.self c.index_mut-line.ensures.value c.reserve.ensures.values)

pub returns-in_err-reserve-clause-none_fell : goal.returns-in_err-reserve-clause-none_fell
returns-in_err-reserve-clause-none_fell c =
    let there = within _ _ _ (rw (← c.self.view_is) at c.requires) in
    rw (← c.self.view_is) (no_less_spare c.self.inside.lines.items c.args.line c.index_mut-line.result.now c.reserve.new.self there c.index_mut-line.ensures.value c.reserve.ensures.never_less)
