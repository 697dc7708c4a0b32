use Rattle.std.proofs.Common.{◌≡◌, ◌∙◌, ap, get_or, length, arith}
use Rattle.replications.specs.Parts.{parts_told}
use Rattle.replications.specs.Windows.{window_of, window_sums}
use Rattle.replications.specs.Tables.{WindowsView}
use Rattle.replications.proofs.TableLemmas.{windows_of-at, windows_of-length}
use Rattle.replications.proofs.RowLemmas.{row-written}
use Rattle.replications.proofs.windows.Windows.put_row.Goals as goal

pub returns : goal.returns
returns g c = λ objects records summed.
    let object = c.args.which.object in
    let first_tick = c.args.which.span.first_tick in
    let last = c.args.which.span.last_tick in
    let told = parts_told object records in
    let many = ap (λ (s : WindowsView). length s.objects) summed ∙ windows_of-length first_tick objects records in
    let window : c.index.result.now ≡ window_of first_tick told =
    c.index.ensures ∙ ap (λ (s : WindowsView). get_or s.objects object c.index.result.now) (c.self.view_is ∙ summed)
    ∙ windows_of-at first_tick objects records object c.index.result.now (omega (arith, many, c.requires.exists)) in
    let sums : c.close-sums.result ≡ window_sums first_tick last told = c.close-sums.ensures told window in
    row-written (g.M.Model.meaning c.args.model.now) first_tick last c.ticks.result c.args.which.end object c.close-sums.result (window_sums first_tick last told)
    c.args.into.now.items c.put_seed.new.into.items c.put_name.new.into.items c.put_columns.new.into.items c.put_end.new.into.items
    c.in_ok-put_seed.ensures c.in_ok-put_name.ensures.ok c.in_ok-put_columns.ensures c.in_ok-put_end.ensures sums c.ticks.ensures
