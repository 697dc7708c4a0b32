use Rattle.std.proofs.Common.{◌≡◌, ◌∙◌, ◌++◌, ℕ, ap, sym, subst, arith}
use Rattle.replications.specs.Windows.{window_sums}
use Rattle.replications.specs.Parts.{parts_told}
use Rattle.replications.specs.Rows.{row_of, table_of}
use Rattle.replications.specs.Tables.{WindowsView, windows_of}
use Rattle.replications.proofs.RowLemmas.{rows_from-next, rows-written, rows-begun, table_of-length, table_of-at}
use Rattle.replications.proofs.TableLemmas.{windows_of-first_tick}
use Rattle.replications.proofs.windows.Windows.put_rows.Goals as goal

pub loop-object-init : goal.loop-object-init
loop-object-init g c = λ first_tick objects records summed.
    rows-begun (g.M.Model.meaning c.args.model.now) first_tick c.last_tick-last_tick.result c.args.end.now (table_of first_tick c.last_tick-last_tick.result (g.M.Model.meaning c.args.model.now).objects records) c.args.into.now.items

pub loop-object-preserved : goal.loop-object-preserved
loop-object-preserved g c = λ first_tick objects records summed.
    let m = g.M.Model.meaning c.args.model.now in
    let last = c.last_tick-last_tick.result in
    let i = c.loop-object.object in
    let one = window_sums first_tick last (parts_told i records) in
    let table = table_of first_tick last m.objects records in
    let exists = table_of-length first_tick last m.objects records in
    let begins : c.self.inside.first_tick ≡ first_tick =
    ap (λ (w : WindowsView). w.first_tick) (c.self.view_is ∙ summed) ∙ windows_of-first_tick first_tick objects records in
    let Row : ℕ → Type 0 = λ n. c.args.self.now ≡ windows_of n objects records
    → c.put_row.new.into.items ≡ c.loop-object.into.items ++ row_of m n last c.args.end.now i records in
    rows_from-next m first_tick last c.args.end.now table i one c.args.into.now.items c.loop-object.into.items c.put_row.new.into.items
    (omega (arith, exists, c.objects-object-end.ensures, c.loop-object-test.true))
    (sym (table_of-at first_tick last m.objects records i one (omega (arith, c.objects-object-end.ensures, c.loop-object-test.true))))
    (c.loop-object.invariant first_tick objects records summed)
    (subst Row begins (c.in_ok-put_row.ensures objects records) summed)

pub returns : goal.returns
returns g c = λ first_tick objects records summed.
    let m = g.M.Model.meaning c.args.model.now in
    rows-written m c.args.terms.now first_tick c.last_tick-last_tick.result c.args.end.now records c.loop-object.object c.args.into.now.items c.loop-object.into.items
    (c.last_tick-last_tick.ensures.tick first_tick objects records summed)
    (omega (arith, c.objects-object-end.ensures, c.loop-object-test.false))
    (c.loop-object.invariant first_tick objects records summed)
