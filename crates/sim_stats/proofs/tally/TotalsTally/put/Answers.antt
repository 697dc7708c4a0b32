use Rattle.std.proofs.Common.{ℕ, List, ◌++◌, sym, ap, ◌∙◌, arith, append-nil}
use Rattle.sim_stats.specs.Totals.{Summed, lines_of_sums, totals_lines}
use Rattle.sim_stats.proofs.TotalsLemmas.{lines_of_sums-next, lines_of_sums-all, totals_of-parts}
use Rattle.sim_stats.proofs.tally.TotalsTally.put.Goals as goal

pub loop-object-init : goal.loop-object-init
unfolding lines_of_sums
loop-object-init g c = sym (append-nil c.args.into.now.items)

pub of_object-requires : goal.of_object-requires
of_object-requires g c =
    let parts = totals_of-parts c.args.self.now (g.M.Model.meaning c.args.model.now).objects c.requires.0 c.requires.1 in
    omega (arith, parts.0, c.loop-object-test.true, c.objects-object-end.ensures)

pub loop-object-preserved : goal.loop-object-preserved
loop-object-preserved g c =
    let m = g.M.Model.meaning c.args.model.now in
    let i = c.loop-object.object in
    let parts = totals_of-parts c.args.self.now m.objects c.requires.0 c.requires.1 in
    lines_of_sums-next m c.args.self.now.objects i c.of_object.result.now c.args.into.now.items c.put_name.new.into.items c.put.new.into.items
    (omega (arith, parts.0, c.loop-object-test.true, c.objects-object-end.ensures))
    c.of_object.ensures
    (c.in_ok-put_name.ensures.ok ∙ ap (λ (before : List ℕ). before ++ m.label i) c.loop-object.invariant)
    c.in_ok-put.ensures

pub returns : goal.returns
unfolding totals_lines
returns g c records summed all =
    let m = g.M.Model.meaning c.args.model.now in
    let parts = totals_of-parts c.args.self.now m.objects records summed in
    let told : Summed → List ℕ = λ s. c.args.into.now.items ++ lines_of_sums m 0 s.objects in
    c.loop-object.invariant
    ∙ ap (λ (lines : List ℕ). c.args.into.now.items ++ lines)
    (lines_of_sums-all m c.args.self.now.objects c.loop-object.object (omega (arith, parts.0, c.loop-object-test.false, c.objects-object-end.ensures)))
    ∙ ap told summed
