use Rattle.std.proofs.Common.{List, replicate, ◌∙◌, ap, sym}
use Rattle.sim_stats.specs.declared.sums.Sums.{Sums}
use Rattle.sim_stats.specs.Totals.{Summed}
use Rattle.sim_stats.proofs.TotalsLemmas.{totals_of-none, sums_of_none_are_small}
use Rattle.sim_stats.proofs.totals.Totals.new.Goals as goal

pub returns-clause-totals : goal.returns-clause-totals
returns-clause-totals c =
    let summed : List Sums → Summed = λ sums. record { objects = sums; records = 0; last = 0 } in
    ap summed (c.in_ok-vec.ensures.items_if_clones_equal (λ y same. same) ∙ ap (λ (one : Sums). replicate c.args.objects one) c.none.ensures)
    ∙ sym (totals_of-none c.args.objects)

pub invariant_of-result : goal.invariant_of-result
invariant_of-result c =
    sums_of_none_are_small c.args.objects c.in_ok-vec.field-0.items
    (c.in_ok-vec.ensures.items_if_clones_equal (λ y same. same) ∙ ap (λ (one : Sums). replicate c.args.objects one) c.none.ensures)
