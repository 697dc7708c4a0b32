use Rattle.std.proofs.Common.{List, replicate, ◌∙◌, ap, sym, arith}
use Rattle.replications.specs.declared.window.Window.{Window}
use Rattle.replications.specs.Tables.{WindowsView}
use Rattle.replications.proofs.TableLemmas.{windows_of-none, none_are_small}
use Rattle.replications.proofs.windows.Windows.new.Goals as goal

pub returns : goal.returns
returns c =
    let of : List Window → WindowsView = λ windows. record { objects = windows; first_tick = c.args.first_tick; records = 0; last_time = 0 } in
    ap of (c.in_ok-vec.ensures.items_if_clones_equal (λ y same. same) ∙ ap (λ (one : Window). replicate c.args.objects one) (c.none.ensures c.args.first_tick))
    ∙ sym (windows_of-none c.args.first_tick c.args.objects)

pub invariant_of-result : goal.invariant_of-result
invariant_of-result c = record {
  few = omega arith;
  early = omega arith;
  sums = none_are_small c.args.first_tick c.args.objects c.in_ok-vec.field-0.items
      (c.in_ok-vec.ensures.items_if_clones_equal (λ y same. same) ∙ ap (λ (one : Window). replicate c.args.objects one) (c.none.ensures c.args.first_tick));
}
