use Rattle.std.proofs.Common.{ap, ◌∙◌}
use Rattle.sim_stats.specs.declared.occupancy.Occupancy.{Occupancy}
use Rattle.replications.specs.declared.window.Columns.{Columns}
use Rattle.replications.specs.declared.window.Window.{Window}
use Rattle.replications.specs.Parts.{from_tick}
use Rattle.replications.specs.Stays.{lefts_after, last_left, stays, spent}
use Rattle.replications.specs.Windows.{line_before, greatest, longest_from, no_sums, window_of}
use Rattle.replications.proofs.window.Window.none.Goals as goal

pub returns : goal.returns
unfolding from_tick lefts_after last_left stays spent line_before greatest longest_from window_of
returns c first_tick =
    let at_first : Columns → Occupancy → Window = λ sums now. record { sums = sums; begins = 0; left = record { since = 0; occupancy = now } } in
    ap (λ (sums : Columns). at_first sums c.nobody.result) c.none.ensures ∙ ap (at_first no_sums) c.nobody.ensures
