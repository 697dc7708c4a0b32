use Rattle.std.proofs.Common.{◌∙◌, sym, ap}
use Rattle.sim_spec.specs.declared.stop.Stop.{Stop}
use Rattle.replications.specs.Rows.{last_tick}
use Rattle.replications.specs.Tables.{WindowsView}
use Rattle.replications.proofs.TableLemmas.{windows_of-last_time}
use Rattle.replications.proofs.windows.Windows.last_tick.Goals as goal

pub returns-in-Limit-clause-tick : goal.returns-in-Limit-clause-tick
returns-in-Limit-clause-tick c first_tick objects records summed =
    ap (λ (w : WindowsView). w.last_time) (c.self.view_is ∙ summed) ∙ windows_of-last_time first_tick objects records
    ∙ ap (λ (stop : Stop). last_tick c.args.terms.now records stop) (sym c.in-Limit.is)
