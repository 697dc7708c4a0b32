use Rattle.std.proofs.Common.{◌∙◌, length, ap}
use Rattle.replications.specs.Tables.{WindowsView}
use Rattle.replications.proofs.TableLemmas.{windows_of-length}
use Rattle.replicate_program.proofs.window_rows.WindowRowsRowsSeeded.put.Goals as goal

pub put_rows-requires-after_bounds : goal.put_rows-requires-after_bounds
put_rows-requires-after_bounds c within =
    ap (λ (w : WindowsView). length w.objects) c.requires.summed ∙ windows_of-length c.requires.first_tick _ c.requires.records

pub returns : goal.returns
returns c first_tick records is all = c.in_ok-put_rows.ensures first_tick _ records is
