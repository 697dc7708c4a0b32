use Rattle.std.proofs.Common.{◌∙◌, length, ap, arith}
use Rattle.replications.specs.Tables.{WindowsView}
use Rattle.replications.proofs.TableLemmas.{windows_of-length, windows_of-records}
use Rattle.table_tests.proofs.tests.studies.HopRowsRowsPhold.add.Goals as goal

pub add-requires-clause-object : goal.add-requires-clause-object
add-requires-clause-object c =
    let many = ap (λ (w : WindowsView). length w.objects) c.requires.summed ∙ windows_of-length c.requires.first_tick _ c.requires.records in
    omega (arith, many, c.requires.can_come.object)

pub add-requires-clause-room : goal.add-requires-clause-room
add-requires-clause-room c =
    let counted = ap (λ (w : WindowsView). w.records) c.requires.summed ∙ windows_of-records c.requires.first_tick _ c.requires.records in
    omega (arith, counted, c.requires.can_come.room)

pub returns : goal.returns
returns c first_tick records is can = c.add.ensures.windows first_tick _ records is
