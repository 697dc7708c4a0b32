use Rattle.std.proofs.Common.{◌++◌, ◌∷◌, [], List, ap, refl, ◌∙◌}
use Rattle.std.proofs.lemmas.Result.{on_ok_weaker}
use Rattle.object_log.specs.EventLogs.{ObjectView}
use Rattle.node_core.proofs.beginning.put_object.Goals as goal

pub returns-in_err-cells-clause-same : goal.returns-in_err-cells-clause-same
returns-in_err-cells-clause-same g c = refl

pub returns-clause-put : goal.returns-clause-put
returns-clause-put g c =
    let put : List ObjectView = c.args.log.now.log.objects in
    on_ok_weaker c.add.result (λ is. is ∙ ap (λ cells. put ++ (record { object = c.args.object; state = record { cells = cells; sent = 0 } }) ∷ []) c.in_ok-cells.ensures) c.add.ensures.ok

pub returns-clause-same : goal.returns-clause-same
returns-clause-same g c = c.add.ensures.same
