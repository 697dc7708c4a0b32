use Rattle.std.proofs.Common.{◌∙◌, List, sym, subst, arith}
use Rattle.std.proofs.lemmas.List.{nil_from_length}
use Rattle.std.proofs.lemmas.Result.{on_ok_weaker}
use Rattle.cycle_core.specs.Ends.{CanReceive, Receives}
use Rattle.cycle_core.proofs.PassLemmas.{receives-nothing}
use Rattle.cycle_core.proofs.ending.receive_parcel.Goals as goal

pub returns-then-len-eq0-clause-received : goal.returns-then-len-eq0-clause-received
returns-then-len-eq0-clause-received g c =
    receives-nothing g.M.Model.meaning c.args.node.now c.args.parcel.now (nil_from_length c.args.parcel.now (omega arith)) c.tells_idle.ensures.receives c.requires

pub returns-then-len-eq0-clause-emptied : goal.returns-then-len-eq0-clause-emptied
returns-then-len-eq0-clause-emptied g c = nil_from_length c.args.parcel.now (omega arith)

pub receive-requires-after_bounds : goal.receive-requires-after_bounds
receive-requires-after_bounds g c lifetimes outlives =
    let K : List _ → Type 0 = λ es. CanReceive g.M.Model.meaning es c.args.node.now in
    subst K (sym c.replace-events.ensures.value) c.requires

pub returns-clause-received : goal.returns-clause-received
returns-clause-received g c =
    let R : List _ → Type 0 = λ es. Receives g.M.Model.meaning es c.args.node.now c.receive.new.node in
    on_ok_weaker c.receive.result (λ receives. subst R c.replace-events.ensures.value receives) c.receive.ensures

pub returns-clause-emptied : goal.returns-clause-emptied
returns-clause-emptied g c = on_ok_weaker c.receive.result (λ receives. c.replace-events.ensures.after ∙ c.new.ensures) c.receive.ensures
