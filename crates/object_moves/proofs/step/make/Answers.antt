-- A move keeps what the nodes stand for.
use Rattle.std.proofs.Common.{◌∙◌, arith}
use Rattle.std.proofs.lemmas.List.{length-set}
use Rattle.object_moves.specs.Steps.{CanMake}
use Rattle.object_moves.proofs.StepLemmas.{all-keep, can-take-in, from-inside, move-stands, move-sum, step-alike, step-goes, step-here, step-room, to-inside}
use Rattle.object_moves.proofs.step.make.Goals as goal

pub bounds-nodes-from : goal.bounds-nodes-from
bounds-nodes-from g c = from-inside g.M.Model.meaning c.args.step c.args.nodes.now c.requires

pub bounds-nodes-from-2 : goal.bounds-nodes-from-2
bounds-nodes-from-2 g c = from-inside g.M.Model.meaning c.args.step c.args.nodes.now c.requires

pub take_out-moved-requires-clause-here : goal.take_out-moved-requires-clause-here
take_out-moved-requires-clause-here g c κs within =
    step-here g.M.Model.meaning c.args.step c.args.nodes.now c.requires c.index-nodes-from-2.result c.index-nodes-from.result c.tells_homes.ensures

pub take_out-moved-requires-clause-homes : goal.take_out-moved-requires-clause-homes
take_out-moved-requires-clause-homes g c κs within =
    step-alike g.M.Model.meaning c.args.step c.args.nodes.now c.requires c.index-nodes-from-2.result _ c.take.ensures.value

pub take_out-moved-requires-clause-goes : goal.take_out-moved-requires-clause-goes
take_out-moved-requires-clause-goes g c κs within same =
    step-goes g.M.Model.meaning c.args.step c.args.nodes.now c.requires c.index-nodes-from-2.result _ c.take.ensures.value same

pub take_out-moved-requires-clause-room : goal.take_out-moved-requires-clause-room
take_out-moved-requires-clause-room g c κs within =
    step-room g.M.Model.meaning c.args.step c.args.nodes.now c.requires c.index-nodes-from-2.result c.know_all.ensures

pub take_in-requires-after_bounds : goal.take_in-requires-after_bounds
take_in-requires-after_bounds g c κs within =
    let out = c.take_out-moved in
    can-take-in g.M.Model.meaning c.args.step c.args.nodes.now c.requires c.index-nodes-from-2.result out.new.self out.result _ c.take.ensures.value out.ensures.left out.ensures.room out.ensures.places
    c.index-nodes-to.result _ (c.take-2.ensures.value ∙ c.take.ensures.same) c.know_all.ensures

pub rehome-requires-clause-keep : goal.rehome-requires-clause-keep
rehome-requires-clause-keep g c κs within place x at =
    let out = c.take_out-moved in
    all-keep g.M.Model.meaning c.args.step c.args.nodes.now c.requires c.index-nodes-from-2.result out.new.self out.result _ c.take.ensures.value out.ensures.left out.ensures.room out.ensures.places
    c.index-nodes-to.result c.take_in.new.self _ (c.take-2.ensures.value ∙ c.take.ensures.same) c.take_in.ensures
    _ (c.take-2.ensures.same ∙ c.take.ensures.same) place x at

pub returns-clause-processed : goal.returns-clause-processed
returns-clause-processed g c =
    let out = c.take_out-moved in
    move-sum g.M.Model.meaning c.args.step c.args.nodes.now c.requires c.index-nodes-from-2.result out.new.self out.result _ c.take.ensures.value out.ensures.left out.ensures.room out.ensures.places
    c.index-nodes-to.result c.take_in.new.self _ (c.take-2.ensures.value ∙ c.take.ensures.same) c.take_in.ensures
    c.rehome.new.nodes _ (c.take-2.ensures.same ∙ c.take.ensures.same) c.rehome.ensures.nodes

pub returns-clause-stands : goal.returns-clause-stands
returns-clause-stands g c v s nodes_are step there =
    let out = c.take_out-moved in
    let can : CanMake g.M.Model.meaning c.args.step c.args.nodes.now = record { world = v; state = s; nodes_are = nodes_are; stands = there; step = step } in
    move-stands g.M.Model.meaning c.args.step c.args.nodes.now can c.index-nodes-from-2.result out.new.self out.result _ c.take.ensures.value out.ensures.left out.ensures.room out.ensures.places
    c.index-nodes-to.result c.take_in.new.self _ (c.take-2.ensures.value ∙ c.take.ensures.same) c.take_in.ensures
    c.rehome.new.nodes _ (c.take-2.ensures.same ∙ c.take.ensures.same) c.rehome.ensures.nodes c.know_all-2.ensures

pub bounds-nodes-to : goal.bounds-nodes-to
bounds-nodes-to g c =
    let low = to-inside g.M.Model.meaning c.args.step c.args.nodes.now c.requires in
    let long = length-set c.args.nodes.now c.args.step.from c.take_out-moved.new.self in
    omega arith
