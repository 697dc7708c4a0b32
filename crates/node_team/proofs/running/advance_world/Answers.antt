use Rattle.std.proofs.Common.{◌≡◌, [], ap, sym, ◌∙◌, subst}
use Rattle.event_key.specs.Stamps.{end_stamp}
use Rattle.horizon_word.specs.Views.{new_seat}
use Rattle.cycle_core.specs.Known.{AreKnown}
use Rattle.cycle_core.specs.Places.{AtEach}
use Rattle.cycle_core.specs.Worlds.{WorldView, StandsAt, AreNodesOf}
use Rattle.cycle_core.proofs.ChangedNodes.{nodes-alone}
use Rattle.node_team.specs.Forks.{CanAllRun, AllHaveRun}
use Rattle.node_team.specs.Teams.{IsFloorOf}
use Rattle.node_team.proofs.RunningLemmas.{can-run, run-nodes, run-stands}
use Rattle.node_team.proofs.running.advance_world.Goals as goal

pub advance_nodes-requires-clause-can : goal.advance_nodes-requires-clause-can
advance_nodes-requires-clause-can g c lifetimes outlives =
    let w = c.args.world.now in
    let nodes : c.deref.result.now ≡ w.nodes = c.deref.ensures.value ∙ c.take_nodes-nodes.ensures.nodes in
    let nodes_2 : c.deref-2.result.now ≡ w.nodes = c.deref-2.ensures.value ∙ c.take_nodes-nodes.ensures.nodes in
    let known = subst (AreKnown (g.M.Model.meaning)) nodes (λ place x at. c.know_all.ensures place x at) in
    let floors = subst (λ ns. AtEach (λ number n. IsFloorOf (g.M.Model.meaning n.model) c.floor_of-floor.result n) ns) nodes_2 (λ place x at object home. c.floor_of-floor.ensures.floor place x at object home) in
    let end : c.end_bound-end.result ≡ end_stamp w.terms.end = c.end_bound-end.ensures ∙ ap (λ t. end_stamp t.end) c.terms-terms.ensures in
    subst (λ ns. CanAllRun (g.M.Model.meaning) c.in_ok-word.word ns c.begin_with.new.all.items) (sym c.take_nodes-nodes.ensures.nodes)
    (record {
      seat = new_seat c.in_ok-word.word c.floor_of-floor.result c.end_bound-end.result;
      alike = c.in_ok-word.ensures.new;
      can = can-run (g.M.Model.meaning) w c.requires.stands.0 c.requires.stands.1 c.in_ok-word.word c.end_bound-end.result c.floor_of-floor.result end known floors;
    })

pub put_nodes-requires-clause-nodes : goal.put_nodes-requires-clause-nodes
put_nodes-requires-clause-nodes g c lifetimes outlives =
    let w = c.args.world.now in
    let run = subst (λ ns. AllHaveRun (g.M.Model.meaning) c.args.setting.now.ahead ns c.in_ok-nodes.nodes.items) c.take_nodes-nodes.ensures.nodes c.in_ok-nodes.ensures in
    subst (λ v. AreNodesOf v.model v.terms v.homes c.in_ok-nodes.nodes.items) (sym c.take_nodes-nodes.ensures.world) (run-nodes (g.M.Model.meaning) w c.args.setting.now.ahead c.in_ok-nodes.nodes.items run c.requires.stands.0 c.requires.stands.1)

pub returns-clause-stands : goal.returns-clause-stands
returns-clause-stands g c s stands =
    let w = c.args.world.now in
    let run = subst (λ ns. AllHaveRun (g.M.Model.meaning) c.args.setting.now.ahead ns c.in_ok-nodes.nodes.items) c.take_nodes-nodes.ensures.nodes c.in_ok-nodes.ensures in
    let with_nodes : WorldView _ → WorldView _ = λ v. record v { nodes = c.in_ok-nodes.nodes.items } in
    let world : c.put_nodes.new.self ≡ record w { nodes = c.in_ok-nodes.nodes.items } = c.put_nodes.ensures.world ∙ ap with_nodes c.take_nodes-nodes.ensures.world in
    let law = rw c.terms-terms.ensures at (rw c.model.ensures at c.law_world.ensures.steps) in
    subst (λ v. StandsAt (g.M.Model.meaning w.model) v s) (sym world) (run-stands (g.M.Model.meaning) w c.args.setting.now.ahead c.in_ok-nodes.nodes.items run law s stands)

pub put_nodes-requires-clause-none : goal.put_nodes-requires-clause-none
put_nodes-requires-clause-none g c lifetimes outlives = ap (λ v. v.nodes) c.take_nodes-nodes.ensures.world

pub put_nodes-requires-clause-awake : goal.put_nodes-requires-clause-awake
put_nodes-requires-clause-awake g c lifetimes outlives = ap (λ v. v.is_spent) c.take_nodes-nodes.ensures.world ∙ c.requires.stands.1.has.awake

pub returns-in_err-word-clause-made : goal.returns-in_err-word-clause-made
returns-in_err-word-clause-made g c =
    let taken = c.take_nodes-nodes.ensures.world in
    record { model = ap (λ v. v.model) taken; terms = ap (λ v. v.terms) taken; homes = ap (λ v. v.homes) taken }

pub returns-in_err-nodes-clause-made : goal.returns-in_err-nodes-clause-made
returns-in_err-nodes-clause-made g c =
    let taken = c.take_nodes-nodes.ensures.world in
    record { model = ap (λ v. v.model) taken; terms = ap (λ v. v.terms) taken; homes = ap (λ v. v.homes) taken }

pub returns-clause-made : goal.returns-clause-made
returns-clause-made g c =
    let taken = c.take_nodes-nodes.ensures.world in
    let put = c.put_nodes.ensures.world in
    record {
      model = ap (λ v. v.model) put ∙ ap (λ v. v.model) taken;
      terms = ap (λ v. v.terms) put ∙ ap (λ v. v.terms) taken;
      homes = ap (λ v. v.homes) put ∙ ap (λ v. v.homes) taken;
    }

pub returns-clause-world : goal.returns-clause-world
returns-clause-world g c =
    let bare : WorldView _ → WorldView _ = λ v. record v { nodes = [] } in
    nodes-alone (bare c.args.world.now) c.take_nodes-nodes.new.self _ _ c.take_nodes-nodes.ensures.world c.put_nodes.ensures.world

pub returns-clause-run : goal.returns-clause-run
returns-clause-run g c =
    subst (λ ns. AllHaveRun g.M.Model.meaning c.args.setting.now.ahead c.args.world.now.nodes ns) (sym (ap (λ v. v.nodes) c.put_nodes.ensures.world))
    (subst (λ ns. AllHaveRun g.M.Model.meaning c.args.setting.now.ahead ns c.in_ok-nodes.nodes.items) c.take_nodes-nodes.ensures.nodes c.in_ok-nodes.ensures)
