use Rattle.std.proofs.Common.{◌≡◌, [], length, refl, sym, ap, ◌∙◌, subst}
use Rattle.std.specs.Prelude.{slice_get}
use Rattle.std.proofs.lemmas.List.{with_items_is}
use Rattle.model_core.specs.Meaning.{MeaningLaws}
use Rattle.cycle_core.specs.Blank.{AreBlankLists}
use Rattle.cycle_core.specs.Cuts.{CanEnd, HaveEnded}
use Rattle.cycle_core.specs.Known.{AreKnown}
use Rattle.cycle_core.specs.Worlds.{WorldView, HasNodes, AreNodesOf}
use Rattle.cycle_core.proofs.ChangedNodes.{nodes-alone}
use Rattle.cycle_core.proofs.CycleFacts.{can-end, cut-answers}
use Rattle.cycle_core.proofs.WholeCycle.{whole-cycle}
use Rattle.node_team.specs.Readiness.{IsReady}
use Rattle.node_team.proofs.CycleLemmas.{none-worked}
use Rattle.node_team.proofs.ending.release_world.Goals as goal

pub take_nodes-nodes-requires-after_bounds : goal.take_nodes-nodes-requires-after_bounds
take_nodes-nodes-requires-after_bounds g c lifetimes outlives = subst HasNodes (sym c.take_lists.ensures.same) c.requires.stands.1.has

pub end_nodes-requires-clause-can : goal.end_nodes-requires-clause-can
end_nodes-requires-clause-can g c lifetimes outlives =
    let w = c.args.world.now in
    let items : c.take_nodes-nodes.result.items ≡ w.nodes = c.take_nodes-nodes.ensures.nodes ∙ ap (λ v. v.nodes) c.take_lists.ensures.same in
    let known = subst (AreKnown g.M.Model.meaning) (c.deref.ensures.value ∙ items) (λ place x at. c.know_all.ensures place x at) in
    let laws = subst (λ v. MeaningLaws (g.M.Model.meaning v)) c.model.ensures c.keeps_laws.ensures in
    let s = c.requires.stands.0 in
    let stands = c.requires.stands.1 in
    subst (CanEnd g.M.Model.meaning c.args.bound c.args.cut.now.below) (sym (c.as_mut_slice.ensures.value ∙ items))
    (can-end g.M.Model.meaning w laws s stands c.args.bound c.requires.closed known c.args.cut.now.below
    (cut-answers g.M.Model.meaning w laws s stands c.args.bound c.requires.closed known c.args.cut.now c.requires.cut).below)

pub end_nodes-requires-clause-numbered : goal.end_nodes-requires-clause-numbered
end_nodes-requires-clause-numbered g c lifetimes outlives place x at =
    let items : c.take_nodes-nodes.result.items ≡ c.args.world.now.nodes = c.take_nodes-nodes.ensures.nodes ∙ ap (λ v. v.nodes) c.take_lists.ensures.same in
    (c.requires.stands.1.has.nodes.each place x (ap (λ l. slice_get l place) (sym (c.as_mut_slice.ensures.value ∙ items)) ∙ at)).number_is

pub put_nodes-requires-clause-nodes : goal.put_nodes-requires-clause-nodes
put_nodes-requires-clause-nodes g c lifetimes outlives =
    let w = c.args.world.now in
    let items : c.take_nodes-nodes.result.items ≡ w.nodes = c.take_nodes-nodes.ensures.nodes ∙ ap (λ v. v.nodes) c.take_lists.ensures.same in
    let known = subst (AreKnown g.M.Model.meaning) (c.deref.ensures.value ∙ items) (λ place x at. c.know_all.ensures place x at) in
    let laws = subst (λ v. MeaningLaws (g.M.Model.meaning v)) c.model.ensures c.keeps_laws.ensures in
    let s = c.requires.stands.0 in
    let stands = c.requires.stands.1 in
    let slice = c.as_mut_slice.ensures.value in
    let new = c.end_nodes.new.nodes in
    let over = with_items_is c.take_nodes-nodes.result new (c.end_nodes.auto.nodes ∙ ap length slice ∙ sym c.take_nodes-nodes.result.ok.0) in
    let records = c.in_ok-records.records.items in
    let ended = subst (λ ns. HaveEnded g.M.Model.meaning c.args.bound c.args.cut.now.below ns new records) (slice ∙ items) c.in_ok-records.ensures.ended in
    let last : WorldView _ = record w { nodes = new } in
    let cycled = whole-cycle g.M.Model.meaning w w last c.args.bound c.args.cut.now records refl c.requires.closed (λ s at. at) c.requires.cut laws known (none-worked g.M.Model.meaning w.nodes)
    (λ place x at. c.in_ok-records.ensures.known place x at) refl ended s stands in
    let bare : WorldView _ → WorldView _ = λ v. record v { nodes = [] } in
    subst (λ ns. AreNodesOf c.take_nodes-nodes.new.self.model c.take_nodes-nodes.new.self.terms c.take_nodes-nodes.new.self.homes ns) (sym over)
    (subst (λ v. AreNodesOf v.model v.terms v.homes new) (sym (c.take_nodes-nodes.ensures.world ∙ ap bare c.take_lists.ensures.same)) cycled.has.nodes)

pub returns-clause-known : goal.returns-clause-known
returns-clause-known g c place x at =
    let w = c.args.world.now in
    let items : c.take_nodes-nodes.result.items ≡ w.nodes = c.take_nodes-nodes.ensures.nodes ∙ ap (λ v. v.nodes) c.take_lists.ensures.same in
    let known = subst (AreKnown g.M.Model.meaning) (c.deref.ensures.value ∙ items) (λ place x at. c.know_all.ensures place x at) in
    known place x at

pub returns-clause-known_now : goal.returns-clause-known_now
returns-clause-known_now g c place x at =
    let new = c.end_nodes.new.nodes in
    let over = with_items_is c.take_nodes-nodes.result new (c.end_nodes.auto.nodes ∙ ap length c.as_mut_slice.ensures.value ∙ sym c.take_nodes-nodes.result.ok.0) in
    subst (AreKnown g.M.Model.meaning) (sym (ap (λ v. v.nodes) (c.put_lists.ensures ∙ c.put_nodes.ensures.world) ∙ over)) (λ place x at. c.in_ok-records.ensures.known place x at) place x at

pub end_nodes-requires-clause-ready : goal.end_nodes-requires-clause-ready
end_nodes-requires-clause-ready g c lifetimes outlives =
    let items : c.take_nodes-nodes.result.items ≡ c.args.world.now.nodes = c.take_nodes-nodes.ensures.nodes ∙ ap (λ v. v.nodes) c.take_lists.ensures.same in
    let many = c.requires.stands.1.has.nodes.many in
    subst (λ n. IsReady g.L.Lanes.nodes g.L.Lanes.are_at_rest n c.args.kept.now) (sym (ap length (c.as_mut_slice.ensures.value ∙ items) ∙ many)) c.requires.ready

pub end_nodes-requires-clause-blank : goal.end_nodes-requires-clause-blank
end_nodes-requires-clause-blank g c lifetimes outlives =
    let items : c.take_nodes-nodes.result.items ≡ c.args.world.now.nodes = c.take_nodes-nodes.ensures.nodes ∙ ap (λ v. v.nodes) c.take_lists.ensures.same in
    let many = c.requires.stands.1.has.nodes.many in
    subst (AreBlankLists (length c.as_mut_slice.result.now)) (sym c.deref_mut.ensures.value)
    (subst (λ n. AreBlankLists n c.in_ok-lists.lists.value) (sym (ap length (c.as_mut_slice.ensures.value ∙ items) ∙ many)) c.in_ok-lists.ensures.blank)

pub returns-in_err-lists-clause-laws : goal.returns-in_err-lists-clause-laws
returns-in_err-lists-clause-laws g c = subst (λ v. MeaningLaws (g.M.Model.meaning v)) c.model.ensures c.keeps_laws.ensures

pub returns-in_err-lists-clause-made : goal.returns-in_err-lists-clause-made
returns-in_err-lists-clause-made g c =
    let same = c.take_lists.ensures.same in
    record { model = ap (λ v. v.model) same; terms = ap (λ v. v.terms) same; homes = ap (λ v. v.homes) same }

pub returns-in_err-records-clause-laws : goal.returns-in_err-records-clause-laws
returns-in_err-records-clause-laws g c = subst (λ v. MeaningLaws (g.M.Model.meaning v)) c.model.ensures c.keeps_laws.ensures

pub returns-in_err-records-clause-made : goal.returns-in_err-records-clause-made
returns-in_err-records-clause-made g c =
    let same = c.take_lists.ensures.same in
    let taken = c.take_nodes-nodes.ensures.world in
    record {
      model = ap (λ v. v.model) taken ∙ ap (λ v. v.model) same;
      terms = ap (λ v. v.terms) taken ∙ ap (λ v. v.terms) same;
      homes = ap (λ v. v.homes) taken ∙ ap (λ v. v.homes) same;
    }

pub returns-clause-laws : goal.returns-clause-laws
returns-clause-laws g c = subst (λ v. MeaningLaws (g.M.Model.meaning v)) c.model.ensures c.keeps_laws.ensures

pub returns-clause-made : goal.returns-clause-made
returns-clause-made g c =
    let same = c.take_lists.ensures.same in
    let taken = c.take_nodes-nodes.ensures.world in
    let put = c.put_lists.ensures ∙ c.put_nodes.ensures.world in
    record {
      model = ap (λ v. v.model) put ∙ ap (λ v. v.model) taken ∙ ap (λ v. v.model) same;
      terms = ap (λ v. v.terms) put ∙ ap (λ v. v.terms) taken ∙ ap (λ v. v.terms) same;
      homes = ap (λ v. v.homes) put ∙ ap (λ v. v.homes) taken ∙ ap (λ v. v.homes) same;
    }

pub returns-clause-ready : goal.returns-clause-ready
returns-clause-ready g c =
    let items : c.take_nodes-nodes.result.items ≡ c.args.world.now.nodes = c.take_nodes-nodes.ensures.nodes ∙ ap (λ v. v.nodes) c.take_lists.ensures.same in
    let many = c.requires.stands.1.has.nodes.many in
    subst (λ n. IsReady g.L.Lanes.nodes g.L.Lanes.are_at_rest n c.end_nodes.new.kept) (ap length (c.as_mut_slice.ensures.value ∙ items) ∙ many) c.in_ok-records.ensures.ready

pub returns-clause-ended : goal.returns-clause-ended
returns-clause-ended g c =
    let w = c.args.world.now in
    let items : c.take_nodes-nodes.result.items ≡ w.nodes = c.take_nodes-nodes.ensures.nodes ∙ ap (λ v. v.nodes) c.take_lists.ensures.same in
    let slice = c.as_mut_slice.ensures.value in
    let new = c.end_nodes.new.nodes in
    let over = with_items_is c.take_nodes-nodes.result new (c.end_nodes.auto.nodes ∙ ap length slice ∙ sym c.take_nodes-nodes.result.ok.0) in
    let ended = subst (λ ns. HaveEnded g.M.Model.meaning c.args.bound c.args.cut.now.below ns new c.in_ok-records.records.items) (slice ∙ items) c.in_ok-records.ensures.ended in
    subst (λ ns. HaveEnded g.M.Model.meaning c.args.bound c.args.cut.now.below w.nodes ns c.in_ok-records.records.items) (sym (ap (λ v. v.nodes) (c.put_lists.ensures ∙ c.put_nodes.ensures.world) ∙ over)) ended

pub put_nodes-requires-clause-none : goal.put_nodes-requires-clause-none
put_nodes-requires-clause-none g c lifetimes outlives = ap (λ v. v.nodes) c.take_nodes-nodes.ensures.world

pub put_nodes-requires-clause-awake : goal.put_nodes-requires-clause-awake
put_nodes-requires-clause-awake g c lifetimes outlives =
    ap (λ v. v.is_spent) c.take_nodes-nodes.ensures.world ∙ ap (λ v. v.is_spent) c.take_lists.ensures.same ∙ c.requires.stands.1.has.awake

pub put_lists-requires-after_bounds : goal.put_lists-requires-after_bounds
put_lists-requires-after_bounds g c lifetimes outlives =
    let items : c.take_nodes-nodes.result.items ≡ c.args.world.now.nodes = c.take_nodes-nodes.ensures.nodes ∙ ap (λ v. v.nodes) c.take_lists.ensures.same in
    let homes = ap (λ v. v.homes.nodes) c.put_nodes.ensures.world ∙ ap (λ v. v.homes.nodes) c.take_nodes-nodes.ensures.world ∙ ap (λ v. v.homes.nodes) c.take_lists.ensures.same in
    subst (λ n. AreBlankLists n c.end_nodes.new.lists) (ap length (c.as_mut_slice.ensures.value ∙ items) ∙ c.requires.stands.1.has.nodes.many ∙ sym homes) c.in_ok-records.ensures.blank

pub returns-clause-world : goal.returns-clause-world
returns-clause-world g c =
    let bare : WorldView _ → WorldView _ = λ v. record v { nodes = [] } in
    let taken = c.take_nodes-nodes.ensures.world ∙ ap bare c.take_lists.ensures.same in
    nodes-alone (bare c.args.world.now) c.take_nodes-nodes.new.self _ _ taken (c.put_lists.ensures ∙ c.put_nodes.ensures.world)
