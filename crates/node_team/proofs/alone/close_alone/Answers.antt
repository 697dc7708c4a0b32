use Rattle.std.proofs.Common.{◌≡◌, ℕ, List, ap, sym, ◌∙◌, subst, length}
use Rattle.std.proofs.lemmas.List.{with_items_is}
use Rattle.event_key.specs.Stamps.{end_stamp}
use Rattle.node_core.specs.Nodes.{NodeView}
use Rattle.cycle_core.specs.Busy.{NamesBusy}
use Rattle.cycle_core.specs.Known.{AreKnown}
use Rattle.cycle_core.specs.Works.{AreSmall, HaveTerms, IsOpened}
use Rattle.cycle_core.specs.Worlds.{AreNodesOf, WorldView}
use Rattle.cycle_core.proofs.WorldLemmas.{all-small}
use Rattle.node_team.specs.Closes.{HasClosed}
use Rattle.node_team.specs.Forks.{AllHaveRun}
use Rattle.node_team.proofs.CycleLemmas.{closed-one}
use Rattle.node_team.proofs.RunningLemmas.{run-nodes}
use Rattle.node_team.proofs.alone.close_alone.Goals as goal

pub open_busy-opened-requires-clause-busy : goal.open_busy-opened-requires-clause-busy
open_busy-opened-requires-clause-busy g c lifetimes outlives =
    let w = c.args.world.now in
    let slice : c.as_mut_slice-all.result.now ≡ w.nodes = c.as_mut_slice-all.ensures.value ∙ c.take_nodes-nodes.ensures.nodes in
    let B : List (NodeView _) → Type 0 = λ ns. NamesBusy ns c.args.busy.now in
    subst B (sym slice) c.requires.busy

pub advance_each-requires-clause-busy : goal.advance_each-requires-clause-busy
advance_each-requires-clause-busy g c lifetimes outlives =
    let w = c.args.world.now in
    let slice : c.open_busy-opened.new.nodes ≡ w.nodes = c.open_busy-opened.ensures.same ∙ c.as_mut_slice-all.ensures.value ∙ c.take_nodes-nodes.ensures.nodes in
    let B : List (NodeView _) → Type 0 = λ ns. NamesBusy ns c.args.busy.now in
    subst B (sym slice) c.requires.busy

pub advance_each-requires-clause-small : goal.advance_each-requires-clause-small
advance_each-requires-clause-small g c lifetimes outlives =
    let w = c.args.world.now in
    let slice : c.as_mut_slice-all.result.now ≡ w.nodes = c.as_mut_slice-all.ensures.value ∙ c.take_nodes-nodes.ensures.nodes in
    let known = subst (AreKnown g.M.Model.meaning) slice (λ place x at. c.know_all.ensures place x at) in
    subst (AreSmall g.M.Model.meaning) (sym (c.open_busy-opened.ensures.same ∙ slice)) (all-small g.M.Model.meaning w c.requires.stands.0 c.requires.stands.1 known)

pub advance_each-requires-clause-terms : goal.advance_each-requires-clause-terms
advance_each-requires-clause-terms g c lifetimes outlives =
    let w = c.args.world.now in
    let slice : c.as_mut_slice-all.result.now ≡ w.nodes = c.as_mut_slice-all.ensures.value ∙ c.take_nodes-nodes.ensures.nodes in
    subst (HaveTerms c.terms-terms.result) (sym (c.open_busy-opened.ensures.same ∙ slice)) (λ place n at. (c.requires.stands.1.has.nodes.each place n at).terms_is ∙ sym c.terms-terms.ensures)

pub put_nodes-requires-clause-nodes : goal.put_nodes-requires-clause-nodes
put_nodes-requires-clause-nodes g c lifetimes outlives =
    let w = c.args.world.now in
    let slice : c.open_busy-opened.new.nodes ≡ w.nodes = c.open_busy-opened.ensures.same ∙ c.as_mut_slice-all.ensures.value ∙ c.take_nodes-nodes.ensures.nodes in
    let now = c.advance_each.new.nodes in
    let run = subst (λ ns. AllHaveRun g.M.Model.meaning c.args.setting.now.ahead ns now) slice c.in_ok-bound.ensures.run in
    let over = with_items_is c.take_nodes-nodes.result now (run.many ∙ ap length (sym c.take_nodes-nodes.ensures.nodes) ∙ sym c.take_nodes-nodes.result.ok.0) in
    subst (λ ns. AreNodesOf c.take_nodes-nodes.new.self.model c.take_nodes-nodes.new.self.terms c.take_nodes-nodes.new.self.homes ns) (sym over)
    (subst (λ v. AreNodesOf v.model v.terms v.homes now) (sym c.take_nodes-nodes.ensures.world) (run-nodes g.M.Model.meaning w c.args.setting.now.ahead now run c.requires.stands.0 c.requires.stands.1))

pub returns-clause-closed : goal.returns-clause-closed
returns-clause-closed g c =
    let w = c.args.world.now in
    let slice : c.open_busy-opened.new.nodes ≡ w.nodes = c.open_busy-opened.ensures.same ∙ c.as_mut_slice-all.ensures.value ∙ c.take_nodes-nodes.ensures.nodes in
    let now = c.advance_each.new.nodes in
    let run = subst (λ ns. AllHaveRun g.M.Model.meaning c.args.setting.now.ahead ns now) slice c.in_ok-bound.ensures.run in
    let over = with_items_is c.take_nodes-nodes.result now (run.many ∙ ap length (sym c.take_nodes-nodes.ensures.nodes) ∙ sym c.take_nodes-nodes.result.ok.0) in
    let with_nodes : WorldView _ → WorldView _ = λ v. record v { nodes = now } in
    let with_items : _ → WorldView _ = λ ns. record c.take_nodes-nodes.new.self { nodes = ns } in
    let world : c.put_nodes.new.self ≡ record w { nodes = now } = c.put_nodes.ensures.world ∙ ap with_items over ∙ ap with_nodes c.take_nodes-nodes.ensures.world in
    let law = rw c.terms-terms.ensures at (rw c.model.ensures at c.law_world.ensures.steps) in
    let opened = subst (λ t. IsOpened g.M.Model.meaning (end_stamp t.end) now c.in_ok-bound.bound) c.terms-terms.ensures c.in_ok-bound.ensures.opened in
    subst (λ v. HasClosed g.M.Model.meaning c.args.setting.now.ahead w v c.in_ok-bound.bound) (sym world)
    (closed-one g.M.Model.meaning c.args.setting.now.ahead w now c.in_ok-bound.bound c.requires.stands.0 c.requires.stands.1 law run opened (λ place n at. c.in_ok-bound.ensures.idle place n at))

pub advance_each-requires-clause-opened : goal.advance_each-requires-clause-opened
advance_each-requires-clause-opened g c lifetimes outlives =
    let N : List (NodeView _) → Type 0 = λ ns. IsOpened g.M.Model.meaning (end_stamp c.terms-terms.result.end) ns c.open_busy-opened.result in
    let E : ℕ → Type 0 = λ end. IsOpened g.M.Model.meaning end c.as_mut_slice-all.result.now c.open_busy-opened.result in
    subst N (sym c.open_busy-opened.ensures.same) (subst E c.end_bound-end.ensures c.open_busy-opened.ensures.opened)

pub put_nodes-requires-clause-none : goal.put_nodes-requires-clause-none
put_nodes-requires-clause-none g c lifetimes outlives = ap (λ v. v.nodes) c.take_nodes-nodes.ensures.world

pub put_nodes-requires-clause-awake : goal.put_nodes-requires-clause-awake
put_nodes-requires-clause-awake g c lifetimes outlives = ap (λ v. v.is_spent) c.take_nodes-nodes.ensures.world ∙ c.requires.stands.1.has.awake

pub returns-in_err-bound-clause-made : goal.returns-in_err-bound-clause-made
returns-in_err-bound-clause-made g c =
    let taken = c.take_nodes-nodes.ensures.world in
    record { model = ap (λ v. v.model) taken; terms = ap (λ v. v.terms) taken; homes = ap (λ v. v.homes) taken }

pub returns-clause-made : goal.returns-clause-made
returns-clause-made g c =
    let taken = c.take_nodes-nodes.ensures.world in
    let put = c.put_nodes.ensures.world in
    record {
      model = ap (λ v. v.model) put ∙ ap (λ v. v.model) taken;
      terms = ap (λ v. v.terms) put ∙ ap (λ v. v.terms) taken;
      homes = ap (λ v. v.homes) put ∙ ap (λ v. v.homes) taken;
    }
