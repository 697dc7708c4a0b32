use Rattle.std.proofs.Common.{◌≡◌, ◌∙◌, ◌<◌, ℕ, ap, length, subst, sym}
use Rattle.std.proofs.lemmas.Result.{IfOk-weaker}
use Rattle.std.specs.Prelude.{Err, IfOk, Ok, Result}
use Rattle.sim_spec.specs.declared.terms.Terms.{Terms}
use Rattle.node_core.specs.Calls.{IsNewNode}
use Rattle.node_core.specs.Homes.{HomesView}
use Rattle.node_core.specs.Nodes.{NodeView}
use Rattle.cycle_core.specs.Worlds.{IsNodeOf}
use Rattle.cycle_core.proofs.beginning.first_node.Goals as goal

-- what a node was made with, by copies of the model and of the homes
made-with : {M E : Type 0} (copy model : M) (terms : Terms) (copied homes : HomesView) (number : ℕ) (made : Result (NodeView M) E) → copy ≡ model → copied ≡ homes
    → IfOk made (λ n. n.model ≡ copy) → IfOk made (λ n. n.terms ≡ terms) → IfOk made (λ n. n.homes ≡ copied) → IfOk made (λ n. n.number ≡ number)
    → IfOk made (IsNodeOf model terms homes number)
made-with copy model terms copied homes number (Ok n) m h model_is terms_is homes_is number_is = record { model_is = model_is ∙ m; terms_is = terms_is; homes_is = homes_is ∙ h; number_is = number_is }
made-with copy model terms copied homes number (Err e) m h model_is terms_is homes_is number_is = tt

pub new-requires-clause-number : goal.new-requires-clause-number
new-requires-clause-number g c lifetimes outlives = subst (λ h. c.args.number < h.nodes) (sym c.in_ok-clone-2.ensures.cases) c.requires.number

pub new-requires-clause-objects : goal.new-requires-clause-objects
new-requires-clause-objects g c lifetimes outlives =
    ap (λ h. length h.homes) c.in_ok-clone-2.ensures.cases ∙ c.requires.objects ∙ sym (ap (λ v. (g.M.Model.meaning v).objects) c.in_ok-clone.ensures.cases)

pub returns-clause-made : goal.returns-clause-made
returns-clause-made g c =
    made-with c.in_ok-clone.field-0.value c.args.model.now.value c.args.terms c.in_ok-clone-2.field-0.value c.args.homes.now.value c.args.number c.new.result c.in_ok-clone.ensures.cases c.in_ok-clone-2.ensures.cases
    c.new.ensures.model c.new.ensures.terms c.new.ensures.homes c.new.ensures.number

pub returns-clause-new : goal.returns-clause-new
returns-clause-new g c =
    IfOk-weaker c.new.result (IsNewNode (g.M.Model.meaning c.in_ok-clone.field-0.value)) (IsNewNode (g.M.Model.meaning c.args.model.now.value))
    (λ node new. subst (λ v. IsNewNode (g.M.Model.meaning v) node) c.in_ok-clone.ensures.cases new) c.new.ensures.new
