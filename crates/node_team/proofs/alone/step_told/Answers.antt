use Rattle.std.proofs.Common.{◌≡◌, ℕ, ◌∙◌, ap, subst}
use Rattle.node_team.proofs.AdvanceLemmas.{told-none, told-one}
use Rattle.node_team.proofs.alone.step_told.Goals as goal

pub returns-in-Did-clause-told : goal.returns-in-Did-clause-told
returns-in-Did-clause-told g c =
    let n = c.args.node.now in
    let did = rw c.in-Did.is at c.in_ok-step_small.ensures.ok in
    let same : c.number.result ≡ n.number = c.number.ensures ∙ did.same.number in
    let P : ℕ → Type 0 = λ k. g.G.Gate.was_told c.args.gate.now k c.in-Did.key in
    told-one (g.G.Gate.was_told c.args.gate.now n.number) (g.M.Model.meaning n.model) c.args.bound n c.step_small.new.node c.in-Did.key c.in-Did.least did (subst P same c.did.ensures)

pub returns-in_err-step_small-clause-told : goal.returns-in_err-step_small-clause-told
returns-in_err-step_small-clause-told g c =
    told-none (g.G.Gate.was_told c.args.gate.now c.args.node.now.number) c.args.node.now c.step_small.new.node c.in_err-step_small.ensures.err.logs

pub returns-in-Idle-clause-told : goal.returns-in-Idle-clause-told
returns-in-Idle-clause-told g c =
    let left = rw c.in-Idle.is at c.in_ok-step_small.ensures.ok in
    told-none (g.G.Gate.was_told c.args.gate.now c.args.node.now.number) c.args.node.now c.step_small.new.node (ap (λ n. n.logs) left.unchanged)

pub returns-in-Did-clause-ok : goal.returns-in-Did-clause-ok
returns-in-Did-clause-ok g c = rw c.in-Did.is at c.in_ok-step_small.ensures.ok
