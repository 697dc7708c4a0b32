use Rattle.std.proofs.Common.{◌≡◌, ◌≤◌, length, inl, refl, sym, ap, ◌∙◌, subst, arith}
use Rattle.std.proofs.Math.Nat.{le_of_eq, le_refl, le_trans}
use Rattle.event_key.specs.Stamps.{end_stamp}
use Rattle.node_core.specs.Nodes.{NodeView}
use Rattle.cycle_core.specs.Works.{IsSettled, WorksOn}
use Rattle.cycle_core.proofs.WorkLemmas.{settling-first, settling-more, works-refused}
use Rattle.node_team.proofs.AdvanceLemmas.{one-fewer, small-on, told-none, told-on}
use Rattle.node_team.proofs.AloneLemmas.{past-deep, past-first, past-more, past-settled}
use Rattle.node_team.proofs.alone.advance_alone.Goals as goal

pub step_told-requires-clause-bound : goal.step_told-requires-clause-bound
step_told-requires-clause-bound g c lifetimes outlives =
    let before = c.near.invariant.0 in
    subst (λ t. c.near.fallen ≤ end_stamp t.end) (sym before.works.same.terms) (le_trans before.within c.requires.within)

pub near-init : goal.near-init
near-init g c = (
  settling-first g.M.Model.meaning c.args.node.now c.args.bound c.requires.from,
  le_refl _,
  told-none (g.G.Gate.was_told c.args.gate.now c.args.node.now.number) c.args.node.now c.args.node.now refl,
)

pub returns-in_err-least-clause-works : goal.returns-in_err-least-clause-works
returns-in_err-least-clause-works g c =
    works-refused g.M.Model.meaning c.args.node.now c.near.node c.step_told.new.node c.near.invariant.0.works c.in_err-least.ensures.err

pub returns-in_err-least-clause-told : goal.returns-in_err-least-clause-told
returns-in_err-least-clause-told g c =
    told-on (g.G.Gate.was_told c.args.gate.now) c.args.node.now c.near.node c.step_told.new.node c.near.invariant.0.works.same.number c.near.invariant.2 c.step_told.ensures.told

pub near-preserved : goal.near-preserved
near-preserved g c =
    let did = rw c.in-Did.is at c.in_ok-least.ensures.ok in
    let before = c.near.invariant in
    let within = c.requires.within in
    let low = before.0.within in
    let one = did.processed in
    let deep = before.1 in (
      rw c.min-fallen.ensures
          (settling-more g.M.Model.meaning c.args.node.now c.args.bound c.near.fallen c.near.fallen c.in-Did.least c.in-Did.key c.near.node c.step_told.new.node (le_trans low within) before.0 did),
      omega arith,
      told-on (g.G.Gate.was_told c.args.gate.now) c.args.node.now c.near.node c.step_told.new.node before.0.works.same.number before.2 c.step_told.ensures.told,
    )

pub far-init : goal.far-init
far-init g c =
    let left = rw c.in-Idle.is at c.in_ok-least.ensures.ok in
    let before = c.near.invariant in
    let deep = before.1 in
    let same = ap (λ (n : NodeView _). length n.processed) left.unchanged in (
      past-first g.M.Model.meaning c.args.node.now c.args.bound c.near.fallen c.near.node c.step_told.new.node before.0 left,
      omega arith,
      told-on (g.G.Gate.was_told c.args.gate.now) c.args.node.now c.near.node c.step_told.new.node before.0.works.same.number before.2 c.step_told.ensures.told,
    )

pub returns-in_err-least-2-clause-works : goal.returns-in_err-least-2-clause-works
returns-in_err-least-2-clause-works g c =
    works-refused g.M.Model.meaning c.args.node.now c.far.node c.step_told-in-far.new.node c.far.invariant.0.settling.works c.in_err-least-2.ensures.err

pub returns-in_err-least-2-clause-told : goal.returns-in_err-least-2-clause-told
returns-in_err-least-2-clause-told g c =
    told-on (g.G.Gate.was_told c.args.gate.now) c.args.node.now c.far.node c.step_told-in-far.new.node c.far.invariant.0.settling.works.same.number c.far.invariant.2 c.step_told-in-far.ensures.told

pub returns-in-Idle-2-clause-settled : goal.returns-in-Idle-2-clause-settled
returns-in-Idle-2-clause-settled g c =
    let left = rw c.in-Idle-2.is at c.in_ok-least-2.ensures.ok in
    subst (λ n. IsSettled (g.M.Model.meaning c.args.node.now.model) c.args.bound c.far.fallen n) (sym left.unchanged)
    (past-settled g.M.Model.meaning c.args.node.now c.args.bound c.far.fallen c.far.node c.far.invariant.0)

pub returns-in-Idle-2-clause-told : goal.returns-in-Idle-2-clause-told
returns-in-Idle-2-clause-told g c =
    told-on (g.G.Gate.was_told c.args.gate.now) c.args.node.now c.far.node c.step_told-in-far.new.node c.far.invariant.0.settling.works.same.number c.far.invariant.2 c.step_told-in-far.ensures.told

pub far-preserved : goal.far-preserved
far-preserved g c =
    let did = rw c.in-Did-2.is at c.in_ok-least-2.ensures.ok in
    let before = c.far.invariant in
    let end : c.end_bound-end.result ≡ end_stamp c.args.node.now.terms.end = c.end_bound-end.ensures ∙ ap (λ t. end_stamp t.end) c.terms.ensures in
    let one = did.processed in
    let deep = before.1 in (
      rw c.min-fallen-in-Did-2.ensures
          (past-more g.M.Model.meaning c.args.node.now c.args.bound c.far.fallen c.far.node c.end_bound-end.result c.in-Did-2.least c.in-Did-2.key c.step_told-in-far.new.node (omega arith) c.know.ensures before.0 did),
      omega arith,
      told-on (g.G.Gate.was_told c.args.gate.now) c.args.node.now c.far.node c.step_told-in-far.new.node before.0.settling.works.same.number before.2 c.step_told-in-far.ensures.told,
    )

pub step_told-requires-clause-small : goal.step_told-requires-clause-small
step_told-requires-clause-small g c lifetimes outlives = small-on g.M.Model.meaning c.args.node.now c.near.node c.near.invariant.0.works c.requires.small

pub step_told-requires-in-far-clause-small : goal.step_told-requires-in-far-clause-small
step_told-requires-in-far-clause-small g c lifetimes outlives = small-on g.M.Model.meaning c.args.node.now c.far.node c.far.invariant.0.settling.works c.requires.small

pub step_told-requires-in-far-clause-bound : goal.step_told-requires-in-far-clause-bound
step_told-requires-in-far-clause-bound g c lifetimes outlives =
    let end : c.end_bound-end.result ≡ end_stamp c.args.node.now.terms.end = c.end_bound-end.ensures ∙ ap (λ t. end_stamp t.end) c.terms.ensures in
    subst (λ t. c.end_bound-end.result ≤ end_stamp t.end) (sym c.far.invariant.0.settling.works.same.terms) (le_of_eq end)

pub near-smaller : goal.near-smaller
near-smaller g c =
    let did = rw c.in-Did.is at c.in_ok-least.ensures.ok in
    one-fewer c.near.node.waiting c.step_told.new.node.waiting did.step.event did.step.waits

pub returns-in_err-least-clause-entered : goal.returns-in_err-least-clause-entered
returns-in_err-least-clause-entered g c = subst (g.G.Gate.was_entered c.args.gate.now) c.number.ensures c.enter.ensures

pub returns-in_err-least-2-clause-entered : goal.returns-in_err-least-2-clause-entered
returns-in_err-least-2-clause-entered g c = subst (g.G.Gate.was_entered c.args.gate.now) c.number.ensures c.enter.ensures

pub returns-in-Idle-2-clause-entered : goal.returns-in-Idle-2-clause-entered
returns-in-Idle-2-clause-entered g c = subst (g.G.Gate.was_entered c.args.gate.now) c.number.ensures c.enter.ensures

pub returns-in-Idle-2-clause-works : goal.returns-in-Idle-2-clause-works
returns-in-Idle-2-clause-works g c =
    let left = rw c.in-Idle-2.is at c.in_ok-least-2.ensures.ok in
    subst (λ n. WorksOn (g.M.Model.meaning c.args.node.now.model) c.args.node.now n) (sym left.unchanged) c.far.invariant.0.settling.works

pub returns-in-Idle-2-clause-deep : goal.returns-in-Idle-2-clause-deep
returns-in-Idle-2-clause-deep g c =
    let left = rw c.in-Idle-2.is at c.in_ok-least-2.ensures.ok in
    let end : c.end_bound-end.result ≡ end_stamp c.args.node.now.terms.end = c.end_bound-end.ensures ∙ ap (λ t. end_stamp t.end) c.terms.ensures in
    past-deep g.M.Model.meaning c.args.node.now c.args.bound c.far.fallen c.far.node c.args.ahead c.end_bound-end.result c.step_told-in-far.new.node c.far.invariant.0 left end

pub returns : goal.returns
returns g c =
    let past = c.far.invariant.0 in
    let deep = c.far.invariant.1 in
    record {
      settled = past-settled g.M.Model.meaning c.args.node.now c.args.bound c.far.fallen c.far.node past;
      deep = inl (omega arith);
      works = past.settling.works;
      entered = subst (g.G.Gate.was_entered c.args.gate.now) c.number.ensures c.enter.ensures;
      told = c.far.invariant.2;
    }
