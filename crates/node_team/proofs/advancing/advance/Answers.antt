use Rattle.std.proofs.Common.{◌≡◌, ℕ, ◌≤◌, length, inl, refl, sym, ◌∙◌, ap, subst, arith}
use Rattle.std.proofs.Math.Nat.{le_of_eq, le_refl, le_trans}
use Rattle.event_key.specs.Stamps.{end_stamp}
use Rattle.node_core.specs.Nodes.{NodeView}
use Rattle.node_team.proofs.AdvanceLemmas.{held-floor, advancing-first, advancing-more, advancing-refused, advancing-left, advanced-left, idle-left, idle-later, one-fewer, small-on, told-none, told-on}
use Rattle.node_team.proofs.ForkLemmas.{err-on}
use Rattle.node_team.proofs.advancing.advance.Goals as goal

-- the word never rises
below-end : (below seen first end : ℕ) → below ≡ seen → seen ≤ first → first ≤ end → below ≤ end
below-end below seen first end is fell within = omega arith

pub offer-below-requires-clause-floor : goal.offer-below-requires-clause-floor
offer-below-requires-clause-floor g c some =
    held-floor (g.M.Model.meaning) c.args.node.now c.args.seat.now c.open_cycle-held.result c.requires.can c.know.ensures c.open_cycle-held.ensures.least some

pub near-init : goal.near-init
near-init g c =
    let end = c.requires.can.least in
    let is_end : c.end_bound-end.result ≡ end_stamp c.args.node.now.terms.end = c.end_bound-end.ensures ∙ ap (λ t. end_stamp t.end) c.terms.ensures in
    rw c.open_cycle-held.ensures.same (
      advancing-first (g.M.Model.meaning) c.args.node.now c.args.seat.now c.open_cycle-held.result c.offer-below.new.seat c.requires.can c.know.ensures c.open_cycle-held.ensures.least c.offer-below.ensures.step,
      c.offer-below.ensures.answer,
      c.offer-below.ensures.offered,
      c.offer-below.ensures.end,
      le_refl _,
      told-none (g.G.Gate.was_told c.args.gate.now c.args.node.now.number) c.args.node.now c.args.node.now refl,
    )

pub near-preserved : goal.near-preserved
near-preserved g c =
    let gone = rw c.in-Some.is at c.in_ok-answer.ensures.turn in
    let below = c.near.invariant.1 in
    let one = gone.did.processed in
    let deep = c.near.invariant.4 in
    let less = c.turn.ensures.end in
    let end = c.near.invariant.3 in (
      advancing-more (g.M.Model.meaning) c.args.node.now c.args.seat.now c.near.node c.near.seat c.near.invariant.0 c.near.below c.in-Some.answer c.turn.new.node c.turn.new.seat gone (below-end _ _ _ _ below c.near.invariant.0.seen c.requires.can.seen),
      gone.answer_is,
      c.turn.ensures.offered,
      le_trans less end,
      omega arith,
      told-on (g.G.Gate.was_told c.args.gate.now) c.args.node.now c.near.node c.turn.new.node c.near.invariant.0.works.same.number c.near.invariant.5 c.turn.ensures.told,
    )

pub far-preserved : goal.far-preserved
far-preserved g c =
    let gone = rw c.in-Some-2.is at c.in_ok-turn.ensures.turn in
    let end : c.end_bound-end.result ≡ end_stamp c.args.node.now.terms.end = c.end_bound-end.ensures ∙ ap (λ t. end_stamp t.end) c.terms.ensures in
    let one = gone.did.processed in
    let deep = c.far.invariant.4 in
    let less = c.turn-in-far.ensures.end in
    let before = c.far.invariant.3 in (
      advancing-more (g.M.Model.meaning) c.args.node.now c.args.seat.now c.far.node c.far.seat c.far.invariant.0 c.end_bound-end.result _ c.turn-in-far.new.node c.turn-in-far.new.seat gone (le_of_eq end),
      idle-later (g.M.Model.meaning) c.args.node.now c.args.seat.now c.far.node c.far.seat c.far.invariant.0 c.end_bound-end.result _ c.turn-in-far.new.node c.turn-in-far.new.seat gone c.know-in-far.ensures c.far.invariant.1,
      c.turn-in-far.ensures.offered,
      le_trans less before,
      omega arith,
      told-on (g.G.Gate.was_told c.args.gate.now) c.args.node.now c.far.node c.turn-in-far.new.node c.far.invariant.0.works.same.number c.far.invariant.5 c.turn-in-far.ensures.told,
    )

pub turn-requires-clause-bound : goal.turn-requires-clause-bound
turn-requires-clause-bound g c lifetimes outlives =
    let before = c.near.invariant.0 in
    subst (λ t. c.near.below ≤ end_stamp t.end) (sym before.works.same.terms) (below-end _ _ _ _ c.near.invariant.1 before.seen c.requires.can.seen)

pub turn-requires-in-far-clause-bound : goal.turn-requires-in-far-clause-bound
turn-requires-in-far-clause-bound g c lifetimes outlives =
    let end : c.end_bound-end.result ≡ end_stamp c.args.node.now.terms.end = c.end_bound-end.ensures ∙ ap (λ t. end_stamp t.end) c.terms.ensures in
    subst (λ t. c.end_bound-end.result ≤ end_stamp t.end) (sym c.far.invariant.0.works.same.terms) (le_of_eq end)

pub far-init : goal.far-init
far-init g c =
    let n = c.near.invariant in
    let left = rw c.in-None.is at c.in_ok-answer.ensures.turn in
    let same = ap (λ (x : NodeView _). length x.processed) left.0.unchanged in (
      advancing-left g.M.Model.meaning c.args.node.now c.args.seat.now c.near.node c.near.seat n.0 c.near.below c.turn.new.node c.turn.new.seat left.0 left.1,
      idle-left g.M.Model.meaning c.args.node.now c.args.seat.now c.near.node c.near.seat n.0 c.near.below c.turn.new.node c.turn.new.seat left.0 left.1 n.1,
      c.turn.ensures.offered,
      le_trans c.turn.ensures.end n.3,
      (let deep = n.4 in omega arith),
      told-on (g.G.Gate.was_told c.args.gate.now) c.args.node.now c.near.node c.turn.new.node n.0.works.same.number n.5 c.turn.ensures.told,
    )

pub returns-in_err-answer : goal.returns-in_err-answer
returns-in_err-answer g c =
    let so_far = c.near.invariant.0 in
    let seat = c.in_err-answer.ensures.seat in
    let gone = c.from_residual.ensures.0 in
    record {
      works = advancing-refused g.M.Model.meaning c.args.node.now c.args.seat.now c.near.node c.near.seat so_far c.turn.new.node c.in_err-answer.ensures.refused;
      seat = ap (λ s. s.word) seat ∙ so_far.word ∙ c.requires.seat;
      floor = ap (λ s. s.floor) seat ∙ so_far.floor;
      idle = err-on _ c.from_residual.result gone;
      offered = err-on _ c.from_residual.result gone;
      taken = err-on _ c.from_residual.result gone;
      deep = err-on _ c.from_residual.result gone;
      entered = subst (g.G.Gate.was_entered c.args.gate.now) c.number.ensures c.enter.ensures;
      told = told-on (g.G.Gate.was_told c.args.gate.now) c.args.node.now c.near.node c.turn.new.node so_far.works.same.number c.near.invariant.5 c.turn.ensures.told;
    }

pub returns-in_err-turn : goal.returns-in_err-turn
returns-in_err-turn g c =
    let so_far = c.far.invariant.0 in
    let seat = c.in_err-turn.ensures.seat in
    let gone = c.from_residual-in_err-turn.ensures.0 in
    record {
      works = advancing-refused g.M.Model.meaning c.args.node.now c.args.seat.now c.far.node c.far.seat so_far c.turn-in-far.new.node c.in_err-turn.ensures.refused;
      seat = ap (λ s. s.word) seat ∙ so_far.word ∙ c.requires.seat;
      floor = ap (λ s. s.floor) seat ∙ so_far.floor;
      idle = err-on _ c.from_residual-in_err-turn.result gone;
      offered = err-on _ c.from_residual-in_err-turn.result gone;
      taken = err-on _ c.from_residual-in_err-turn.result gone;
      deep = err-on _ c.from_residual-in_err-turn.result gone;
      entered = subst (g.G.Gate.was_entered c.args.gate.now) c.number.ensures c.enter.ensures;
      told = told-on (g.G.Gate.was_told c.args.gate.now) c.args.node.now c.far.node c.turn-in-far.new.node so_far.works.same.number c.far.invariant.5 c.turn-in-far.ensures.told;
    }

pub returns-in-None-2 : goal.returns-in-None-2
returns-in-None-2 g c =
    let so_far = c.far.invariant.0 in
    let left = rw c.in-None-2.is at c.in_ok-turn.ensures.turn in
    let end : c.end_bound-end.result ≡ end_stamp c.args.node.now.terms.end = c.end_bound-end.ensures ∙ ap (λ t. end_stamp t.end) c.terms.ensures in
    let on = advancing-left g.M.Model.meaning c.args.node.now c.args.seat.now c.far.node c.far.seat so_far c.end_bound-end.result c.turn-in-far.new.node c.turn-in-far.new.seat left.0 left.1 in
    let done = advanced-left g.M.Model.meaning c.args.node.now c.args.seat.now c.far.node c.far.seat so_far c.end_bound-end.result c.turn-in-far.new.node c.turn-in-far.new.seat left.0 left.1 c.args.ahead c.far.invariant.1 end in
    record {
      works = on.works;
      seat = on.word ∙ c.requires.seat;
      floor = on.floor;
      idle = done.idle;
      offered = done.offered;
      taken = done.taken;
      deep = done.deep;
      entered = subst (g.G.Gate.was_entered c.args.gate.now) c.number.ensures c.enter.ensures;
      told = told-on (g.G.Gate.was_told c.args.gate.now) c.args.node.now c.far.node c.turn-in-far.new.node so_far.works.same.number c.far.invariant.5 c.turn-in-far.ensures.told;
    }

pub returns : goal.returns
returns g c =
    let on = c.far.invariant.0 in
    let deep = c.far.invariant.4 in
    record {
      works = on.works;
      seat = on.word ∙ c.requires.seat;
      floor = on.floor;
      idle = c.far.invariant.1;
      offered = record { held = on.held; held_is = on.held_is; least = on.least };
      taken = on.taken;
      deep = inl (omega arith);
      entered = subst (g.G.Gate.was_entered c.args.gate.now) c.number.ensures c.enter.ensures;
      told = c.far.invariant.5;
    }

pub turn-requires-clause-small : goal.turn-requires-clause-small
turn-requires-clause-small g c lifetimes outlives = small-on g.M.Model.meaning c.args.node.now c.near.node c.near.invariant.0.works c.requires.can.small

pub turn-requires-in-far-clause-small : goal.turn-requires-in-far-clause-small
turn-requires-in-far-clause-small g c lifetimes outlives = small-on g.M.Model.meaning c.args.node.now c.far.node c.far.invariant.0.works c.requires.can.small

pub turn-requires-in-far-clause-seat : goal.turn-requires-in-far-clause-seat
turn-requires-in-far-clause-seat g c lifetimes outlives = c.far.invariant.0.word ∙ c.requires.seat

pub turn-requires-clause-seat : goal.turn-requires-clause-seat
turn-requires-clause-seat g c lifetimes outlives = c.near.invariant.0.word ∙ c.requires.seat

pub near-smaller : goal.near-smaller
near-smaller g c =
    let gone = rw c.in-Some.is at c.in_ok-answer.ensures.turn in
    one-fewer c.near.node.waiting c.turn.new.node.waiting gone.did.step.event gone.did.step.waits
