-- The news find their places, and what has found its place is turned back.
use Rattle.std.proofs.Common.{◌≡◌, ◌-◌, List, length, sym, ap, ◌∙◌, subst, arith}
use Rattle.std.proofs.lemmas.List.{append-nil}
use Rattle.key_order.specs.Ascending.{Ascends}
use Rattle.object_log.specs.Carrying.{Placed, placed_key}
use Rattle.event_log.specs.Items.{CarriedView, Item, placed}
use Rattle.event_log.specs.Processing.{CanCarry, merged}
use Rattle.event_log.specs.Turning.{turned_back, turned_view}
use Rattle.event_log.proofs.FailFacts.{carried-went}
use Rattle.event_log.proofs.TurnLemmas.{can-same, same-long, start-turned, turned-long}
use Rattle.event_log.proofs.carried.Carried.carry.Goals as goal
use Rattle.event_log.proofs.carried.Carried.carry.Goals.{After-turn_back}

pub carry_into-turned-requires-clause-turned : goal.carry_into-turned-requires-clause-turned
carry_into-turned-requires-clause-turned c = start-turned c.self.inside.items.items c.self.invariant.0 c.self.invariant.1

pub carry_into-turned-requires-clause-can : goal.carry_into-turned-requires-clause-can
carry_into-turned-requires-clause-can c =
    let es = c.self.inside.items.items in
    let capacity = c.self.inside.items.capacity in
    let inside : CarriedView = record { items = placed es; room = capacity - length es } in
    let R : CarriedView → Type 0 = λ v. CanCarry c.args.places.now.items c.args.news.now v c.args.cells.now in
    let can = subst R (sym c.self.view_is) c.requires.can in
    can-same c.args.places.now.items c.args.news.now inside (turned_view 0 es capacity) c.args.cells.now can (ap placed (append-nil es)) (omega arith)

-- the same events, with what is carried now
same : (c : After-turn_back) → merged c.carry_into-turned.new.news.done c.carry_into-turned.new.places.items (placed c.turn_back.new.items.items)
    ≡ merged c.args.news.now.done c.args.places.now.items (placed c.self.inside.items.items)
same c =
    ap (merged c.carry_into-turned.new.news.done c.carry_into-turned.new.places.items) c.turn_back.ensures.same
    ∙ c.carry_into-turned.ensures.same
    ∙ ap (λ (is : List Item). merged c.args.news.now.done c.args.places.now.items (placed is)) (append-nil c.self.inside.items.items)

pub invariant_of-self : goal.invariant_of-self
invariant_of-self c =
    let old : CarriedView = record { items = placed c.self.inside.items.items; room = c.self.inside.items.capacity - length c.self.inside.items.items } in
    let C : CarriedView → Type 0 = λ v. CanCarry c.args.places.now.items c.args.news.now v c.args.cells.now in
    let can = subst C (sym c.self.view_is) c.requires.can in
    let can' = c.carry_into-turned.ensures.can in
    let now = c.carry_into-turned.new in
    let A : List Placed → Type 0 = λ ps. Ascends placed_key (merged now.news.done now.places.items ps) in
    let at = (goal.at.invariant_of-self c).After-turn_back in (
      c.turn_back.ensures.ordered,
      c.turn_back.ensures.held,
      (λ none.
          let went = c.may_fail_with-self-inside.ensures none in
          carried-went c.args.news.now.done now.news.done c.args.places.now.items now.places.items c.args.from old.items (placed c.turn_back.new.items.items)
          (same at) can.long can'.long can.ordered (subst A (sym c.turn_back.ensures.same) can'.ordered)
          c.carry_into-turned.ensures.done went.1 (c.self.invariant.2 went.0)),
    )

pub returns-clause-same : goal.returns-clause-same
returns-clause-same c =
    same (goal.at.returns-clause-same c).After-turn_back
    ∙ ap (λ (v : CarriedView). merged c.args.news.now.done c.args.places.now.items v.items) c.self.view_is

pub returns-clause-can : goal.returns-clause-can
returns-clause-can c =
    let n = c.carry_into-turned.result in
    let items = c.carry_into-turned.new.items in
    let turned = c.turn_back.new.items in
    let same = c.turn_back.ensures.same in
    let long = same-long turned.items (turned_back n items.items) same in
    let all = turned-long n items.items c.carry_into-turned.ensures.turned.within in
    let capacity = c.turn_back.ensures.capacity in
    let now : CarriedView = record { items = placed turned.items; room = turned.capacity - length turned.items } in
    can-same c.carry_into-turned.new.places.items c.carry_into-turned.new.news (turned_view n items.items items.capacity) now c.carry_into-turned.new.cells
    c.carry_into-turned.ensures.can same (omega arith)
