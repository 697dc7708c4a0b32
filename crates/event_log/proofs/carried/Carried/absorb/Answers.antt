-- All find their places, and what has found its place is turned back.
use Rattle.std.proofs.Common.{List, length, map, sym, ap, ◌∙◌, subst, arith}
use Rattle.std.proofs.lemmas.List.{length-map}
use Rattle.key_order.specs.Ascending.{Ascends}
use Rattle.key_order.proofs.AscendingLemmas.{Ascends-map, Ascends-mapped}
use Rattle.object_log.specs.Carrying.{Placed, placed_key}
use Rattle.object_log.specs.Weave.{weave}
use Rattle.object_log.proofs.WeaveLemmas.{weave-below}
use Rattle.event_log.specs.Items.{CarriedView, placed, placed_of}
use Rattle.event_log.specs.Moves.{shifted}
use Rattle.event_log.proofs.TurnLemmas.{start-turned}
use Rattle.event_log.proofs.carried.Carried.absorb.Goals as goal

pub join_all-turned-requires-clause-turned : goal.join_all-turned-requires-clause-turned
join_all-turned-requires-clause-turned c =
    let es = c.settle.new.items.items in
    let come = map (shifted 0 c.args.to) (placed c.args.items.items) in
    let up = weave-below placed_key c.args.self.now.items come c.requires.ordered in
    start-turned es (Ascends-mapped placed_key placed_of es (subst (Ascends placed_key) (sym c.settle.ensures.items) up)) c.settle.ensures.held

pub join_all-turned-requires-clause-ordered : goal.join_all-turned-requires-clause-ordered
join_all-turned-requires-clause-ordered c =
    let V : CarriedView → Type 0 = λ v. Ascends placed_key (weave placed_key v.items (placed c.settle.new.items.items)) in
    let W : List Placed → Type 0 = λ come. Ascends placed_key (weave placed_key c.args.self.now.items come) in
    subst V (sym c.self.view_is) (subst W (sym c.settle.ensures.items) c.requires.ordered)

pub join_all-turned-requires-clause-others : goal.join_all-turned-requires-clause-others
join_all-turned-requires-clause-others c = Ascends-map placed_key placed_of c.self.inside.items.items c.self.invariant.0

pub join_all-turned-requires-clause-room : goal.join_all-turned-requires-clause-room
join_all-turned-requires-clause-room c =
    let one = ap length c.settle.ensures.items in
    let two = length-map c.settle.new.items.items placed_of in
    let three = length-map (placed c.args.items.items) (shifted 0 c.args.to) in
    let four = length-map c.args.items.items placed_of in
    let five = ap (λ (v : CarriedView). length v.items) c.self.view_is in
    let six = length-map c.self.inside.items.items placed_of in
    let room = c.requires.room in
    let kept = c.settle.ensures.capacity in
    omega arith

pub invariant_of-self : goal.invariant_of-self
invariant_of-self c = (c.turn_back.ensures.ordered, c.turn_back.ensures.held, c.has_failed-self-inside.ensures)

pub returns : goal.returns
returns c =
    c.turn_back.ensures.same
    ∙ c.join_all-turned.ensures.items
    ∙ (λ i. weave placed_key ((ap (λ (v : CarriedView). v.items) c.self.view_is) i) (c.settle.ensures.items i))
