-- The event comes before those that come after it, and behind the others.
use Rattle.std.proofs.Common.{◌≡◌, true, length, drop, sym, ap, ◌∙◌, subst, arith}
use Rattle.std.specs.List.{AllByRecursion as Each}
use Rattle.event_key.specs.declared.key.Key.{Key}
use Rattle.event_key.specs.Keys.{key_lt}
use Rattle.key_order.specs.Keys.{times}
use Rattle.object_log.specs.Carrying.{Placed, placed_key}
use Rattle.object_log.specs.Weave.{insert}
use Rattle.event_log.specs.Items.{Item, item_key, placed}
use Rattle.event_log.specs.Turning.{AreAfter, turned_back}
use Rattle.event_log.proofs.TurnLemmas.{joined-after, joined-items, joined-turned}
use Rattle.event_log.proofs.turning.join.Goals as goal
use Rattle.event_log.proofs.turning.join.Goals.{After-put_first}

pub turn_past-turned-requires-clause-after : goal.turn_past-turned-requires-clause-after
turn_past-turned-requires-clause-after c =
    let A : Key → Type 0 = λ k. AreAfter k c.args.front c.args.items.now.items in
    subst A (sym c.key-key.ensures) c.requires.after

pub turn_past-turned-requires-clause-new : goal.turn_past-turned-requires-clause-new
turn_past-turned-requires-clause-new c = ap (λ (k : Key). times placed_key k (placed (turned_back c.args.front c.args.items.now.items))) c.key-key.ensures ∙ c.requires.new

pub put_first-requires-clause-within : goal.put_first-requires-clause-within
put_first-requires-clause-within c = c.turn_past-turned.ensures.turned.within

pub overflow_add-result : goal.overflow_add-result
overflow_add-result c =
    let within = c.turn_past-turned.ensures.turned.within in
    let more = ap length c.put_first.ensures.items.1 in
    let few = c.put_first.ensures.few in
    omega arith

-- the others come before it, and those in front after it
abbrev joins : After-put_first → Placed
joins c = record { done = c.args.done; place = c.args.place }

others : (c : After-put_first) → Each (λ (i : Item). key_lt (item_key i) c.args.done.event.key ≡ true) (drop c.turn_past-turned.result c.turn_past-turned.new.items.items)
others c =
    let O : Key → Type 0 = λ k. Each (λ (i : Item). key_lt (item_key i) k ≡ true) (drop c.turn_past-turned.result c.turn_past-turned.new.items.items) in
    subst O c.key-key.ensures c.turn_past-turned.ensures.others

after : (c : After-put_first) → AreAfter c.args.done.event.key c.turn_past-turned.result c.turn_past-turned.new.items.items
after c =
    let A : Key → Type 0 = λ k. AreAfter k c.turn_past-turned.result c.turn_past-turned.new.items.items in
    subst A c.key-key.ensures c.turn_past-turned.ensures.after

pub returns-clause-turned : goal.returns-clause-turned
returns-clause-turned c =
    let at = (goal.at.returns-clause-turned c).After-put_first in
    let t = c.turn_past-turned.ensures in
    let put = c.put_first.ensures.items in
    joined-turned c.turn_past-turned.result c.turn_past-turned.new.items.items c.put_first.new.items.items put.0 (joins at) put.1 put.2 (others at) (after at) t.turned put.3
    (ap (times placed_key c.args.done.event.key) t.same ∙ c.requires.new)

pub returns-clause-items : goal.returns-clause-items
returns-clause-items c =
    let at = (goal.at.returns-clause-items c).After-put_first in
    let put = c.put_first.ensures.items in
    joined-items c.turn_past-turned.result c.turn_past-turned.new.items.items c.put_first.new.items.items put.0 (joins at) put.1 put.2 (others at) (after at)
    ∙ ap (insert placed_key (joins at)) c.turn_past-turned.ensures.same

pub returns-clause-after : goal.returns-clause-after
returns-clause-after c =
    let at = (goal.at.returns-clause-after c).After-put_first in
    let put = c.put_first.ensures.items in
    joined-after c.turn_past-turned.result c.turn_past-turned.new.items.items c.put_first.new.items.items put.0 (joins at) put.1 put.2 (others at) (after at)

pub returns-clause-long : goal.returns-clause-long
returns-clause-long c =
    let more = ap length c.put_first.ensures.items.1 in
    let long = c.turn_past-turned.ensures.long in
    omega arith
