-- An object comes with its log and its waiting events.
use Rattle.std.proofs.Common.{ℕ, ◌<◌, ◌≤◌, length, sym, ap, ◌∙◌, subst, refl}
use Rattle.std.specs.Arc.{arc_value}
use Rattle.node_core.specs.Homes.{HomesView}
use Rattle.node_core.specs.Moving.{CanCome, HasCome, MovedView}
use Rattle.node_core.specs.Stores.{StoreView}
use Rattle.node_core.proofs.MovingShown.{IsComing, coming, state-away}
use Rattle.node_core.proofs.ShownFacts.{shown-long}
use Rattle.node_core.proofs.StoreLemmas.{store_of}
use Rattle.node_core.proofs.store.Store.take_in.Goals as goal
use Rattle.node_core.proofs.store.Store.take_in.Goals.{After-moved, After-tells-3}

-- what comes, and that it can
abbrev view : After-moved → MovedView
view c = let m = c.moved.inside in record { log = m.log.log; waiting = m.waiting; room = m.log.room; places = m.log.places }

abbrev view-in : After-tells-3 → MovedView
view-in c = let m = c.moved.inside in record { log = m.log.log; waiting = m.waiting; room = m.log.room; places = m.log.places }

can : (c : After-moved) → CanCome (arc_value c.args.homes) (store_of c.self.inside.logs c.self.inside.queue) (view c)
can c =
    let M : MovedView → Type 0 = λ v. CanCome (arc_value c.args.homes) c.args.self.now v in
    let S : StoreView → Type 0 = λ s. CanCome (arc_value c.args.homes) s (view c) in
    subst S (sym c.self.view_is) (subst M (sym c.moved.view_is) c.requires)

within : (c : After-moved) → c.moved.inside.log.log.object < length c.self.inside.logs.homes.homes
within c =
    let W : ℕ → Type 0 = λ n. c.moved.inside.log.log.object < n in
    subst W (shown-long c.self.inside.logs) (can c).inside

pub put-requires-clause-away : goal.put-requires-clause-away
put-requires-clause-away c =
    let at = (goal.at.put-requires-clause-away c).After-moved in
    state-away c.self.inside.logs c.moved.inside.log.log.object (within at) (can at).away

pub put-requires-clause-inside : goal.put-requires-clause-inside
put-requires-clause-inside c = within (goal.at.put-requires-clause-inside c).After-moved

pub put-requires-clause-places : goal.put-requires-clause-places
put-requires-clause-places c =
    let R : ℕ → Type 0 = λ n. n ≤ c.moved.inside.log.places in
    subst R (shown-long c.self.inside.logs) (can (goal.at.put-requires-clause-places c).After-moved).places

-- it is in
come-in : (c : After-tells-3) → CanCome (arc_value c.args.homes) (store_of c.self.inside.logs c.self.inside.queue) (view-in c)
    → c.moved.inside.log.log.object < length c.self.inside.logs.homes.homes
    → IsComing c.put.new.self (store_of c.self.inside.logs c.self.inside.queue) (view-in c)
come-in c can inside =
    let i = c.self.inside in
    let p = c.put.ensures in
    let same = ap (λ (h : HomesView). length h.homes) p.homes ∙ can.objects in
    coming (arc_value c.args.homes) i.logs c.put.new.self (store_of i.logs i.queue) (view-in c) refl refl c.self.invariant can c.tells-3.ensures.sound same inside
    p.slot p.states p.dones p.count

pub invariant_of-self : goal.invariant_of-self
invariant_of-self c =
    let at = goal.at.invariant_of-self c in
    (come-in at.After-tells-3 (can at.After-moved) (within at.After-moved)).store

pub give_back-requires : goal.give_back-requires
give_back-requires c =
    let at = goal.at.give_back-requires c in
    (come-in at.After-tells-3 (can at.After-moved) (within at.After-moved)).in_hand c.put.new.self.homes c.self.inside.queue.spare

pub returns-clause-come : goal.returns-clause-come
returns-clause-come c =
    let at = goal.at.returns-clause-come c in
    let is = come-in at.After-tells-3 (can at.After-moved) (within at.After-moved) in
    let R : StoreView → Type 0 = λ s. HasCome s c.give_back.new.self (view-in at.After-tells-3) in
    let V : MovedView → Type 0 = λ v. HasCome c.args.self.now c.give_back.new.self v in
    subst V c.moved.view_is (subst R c.self.view_is (is.has_come c.put.new.self.homes c.give_back.new.self c.give_back.ensures))
