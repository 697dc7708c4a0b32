-- The last item has the last event.
use Rattle.std.proofs.Common.{◌≡◌, ℕ, ◌-◌, ◌<◌, ◌≤◌, Some, true, false, length, ap, subst, arith}
use Rattle.std.proofs.lemmas.Bool.Decides.{nat_tests}
use Rattle.std.proofs.lemmas.List.{length-map}
use Rattle.std.specs.List.{AllByRecursion as Each}
use Rattle.std.specs.Prelude.{nat_lt, slice_get}
use Rattle.event_key.specs.declared.key.Key.{Key}
use Rattle.key_order.proofs.AscendingLemmas.{Ascends-map}
use Rattle.object_log.specs.Carrying.{Placed}
use Rattle.object_log.specs.Dones.{Done}
use Rattle.object_log.specs.EventLogs.{EventLogView, done_key}
use Rattle.object_log.specs.Undoings.{LastIsFrom}
use Rattle.object_log.specs.Whole.{dones_in}
use Rattle.object_log.proofs.UndoLemmas.{get-map}
use Rattle.object_log.proofs.UndoneLemmas.{below-last, none-below}
use Rattle.event_log.specs.NodeLogs.{NodeLogView}
use Rattle.event_log.proofs.log.NodeLog.last_is_from.Goals as goal
use Rattle.event_log.proofs.log.NodeLog.last_is_from.Goals.{After-at-place}

-- the last event is read off
last : (c : After-at-place) → slice_get (dones_in c.self.inside.events.items) (c.len-len.result - 1) ≡ Some c.at-place.ensures.0.done
last c =
    let at = c.at-place.ensures in
    get-map (λ (p : Placed). p.done) c.self.inside.events.items (c.len-len.result - 1) at.0 at.1

counted : (c : After-at-place) → c.len-len.result ≡ length (dones_in c.self.inside.events.items)
counted c =
    let long = length-map c.self.inside.events.items (λ (p : Placed). p.done) in
    omega (arith, c.len-len.ensures)

pub returns-clause-some : goal.returns-clause-some
returns-clause-some c = λ yes.
    let ds = dones_in c.self.inside.events.items in
    let h = c.args.horizon in
    let path = (goal.at.returns-clause-some c).After-at-place in
    let at = c.at-place.ensures in
    let stamp = ap (λ (k : Key). k.stamp) at.2 in
    let le : h ≤ c.at-place.result.0.stamp = grind (arith, nat_tests) in
    let from : nat_lt at.0.done.event.key.stamp h ≡ false = grind (arith, nat_tests) in
    let P : ℕ → Type 0 = λ n. slice_get ds (n - 1) ≡ Some at.0.done in
    let some = c.if-len-eq0.false in
    let V : EventLogView → Type 0 = λ v. LastIsFrom h v.done in
    subst V (ap (λ (v : NodeLogView). v.log) c.self.view_is)
    (record { last = at.0.done; some = omega (arith, counted path); found = subst P (counted path) (last path); from = from })

pub returns-clause-none : goal.returns-clause-none
returns-clause-none c = λ no.
    let items = c.self.inside.events.items in
    let h = c.args.horizon in
    let path = (goal.at.returns-clause-none c).After-at-place in
    let at = c.at-place.ensures in
    let stamp = ap (λ (k : Key). k.stamp) at.2 in
    let lt : c.at-place.result.0.stamp < h = grind (arith, nat_tests) in
    let low : nat_lt at.0.done.event.key.stamp h ≡ true = grind (arith, nat_tests) in
    let some = c.if-len-eq0.false in
    let V : EventLogView → Type 0 = λ v. Each (λ (d : Done). nat_lt d.event.key.stamp h ≡ true) v.done in
    let up = Ascends-map done_key (λ (p : Placed). p.done) items c.self.invariant.0.ordered in
    subst V (ap (λ (v : NodeLogView). v.log) c.self.view_is)
    (below-last h (dones_in items) (c.len-len.result - 1) at.0.done up (omega (arith, counted path)) (last path) low)

pub returns-then-len-eq0-clause-none : goal.returns-then-len-eq0-clause-none
returns-then-len-eq0-clause-none c = λ no.
    let long = length-map c.self.inside.events.items (λ (p : Placed). p.done) in
    let counted = c.len-len.ensures in
    let none = c.if-len-eq0.true in
    let same = ap (λ (v : EventLogView). length v.done) (ap (λ (v : NodeLogView). v.log) c.self.view_is) in
    none-below c.args.horizon c.args.self.now.log.done (omega arith)
