-- The next one is due, or none from there on is.
use Rattle.std.proofs.Common.{◌≡◌, ℕ, true, false, take, drop, add-one, sym, ap, ◌∙◌, subst, arith}
use Rattle.std.proofs.lemmas.List.{length-map}
use Rattle.std.specs.List.{AllByRecursion as Each}
use Rattle.key_order.specs.Due.{is_due}
use Rattle.key_order.proofs.AscendingLemmas.{Ascends-map}
use Rattle.object_log.specs.Carrying.{Placed}
use Rattle.object_log.specs.EventLogs.{done_key}
use Rattle.object_log.specs.Parts.{due_of, left_of}
use Rattle.object_log.specs.Whole.{dones_in}
use Rattle.object_log.proofs.UndoLemmas.{get-map}
use Rattle.event_log.proofs.DueFacts.{Due, all-due, due-cut, none-from, none-past}
use Rattle.event_log.proofs.committing.due_in.Goals as goal
use Rattle.event_log.proofs.committing.due_in.Goals.{After-loop-place, Then-not-is_due_at}

pub loop-place-preserved : goal.loop-place-preserved
loop-place-preserved c =
    let h = c.args.horizon in
    let cut = c.args.cut.now in
    let items = c.args.carried.now.items in
    let ds = dones_in items in
    let i = c.loop-place.place in
    let at = c.at-place.ensures in
    let due : is_due h cut at.0.done.event.key ≡ true = ap (is_due h cut) (sym at.2) ∙ sym c.is_due_at.ensures ∙ c.if-not-is_due_at.false in
    let D : ℕ → Type 0 = λ n. Each (Due h cut) (take n ds) in
    subst D (sym (add-one i)) (all-due h cut ds i at.0.done (Ascends-map done_key (λ (p : Placed). p.done) items c.tells.ensures) (get-map (λ (p : Placed). p.done) items i at.0 at.1) due)

-- from the first that isn't due on none is
abbrev IsCut : Then-not-is_due_at → Type 0
IsCut c =
    let ds = dones_in c.args.carried.now.items in
    let i = c.loop-place.place in
    (take i ds ≡ due_of c.args.horizon c.args.cut.now ds) × (drop i ds ≡ left_of c.args.horizon c.args.cut.now ds)

cut : (c : Then-not-is_due_at) → IsCut c
cut c =
    let h = c.args.horizon in
    let cut = c.args.cut.now in
    let items = c.args.carried.now.items in
    let i = c.loop-place.place in
    let at = c.at-place.ensures in
    let idle : is_due h cut at.0.done.event.key ≡ false = ap (is_due h cut) (sym at.2) ∙ sym c.is_due_at.ensures ∙ c.if-not-is_due_at.true in
    let up = Ascends-map done_key (λ (p : Placed). p.done) items c.tells.ensures in
    due-cut h cut (dones_in items) i c.loop-place.invariant (none-from h cut (dones_in items) i at.0.done up (get-map (λ (p : Placed). p.done) items i at.0 at.1) idle)

pub returns-then-not-is_due_at-clause-taken : goal.returns-then-not-is_due_at-clause-taken
returns-then-not-is_due_at-clause-taken c = (cut (goal.at.returns-then-not-is_due_at-clause-taken c).Then-not-is_due_at).0

pub returns-then-not-is_due_at-clause-left : goal.returns-then-not-is_due_at-clause-left
returns-then-not-is_due_at-clause-left c = (cut (goal.at.returns-then-not-is_due_at-clause-left c).Then-not-is_due_at).1

-- all are due
abbrev IsEnd : After-loop-place → Type 0
IsEnd c =
    let ds = dones_in c.args.carried.now.items in
    (take c.len-len.result ds ≡ due_of c.args.horizon c.args.cut.now ds) × (drop c.len-len.result ds ≡ left_of c.args.horizon c.args.cut.now ds)

end : (c : After-loop-place) → c.loop-place.place ≡ c.len-len.result → IsEnd c
end c at =
    let h = c.args.horizon in
    let cut = c.args.cut.now in
    let items = c.args.carried.now.items in
    let long = length-map items (λ (p : Placed). p.done) in
    let D : ℕ → Type 0 = λ n. Each (Due h cut) (take n (dones_in items)) in
    due-cut h cut (dones_in items) c.len-len.result (subst D at c.loop-place.invariant) (none-past h cut (dones_in items) c.len-len.result (omega (arith, c.len-len.ensures)))

pub returns-clause-taken : goal.returns-clause-taken
returns-clause-taken c = (end (goal.at.returns-clause-taken c).After-loop-place (omega arith)).0

pub returns-clause-left : goal.returns-clause-left
returns-clause-left c = (end (goal.at.returns-clause-left c).After-loop-place (omega arith)).1
