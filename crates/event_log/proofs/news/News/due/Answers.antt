-- Those from a place on aren't due, and the one before it is.
use Rattle.std.proofs.Common.{◌≡◌, ℕ, suc, ◌-◌, ◌<◌, ◌≤◌, true, false, take, drop, sym, ap, ◌∙◌, subst, arith}
use Rattle.std.specs.List.{AllByRecursion as Each}
use Rattle.key_order.specs.Due.{is_due}
use Rattle.object_log.specs.Parts.{due_of, left_of}
use Rattle.event_log.proofs.DueFacts.{Due, NotDue, all-due, due-cut, none-past, one-more, with-key}
use Rattle.event_log.proofs.news.News.due.Goals as goal
use Rattle.event_log.proofs.news.News.due.Goals.{Then-is_due_at}

at-most : (a b : ℕ) → a ≡ b → a ≤ b
at-most a b same = omega arith

one-before : (n : ℕ) → 0 < n → n ≡ suc (n - 1)
one-before n some = omega arith

fewer : (n k : ℕ) → n ≤ k → n - 1 ≤ k
fewer n k most = omega arith

none-left : (n : ℕ) → n ≤ 0 → n ≡ 0
none-left n none = omega arith

pub loop-due-init : goal.loop-due-init
loop-due-init c = record {
  within = at-most _ _ c.len-due.ensures;
  rest = none-past c.args.horizon c.args.cut.now c.args.self.now.done c.len-due.result (sym c.len-due.ensures);
}

pub loop-due-preserved : goal.loop-due-preserved
loop-due-preserved c =
    let ds = c.args.self.now.done in
    let at = c.loop-due.due - 1 in
    let x = with-key ds at c.key_at.result c.key_at.ensures in
    let idle : is_due c.args.horizon c.args.cut.now x.0.event.key ≡ false = ap (is_due c.args.horizon c.args.cut.now) x.2 ∙ sym c.is_due_at.ensures ∙ c.if-is_due_at.false in
    let D : ℕ → Type 0 = λ k. Each (NotDue c.args.horizon c.args.cut.now) (drop k ds) in
    let next = one-before c.loop-due.due c.loop-due-test.true in
    record {
      within = fewer _ _ c.loop-due.invariant.within;
      rest = one-more c.args.horizon c.args.cut.now ds at x.0 x.1 idle (subst D next c.loop-due.invariant.rest);
    }

-- what is due goes so far
abbrev IsCut : (c : Then-is_due_at) → Type 0
IsCut c =
    let ds = c.args.self.now.done in
    let due = c.loop-due.due in
    (take due ds ≡ due_of c.args.horizon c.args.cut.now ds) × (drop due ds ≡ left_of c.args.horizon c.args.cut.now ds)

cut : (c : Then-is_due_at) → IsCut c
cut c =
    let h = c.args.horizon in
    let cut = c.args.cut.now in
    let ds = c.args.self.now.done in
    let at = c.loop-due.due - 1 in
    let x = with-key ds at c.key_at.result c.key_at.ensures in
    let due : is_due h cut x.0.event.key ≡ true = ap (is_due h cut) x.2 ∙ sym c.is_due_at.ensures ∙ c.if-is_due_at.true in
    let D : ℕ → Type 0 = λ k. Each (Due h cut) (take k ds) in
    let next = sym (one-before c.loop-due.due c.loop-due-test.true) in
    due-cut h cut ds c.loop-due.due (subst D next (all-due h cut ds at x.0 c.tells.ensures.ordered x.1 due)) c.loop-due.invariant.rest

pub returns-then-is_due_at-clause-taken : goal.returns-then-is_due_at-clause-taken
returns-then-is_due_at-clause-taken c = (cut (goal.at.returns-then-is_due_at-clause-taken c).Then-is_due_at).0

pub returns-then-is_due_at-clause-left : goal.returns-then-is_due_at-clause-left
returns-then-is_due_at-clause-left c = (cut (goal.at.returns-then-is_due_at-clause-left c).Then-is_due_at).1

pub returns-clause-taken : goal.returns-clause-taken
returns-clause-taken c =
    let D : ℕ → Type 0 = λ k. Each (NotDue c.args.horizon c.args.cut.now) (drop k c.args.self.now.done) in
    let none = none-left c.loop-due.due c.loop-due-test.false in
    (due-cut c.args.horizon c.args.cut.now c.args.self.now.done 0 tt (subst D none c.loop-due.invariant.rest)).0

pub returns-clause-left : goal.returns-clause-left
returns-clause-left c =
    let D : ℕ → Type 0 = λ k. Each (NotDue c.args.horizon c.args.cut.now) (drop k c.args.self.now.done) in
    let none = none-left c.loop-due.due c.loop-due-test.false in
    (due-cut c.args.horizon c.args.cut.now c.args.self.now.done 0 tt (subst D none c.loop-due.invariant.rest)).1
