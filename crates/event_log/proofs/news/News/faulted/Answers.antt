-- The last row has the key of the event that failed.
use Rattle.std.proofs.Common.{◌≡◌, ◌-◌, ◌<◌, Some, None, List, length, get_or, sym, ap, ◌∙◌, arith}
use Rattle.event_key.specs.declared.stamp.TheConstants.{NO_STAMP}
use Rattle.object_log.specs.Logs.{fault_of}
use Rattle.event_log.specs.News.{code_of}
use Rattle.event_log.proofs.NewsFacts.{seen, view-long}
use Rattle.event_log.proofs.ReadFacts.{code-some, fault-last, fault-none}
use Rattle.event_log.specs.declared.row.Row.{Row}
use Rattle.event_log.proofs.news.News.faulted.Goals as goal
use Rattle.event_log.proofs.news.News.faulted.Goals.{In_ok-code}

pub returns-in_err-code : goal.returns-in_err-code
returns-in_err-code c =
    let h = c.self.invariant in
    let none : c.self.inside.fault ≡ None = cc in
    let same = seen h.2 c.args.self.now c.self.inside.outbox.nodes c.self.view_is in
    c.from_residual.ensures ∙ sym (ap fault_of (sym same) ∙ fault-none h.0 (sym h.2.code_is ∙ none))

-- the code is an event's, and so there is a row
code-is : (c : In_ok-code) → code_of c.self.invariant.0 ≡ Some c.in_ok-code.code
code-is c =
    let some : c.self.inside.fault ≡ Some c.in_ok-code.code = cc in
    sym c.self.invariant.2.code_is ∙ some

some-row : (c : In_ok-code) → 0 < length c.self.inside.rows.items
some-row c =
    let long = view-long c.self.invariant.2 in
    let one = code-some c.self.invariant.0 c.in_ok-code.code (code-is c) in
    omega arith

pub overflow_sub-last : goal.overflow_sub-last
overflow_sub-last c = omega (arith, some-row (goal.at.overflow_sub-last c).In_ok-code, c.len-last.ensures, c.self.inside.rows.ok.0)

pub index-requires : goal.index-requires
index-requires c = omega (arith, some-row (goal.at.index-requires c).In_ok-code, c.len-last.ensures, c.self.inside.rows.ok.0)

pub returns : goal.returns
returns c =
    let n = c.self.inside in
    let h = c.self.invariant in
    let some = (goal.at.returns c).In_ok-code in
    let r = c.index.result.now in
    let at = c.len-last.result - 1 in
    let long = view-long h.2 in
    let row = some-row some in
    let read = c.index.ensures ∙ ap (λ (rs : List Row). get_or rs at r) h.2.rows_are in
    let failed = fault-last NO_STAMP c.in_ok-code.code h.0 at r h.2.last (code-is some) (omega (arith, c.len-last.ensures, n.rows.ok.0)) read in
    sym (ap fault_of (sym (seen h.2 c.args.self.now n.outbox.nodes c.self.view_is)) ∙ failed)
