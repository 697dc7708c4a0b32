-- The last event has the last part of each list.
use Rattle.std.proofs.Common.{◌≡◌, ◌≤◌, ◌+◌, ◌-◌, List, [], ◌∷◌, ◌++◌, length, drop, None, sym, ap, ◌∙◌, subst, arith}
use Rattle.std.proofs.lemmas.Slice.{between_to_end}
use Rattle.std.specs.List.{AllByRecursion as Each}
use Rattle.delta_exchange.specs.declared.change.Change.{Change}
use Rattle.key_order.proofs.EachLemmas.{Each-back}
use Rattle.object_log.specs.Dones.{Done}
use Rattle.object_log.specs.Flat.{changes_of, none_in, zeros}
use Rattle.object_log.specs.Tellings.{told_of}
use Rattle.object_log.proofs.CellLemmas.{zeros-push}
use Rattle.event_log.specs.Keeping.{done_in}
use Rattle.event_log.specs.declared.row.Row.{Row}
use Rattle.event_log.specs.News.{HoldsNews, IsNews, NewsView, news_view}
use Rattle.event_log.specs.Popping.{HasPopped}
use Rattle.event_log.proofs.NewsFacts.{gone-seen, rows-seen, seen, view-is}
use Rattle.event_log.proofs.PopFacts.{IsEnd, ends-news, event-own, holds-front, rows-left, sends-enough, sends-own, told-there, undo-enough, undo-left, verdict-is}
use Rattle.event_log.proofs.news.News.pop.Goals as goal
use Rattle.event_log.proofs.news.News.pop.Goals.{After-index-row, After-len-last, After-truncate-2}

-- there is a row for each event
long : (c : After-len-last) → length c.self.inside.rows.items ≡ length c.args.self.now.done
long c = rows-seen c.self.invariant.2 c.args.self.now c.self.inside.outbox.nodes c.self.view_is

some-row : (c : After-index-row) → length c.self.inside.rows.items ≡ c.len-last.result - 1 + 1
some-row c =
    let all = rows-seen c.self.invariant.2 c.args.self.now c.self.inside.outbox.nodes c.self.view_is in
    omega (arith, c.len-last.ensures, c.self.inside.rows.ok.0, c.requires.some)

-- the last event has the last row
abbrev IsLast : After-index-row → Type 0
IsLast c =
    IsEnd c.self.invariant.0 c.self.invariant.1 c.self.inside.told.items c.self.inside.rows.items c.self.inside.undo.items
    c.self.inside.outbox.sent c.self.inside.fault c.index-row.result.now

last : (c : After-index-row) → IsLast c
last c = ends-news (c.len-last.result - 1) c.index-row.result.now c.self.invariant.2 (some-row c) c.index-row.ensures

pub overflow_sub-last : goal.overflow_sub-last
overflow_sub-last c = omega (arith, long (goal.at.overflow_sub-last c).After-len-last, c.len-last.ensures, c.self.inside.rows.ok.0, c.requires.some)

pub index-row-requires : goal.index-row-requires
index-row-requires c =
    omega (arith, long (goal.at.index-row-requires c).After-len-last, c.len-last.ensures, c.self.inside.rows.ok.0, c.requires.some)

pub overflow_sub-from : goal.overflow_sub-from
overflow_sub-from c =
    let enough = undo-enough c.self.invariant.2 (last (goal.at.overflow_sub-from c).After-index-row) in
    omega (arith, c.len.ensures, c.self.inside.undo.ok.0)

pub verdict_at-verdict-requires : goal.verdict_at-verdict-requires
verdict_at-verdict-requires c =
    let at = (goal.at.verdict_at-verdict-requires c).After-index-row in
    told-there c.self.invariant.2 (last at) (c.len-last.result - 1) (some-row at)

pub take_sends-taken-requires : goal.take_sends-taken-requires
take_sends-taken-requires c =
    let enough = sends-enough c.self.invariant.2 (last (goal.at.take_sends-taken-requires c).After-index-row) in
    omega arith

pub fill-requires-clause-changes : goal.fill-requires-clause-changes
fill-requires-clause-changes c =
    let n = c.self.inside in
    let h = c.self.invariant in
    let e = last (goal.at.fill-requires-clause-changes c).After-index-row in
    let same = seen h.2 c.args.self.now n.outbox.nodes c.self.view_is in
    let F : Done → Type 0 = λ x. length x.undo ≤ 16 in
    let few : length e.d.undo ≤ 16 = (Each-back F e.front (e.d ∷ []) (subst (Each F) (sym same ∙ e.is) c.requires.few)).0 in
    let enough = undo-enough h.2 e in
    let from = c.len.result - c.index-row.result.now.changes in
    let from_is : from + c.index-row.result.now.changes ≡ length n.undo.items = omega (arith, c.len.ensures, n.undo.ok.0) in
    let part = ap (drop from) c.deref.ensures.value ∙ (undo-left h.2 e from from_is).1 in
    let P : List Change → Type 0 = λ us. length us ≤ 16 in
    subst P (sym (between_to_end c.deref.result.now from _ (omega arith) ∙ part)) few

pub fill-requires-clause-cells : goal.fill-requires-clause-cells
fill-requires-clause-cells c =
    let h = c.self.invariant in
    let e = last (goal.at.fill-requires-clause-cells c).After-index-row in
    let t = c.take_sends-taken.ensures.taken in
    let all = ap zeros (sym (seen h.2 c.args.self.now c.self.inside.outbox.nodes c.self.view_is) ∙ e.is) in
    let one = zeros-push e.front e.d in
    let own = ap none_in (t.taken_are ∙ (holds-front h.2 e c.take_sends-taken.new.outbox.sent t.own t.split t.long).1) in
    let enough = c.requires.cells in
    omega arith

-- what is left, and what was taken out
abbrev newer : After-truncate-2 → NewsView
newer c =
    let outbox = c.take_sends-taken.new.outbox in
    news_view c.truncate.new.self.items c.self.inside.told.items c.truncate-2.new.self.items outbox.sent None outbox.nodes

abbrev IsPopped : After-truncate-2 → Type 0
IsPopped c =
    IsNews c.truncate.new.self.items c.self.inside.told.items c.truncate-2.new.self.items c.take_sends-taken.new.outbox.sent None
    × HasPopped c.args.self.now (newer c) (done_in c.fill.new.self)

popped : (c : After-truncate-2) → length c.self.inside.rows.items ≡ c.len-last.result - 1 + 1
    → IsEnd c.self.invariant.0 c.self.invariant.1 c.self.inside.told.items c.self.inside.rows.items c.self.inside.undo.items
    c.self.inside.outbox.sent c.self.inside.fault c.index-row.result.now
    → IsPopped c
popped c rows_long e =
    let n = c.self.inside in
    let h = c.self.invariant in
    let same = seen h.2 c.args.self.now n.outbox.nodes c.self.view_is in
    let count = c.len-last.result - 1 in
    let r = c.index-row.result.now in
    let t = c.take_sends-taken.ensures.taken in
    let left = c.take_sends-taken.new.outbox.sent in
    let from = c.len.result - r.changes in
    let enough = undo-enough h.2 e in
    let from_is : from + r.changes ≡ length n.undo.items = omega (arith, c.len.ensures, n.undo.ok.0) in
    let rows_left = c.truncate.ensures.items ∙ rows-left h.2 e count rows_long in
    let parts = undo-left h.2 e from from_is in
    let undo_left = c.truncate-2.ensures.items ∙ parts.0 in
    let f = holds-front h.2 e left t.own t.split t.long in
    let gone = told_of e.d.event.key e.d.verdict ++ h.1 in
    let R : List Row → Type 0 = λ rs. HoldsNews e.front gone n.told.items rs (changes_of e.front) left None in
    let U : List Change → Type 0 = λ us. HoldsNews e.front gone n.told.items c.truncate.new.self.items us left None in
    let holds = subst U (sym undo_left) (subst R (sym rows_left) f.0) in
    let now = view-is holds c.take_sends-taken.new.outbox.nodes in
    let gone_was = gone-seen h.2 c.args.self.now n.outbox.nodes c.self.view_is in
    let part = ap (drop from) c.deref.ensures.value ∙ parts.1 in
    let event_is = event-own h.2 e in
    let v = c.verdict_at-verdict in
    let verdict = verdict-is h.2 e count v.result rows_long v.ensures.failed v.ensures.noted in
    let sends = t.taken_are ∙ f.1 in
    let undo_is = between_to_end c.deref.result.now from _ (omega arith) ∙ part in
    let entry_is : done_in c.fill.new.self ≡ e.d =
    c.fill.ensures.done ∙ (λ i. record { event = event_is i; undo = undo_is i; sends = sends i; verdict = verdict i }) in
    let P : Done → Type 0 = HasPopped c.args.self.now (newer c) in (
      (e.front, gone, holds),
      subst P (sym entry_is) (record {
        done = sym same ∙ e.is ∙ ap (λ (ds : List Done). ds ++ e.d ∷ []) (sym (ap (λ (v : NewsView). v.done) now));
        gone = ap (λ (v : NewsView). v.gone) now ∙ ap (λ ts. told_of e.d.event.key e.d.verdict ++ ts) gone_was;
        messages = record {
          own = t.own;
          split = sym (ap (λ (v : NewsView). v.sent) c.self.view_is) ∙ t.split;
          long = t.long ∙ sends-own h.2 e;
          taken_are = sym f.1;
        };
        nodes = c.take_sends-taken.ensures.nodes ∙ ap (λ (v : NewsView). v.nodes) c.self.view_is;
      }),
    )

pub invariant_of-self : goal.invariant_of-self
invariant_of-self c =
    let at = goal.at.invariant_of-self c in
    (popped at.After-truncate-2 (some-row at.After-index-row) (last at.After-index-row)).0

pub returns-clause-popped : goal.returns-clause-popped
returns-clause-popped c =
    let at = goal.at.returns-clause-popped c in
    (popped at.After-truncate-2 (some-row at.After-index-row) (last at.After-index-row)).1

pub returns-clause-cells : goal.returns-clause-cells
returns-clause-cells c =
    let at = goal.at.returns-clause-cells c in
    let p = (popped at.After-truncate-2 (some-row at.After-index-row) (last at.After-index-row)).1 in
    let all = ap zeros p.done in
    let one = zeros-push (newer at.After-truncate-2).done (done_in c.fill.new.self) in
    let own = ap (λ (d : Done). none_in d.sends) c.fill.ensures.done in
    let enough = c.requires.cells in
    omega (arith, c.fill.ensures.cells)
