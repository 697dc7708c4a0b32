-- The next of both lists, by their keys.
use Rattle.std.proofs.Common.{Some, sym, ap, ◌∙◌, subst, arith}
use Rattle.object_log.specs.Carrying.{placed_key}
use Rattle.object_log.proofs.UndoLemmas.{get-map}
use Rattle.event_log.specs.declared.reading.Reading.{Reading}
use Rattle.event_log.specs.Reading.{NextKey}
use Rattle.event_log.proofs.ReadingFacts.{next-carried, next-news, next-none, next-only-carried, next-only-news}
use Rattle.event_log.proofs.reading.next_key.Goals as goal

pub returns-then-read-len-2-clause-none : goal.returns-then-read-len-2-clause-none
returns-then-read-len-2-clause-none c =
    next-none c.args.read c.args.carried.now.items c.args.news.now.done c.tells-2.ensures.ordered c.tells.ensures c.requires
    (omega (arith, c.len.ensures, c.if-read-len.true)) (omega (arith, c.len-then-read-len.ensures, c.if-read-len-2.true))

pub returns-then-read-len-clause-some : goal.returns-then-read-len-clause-some
returns-then-read-len-clause-some c =
    let cs = c.args.carried.now.items in
    let ns = c.args.news.now.done in
    let N : Reading → Type 0 = λ r. NextKey c.args.read cs ns c.key_at.result r in
    subst N (sym c.with_news.ensures) (next-only-news c.args.read cs ns c.tells-2.ensures.ordered c.tells.ensures c.requires c.key_at.result c.key_at.ensures (omega (arith, c.len.ensures, c.if-read-len.true)))

pub returns-then-read-len-3-clause-some : goal.returns-then-read-len-3-clause-some
returns-then-read-len-3-clause-some c =
    let cs = c.args.carried.now.items in
    let ns = c.args.news.now.done in
    let at = c.at-place.ensures in
    let found = get-map placed_key cs c.args.read.carried at.0 at.1 ∙ ap Some (sym at.2) in
    let N : Reading → Type 0 = λ r. NextKey c.args.read cs ns c.at-place.result.0 r in
    subst N (sym c.with_carried.ensures) (next-only-carried c.args.read cs ns c.tells-2.ensures.ordered c.tells.ensures c.requires c.at-place.result.0 found (omega (arith, c.len-2.ensures, c.if-read-len-3.true)))

pub returns-then-is_before-clause-some : goal.returns-then-is_before-clause-some
returns-then-is_before-clause-some c =
    let cs = c.args.carried.now.items in
    let ns = c.args.news.now.done in
    let at = c.at-place.ensures in
    let found = get-map placed_key cs c.args.read.carried at.0 at.1 ∙ ap Some (sym at.2) in
    let N : Reading → Type 0 = λ r. NextKey c.args.read cs ns c.key_at-fresh.result r in
    subst N (sym c.with_news-then-is_before.ensures) (next-news c.args.read cs ns c.tells-2.ensures.ordered c.tells.ensures c.requires c.key_at-fresh.result c.at-place.result.0 c.key_at-fresh.ensures found (sym c.is_before.ensures ∙ c.if-is_before.true))

pub returns-clause-some : goal.returns-clause-some
returns-clause-some c =
    let cs = c.args.carried.now.items in
    let ns = c.args.news.now.done in
    let at = c.at-place.ensures in
    let found = get-map placed_key cs c.args.read.carried at.0 at.1 ∙ ap Some (sym at.2) in
    let N : Reading → Type 0 = λ r. NextKey c.args.read cs ns c.at-place.result.0 r in
    subst N (sym c.with_carried-2.ensures) (next-carried c.args.read cs ns c.tells-2.ensures.ordered c.tells.ensures c.requires c.key_at-fresh.result c.at-place.result.0 c.key_at-fresh.ensures found (sym c.is_before.ensures ∙ c.if-is_before.false))
