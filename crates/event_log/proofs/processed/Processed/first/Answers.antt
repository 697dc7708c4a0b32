-- The lesser of the first of both parts.
use Rattle.std.proofs.Common.{◌≡◌, true, Some, List, [], map, sym, ap, ◌∙◌, subst, arith}
use Rattle.std.proofs.lemmas.List.{nil_from_length}
use Rattle.std.specs.List.{AllByRecursion as Each}
use Rattle.std.specs.Prelude.{slice_get}
use Rattle.event_key.specs.Keys.{key_lt}
use Rattle.object_log.specs.Carrying.{Placed, placed_key}
use Rattle.object_log.proofs.UndoLemmas.{get-map}
use Rattle.object_log.proofs.WeaveLemmas.{weave-below}
use Rattle.event_log.specs.Processing.{ProcessedView, placed_all}
use Rattle.event_log.proofs.FirstFacts.{after-first, first-carried, first-news, none-more, some-more}
use Rattle.event_log.proofs.ProcessedFacts.{merged-none}
use Rattle.event_log.proofs.processed.Processed.first.Goals as goal

pub returns-then-len-eq0-clause-some : goal.returns-then-len-eq0-clause-some
returns-then-len-eq0-clause-some c =
    let n = c.self.inside in
    let none = nil_from_length n.news.done (omega (arith, c.len.ensures, c.if-len-eq0.true)) in
    let same = sym (merged-none n.news.done n.places.items n.carried.items none) ∙ ap (λ (v : ProcessedView). v.items) c.self.view_is in
    some-more c.first-carried.result (λ key. (p : Placed) × (slice_get n.carried.items 0 ≡ Some p) × (key ≡ placed_key p)) (λ key. slice_get (map placed_key c.args.self.now.items) 0 ≡ Some key)
    (λ key at. ap (λ (items : List Placed). slice_get (map placed_key items) 0) (sym same) ∙ get-map placed_key n.carried.items 0 at.0 at.1 ∙ ap Some (sym at.2))
    c.first-carried.ensures.some

pub returns-then-len-eq0-clause-none : goal.returns-then-len-eq0-clause-none
returns-then-len-eq0-clause-none c =
    let n = c.self.inside in
    let none = nil_from_length n.news.done (omega (arith, c.len.ensures, c.if-len-eq0.true)) in
    let same = sym (merged-none n.news.done n.places.items n.carried.items none) ∙ ap (λ (v : ProcessedView). v.items) c.self.view_is in
    none-more c.first-carried.result (n.carried.items ≡ []) (c.args.self.now.items ≡ []) (λ empty. sym same ∙ empty) c.first-carried.ensures.none

pub key_at-news-requires : goal.key_at-news-requires
key_at-news-requires c = omega (arith, c.len.ensures, c.if-len-eq0.false)

pub returns-in_default-clause-some : goal.returns-in_default-clause-some
returns-in_default-clause-some c =
    let n = c.self.inside in
    let A : List Placed → Type 0 = Each (λ (p : Placed). key_lt c.key_at-news.result (placed_key p) ≡ true) in
    ap (λ (v : ProcessedView). slice_get (map placed_key v.items) 0) (sym c.self.view_is)
    ∙ first-news n.news.done n.places.items n.carried.items c.key_at-news.result c.self.invariant.long c.tells.ensures.ordered c.key_at-news.ensures (subst A (sym c.in_default.ensures.none) tt)

pub returns-then-is_before-clause-some : goal.returns-then-is_before-clause-some
returns-then-is_before-clause-some c =
    let n = c.self.inside in
    let at = c.in-Some.ensures.some in
    let found = get-map placed_key n.carried.items 0 at.0 at.1 ∙ ap Some (sym at.2) in
    let low = weave-below placed_key (placed_all n.news.done n.places.items) n.carried.items c.self.invariant.ordered in
    ap (λ (v : ProcessedView). slice_get (map placed_key v.items) 0) (sym c.self.view_is)
    ∙ first-news n.news.done n.places.items n.carried.items c.key_at-news.result c.self.invariant.long c.tells.ensures.ordered c.key_at-news.ensures
    (after-first c.key_at-news.result c.in-Some.key n.carried.items low found (sym c.is_before.ensures ∙ c.if-is_before.true))

pub returns-clause-some : goal.returns-clause-some
returns-clause-some c =
    let n = c.self.inside in
    let at = c.in-Some.ensures.some in
    let found = get-map placed_key n.carried.items 0 at.0 at.1 ∙ ap Some (sym at.2) in
    ap (λ (v : ProcessedView). slice_get (map placed_key v.items) 0) (sym c.self.view_is)
    ∙ first-carried n.news.done n.places.items n.carried.items c.key_at-news.result c.in-Some.key c.self.invariant.long c.tells.ensures.ordered c.self.invariant.ordered c.key_at-news.ensures found (sym c.is_before.ensures ∙ c.if-is_before.false)
